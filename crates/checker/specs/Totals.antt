-- What lines count: batches and records, and payments with the sum of their amounts, the live ones and the withdrawn ones apart. Assumes nothing.
use Rattle.std.specs.Prelude.{Bool, not, cond, List, [], ◌∷◌, ℕ, ◌+◌, eqb, length, Option}
use Rattle.digits.specs.Digits.{digit_byte, place}
use Rattle.digits.specs.Numbers.{value}
use Rattle.layout.specs.Field.{Field, part}
use Rattle.layout.specs.Records.{shape_of, amount_field, amounts_of}
use Rattle.layout.specs.Table.{movement_field}
use Rattle.layout.specs.declared.Record.{Record}
use Rattle.layout.specs.declared.shapes.Amount.{Amount}
use Rattle.layout.specs.declared.shapes.Shape.{Shape}
use Rattle.layout.specs.declared.shapes.LineType.{LineType}
use Rattle.layout.specs.declared.shapes.LineType.TheVariants.{FileFirst, BatchFirst, Detail, BatchLast, FileLast}
use Rattle.checker.specs.declared.totals.Tally.{Tally}
use Rattle.checker.specs.declared.totals.Payments.{Payments}
use Rattle.checker.specs.declared.totals.Totals.{Totals}

-- payments, and the sum of their amounts
abbrev pub tally : ℕ → ℕ → Tally
tally payments cents = record { payments = payments; cents = record { 0 = cents } }

abbrev pub no_payments : Tally
no_payments = tally 0 0

-- of the live ones, and of the withdrawn ones, each a type of its own
abbrev pub Live : Type 0
Live = Payments 0

abbrev pub Withdrawn : Type 0
Withdrawn = Payments 1

abbrev pub live : Tally → Live
live t = record { 0 = t }

abbrev pub withdrawn : Tally → Withdrawn
withdrawn t = record { 0 = t }

abbrev pub totals : ℕ → ℕ → Live → Withdrawn → Totals
totals b r l w = record { batches = b; records = record { 0 = r }; live = l; withdrawn = w }

-- batches and records, and no payment
abbrev pub bare : ℕ → ℕ → Totals
bare batches records = totals batches records (live no_payments) (withdrawn no_payments)

abbrev pub none : Totals
none = bare 0 0

-- each of them is a sum of its own
abbrev pub add_tally : Tally → Tally → Tally
add_tally a b = tally (a.payments + b.payments) (a.cents.0 + b.cents.0)

abbrev pub add_live : Live → Live → Live
add_live a b = live (add_tally a.0 b.0)

abbrev pub add_withdrawn : Withdrawn → Withdrawn → Withdrawn
add_withdrawn a b = withdrawn (add_tally a.0 b.0)

unfoldable pub add : Totals → Totals → Totals
add a b = totals (a.batches + b.batches) (a.records.0 + b.records.0) (add_live a.live b.live) (add_withdrawn a.withdrawn b.withdrawn)

abbrev pub amount_digits : ℕ
amount_digits = 15

-- what is read of them
abbrev pub batch_count : Totals → ℕ
batch_count t = t.batches

abbrev pub record_count : Totals → ℕ
record_count t = t.records.0

abbrev pub live_payments : Totals → ℕ
live_payments t = t.live.0.payments

abbrev pub live_cents : Totals → ℕ
live_cents t = t.live.0.cents.0

abbrev pub withdrawn_payments : Totals → ℕ
withdrawn_payments t = t.withdrawn.0.payments

abbrev pub withdrawn_cents : Totals → ℕ
withdrawn_cents t = t.withdrawn.0.cents.0

-- live and withdrawn together: what document 01 calls payments and cents
abbrev pub payment_count : Totals → ℕ
payment_count t = live_payments t + withdrawn_payments t

abbrev pub cent_sum : Totals → ℕ
cent_sum t = live_cents t + withdrawn_cents t

-- ---- what a line counts, by its record's row: itself; a batch, if it opens one; a payment with its amount, if it has one, live or withdrawn by its movement

abbrev pub opens : LineType → ℕ
opens FileFirst = 0
opens BatchFirst = 1
opens Detail = 0
opens BatchLast = 0
opens FileLast = 0

abbrev pub cents_in : List Field → List ℕ → ℕ
cents_in [] rec = 0
cents_in (f ∷ fs) rec = value (part f rec)

-- the movement that withdraws a payment
abbrev pub withdrawal : ℕ
withdrawal = 9

abbrev pub withdraws : List ℕ → Bool
withdraws rec = eqb (place movement_field.from rec) (digit_byte withdrawal)

-- all of these, or none
abbrev pub only : Bool → Tally → Tally
only such t = cond such t no_payments

-- a record that has an amount begins a payment, live or withdrawn by its movement
abbrev pub tallied : Bool → List Field → List ℕ → Tally
tallied such [] rec = no_payments
tallied such (f ∷ fs) rec = only such (tally 1 (value (part f rec)))

abbrev pub live_by : Option Amount → List ℕ → Live
live_by a rec = live (tallied (not (withdraws rec)) (amount_field a) rec)

abbrev pub withdrawn_by : Option Amount → List ℕ → Withdrawn
withdrawn_by a rec = withdrawn (tallied (withdraws rec) (amount_field a) rec)

abbrev pub counts_by : Shape → List ℕ → Totals
counts_by x rec = totals (opens x.line) 1 (live_by x.amount rec) (withdrawn_by x.amount rec)

abbrev pub counts : Record → List ℕ → Totals
counts r rec = counts_by (shape_of r) rec

abbrev pub batches_of : Record → ℕ
batches_of r = opens (shape_of r).line

abbrev pub live_of : Record → List ℕ → Live
live_of r rec = live_by (shape_of r).amount rec

abbrev pub withdrawn_of : Record → List ℕ → Withdrawn
withdrawn_of r rec = withdrawn_by (shape_of r).amount rec

-- whatever the movement: the payments and the cents that a record adds (the law `together`)
abbrev pub payments_of : Record → ℕ
payments_of r = length (amounts_of r)

abbrev pub cents_of : Record → List ℕ → ℕ
cents_of r rec = cents_in (amounts_of r) rec
