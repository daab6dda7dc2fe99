-- Sums of totals, and what each line adds to them. Assumes nothing.
use Rattle.std.specs.Prelude.{◌≡◌, refl, Bool, true, false, not, List, ℕ, ◌+◌, length, None, Option, Some}
use Rattle.std.proofs.Common.{arith}
use Rattle.layout.specs.declared.Record.{Record}
use Rattle.layout.specs.declared.shapes.Amount.{Amount}
use Rattle.layout.specs.declared.shapes.Amount.TheVariants.{OfA, OfJ, OfO}
use Rattle.layout.specs.declared.shapes.LineType.{LineType}
use Rattle.layout.specs.declared.shapes.LineType.TheVariants.{FileFirst, BatchFirst, Detail, BatchLast, FileLast}
use Rattle.checker.specs.Totals.{tally, live, withdrawn, totals, none, add, live_payments, live_cents, withdrawn_payments, withdrawn_cents, payment_count, cent_sum, cents_in, withdraws, only, tallied, counts, payments_of, cents_of}
use Rattle.checker.specs.Machine.{next_of_type, next}
use Rattle.digits.specs.Numbers.{value}
use Rattle.layout.specs.Field.{part}
use Rattle.layout.specs.Records.{shape_of, credit_amount, boleto_amount, collection_amount, amount_field}
use Rattle.checker.specs.declared.totals.Tally.{Tally}
use Rattle.checker.specs.declared.totals.Totals.{Totals}
use Rattle.checker.specs.declared.Checker.{Checker}

pub record Same (a b : Totals) : Type 0 where
  pub batches : a.batches ≡ b.batches
  pub records : a.records.0 ≡ b.records.0
  pub live-payments : live_payments a ≡ live_payments b
  pub live-cents : live_cents a ≡ live_cents b
  pub withdrawn-payments : withdrawn_payments a ≡ withdrawn_payments b
  pub withdrawn-cents : withdrawn_cents a ≡ withdrawn_cents b

-- totals are what they count
pub same_totals : {a b : Totals} → Same a b → a ≡ b
same_totals e =
    λ i. totals (e.batches i) (e.records i) (live (tally (e.live-payments i) (e.live-cents i))) (withdrawn (tally (e.withdrawn-payments i) (e.withdrawn-cents i)))

pub add_none : (t : Totals) → add t none ≡ t
unfolding add
add_none t = same_totals (omega arith)

pub none_add : (t : Totals) → add none t ≡ t
unfolding add
none_add t = same_totals (omega arith)

pub add_assoc : (a b c : Totals) → add (add a b) c ≡ add a (add b c)
unfolding add
add_assoc a b c = same_totals (omega arith)

-- ---- a line

-- what is live and what is withdrawn are together all of it
pub both_parts : (w : Bool) (t : Tally) → ((only (not w) t).payments + (only w t).payments ≡ t.payments) × ((only (not w) t).cents.0 + (only w t).cents.0 ≡ t.cents.0)
both_parts true t = omega arith
both_parts false t = omega arith

-- so many payments and cents, live and withdrawn together
pub record InAll (payments cents : ℕ) (t : Totals) : Type 0 where
  pub payments_are : payment_count t ≡ payments
  pub cents_are : cent_sum t ≡ cents

-- of a line they are its payment and its amount, whatever the movement
pub together : (r : Record) (rec : List ℕ) → InAll (payments_of r) (cents_of r rec) (counts r rec)
together r rec = let p = go (shape_of r).amount (withdraws rec) in record { payments_are = p.0; cents_are = p.1 }
  where
    go : (a : Option Amount) (w : Bool) → let fs = amount_field a in
        ((tallied (not w) fs rec).payments + (tallied w fs rec).payments ≡ length fs) × ((tallied (not w) fs rec).cents.0 + (tallied w fs rec).cents.0 ≡ cents_in fs rec)
    go None w = (refl, refl)
    go (Some OfA) w = both_parts w (tally 1 (value (part credit_amount rec)))
    go (Some OfJ) w = both_parts w (tally 1 (value (part boleto_amount rec)))
    go (Some OfO) w = both_parts w (tally 1 (value (part collection_amount rec)))

-- the payment that is begun, whatever its movement; and it, or none
pub all_tallied : (a : Option Amount) (rec : List ℕ) → tallied true (amount_field a) rec ≡ tally (length (amount_field a)) (cents_in (amount_field a) rec)
all_tallied None rec = refl
all_tallied (Some OfA) rec = refl
all_tallied (Some OfJ) rec = refl
all_tallied (Some OfO) rec = refl

pub only_tallied : (such : Bool) (a : Option Amount) (rec : List ℕ) → only such (tallied true (amount_field a) rec) ≡ tallied such (amount_field a) rec
only_tallied true None rec = refl
only_tallied false None rec = refl
only_tallied such (Some OfA) rec = refl
only_tallied such (Some OfJ) rec = refl
only_tallied such (Some OfO) rec = refl

-- what a state counts in all
abbrev pub counted : Checker → Totals
counted s = add s.closed s.current

pub next_counts : (r : Record) (s : Checker) (rec : List ℕ) → counted (next r s rec) ≡ add (counted s) (counts r rec)
unfolding add
next_counts r s rec = go (shape_of r).line
  where
    go : (t : LineType) → counted (next_of_type t (shape_of r) s rec) ≡ add (counted s) (counts r rec)
    go FileFirst = same_totals (omega arith)
    go BatchFirst = same_totals (omega arith)
    go Detail = same_totals (omega arith)
    go BatchLast = same_totals (omega arith)
    go FileLast = same_totals (omega arith)
