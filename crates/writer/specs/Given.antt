-- What the writer's calls are given. Assumes nothing.
use Rattle.std.specs.Prelude.{Bool, not, List, [], ◌∷◌, ℕ, eqb}
use Rattle.layout.specs.Field.{Field}
use Rattle.layout.specs.Records.{amounts_of}
use Rattle.layout.specs.Table.{movement_field}
use Rattle.layout.specs.Names.{index_of}
use Rattle.layout.specs.declared.Record.{Record}
use Rattle.layout.specs.declared.Record.TheVariants.{FileHeader, BatchHeader, BatchTrailer, FileTrailer, SegmentO}
use Rattle.fields.specs.Values.{taken_as, nth, or_zero}
use Rattle.fields.specs.declared.Fields.{Fields}
use Rattle.checker.specs.Totals.{tally, live, withdrawn, totals, withdrawal, only}
use Rattle.checker.specs.declared.totals.Totals.{Totals}
use Rattle.writer.specs.declared.given.Given.{Given}
use Rattle.writer.specs.declared.given.Given.TheVariants.{One, Two, Three}
use Rattle.writer.specs.declared.given.Payment.{Payment}

-- one record, an O; two records; or three
abbrev pub one : Fields → Payment
one a = record { given = One a }

abbrev pub two : Fields → Fields → Payment
two a b = record { given = Two a b }

abbrev pub three : Fields → Fields → Fields → Payment
three a b c = record { given = Three a b c }

-- the first; alone it is an O, and fields of another record are taken as spoiled
abbrev pub first_of : Given → Fields
first_of (One a) = taken_as SegmentO a
first_of (Two a b) = a
first_of (Three a b c) = a

abbrev pub first_in : Payment → Fields
first_in p = first_of p.given

-- those behind it
abbrev pub later_of : Given → List Fields
later_of (One a) = []
later_of (Two a b) = b ∷ []
later_of (Three a b c) = b ∷ c ∷ []

abbrev pub later_in : Payment → List Fields
later_in p = later_of p.given

-- all of them, in their order
abbrev pub records_in : Payment → List Fields
records_in p = first_in p ∷ later_in p

pub data Call : Type 0 where
  open_file : Fields → Call
  open_batch : Fields → Call
  pay : Payment → Call
  close_batch : Fields → Call
  close_file : Fields → Call

-- the records of a call; fields of another record than the call writes are taken as spoiled
abbrev pub records_of : Call → List Fields
records_of (open_file v) = taken_as FileHeader v ∷ []
records_of (open_batch v) = taken_as BatchHeader v ∷ []
records_of (pay p) = records_in p
records_of (close_batch v) = taken_as BatchTrailer v ∷ []
records_of (close_file v) = taken_as FileTrailer v ∷ []

-- ---- a payment: its first record gives its amount, and its movement

-- 0 where it is not given, and no such payment is accepted (the law `number-given`)
abbrev pub given_in : Record → List Field → Fields → ℕ
given_in r [] v = 0
given_in r (f ∷ fs) v = or_zero (nth (index_of r f) v)

abbrev pub amount_of : Record → Fields → ℕ
amount_of r v = given_in r (amounts_of r) v

abbrev pub amount_in : Payment → ℕ
amount_in p = amount_of (first_in p).which (first_in p)

-- movement 9 withdraws it
abbrev pub withdraws_as : Record → Fields → Bool
withdraws_as r v = eqb (or_zero (nth (index_of r movement_field) v)) withdrawal

abbrev pub is_withdrawn : Payment → Bool
is_withdrawn p = withdraws_as (first_in p).which (first_in p)

-- what a payment puts in: its records, and itself with its amount, live or withdrawn
abbrev pub one_payment : ℕ → Bool → ℕ → Totals
one_payment records w cents = totals 0 records (live (only (not w) (tally 1 cents))) (withdrawn (only w (tally 1 cents)))
