-- The order of lines: which may follow, and what a line is read as. Assumes nothing.
use Rattle.std.specs.Prelude.{Bool, true, false, not, cond, ◌&&◌, ◌||◌, List, [], ◌∷◌, ◌++◌, ℕ, eqb, take, drop, None, Option, Some}
use Rattle.layout.specs.Records.{is_one_of, type_of, letter_z}
use Rattle.layout.specs.declared.Direction.{Direction}
use Rattle.layout.specs.declared.Direction.TheVariants.{Remittance, Return}
use Rattle.layout.specs.declared.Record.{Record}
use Rattle.layout.specs.declared.Record.TheVariants.{FileHeader, BatchHeader, SegmentA, SegmentB, SegmentJ, SegmentJ52, SegmentZ, BatchTrailer, FileTrailer, SegmentO}
use Rattle.layout.specs.declared.pairs.Batch.{Batch}
use Rattle.layout.specs.declared.pairs.Batch.TheVariants.{Credit, Boleto, Collection}
use Rattle.layout.specs.declared.shapes.Phase.{Phase}
use Rattle.layout.specs.declared.shapes.Phase.TheVariants.{Start, Headed, Opened, Within, Paid, BehindZ, Closed, Ended}

-- the records of a payment; between batches there are none
abbrev pub payment : Option Batch → List Record
payment (Some Credit) = SegmentA ∷ SegmentB ∷ []
payment (Some Boleto) = SegmentJ ∷ SegmentJ52 ∷ []
payment (Some Collection) = SegmentO ∷ []
payment None = []

-- the one at a position, from 0 on; behind the last there is none
abbrev pub record_at : ℕ → Option Batch → List Record
record_at n b = take 1 (drop n (payment b))

-- the first of records, or none
abbrev pub reading_of : List Record → Option Record
reading_of [] = None
reading_of (r ∷ rs) = Some r

-- the lines that may follow
abbrev pub follows : Phase → Direction → Option Batch → List Record
follows Start d b = FileHeader ∷ []
follows Headed d b = BatchHeader ∷ []
follows Opened d b = record_at 0 b
follows (Within n) d b = record_at n b
follows Paid Remittance b = record_at 0 b ++ BatchTrailer ∷ []
follows Paid Return b = SegmentZ ∷ record_at 0 b ++ BatchTrailer ∷ []
follows BehindZ d b = record_at 0 b ++ BatchTrailer ∷ []
follows Closed d b = BatchHeader ∷ FileTrailer ∷ []
follows Ended d b = []

abbrev pub ended : Phase → Bool
ended Start = false
ended Headed = false
ended Opened = false
ended (Within n) = false
ended Paid = false
ended BehindZ = false
ended Closed = false
ended Ended = true

-- Z may be left out: it alone is known by its letter; every other detail by its place in the payment
abbrev pub optional : Record → Bool
optional r = is_one_of r (SegmentZ ∷ [])

abbrev pub suits : ℕ → ℕ → Record → Bool
suits type segment r = (not (optional r) || eqb segment letter_z) && eqb type (type_of r)

-- what a line of this type and segment is read as, of the lines that may follow
abbrev pub read_as : ℕ → ℕ → List Record → Option Record
read_as type segment [] = None
read_as type segment (r ∷ rs) = cond (suits type segment r) (Some r) (read_as type segment rs)
