-- Which record a line may be, by phase, direction and kind of batch, and within which limit. Assumes nothing.
use Rattle.std.specs.Prelude.{◌≡◌, [], ◌∷◌, ℕ, ◌+◌, ◌≤◌, ◌<◌, Option}
use Rattle.answer.specs.Limits.{file_cents}
use Rattle.layout.specs.Records.{shape_of}
use Rattle.layout.specs.declared.Direction.{Direction}
use Rattle.layout.specs.declared.Direction.TheVariants.{Return}
use Rattle.layout.specs.declared.Record.{Record}
use Rattle.layout.specs.declared.Record.TheVariants.{FileHeader, BatchHeader, SegmentZ, BatchTrailer, FileTrailer}
use Rattle.layout.specs.declared.pairs.Batch.{Batch}
use Rattle.layout.specs.declared.shapes.LineType.{LineType}
use Rattle.layout.specs.declared.shapes.LineType.TheVariants.{FileFirst, BatchFirst, Detail, BatchLast, FileLast}
use Rattle.layout.specs.declared.shapes.Phase.{Phase}
use Rattle.layout.specs.declared.shapes.Phase.TheVariants.{Start, Headed, Opened, Within, Paid, BehindZ, Closed}
use Rattle.checker.specs.Order.{record_at}
use Rattle.checker.specs.Totals.{payment_count, cent_sum, payments_of}
use Rattle.checker.specs.Line.{ordinal, most_batches, most_payments}
use Rattle.checker.specs.declared.Checker.{Checker}

-- a record stands at a position of a payment
pub record Stands (b : Option Batch) (n : ℕ) (r : Record) : Type 0 where
  pub is : record_at n b ≡ r ∷ []

-- the position in a payment that is next in a phase
pub data Next : Phase → ℕ → Type 0 where
  first_payment : Next Opened 0
  goes_on : {n : ℕ} → Next (Within n) n
  pays_behind : Next Paid 0
  pays_behind_z : Next BehindZ 0

pub data Follows (d : Direction) (b : Option Batch) : Phase → Record → Type 0 where
  heads : Follows d b Start FileHeader
  first_batch : Follows d b Headed BatchHeader
  pays : {p : Phase} {n : ℕ} {r : Record} → Next p n → Stands b n r → Follows d b p r
  adds_z : d ≡ Return → Follows d b Paid SegmentZ
  closes_paid : Follows d b Paid BatchTrailer
  closes_behind_z : Follows d b BehindZ BatchTrailer
  next_batch : Follows d b Closed BatchHeader
  ends : Follows d b Closed FileTrailer

-- numbers 20 and 23
abbrev pub FewPayments : Record → Checker → Type 0
FewPayments r s = payment_count s.current + payments_of r ≤ most_payments

abbrev pub limit_by : LineType → Record → Checker → Type 0
limit_by FileFirst r s = Unit {0}
limit_by BatchFirst r s = ordinal s ≤ most_batches
limit_by Detail r s = FewPayments r s
limit_by BatchLast r s = cent_sum s.closed + cent_sum s.current < file_cents
limit_by FileLast r s = Unit {0}

abbrev pub Limit : Record → Checker → Type 0
Limit r s = limit_by (shape_of r).line r s
