-- The guarded places: another byte there, and an accepted file is refused. Assumes nothing.
use Rattle.std.specs.Prelude.{◌≡◌, ℕ, suc, ◌+◌, ◌*◌, ◌-◌, ◌≤◌, ◌<◌, length, get_or, take, drop, set, Some, Option}
use mathlib.Core.List.{List, Memᴰ}
use Rattle.digits.specs.Digits.{digit_byte}
use Rattle.boleto.specs.Guarded.{GuardedInBarcode}
use Rattle.layout.specs.Field.{Kind, K, O, Zeros, Exact, Field, part}
use Rattle.layout.specs.Table.{fields_of, record_bytes, type_place, segment_place, number_field, barcode_field, nominal_field, fine_field, batch_records, batch_sum, file_batches, file_records}
use Rattle.layout.specs.Records.{type_of, credit_amount, boleto_amount, collection_amount}
use Rattle.layout.specs.declared.Direction.{Direction}
use Rattle.layout.specs.declared.Direction.TheVariants.{Remittance}
use Rattle.layout.specs.declared.Record.{Record}
use Rattle.layout.specs.declared.Record.TheVariants.{FileHeader, SegmentA, SegmentJ, BatchTrailer, FileTrailer, SegmentO}
use Rattle.layout.specs.declared.pairs.Batch.{Batch}
use Rattle.layout.specs.declared.pairs.Batch.TheVariants.{Credit, Boleto}
use Rattle.checker.specs.Line.{line_bytes, record_in, line_is}
use Rattle.checker.specs.Machine.{start, direction_of}
use Rattle.files.specs.File.{lines_of}
use Rattle.checker.specs.Calls.{left}
use Rattle.checker.specs.declared.Checker.{Checker}

-- from place a to place b; in a field
abbrev pub On : ℕ → ℕ → ℕ → Type 0
On a b p = (a ≤ p) × (p ≤ b)

abbrev pub In : Field → ℕ → Type 0
In f p = On f.from f.to p

-- where the q-th place of a field stands in the record
abbrev pub place_of : ℕ → Field → ℕ
place_of q f = f.from - 1 + q

-- a field of the record
abbrev pub FieldOf : Record → Field → Type 0
FieldOf r f = Memᴰ f (fields_of r)

-- K, zeros, exact content, or O in a remittance
pub data Fixed : Direction → Kind → Type 0 where
  blanks : {d : Direction} → Fixed d K
  zeros : {d : Direction} → Fixed d Zeros
  exact : {d : Direction} {bs : List ℕ} → Fixed d (Exact bs)
  optional : Fixed Remittance O

-- the letter of a detail is guarded in a remittance, and in batches of credits and of boletos; in a return of collections an O of no cents
-- may pass for a Z, and a Z for such an O
pub data LetterGuarded : Direction → Option Batch → Type 0 where
  in_remittance : {b : Option Batch} → LetterGuarded Remittance b
  of_credits : {d : Direction} → LetterGuarded d (Some Credit)
  of_boletos : {d : Direction} → LetterGuarded d (Some Boleto)

-- of a file in this direction, in a batch of this kind, in a line that is read as this record: line ends; 1-8; 9-13 of details, and 14 where their
-- letter is guarded; the fields above; amounts of A and of O; 100-144 and 153-167 of J; 18-41 of batch trailers; 18-29 of the file trailer; of J
-- 18-61 when place 22 isn't 1, else 21 and 22
pub data Guarded (d : Direction) (b : Option Batch) (r : Record) (l : List ℕ) (p : ℕ) : Type 0 where
  line-end : On (suc record_bytes) line_bytes p → Guarded d b r l p
  first_eight : On 1 type_place p → Guarded d b r l p
  detail_number : type_of r ≡ digit_byte 3 → In number_field p → Guarded d b r l p
  letter : type_of r ≡ digit_byte 3 → LetterGuarded d b → p ≡ segment_place → Guarded d b r l p
  fixed : {f : Field} → FieldOf r f → Fixed d f.kind → In f p → Guarded d b r l p
  credit-amount : r ≡ SegmentA → In credit_amount p → Guarded d b r l p
  boleto_values : r ≡ SegmentJ → On nominal_field.from fine_field.to p → Guarded d b r l p
  boleto-amount : r ≡ SegmentJ → In boleto_amount p → Guarded d b r l p
  collection-amount : r ≡ SegmentO → In collection_amount p → Guarded d b r l p
  batch_trailer : r ≡ BatchTrailer → On batch_records.from batch_sum.to p → Guarded d b r l p
  file_trailer : r ≡ FileTrailer → On file_batches.from file_records.to p → Guarded d b r l p
  barcode : {q : ℕ} → r ≡ SegmentJ → GuardedInBarcode (part barcode_field (record_in l)) q → p ≡ place_of q barcode_field → Guarded d b r l p

-- ---- in a file

-- the line with n lines before it
abbrev pub line_at : ℕ → List ℕ → List ℕ
line_at n file = take line_bytes (drop (n * line_bytes) file)

-- the state behind the lines before it
abbrev pub state_at : ℕ → List ℕ → Checker
state_at n file = left start (take n (lines_of file))

-- it is read as this record there
abbrev pub ReadAt : ℕ → List ℕ → Record → Type 0
ReadAt n file r = line_is (state_at n file) (record_in (line_at n file)) ≡ Some r

-- all lines of a file are read as these records, one each; the default is not met
pub record EachRead (file : List ℕ) (rs : List Record) : Type 0 where
  pub as_many : length rs ≡ length (lines_of file)
  pub each : (n : ℕ) → n < length rs → ReadAt n file (get_or rs n FileHeader)

-- its place p is a guarded one of the file
pub record GuardedIn (file : List ℕ) (n p : ℕ) : Type 0 where
  pub which : Record
  pub read : ReadAt n file which
  pub inside : n * line_bytes + p ≤ length file
  pub guarded : Guarded (direction_of (record_in file)) (state_at n file).batch which (line_at n file) p

-- another byte there
abbrev pub changed : List ℕ → ℕ → ℕ → ℕ → List ℕ
changed file n p b = set file (n * line_bytes + (p - 1)) b
