-- What is guarded: other bytes there, and an accepted file is refused. First fields: any other content is seen. Then places: another byte is seen. Then
-- neighbours: two unequal ones, swapped, are seen. Assumes nothing.
use Rattle.std.specs.Prelude.{◌≡◌, ◌≢◌, ℕ, suc, ◌+◌, ◌*◌, ◌≤◌, length, Option}
use mathlib.Core.List.{List, [], ◌∷◌}
use Rattle.digits.specs.Digits.{digit_byte, place, swapped}
use Rattle.boleto.specs.Guarded.{GuardedInBarcode, GuardedPairInBarcode}
use Rattle.layout.specs.Field.{Exact, Field, field, part}
use Rattle.layout.specs.Table.{record_bytes, bank_field, batch_field, type_field, number_field, segment_field, barcode_field, nominal_field, discount_field, fine_field, batch_records, batch_sum, file_batches, file_records}
use Rattle.layout.specs.Records.{type_of, letter_of, credit_amount, boleto_amount, collection_amount}
use Rattle.layout.specs.declared.Direction.{Direction}
use Rattle.layout.specs.declared.Record.{Record}
use Rattle.layout.specs.declared.Record.TheVariants.{SegmentA, SegmentJ, BatchTrailer, FileTrailer, SegmentO}
use Rattle.layout.specs.declared.pairs.Batch.{Batch}
use Rattle.checker.specs.Line.{line_bytes, carriage_return, line_feed, record_in}
use Rattle.checker.specs.Machine.{direction_of}
use Rattle.promises.specs.Grammar.{RightLine}
use Rattle.promises.specs.Guarded.{In, place_of, FieldOf, Fixed, LetterGuarded, line_at, state_at, ReadAt}

-- ---- fields

-- CR and LF
abbrev pub line_end : Field
line_end = field (suc record_bytes) line_bytes (Exact (carriage_return ∷ line_feed ∷ []))

-- amounts: of A; of J, 100-144 being its nominal, discount and fine; of O
pub data AmountIn : Record → Field → Type 0 where
  credit : AmountIn SegmentA credit_amount
  nominal : AmountIn SegmentJ nominal_field
  discount : AmountIn SegmentJ discount_field
  fine : AmountIn SegmentJ fine_field
  boleto : AmountIn SegmentJ boleto_amount
  collection : AmountIn SegmentO collection_amount

-- what trailers count and sum: 18-41 of batch trailers, 18-29 of the file trailer
pub data CountIn : Record → Field → Type 0 where
  batch-records : CountIn BatchTrailer batch_records
  batch-sum : CountIn BatchTrailer batch_sum
  file-batches : CountIn FileTrailer file_batches
  file-records : CountIn FileTrailer file_records

-- of a file in this direction, in a batch of this kind, in a line that is read as this record: line ends; 1-8, which are bank, batch number and type;
-- 9-13 of details, and 14 where their letter is guarded; and the fields above
pub data GuardedField (d : Direction) (b : Option Batch) (r : Record) : Field → Type 0 where
  line-end : GuardedField d b r line_end
  bank : GuardedField d b r bank_field
  batch-number : GuardedField d b r batch_field
  line_type : GuardedField d b r (type_field r)
  detail_number : type_of r ≡ digit_byte 3 → GuardedField d b r number_field
  letter : type_of r ≡ digit_byte 3 → LetterGuarded d b → GuardedField d b r (segment_field (letter_of r))
  fixed : {f : Field} → FieldOf r f → Fixed d f.kind → GuardedField d b r f
  amount : {f : Field} → AmountIn r f → GuardedField d b r f
  count : {f : Field} → CountIn r f → GuardedField d b r f

-- fields in which other content, that of this other line, is seen: the guarded ones, whatever it is, and the barcode of a J if with it the line is no right J
pub data Seen (d : Direction) (b : Option Batch) (r : Record) (other : List ℕ) : Field → Type 0 where
  guarded : {f : Field} → GuardedField d b r f → Seen d b r other f
  no_barcode : r ≡ SegmentJ → (RightLine SegmentJ d other → ⊥) → Seen d b r other barcode_field

-- ---- places and neighbours

-- the places of the guarded fields; in the barcode of a J 18-61 when place 22 isn't 1, else 21 and 22
pub data Guarded (d : Direction) (b : Option Batch) (r : Record) (l : List ℕ) (p : ℕ) : Type 0 where
  in_field : {f : Field} → GuardedField d b r f → In f p → Guarded d b r l p
  in_barcode : {q : ℕ} → r ≡ SegmentJ → GuardedInBarcode (part barcode_field (record_in l)) q → p ≡ place_of q barcode_field → Guarded d b r l p

-- a place and the one behind it: both in one guarded field, as in one amount; or in the barcode of a J when place 22 isn't 1 and neither is place 22
pub data GuardedPair (d : Direction) (b : Option Batch) (r : Record) (l : List ℕ) (p : ℕ) : Type 0 where
  both_in_field : {f : Field} → GuardedField d b r f → In f p → In f (suc p) → GuardedPair d b r l p
  both_in_barcode : {q : ℕ} → r ≡ SegmentJ → GuardedPairInBarcode (part barcode_field (record_in l)) q → p ≡ place_of q barcode_field → GuardedPair d b r l p

-- ---- in a file

-- line n has a place p, and this is so of the file's direction, of the kind of batch there and of the record that line n is read as
pub record OfLine (file : List ℕ) (n p : ℕ) (So : Direction → Option Batch → Record → Type 0) : Type 0 where
  pub which : Record
  pub read : ReadAt n file which
  pub inside : n * line_bytes + p ≤ length file
  pub so : So (direction_of (record_in file)) (state_at n file).batch which

-- place p of line n is guarded; place p of line n and the one behind it are guarded neighbours
abbrev pub GuardedIn : List ℕ → ℕ → ℕ → Type 0
GuardedIn file n p = OfLine file n p (λ d b r. Guarded d b r (line_at n file) p)

abbrev pub GuardedPairIn : List ℕ → ℕ → ℕ → Type 0
GuardedPairIn file n p = OfLine file n (suc p) (λ d b r. GuardedPair d b r (line_at n file) p)

abbrev pub swapped_at : List ℕ → ℕ → ℕ → List ℕ
swapped_at file n p = swapped (n * line_bytes + p) file

-- ---- another file

-- lists of bytes that are as long, not the same, and the same outside the field
pub record DifferIn (f : Field) (xs ys : List ℕ) : Type 0 where
  pub long : length xs ≡ length ys
  pub unlike : xs ≢ ys
  pub elsewhere : (q : ℕ) → 1 ≤ q → (In f q → ⊥) → place q xs ≡ place q ys

-- where a field of line n stands in the file
abbrev pub in_line : ℕ → Field → Field
in_line n f = field (n * line_bytes + f.from) (n * line_bytes + f.to) f.kind

-- the other file differs from the file in this field of line n only, where it is seen
pub record OtherIn (file other : List ℕ) (n : ℕ) (f : Field) : Type 0 where
  pub seen : OfLine file n f.from (λ d b r. Seen d b r (line_at n other) f)
  pub differ : DifferIn (in_line n f) file other
