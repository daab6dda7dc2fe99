-- Which files are accepted, said of the whole file: its order, its bank and numbering, its counts, its sums and its limits. Assumes nothing.
use Rattle.std.specs.Prelude.{◌≡◌, true, ℕ, ◌+◌, ◌≤◌, ◌<◌, length, Some, Option}
use mathlib.Core.List.{List, [], ◌∷◌, ◌++◌, flatten}
use Rattle.answer.specs.Limits.{file_cents}
use Rattle.answer.specs.Rules.{AllKept}
use Rattle.digits.specs.Numbers.{number_of}
use Rattle.layout.specs.Pairs.{batch_of}
use Rattle.layout.specs.Field.{Field, part}
use Rattle.layout.specs.Table.{fields_of, record_bytes, bank_field, batch_field, number_field, service_field, form_field, batch_records, batch_sum, file_batches, file_records}
use Rattle.layout.specs.Record.{rules_of, all_printable}
use Rattle.layout.specs.declared.Direction.{Direction}
use Rattle.layout.specs.declared.Direction.TheVariants.{Return}
use Rattle.layout.specs.declared.Record.{Record}
use Rattle.layout.specs.declared.Record.TheVariants.{FileHeader, BatchHeader, SegmentZ, BatchTrailer, FileTrailer}
use Rattle.layout.specs.declared.pairs.Batch.{Batch}
use Rattle.checker.specs.Order.{payment}
use Rattle.checker.specs.Totals.{Live, Withdrawn, no_payments, live, withdrawn, totals, none, add_live, add_withdrawn, add, live_of, withdrawn_of, cents_of, batch_count, cent_sum}
use Rattle.checker.specs.Line.{record_in, house_rules, most_batches, most_payments, header_batch, trailer_batch, line_from}
use Rattle.checker.specs.Machine.{direction_of}
use Rattle.checker.specs.declared.totals.Totals.{Totals}

-- ---- a line

-- right by itself: 240 printable bytes with CR and LF behind them, every field of the record, and the house rules: right
-- registration numbers, and what is asked of a boleto and of a collection code
pub record RightLine (r : Record) (d : Direction) (l : List ℕ) : Type 0 where
  pub long : length (record_in l) ≡ record_bytes
  pub ended : l ≡ line_from (record_in l)
  pub printable : all_printable (record_in l) ≡ true
  pub fields : AllKept (rules_of (fields_of r) d (record_in l))
  pub house : AllKept (house_rules r (record_in l))

-- a field of a line reads the number k
abbrev pub Reads : Field → ℕ → List ℕ → Type 0
Reads f k l = number_of (part f (record_in l)) ≡ Some k

-- with the file's bank, and the number of its batch
pub record Numbered (r : Record) (d : Direction) (bank batch : ℕ) (l : List ℕ) : Type 0 where
  pub right : RightLine r d l
  pub bank_is : Reads bank_field bank l
  pub batch_is : Reads batch_field batch l

-- ---- payments

-- in a return one optional Z behind a payment
pub data OptionalZ : Direction → List Record → Type 0 where
  without_z : {d : Direction} → OptionalZ d []
  with_z : OptionalZ Return (SegmentZ ∷ [])

-- so many payments, each the records of the batch's kind
pub data Payments (d : Direction) (b : Option Batch) : ℕ → List Record → Type 0 where
  no-payments : Payments d b 0 []
  pay : {k : ℕ} {zs later : List Record} → OptionalZ d zs → Payments d b k later → Payments d b (k + 1) (payment b ++ (zs ++ later))

-- lines that are these records, numbered from n on, and the cents of their amounts
pub data Details (d : Direction) (bank batch : ℕ) : ℕ → List Record → List (List ℕ) → ℕ → Type 0 where
  no_details : {n : ℕ} → Details d bank batch n [] [] 0
  detail : {n c : ℕ} {r : Record} {rs : List Record} {l : List ℕ} {ls : List (List ℕ)}
      → Numbered r d bank batch l → Reads number_field n l → Details d bank batch (n + 1) rs ls c
      → Details d bank batch n (r ∷ rs) (l ∷ ls) (cents_of r (record_in l) + c)

-- of such lines the live payments, and the withdrawn ones: each a sum over the records
unfoldable pub live_among : List Record → List (List ℕ) → Live
live_among [] ls = live no_payments
live_among (r ∷ rs) [] = live no_payments
live_among (r ∷ rs) (l ∷ ls) = add_live (live_of r (record_in l)) (live_among rs ls)

unfoldable pub withdrawn_among : List Record → List (List ℕ) → Withdrawn
withdrawn_among [] ls = withdrawn no_payments
withdrawn_among (r ∷ rs) [] = withdrawn no_payments
withdrawn_among (r ∷ rs) (l ∷ ls) = add_withdrawn (withdrawn_of r (record_in l)) (withdrawn_among rs ls)

-- ---- batches

-- the kind that a batch header's service and form name
abbrev pub kind_in : Direction → List ℕ → Option Batch
kind_in d header = batch_of d (part service_field (record_in header)) (part form_field (record_in header))

-- a header, one or more payments, a trailer that counts the batch's records and sums its amounts, withdrawn ones too
pub record RightBatch (d : Direction) (bank ordinal : ℕ) (ls : List (List ℕ)) (t : Totals) : Type 0 where
  pub header : List ℕ
  pub details : List (List ℕ)
  pub trailer : List ℕ
  pub records : List Record
  pub payments : ℕ
  pub cents : ℕ
  pub lines : ls ≡ header ∷ (details ++ trailer ∷ [])
  pub header_right : Numbered BatchHeader d bank ordinal header
  pub payments_right : Payments d (kind_in d header) payments records
  pub details_right : Details d bank ordinal 1 records details cents
  pub some : 1 ≤ payments
  pub most : payments ≤ most_payments
  pub trailer_right : Numbered BatchTrailer d bank ordinal trailer
  pub counted : Reads batch_records (length ls) trailer
  pub summed : Reads batch_sum cents trailer
  pub are : t ≡ totals 1 (length ls) (live_among records details) (withdrawn_among records details)

-- one after the other, behind n others
pub data Batches (d : Direction) (bank : ℕ) : ℕ → List (List ℕ) → Totals → Type 0 where
  no_batches : {n : ℕ} → Batches d bank n [] none
  batch : {n : ℕ} {ls ms : List (List ℕ)} {t u : Totals}
      → RightBatch d bank (n + 1) ls t → Batches d bank (n + 1) ms u → Batches d bank n (ls ++ ms) (add t u)

-- ---- a file

-- a header, one or more batches, a trailer that counts the batches and all records, both ends included
pub record RightFile (ls : List (List ℕ)) (t : Totals) : Type 0 where
  pub header : List ℕ
  pub middle : List (List ℕ)
  pub trailer : List ℕ
  pub direction : Direction
  pub bank : ℕ
  pub inside : Totals
  pub lines : ls ≡ header ∷ (middle ++ trailer ∷ [])
  pub header_right : Numbered FileHeader direction bank header_batch header
  pub direction_is : direction ≡ direction_of (record_in header)
  pub batches_right : Batches direction bank 0 middle inside
  pub some : 1 ≤ batch_count inside
  pub most : batch_count inside ≤ most_batches
  pub below : cent_sum inside < file_cents
  pub trailer_right : Numbered FileTrailer direction bank trailer_batch trailer
  pub batches_counted : Reads file_batches (batch_count inside) trailer
  pub records_counted : Reads file_records (length ls) trailer
  pub are : t ≡ totals (batch_count inside) (length ls) inside.live inside.withdrawn

-- bytes that are the lines of such a file, joined
pub record Meets (bytes : List ℕ) (t : Totals) : Type 0 where
  pub lines : List (List ℕ)
  pub joined : flatten lines ≡ bytes
  pub file : RightFile lines t

-- ---- the record of each line

-- a batch's header, the records of its payments, its trailer
abbrev pub records_in_batch : {d : Direction} {bank ordinal : ℕ} {ls : List (List ℕ)} {t : Totals} → RightBatch d bank ordinal ls t → List Record
records_in_batch b = BatchHeader ∷ (b.records ++ BatchTrailer ∷ [])

-- those of batches, one after the other
abbrev pub records_in_batches : {d : Direction} {bank n : ℕ} {ls : List (List ℕ)} {t : Totals} → Batches d bank n ls t → List Record
records_in_batches no_batches = []
records_in_batches (batch b on) = records_in_batch b ++ records_in_batches on

-- the file's header, those of its batches, its trailer
abbrev pub records_in_file : {ls : List (List ℕ)} {t : Totals} → RightFile ls t → List Record
records_in_file w = FileHeader ∷ (records_in_batches w.batches_right ++ FileTrailer ∷ [])

-- ---- payments and cents of batches, whatever the movement

abbrev pub payments_in_batches : {d : Direction} {bank n : ℕ} {ls : List (List ℕ)} {t : Totals} → Batches d bank n ls t → ℕ
payments_in_batches no_batches = 0
payments_in_batches (batch b on) = b.payments + payments_in_batches on

abbrev pub cents_in_batches : {d : Direction} {bank n : ℕ} {ls : List (List ℕ)} {t : Totals} → Batches d bank n ls t → ℕ
cents_in_batches no_batches = 0
cents_in_batches (batch b on) = b.cents + cents_in_batches on
