-- A well made record reads what the checker counts; a right one keeps the checker's rules for its kind, within the limit. Assumes nothing.
use Rattle.std.specs.Prelude.{◌≡◌, ℕ, List, Option, Some}
use Rattle.std.proofs.Math.Path.{refl}
use Rattle.std.proofs.Common.{lit≤}
use Rattle.answer.specs.Rules.{first_broken, AllKept}
use Rattle.answer.proofs.laws.Order.{accepted_kept}
use Rattle.digits.specs.Digits.{digit_byte}
use Rattle.digits.specs.Numbers.{number_of}
use Rattle.layout.specs.Field.{part}
use Rattle.layout.specs.Records.{shape_of, type_of}
use Rattle.layout.specs.Table.{bank_field, batch_field, batch_records, batch_sum, file_batches, file_records, fields_of}
use Rattle.layout.specs.Names.{before, index_of}
use Rattle.layout.proofs.laws.Indexes.{bank-index, batch-index, number-index}
use Rattle.layout.specs.declared.Record.{Record}
use Rattle.layout.specs.declared.Record.TheVariants.{FileHeader, BatchHeader, BatchTrailer, FileTrailer}
use Rattle.layout.specs.declared.shapes.LineType.TheVariants.{Detail}
use Rattle.layout.proofs.laws.Records.{by_type}
use Rattle.fields.specs.Values.{of_record, nth}
use Rattle.fields.specs.declared.Fields.{Fields}
use Rattle.checker.specs.Line.{house_rules, rules_as}
use Rattle.checker.specs.declared.Checker.{Checker}
use Rattle.checker.proofs.laws.Details.{in_detail, asked, AllRead}
use Rattle.checker.specs.inner.Following.{Limit}
use Rattle.checker.proofs.laws.Asks.{record_kept, record_answers}
use Rattle.filling.specs.Filling.{bank_index, batch_index, batch_records_index, batch_sum_index, file_batches_index, file_records_index, bytes_of}
use Rattle.writer.proofs.laws.Accepted.{WellMade, Right}
use Rattle.filling.proofs.laws.Filled.{detail_fills, fills_in, number_from}
use Rattle.writer.proofs.laws.Reads.{stands_at, at_bank, at_batch, at_number, reads_at}

-- ---- the fields that read what the state counts are filled with it

module _ {s : Checker} {g : Fields} (t : WellMade s g) where
  -- the number that is filled at an index
  abbrev filled_at : ℕ → Option ℕ
  filled_at j = number_from (fills_in g.which s) j (nth j g)

  bank : filled_at (bank_index g.which) ≡ Some s.bank → number_of (part bank_field (bytes_of s g)) ≡ Some s.bank
  bank e = reads_at t (at_bank g.which) refl s.bank e

  batch : (k : ℕ) → filled_at (batch_index g.which) ≡ Some k → number_of (part batch_field (bytes_of s g)) ≡ Some k
  batch k e = reads_at t (at_batch g.which) refl k e

  detail_read : type_of g.which ≡ digit_byte 3 → fills_in g.which s ≡ detail_fills g.which s → AllRead (in_detail s) (bytes_of s g)
  unfolding AllRead
  detail_read e f =
      let r = g.which in (
        bank (rw (f, bank-index r, batch-index r, number-index r)),
        (batch _ (rw (f, bank-index r, batch-index r, number-index r)), (reads_at t (at_number r e) refl _ (rw (f, bank-index r, batch-index r, number-index r)), tt)),
      )

abbrev AllAsked : Checker → Record → Type 0
AllAsked s r = (v : Fields) → WellMade s (of_record r v) → AllRead (asked r s) (bytes_of s (of_record r v))

file-header : (s : Checker) → AllAsked s FileHeader
unfolding AllRead fields_of index_of before
file-header s v t = (batch t _ refl, tt)

batch-header : (s : Checker) → AllAsked s BatchHeader
unfolding AllRead fields_of index_of before
batch-header s v t = (bank t refl, (batch t _ refl, tt))

batch_trailer : (s : Checker) → AllAsked s BatchTrailer
unfolding AllRead fields_of index_of before
batch_trailer s v t =
    let records = reads_at t (stands_at batch_records_index batch_records (lit≤ tt) refl) refl _ refl in
    let sum = reads_at t (stands_at batch_sum_index batch_sum (lit≤ tt) refl) refl _ refl in
    (bank t refl, (batch t _ refl, (records, (sum, tt))))

file_trailer : (s : Checker) → AllAsked s FileTrailer
unfolding AllRead fields_of index_of before
file_trailer s v t =
    let batches = reads_at t (stands_at file_batches_index file_batches (lit≤ tt) refl) refl _ refl in
    let records = reads_at t (stands_at file_records_index file_records (lit≤ tt) refl) refl _ refl in
    (bank t refl, (batch t _ refl, (batches, (records, tt))))

detail : (s : Checker) (r : Record) → (shape_of r).line ≡ Detail → AllAsked s r
detail s r e v t = rw e (detail_read t (rw e) (rw e))

all_read : (s : Checker) (r : Record) → AllAsked s r
all_read s = by_type (AllAsked s) (file-header s) (batch-header s) (detail s) (batch_trailer s) (file_trailer s)

-- the numbers that the checker asks
pub numbers_read : {s : Checker} {g : Fields} → WellMade s g → AllRead (asked g.which s) (bytes_of s g)
numbers_read {s} {g} t = all_read s g.which g t

pub ruled : {expected : List Record} {s : Checker} {g : Fields} → Right expected s g → Limit g.which s → AllKept (rules_as g.which s (bytes_of s g))
ruled {s = s} {g = g} t few =
    let w = t.well in
    record_kept s (bytes_of s g) g.which (record { fields = accepted_kept _ w.fields; house = t.house; numbers = numbers_read w; limit = few })

-- and of a well made one the house answers
pub house_answers : {s : Checker} {g : Fields} → WellMade s g → Limit g.which s
    → first_broken (rules_as g.which s (bytes_of s g)) ≡ first_broken (house_rules g.which (bytes_of s g))
house_answers {s} {g} w few = record_answers s (bytes_of s g) g.which (accepted_kept _ w.fields) (numbers_read w) few
