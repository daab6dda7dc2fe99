-- Fields that were read from a record, given back in the state that it fits: the writer fills what stands there already, and writes the record
-- again. Assumes nothing.
use Rattle.std.specs.Prelude.{◌≡◌, Bool, true, false, cond, List, ℕ, ◌+◌, ltb, length, set, None, Some}
use Rattle.std.proofs.Math.Path.{refl, ap}
use Rattle.std.proofs.Common.{sym, ◌∙◌, lit≤}
use Rattle.std.proofs.lemmas.List.{set-get_or}
use Rattle.answer.proofs.laws.Order.{kept_accepted}
use Rattle.digits.specs.Digits.{digit_byte}
use Rattle.digits.specs.Numbers.{number_of}
use Rattle.layout.specs.Field.{Field, part}
use Rattle.layout.specs.Records.{shape_of, type_of, is_one_of}
use Rattle.layout.specs.Table.{record_bytes, bank_field, batch_field, batch_records, batch_sum, file_batches, file_records, fields_of}
use Rattle.layout.specs.Names.{before, index_of}
use Rattle.layout.specs.Kinds.{as_number}
use Rattle.layout.specs.Record.{all_printable}
use Rattle.layout.specs.declared.Record.{Record}
use Rattle.layout.specs.declared.Record.TheVariants.{FileHeader, BatchHeader, BatchTrailer, FileTrailer}
use Rattle.layout.specs.declared.shapes.LineType.TheVariants.{Detail}
use Rattle.layout.proofs.laws.Records.{by_type}
use Rattle.fields.specs.Values.{held_as, nth, record_of, most_fields, fields_in, set_nth, of_record}
use Rattle.fields.proofs.laws.RoundTrip.{whole_read, number-in, fields_then_written}
use Rattle.fields.specs.declared.Fields.{Fields}
use Rattle.checker.specs.Line.{ordinal, header_batch, trailer_batch}
use Rattle.checker.specs.declared.Checker.{Checker}
use Rattle.checker.proofs.laws.Details.{in_detail, asked, AllRead}
use Rattle.checker.proofs.laws.Asks.{Body}
use Rattle.filling.specs.Filling.{bank_index, batch_index, number_index, batch_records_index, batch_sum_index, file_batches_index, file_records_index, filled_in_batch, filled_detail, filled, bytes_of}
use Rattle.writer.proofs.laws.Accepted.{Right}
use Rattle.writer.proofs.laws.Reads.{Stands, stands_at, at_bank, at_batch, at_number}
use Rattle.checker.specs.Totals.{batch_count, cent_sum, record_count}

-- a number that stands there already
with_same : (j n : ℕ) (v : Fields) → nth j v ≡ Some n → set_nth j n v ≡ v
with_same j n v e = go (ltb j most_fields)
  where
    go : (b : Bool) → record { which = v.which; numbers = cond b (set v.numbers j (Some n)) v.numbers; text = v.text } ≡ v
    go true =
        let same = ap (set v.numbers j) (sym e) ∙ set-get_or v.numbers j None in
        λ i. record { which = v.which; numbers = same i; text = v.text }
    go false = refl

-- ---- the fields that read what the state counts have it

module _ (s : Checker) (rec : List ℕ) where
  refilled : {r : Record} {j : ℕ} {f : Field} (k : ℕ) → Stands r j f → held_as f ≡ as_number → number_of (part f rec) ≡ Some k
      → set_nth j k (fields_in r rec) ≡ fields_in r rec
  refilled {r} {j} {f} k at a e =
      with_same j k (fields_in r rec) (number-in r rec j at.below (ap held_as at.is ∙ a) ∙ ap (λ (f : Field). number_of (part f rec)) at.is ∙ e)

  module _ (r : Record) where
    -- bank and batch, and the number of a detail
    bank_same : (k : ℕ) → number_of (part bank_field rec) ≡ Some k → set_nth (bank_index r) k (fields_in r rec) ≡ fields_in r rec
    bank_same k = refilled k (at_bank r) refl

    batch_same : (k : ℕ) → number_of (part batch_field rec) ≡ Some k → set_nth (batch_index r) k (fields_in r rec) ≡ fields_in r rec
    batch_same k = refilled k (at_batch r) refl

    in-batch : number_of (part bank_field rec) ≡ Some s.bank → number_of (part batch_field rec) ≡ Some (ordinal s)
        → filled_in_batch r s (fields_in r rec) ≡ fields_in r rec
    in-batch a b = ap (set_nth (batch_index r) (ordinal s)) (bank_same s.bank a) ∙ batch_same (ordinal s) b

    in-detail : type_of r ≡ digit_byte 3 → AllRead (in_detail s) rec → filled_detail r s (fields_in r rec) ≡ fields_in r rec
    unfolding AllRead
    in-detail e n =
        ap (set_nth (number_index r) (record_count s.current)) (in-batch n.0 n.1.0) ∙ refilled _ (at_number r e) refl n.1.1.0

  abbrev Same : Record → Type 0
  Same r = AllRead (asked r s) rec → filled r s (fields_in r rec) ≡ fields_in r rec

  file-header : Same FileHeader
  unfolding filled AllRead fields_of index_of before
  file-header n = batch_same FileHeader header_batch n.0

  batch-header : Same BatchHeader
  unfolding filled AllRead fields_of index_of before
  batch-header n = in-batch BatchHeader n.0 n.1.0

  batch_trailer : Same BatchTrailer
  unfolding filled AllRead fields_of index_of before
  batch_trailer n =
      let records = refilled {r = BatchTrailer} (record_count s.current + 1) (stands_at batch_records_index batch_records (lit≤ tt) refl) refl n.1.1.0 in
      let sum = refilled {r = BatchTrailer} (cent_sum s.current) (stands_at batch_sum_index batch_sum (lit≤ tt) refl) refl n.1.1.1.0 in
      ap (λ (v : Fields). set_nth batch_sum_index (cent_sum s.current) (set_nth batch_records_index (record_count s.current + 1) v)) (in-batch BatchTrailer n.0 n.1.0)
      ∙ ap (set_nth batch_sum_index (cent_sum s.current)) records
      ∙ sum

  file_trailer : Same FileTrailer
  unfolding filled AllRead fields_of index_of before
  file_trailer n =
      let batches = refilled {r = FileTrailer} (batch_count s.closed) (stands_at file_batches_index file_batches (lit≤ tt) refl) refl n.1.1.0 in
      let records = refilled {r = FileTrailer} (record_count s.closed + 1) (stands_at file_records_index file_records (lit≤ tt) refl) refl n.1.1.1.0 in
      let counts : Fields → Fields = λ v. set_nth file_records_index (record_count s.closed + 1) (set_nth file_batches_index (batch_count s.closed) v) in
      ap (λ (v : Fields). counts (set_nth (batch_index FileTrailer) trailer_batch v)) (bank_same FileTrailer s.bank n.0)
      ∙ ap counts (batch_same FileTrailer trailer_batch n.1.0)
      ∙ ap (set_nth file_records_index (record_count s.closed + 1)) batches
      ∙ records

  detail : (r : Record) → (shape_of r).line ≡ Detail → Same r
  unfolding filled
  detail r e n = rw e (in-detail r (rw e) (rw e at n))

  filled_same : (r : Record) → Same r
  filled_same = by_type Same file-header batch-header detail batch_trailer file_trailer

-- ---- a record that fits a state, given back there

module _ {r : Record} {s : Checker} {rec : List ℕ} (long : length rec ≡ record_bytes) (b : Body r s rec) where
  -- it is written again
  pub bytes_back : bytes_of s (of_record r (fields_in r rec)) ≡ rec
  unfolding fields_in
  bytes_back = ap (record_of r) (filled_same s rec r b.numbers) ∙ fields_then_written r s.dir rec long (kept_accepted _ b.fields)

  -- and is right, where it is expected
  pub right_back : {expected : List Record} → is_one_of r expected ≡ true → all_printable rec ≡ true → Right expected s (of_record r (fields_in r rec))
  unfolding fields_in
  right_back e printable =
      let whole = whole_read r rec long in
      record {
        well = record { whole = whole; printable = ap all_printable bytes_back ∙ printable; fields = rw bytes_back (kept_accepted _ b.fields) };
        is_expected = e;
        house = rw bytes_back b.house;
      }
