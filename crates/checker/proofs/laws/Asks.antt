-- A record's rules in a state, as facts: its fields and the house rules are right, its fields read what the state counts, and the limit holds; and what
-- a right record is read as. Assumes nothing.
use Rattle.std.specs.Prelude.{◌≡◌, refl, Bool, true, false, cond, ◌&&◌, ℕ, suc, ◌+◌, ◌-◌, ◌≤◌, leb, ltb, eqb, length, None, Option, Some}
use Rattle.std.proofs.Math.Path.{sym}
use Rattle.std.proofs.Common.{ap, subst, ◌∙◌, arith, lit≤}
use mathlib.Core.List.{List, [], ◌∷◌, ◌++◌}
use borrow.Author.Tests.{eqb-true, eq-eqb, leb-true, ltb-true, le-leb, lt-ltb}
use Rattle.answer.specs.Limits.{file_cents}
use Rattle.answer.specs.Rules.{Rule, rule, first_broken, AllKept}
use Rattle.answer.proofs.laws.Order.{never, none_kept, more_kept, kept_accepted, gone_on, kept_front, kept_behind, kept_join}
use Rattle.digits.specs.Digits.{all_digits, digit_byte, place, places}
use Rattle.digits.specs.Numbers.{number_of}
use Rattle.digits.proofs.laws.Strings.{one_place, all_leading, part_get_or}
use Rattle.digits.proofs.laws.Numerals.{given}
use Rattle.calendar.specs.Calendar.{number_fits}
use Rattle.layout.specs.Field.{Field, part}
use Rattle.layout.specs.Table.{line, type_place, fields_of, record_bytes, bank_field, batch_field, number_field, segment_field, segment_fields, segment_place, batch_records, batch_sum, file_batches, file_records}
use Rattle.layout.specs.Records.{shape_of, type_of}
use Rattle.layout.proofs.laws.Records.{by_type}
use Rattle.layout.specs.Kinds.{same}
use Rattle.layout.specs.Record.{field_rules, rules_of}
use Rattle.layout.proofs.laws.Bytes.{same_self, same_true}
use Rattle.layout.specs.declared.Direction.{Direction}
use Rattle.layout.specs.declared.Record.{Record}
use Rattle.layout.specs.declared.Record.TheVariants.{FileHeader, BatchHeader, SegmentZ, BatchTrailer, FileTrailer}
use Rattle.layout.specs.declared.shapes.LineType.TheVariants.{FileFirst, BatchFirst, Detail, BatchLast, FileLast}
use Rattle.layout.specs.declared.pairs.Batch.{Batch}
use Rattle.checker.specs.Totals.{batch_count, record_count, payment_count, cent_sum, payments_of}
use Rattle.checker.specs.Line.{bank, batch_number, ordinal, most_payments, header_batch, trailer_batch, reads, within, behind, between, house_rules, rules_of_type, rules_as, line_is}
use Rattle.checker.specs.declared.Checker.{Checker}
use Rattle.checker.proofs.laws.Payments.{row}
use Rattle.checker.specs.inner.Following.{Stands}
use Rattle.checker.proofs.laws.Edges.{read_by}
use Rattle.checker.specs.inner.Following.{Follows}
use Rattle.checker.proofs.laws.Details.{in_detail, asked, AllRead, line_first, DetailRow, detail_row, detail_of}
use Rattle.checker.specs.inner.Following.{Limit}

-- what is asked of a record in a state
pub record Body (r : Record) (s : Checker) (rec : List ℕ) : Type 0 where
  pub fields : AllKept (rules_of (fields_of r) s.dir rec)
  pub house : AllKept (house_rules r rec)
  pub numbers : AllRead (asked r s) rec
  pub limit : Limit r s

-- without the house's rules
record Own (r : Record) (s : Checker) (rec : List ℕ) : Type 0 where
  fields : AllKept (rules_of (fields_of r) s.dir rec)
  numbers : AllRead (asked r s) rec
  limit : Limit r s

-- ---- a rule that a field reads a number

is_number : (k : ℕ) (m : Option ℕ) → number_fits (λ n. eqb n k) m ≡ true → m ≡ Some k
is_number k (Some n) e = ap Some (eqb-true n k e)
is_number k None e = never e

-- ---- rules of some fields, and of all

fields_join : (xs ys : List Field) (d : Direction) (rec : List ℕ) → AllKept (rules_of xs d rec) → AllKept (rules_of ys d rec) → AllKept (rules_of (xs ++ ys) d rec)
unfolding rules_of
fields_join [] ys d rec a b = b
fields_join (x ∷ xs) ys d rec a b =
    kept_join (field_rules x d rec) _ (kept_front (field_rules x d rec) _ a) (fields_join xs ys d rec (kept_behind (field_rules x d rec) _ a) b)

-- the rules of some fields, where those of all are kept
within_kept : (a b : ℕ) (fs : List Field) (d : Direction) (rec : List ℕ) → AllKept (rules_of fs d rec) → AllKept (rules_of (within a b fs) d rec)
unfolding within rules_of
within_kept a b [] d rec k = k
within_kept a b (f ∷ fs) d rec k = go (leb a f.from && leb f.to b) (within_kept a b fs d rec (kept_behind (field_rules f d rec) _ k))
  where
    go : (t : Bool) → AllKept (rules_of (within a b fs) d rec) → AllKept (rules_of (cond t (f ∷ within a b fs) (within a b fs)) d rec)
    go true on = kept_join (field_rules f d rec) _ (kept_front (field_rules f d rec) _ k) on
    go false on = on

-- the file header's bank is digits
pub bank_digits : (d : Direction) (rec : List ℕ) → AllKept (rules_of (fields_of FileHeader) d rec) → all_digits (part bank_field rec) ≡ true
unfolding AllKept rules_of fields_of
bank_digits d rec k = k.0

-- ---- the type and the letter

byte_at : (p : ℕ) {b : ℕ} (rec : List ℕ) → 1 ≤ p → same (b ∷ []) (places p p rec) ≡ true → place p rec ≡ b
byte_at p {b} rec low k =
    let z : p - 1 - (p - 1) ≡ 0 = omega arith in
    let is = same_true (b ∷ []) (places p p rec) k in
    sym (part_get_or rec (p - 1) (p - (p - 1)) (p - 1) 0 (omega arith) (omega arith)) ∙ rw (← is, z)

module _ (r : Record) (d : Direction) (rec : List ℕ) (k : AllKept (rules_of (fields_of r) d rec)) where
  pub type_at : place type_place rec ≡ type_of r
  unfolding AllKept rules_of
  type_at = byte_at type_place rec (lit≤ tt) (rw (line_first r) at k).1.1.0

  -- a detail's fields behind the type, its letter being b
  numbered : {b : ℕ} → DetailRow r → segment_fields r ≡ segment_field b ∷ [] → AllKept (rules_of (number_field ∷ segment_field b ∷ behind segment_place r) d rec)
  numbered o m = rw (o.begun, m) at (within_kept (suc type_place) record_bytes (fields_of r) d rec k)

  pub letter_at : {b : ℕ} → type_of r ≡ digit_byte 3 → segment_fields r ≡ segment_field b ∷ [] → place segment_place rec ≡ b
  unfolding AllKept rules_of
  letter_at e m = byte_at segment_place rec (lit≤ tt) (numbered (detail_of r e) m).1.0

  marks_kept : DetailRow r → AllKept (rules_of (segment_fields r) d rec)
  unfolding AllKept rules_of
  marks_kept o = rw o.marked ((numbered o o.marked).1.0, tt)

-- what may follow and has right fields is read as it is: Z by its letter, and what begins a payment has another
not_z : {b : Option Batch} {n : ℕ} {r : Record} (d : Direction) (rec : List ℕ) → AllKept (rules_of (fields_of r) d rec) → Stands b n r → place segment_place rec ≡ 90 → ⊥
not_z {r = r} d rec k g e =
    let letter = letter_at r d rec k (row g).type (row g).marked in
    never (sym (row g).no_z ∙ eq-eqb _ _ (sym letter ∙ e))

pub read_right : (s : Checker) (rec : List ℕ) {r : Record} → Follows s.dir s.batch s.phase r → AllKept (rules_of (fields_of r) s.dir rec)
    → line_is s rec ≡ Some r
read_right s rec {r} f k =
    read_by s rec f (type_at r s.dir rec k)
    (λ e. letter_at SegmentZ s.dir rec (subst (λ (x : Record). AllKept (rules_of (fields_of x) s.dir rec)) e k) refl refl)
    (not_z s.dir rec k)

-- ---- the rules of a record

module _ (s : Checker) (rec : List ℕ) where
  -- the rule that a field reads a number; what reads one is digits
  is_read : (f : Field) (k : ℕ) → number_fits (λ n. eqb n k) (number_of (part f rec)) ≡ true → number_of (part f rec) ≡ Some k
  is_read f k e = is_number k (number_of (part f rec)) e

  read_is : (f : Field) (k : ℕ) → number_of (part f rec) ≡ Some k → number_fits (λ n. eqb n k) (number_of (part f rec)) ≡ true
  read_is f k e = rw e (eq-eqb k k refl)

  -- bank and batch number, in front of other rules
  ahead : (k : ℕ) (rs : List Rule) → number_of (part bank_field rec) ≡ Some s.bank → number_of (part batch_field rec) ≡ Some k → AllKept rs
      → AllKept (bank s rec ∷ batch_number k rec ∷ rs)
  ahead k rs e h kept = more_kept _ _ (read_is bank_field _ e) (more_kept _ _ (read_is batch_field _ h) kept)

  digits_in : (f : Field) (k : ℕ) → number_of (part f rec) ≡ Some k → all_digits (part f rec) ≡ true
  digits_in f k e = eq-eqb _ _ (all_leading (part f rec) (given (part f rec) k e).digits)

  line_kept : (r : Record) → length rec ≡ record_bytes → place type_place rec ≡ type_of r → all_digits (part bank_field rec) ≡ true
      → all_digits (part batch_field rec) ≡ true → AllKept (rules_of (line r) s.dir rec)
  unfolding AllKept rules_of
  line_kept r long type bank batch = (bank, (batch, (rw (one_place 7 rec (omega arith), type) (same_self (type_of r ∷ [])), tt)))

  -- all fields, from the first three and the others
  all_kept : (r : Record) → length rec ≡ record_bytes → place type_place rec ≡ type_of r → all_digits (part bank_field rec) ≡ true
      → all_digits (part batch_field rec) ≡ true → AllKept (rules_of (behind type_place r) s.dir rec) → AllKept (rules_of (fields_of r) s.dir rec)
  all_kept r long type bank batch k = rw (line_first r) (fields_join (line r) _ s.dir rec (line_kept r long type bank batch) k)

  -- some of the fields, where all are right
  some_kept : (r : Record) (a b : ℕ) → AllKept (rules_of (fields_of r) s.dir rec) → AllKept (rules_of (within a b (fields_of r)) s.dir rec)
  some_kept r a b = within_kept a b (fields_of r) s.dir rec

  -- ---- a detail, of whichever kind

  module _ (r : Record) (o : DetailRow r) where
    detail_fits : length rec ≡ record_bytes → place type_place rec ≡ type_of r → AllKept (rules_of_type Detail r s rec) → Own r s rec
    unfolding AllKept AllRead rules_of rules_of_type
    detail_fits long type k =
        let marks = rules_of (segment_fields r) s.dir rec in
        let then = rule 20 segment_place (leb (payment_count s.current + payments_of r) most_payments) ∷ rules_of (behind segment_place r) s.dir rec in
        let bank = is_read bank_field s.bank k.0 in
        let batch = is_read batch_field (ordinal s) k.1.0 in
        let number = is_read number_field (record_count s.current) k.1.1.0 in
        let later = kept_behind marks then k.1.1.1 in
        let front = digits_in number_field (record_count s.current) number in
        let behind_type : AllKept (rules_of (number_field ∷ (segment_fields r ++ behind segment_place r)) s.dir rec) =
        (front, fields_join (segment_fields r) (behind segment_place r) s.dir rec (kept_front marks then k.1.1.1) later.1) in
        record {
          fields = all_kept r long type (digits_in bank_field _ bank) (digits_in batch_field _ batch) (rw o.begun behind_type);
          numbers = rw (o.asks s) (bank, (batch, (number, tt)));
          limit = (o.limits s).0 (leb-true _ _ later.0);
        }

    detail_kept : Own r s rec → AllKept (rules_of_type Detail r s rec)
    unfolding AllRead rules_of_type
    detail_kept b =
        let marks = marks_kept r s.dir rec b.fields o in
        let n : AllRead (in_detail s) rec = rw (o.asks s) at b.numbers in
        kept_join _ _
        (ahead _ _ n.0 n.1.0 (more_kept _ _ (read_is number_field _ n.1.1.0) marks))
        (more_kept _ _ (le-leb _ _ ((o.limits s).1 b.limit)) (some_kept r _ _ b.fields))

  -- ---- headers and trailers

  file_header_fits : length rec ≡ record_bytes → place type_place rec ≡ type_of FileHeader → AllKept (rules_of_type FileFirst FileHeader s rec) → Own FileHeader s rec
  unfolding AllKept AllRead rules_of rules_of_type fields_of within
  file_header_fits long type k =
      let batch = is_read batch_field header_batch k.1.0 in
      record { fields = all_kept FileHeader long type k.0 (digits_in batch_field _ batch) k.1.1; numbers = (batch, tt); limit = tt }

  file_header_kept : Own FileHeader s rec → AllKept (rules_of_type FileFirst FileHeader s rec)
  unfolding AllRead rules_of_type
  file_header_kept b =
      more_kept _ _ (bank_digits s.dir rec b.fields) (more_kept _ _ (read_is batch_field _ b.numbers.0) (some_kept FileHeader _ _ b.fields))

  batch_header_fits : length rec ≡ record_bytes → place type_place rec ≡ type_of BatchHeader → AllKept (rules_of_type BatchFirst BatchHeader s rec) → Own BatchHeader s rec
  unfolding AllKept AllRead rules_of rules_of_type fields_of within
  batch_header_fits long type k =
      let bank = is_read bank_field s.bank k.1.0 in
      let batch = is_read batch_field (ordinal s) k.1.1.0 in
      record {
        fields = all_kept BatchHeader long type (digits_in bank_field _ bank) (digits_in batch_field _ batch) k.1.1.1;
        numbers = (bank, (batch, tt));
        limit = leb-true _ _ k.0;
      }

  batch_header_kept : Own BatchHeader s rec → AllKept (rules_of_type BatchFirst BatchHeader s rec)
  unfolding AllRead rules_of_type
  batch_header_kept b =
      let n = b.numbers in
      more_kept _ _ (le-leb _ _ b.limit) (ahead _ _ n.0 n.1.0 (some_kept BatchHeader _ _ b.fields))

  batch_trailer_fits : length rec ≡ record_bytes → place type_place rec ≡ type_of BatchTrailer → AllKept (rules_of_type BatchLast BatchTrailer s rec) → Own BatchTrailer s rec
  unfolding AllKept AllRead rules_of rules_of_type fields_of within
  batch_trailer_fits long type k =
      let early = between type_place batch_records.to BatchTrailer in
      let late = behind batch_records.to BatchTrailer in
      let counted = reads 21 batch_records (record_count s.current + 1) rec ∷ rules_of late s.dir rec in
      let ends = reads 22 batch_sum (cent_sum s.current) rec ∷ rule 23 batch_sum.from (ltb (cent_sum s.closed + cent_sum s.current) file_cents) ∷ [] in
      let fields = kept_front (rules_of early s.dir rec ++ counted) ends k.1.1 in
      let last = kept_behind (rules_of early s.dir rec ++ counted) ends k.1.1 in
      let counts = kept_behind (rules_of early s.dir rec) counted fields in
      let bank = is_read bank_field s.bank k.0 in
      let batch = is_read batch_field (ordinal s) k.1.0 in
      record {
        fields =
            all_kept BatchTrailer long type (digits_in bank_field _ bank) (digits_in batch_field _ batch)
            (fields_join early late s.dir rec (kept_front (rules_of early s.dir rec) counted fields) counts.1);
        numbers = (bank, (batch, (is_read batch_records _ counts.0, (is_read batch_sum _ last.0, tt))));
        limit = ltb-true _ _ last.1.0;
      }

  batch_trailer_kept : Own BatchTrailer s rec → AllKept (rules_of_type BatchLast BatchTrailer s rec)
  unfolding AllRead rules_of_type
  batch_trailer_kept b =
      let n = b.numbers in
      let some : (i j : ℕ) → AllKept (rules_of (within i j (fields_of BatchTrailer)) s.dir rec) = λ i j. some_kept BatchTrailer i j b.fields in
      kept_join _ _
      (kept_join _ _
      (ahead _ _ n.0 n.1.0 (some _ _))
      (more_kept _ _ (read_is batch_records _ n.1.1.0) (some _ _)))
      (more_kept _ _ (read_is batch_sum _ n.1.1.1.0) (more_kept _ _ (lt-ltb _ _ b.limit) none_kept))

  file_trailer_fits : length rec ≡ record_bytes → place type_place rec ≡ type_of FileTrailer → AllKept (rules_of_type FileLast FileTrailer s rec) → Own FileTrailer s rec
  unfolding AllKept AllRead rules_of rules_of_type fields_of within
  file_trailer_fits long type k =
      let early = between type_place file_batches.to FileTrailer in
      let middle = between file_batches.to file_records.to FileTrailer in
      let late = behind file_records.to FileTrailer in
      let batches = reads 21 file_batches (batch_count s.closed) rec ∷ rules_of middle s.dir rec in
      let records = reads 21 file_records (record_count s.closed + 1) rec ∷ rules_of late s.dir rec in
      let fields = kept_front (rules_of early s.dir rec ++ batches) records k.1.1 in
      let last = kept_behind (rules_of early s.dir rec ++ batches) records k.1.1 in
      let counts = kept_behind (rules_of early s.dir rec) batches fields in
      let bank = is_read bank_field s.bank k.0 in
      let batch = is_read batch_field trailer_batch k.1.0 in
      record {
        fields =
            all_kept FileTrailer long type (digits_in bank_field _ bank) (digits_in batch_field _ batch)
            (fields_join early (middle ++ late) s.dir rec (kept_front (rules_of early s.dir rec) batches fields)
            (fields_join middle late s.dir rec counts.1 last.1));
        numbers = (bank, (batch, (is_read file_batches _ counts.0, (is_read file_records _ last.0, tt))));
        limit = tt;
      }

  file_trailer_kept : Own FileTrailer s rec → AllKept (rules_of_type FileLast FileTrailer s rec)
  unfolding AllRead rules_of_type
  file_trailer_kept b =
      let n = b.numbers in
      let some : (i j : ℕ) → AllKept (rules_of (within i j (fields_of FileTrailer)) s.dir rec) = λ i j. some_kept FileTrailer i j b.fields in
      kept_join _ _
      (kept_join _ _
      (ahead _ _ n.0 n.1.0 (some _ _))
      (more_kept _ _ (read_is file_batches _ n.1.1.0) (some _ _)))
      (more_kept _ _ (read_is file_records _ n.1.1.1.0) (some _ _))

  -- ---- each record

  own_fits : (r : Record) → length rec ≡ record_bytes → place type_place rec ≡ type_of r → AllKept (rules_of_type (shape_of r).line r s rec) → Own r s rec
  own_fits =
      by_type (λ r. length rec ≡ record_bytes → place type_place rec ≡ type_of r → AllKept (rules_of_type (shape_of r).line r s rec) → Own r s rec)
      file_header_fits batch_header_fits (λ r e long type k. detail_fits r (detail_row r e) long type (rw e at k)) batch_trailer_fits file_trailer_fits

  own_kept : (r : Record) → Own r s rec → AllKept (rules_of_type (shape_of r).line r s rec)
  own_kept =
      by_type (λ r. Own r s rec → AllKept (rules_of_type (shape_of r).line r s rec))
      file_header_kept batch_header_kept (λ r e b. rw e (detail_kept r (detail_row r e) b)) batch_trailer_kept file_trailer_kept

  pub record_fits : (r : Record) → length rec ≡ record_bytes → place type_place rec ≡ type_of r → AllKept (rules_as r s rec) → Body r s rec
  unfolding rules_as
  record_fits r long type k =
      let own = rules_of_type (shape_of r).line r s rec in
      let b = own_fits r long type (kept_front own (house_rules r rec) k) in
      record { fields = b.fields; house = kept_behind own (house_rules r rec) k; numbers = b.numbers; limit = b.limit }

  pub record_kept : (r : Record) → Body r s rec → AllKept (rules_as r s rec)
  unfolding rules_as
  record_kept r b = kept_join _ _ (own_kept r (record { fields = b.fields; numbers = b.numbers; limit = b.limit })) b.house

  -- beside the house rules all is right: then the house answers
  pub record_answers : (r : Record) → AllKept (rules_of (fields_of r) s.dir rec) → AllRead (asked r s) rec → Limit r s
      → first_broken (rules_as r s rec) ≡ first_broken (house_rules r rec)
  unfolding rules_as
  record_answers r f n l =
      let own = rules_of_type (shape_of r).line r s rec in
      sym (gone_on own (house_rules r rec) (kept_accepted own (own_kept r (record { fields = f; numbers = n; limit = l }))))
