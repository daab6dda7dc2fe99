-- The fields of a line behind its head, and its segment. Assumes nothing.
use mathlib.Core.Path.{◌≡◌, refl, sym, ap, ◌∙◌}
use mathlib.Core.Bool.{Bool, true, false, and-true}
use mathlib.Core.List.{List, [], ◌∷◌, ◌++◌, append_assoc}
use Prim.Native.Nat.{ℕ, ◌+◌}
use native.Mathlib.Omega.{arith}
use borrow.Author.Tests.{eq-eqb, ne_eqb, eqb-true, eqb-false}
use lib.Dec.{leb, eqb}
use lib.ListN.{length, get_or, drop}
use lib.Seq.{slice, drop-cons}
use Rattle.answer.specs.Rules.{Rule, rule, first_broken}
use Rattle.answer.specs.Rules.{Answer}
use Rattle.answer.proofs.laws.Order.{past}
use Rattle.layout.specs.Table.{own, fields_of, record_bytes, type_place, number_field, segment_place, segment_field, segment_fields, batch_records, file_batches, file_records}
use Rattle.layout.specs.Kinds.{same}
use Rattle.layout.specs.Record.{rules_of, some_rules}
use Rattle.layout.specs.declared.Direction.{Direction}
use Rattle.layout.specs.declared.Record.{Record}
use Rattle.layout.specs.declared.Record.TheVariants.{FileHeader, BatchHeader, BatchTrailer, FileTrailer}
use Rattle.layout.specs.declared.shapes.LineType.TheVariants.{Detail}
use Rattle.layout.specs.Field.{Field}
use Rattle.layout.specs.Records.{shape_of, letter_of}
use Rattle.layout.specs.inner.Lent.{field_count}
use Rattle.layout.proofs.laws.Columns.{all_fields}
use Rattle.checker.proofs.laws.Details.{behind_segment}
use Rattle.checker.specs.Totals.{record_count, payment_count, payments_of}
use Rattle.checker.specs.Line.{reads, bank, batch_number, ordinal, most_payments, within, behind, between, rules_of_type}
use Rattle.checker.specs.inner.Steps.{detail_head}
use Rattle.checker.specs.declared.Checker.{Checker}

-- the answer of some fields of a record that has its length
some : (r : Record) (d : Direction) (f p : ℕ) (rec : List ℕ) → length rec ≡ record_bytes → first_broken (some_rules r d f p rec) ≡ first_broken (rules_of (slice f p (fields_of r)) d rec)
some r d f p rec l = sym (past 1 0 _ (rules_of (slice f p (fields_of r)) d rec) _ (eq-eqb _ _ l) refl)

behind_five : (r : Record) → (shape_of r).line ≡ Detail → drop 5 (fields_of r) ≡ own r
unfolding fields_of
behind_five r k = rw k

-- where the fields behind a place stand in the table
module _ (d : Direction) (rec : List ℕ) (l : length rec ≡ record_bytes) {a : Answer} where
  pub file-header : a ≡ first_broken (some_rules FileHeader d 3 field_count rec) → a ≡ first_broken (rules_of (behind type_place FileHeader) d rec)
  unfolding fields_of within
  file-header e = e ∙ some FileHeader d 3 field_count rec l

  pub batch-header : a ≡ first_broken (some_rules BatchHeader d 3 field_count rec) → a ≡ first_broken (rules_of (behind type_place BatchHeader) d rec)
  unfolding fields_of within
  batch-header e = e ∙ some BatchHeader d 3 field_count rec l

  pub body : (r : Record) → (shape_of r).line ≡ Detail → a ≡ first_broken (some_rules r d 5 field_count rec) → a ≡ first_broken (rules_of (behind segment_place r) d rec)
  body r k e =
      e ∙ some r d 5 field_count rec l ∙ ap (λ (fs : List Field). first_broken (rules_of fs d rec)) (ap (drop 5) (all_fields r) ∙ behind_five r k ∙ sym (behind_segment r k))

  pub to_batch_records : a ≡ first_broken (some_rules BatchTrailer d 3 5 rec) → a ≡ first_broken (rules_of (between type_place batch_records.to BatchTrailer) d rec)
  unfolding fields_of within
  to_batch_records e = e ∙ some BatchTrailer d 3 5 rec l

  pub from_batch_records : a ≡ first_broken (some_rules BatchTrailer d 5 (length (fields_of BatchTrailer)) rec) → a ≡ first_broken (rules_of (behind batch_records.to BatchTrailer) d rec)
  unfolding fields_of within
  from_batch_records e = e ∙ some BatchTrailer d 5 (length (fields_of BatchTrailer)) rec l

  pub to_file_batches : a ≡ first_broken (some_rules FileTrailer d 3 5 rec) → a ≡ first_broken (rules_of (between type_place file_batches.to FileTrailer) d rec)
  unfolding fields_of within
  to_file_batches e = e ∙ some FileTrailer d 3 5 rec l

  pub to_file_records : a ≡ first_broken (some_rules FileTrailer d 5 6 rec) → a ≡ first_broken (rules_of (between file_batches.to file_records.to FileTrailer) d rec)
  unfolding fields_of within
  to_file_records e = e ∙ some FileTrailer d 5 6 rec l

  pub from_file_records : a ≡ first_broken (some_rules FileTrailer d 6 (length (fields_of FileTrailer)) rec) → a ≡ first_broken (rules_of (behind file_records.to FileTrailer) d rec)
  unfolding fields_of within
  from_file_records e = e ∙ some FileTrailer d 6 (length (fields_of FileTrailer)) rec l

-- ---- the segment

eqb_flip : (a b : ℕ) (k : Bool) → eqb a b ≡ k → k ≡ eqb b a
eqb_flip a b true e = sym (eq-eqb b a (sym (eqb-true a b e)))
eqb_flip a b false e = sym (ne_eqb b a (λ q. eqb-false a b e (sym q)))

module _ (d : Direction) (rec : List ℕ) (l : length rec ≡ record_bytes) where
  letter_rule : (x : ℕ) → first_broken (rule 11 segment_place (eqb (get_or rec 13 0) x) ∷ []) ≡ first_broken (rules_of (segment_field x ∷ []) d rec)
  unfolding rules_of same
  letter_rule x = rw (drop-cons rec 13 0 (omega arith)) (rw (eqb_flip (get_or rec 13 0) x (eqb (get_or rec 13 0) x) refl, and-true))

  pub segment_rule : (r : Record) → (shape_of r).line ≡ Detail
      → first_broken (rule 11 segment_place (eqb (get_or rec 13 0) (letter_of r)) ∷ []) ≡ first_broken (rules_of (segment_fields r) d rec)
  segment_rule r k = rw k (letter_rule (letter_of r))

-- ---- a detail's head, and its body behind it

pub head_joined : (r : Record) (s : Checker) (rec : List ℕ) → first_broken (detail_head r s rec ++ rules_of (behind segment_place r) s.dir rec) ≡ first_broken (rules_of_type Detail r s rec)
unfolding rules_of_type
head_joined r s rec =
    let limit = rule 20 segment_place (leb (payment_count s.current + payments_of r) most_payments) in
    ap (λ (l : List Rule). first_broken (bank s rec ∷ batch_number (ordinal s) rec ∷ reads 10 number_field (record_count s.current) rec ∷ l))
    (append_assoc (rules_of (segment_fields r) s.dir rec) (limit ∷ []) (rules_of (behind segment_place r) s.dir rec))
