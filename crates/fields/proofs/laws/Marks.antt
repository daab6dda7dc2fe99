-- The type and the segment of a record that is made are right: they are filled. Then its answer is that of its bytes and its fields. Assumes nothing.
use Rattle.std.specs.Prelude.{◌≡◌, refl, Bool, true, false, cond, [], ◌∷◌, ◌++◌, ℕ, ◌<◌, length, get_or, Err}
use Rattle.std.proofs.Common.{sym, ap, ◌∙◌, arith, eq-eqb}
use Rattle.answer.specs.Rules.{first_broken, AllKept}
use Rattle.answer.proofs.laws.Order.{past, gone_on, kept_accepted}
use Rattle.answer.specs.Rules.{Answer}
use Rattle.layout.specs.Field.{Field, part, none}
use Rattle.layout.specs.Table.{type_field, segment_field, marks, fields_of, record_bytes}
use Rattle.layout.specs.Kinds.{Held, as_fixed, text, same}
use Rattle.layout.specs.Record.{rules_of, byte_rule, record_rules}
use Rattle.layout.proofs.laws.Bytes.{same_self}
use Rattle.layout.specs.declared.Direction.{Direction}
use Rattle.layout.specs.declared.Record.{Record}
use Rattle.layout.specs.Records.{shape_of, is_detail, type_of, letter_of}
use Rattle.layout.proofs.laws.Columns.{five}
use Rattle.fields.specs.Values.{held_as, nth, rendered, record_of}
use Rattle.fields.proofs.laws.Parts.{record_length, holds}
use Rattle.fields.specs.declared.Fields.{Fields}

module _ (r : Record) (v : Fields) (full : length v.text ≡ record_bytes) where
  -- a field of one fixed byte holds it
  mark : (j b : ℕ) (f : Field) → j < length (fields_of r) → get_or (fields_of r) j none ≡ f → held_as f ≡ as_fixed (text (b ∷ [])) → same (b ∷ []) (part f (record_of r v)) ≡ true
  mark j b f h e q =
      let is : part f (record_of r v) ≡ b ∷ [] = (rw e at (holds r v full j h)) ∙ ap (λ (x : Held). rendered x (nth j v) (part f v.text)) q in
      rw is (same_self (b ∷ []))

-- the type stands third among a record's fields, and a detail's segment fifth
pub marks_kept : (r : Record) (d : Direction) (v : Fields) → length v.text ≡ record_bytes → AllKept (rules_of (marks r) d (record_of r v))
unfolding AllKept rules_of fields_of
marks_kept r d v full = (mark r v full 2 (type_of r) (type_field r) (omega (arith, five r)) refl refl, segment (is_detail (shape_of r).line) refl)
  where
    segment : (b : Bool) → is_detail (shape_of r).line ≡ b → AllKept (rules_of (cond b (segment_field (letter_of r) ∷ []) []) d (record_of r v))
    segment true q = (mark r v full 4 (letter_of r) (segment_field (letter_of r)) (five r) (rw q) refl, tt)
    segment false q = tt

-- the answer to a record that is made
pub made_answer : (r : Record) (d : Direction) (v : Fields) → length v.text ≡ record_bytes
    → first_broken (record_rules r d (record_of r v)) ≡ first_broken (byte_rule (record_of r v) ∷ rules_of (fields_of r) d (record_of r v))
unfolding record_rules first_broken
made_answer r d v full =
    let rec = record_of r v in
    let fields = rules_of (fields_of r) d rec in
    let behind : first_broken (rules_of (marks r) d rec ++ fields) ≡ first_broken fields = sym (gone_on (rules_of (marks r) d rec) fields (kept_accepted _ (marks_kept r d v full))) in
    sym (past 1 0 _ (byte_rule rec ∷ (rules_of (marks r) d rec ++ fields)) _ (eq-eqb _ _ (record_length r v full)) refl)
    ∙ ap (λ (a : Answer). cond (byte_rule rec).kept a (Err (byte_rule rec).refused)) behind
