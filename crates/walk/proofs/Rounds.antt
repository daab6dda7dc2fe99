-- The walk over a record's fields and their bytes, on plain lists: one byte more, the first that is wrong, and the end. Assumes nothing.
use Rattle.std.specs.Prelude.{Err, Ok}
use mathlib.Core.Path.{◌≡◌, refl, sym, ap, ◌∙◌, subst⁻¹}
use mathlib.Core.Logic.{◌≢◌}
use mathlib.Core.Bool.{Bool, true, false, not, ◌&&◌}
use mathlib.Core.List.{List, [], ◌∷◌, ◌++◌}
use Prim.Native.Nat.{ℕ, suc, ◌+◌, ◌≤◌, ◌<◌}
use native.Mathlib.Nat.{le_antisymm}
use native.Mathlib.Numerals.{add-one}
use native.Mathlib.Omega.{arith}
use borrow.Author.Tests.{not-true, not-false, eq-eqb, ne_eqb}
use lib.Dec.{eqb}
use lib.ListN.{length, get_or, drop, drop_of_length-le}
use lib.Seq.{slice, slice-cons, slice_empty}
use Rattle.answer.specs.Rules.{Rule, rule, first_broken, refused_as, and_then}
use Rattle.answer.proofs.laws.Order.{past, here, done, one_then, gone_on, stopped}
use Rattle.answer.specs.declared.Refusal.{Refusal}
use Rattle.digits.specs.Digits.{is_digit, leading, all_digits, places}
use Rattle.digits.proofs.laws.Strings.{leading_drop}
use Rattle.layout.specs.inner.Lent.{kind_of, is_whole, field_count, byte_at, content_of}
use Rattle.layout.specs.Field.{none}
use Rattle.layout.specs.Table.{type_field, segment_fields, marks, all}
use Rattle.layout.specs.Kinds.{a_part, means, same}
use Rattle.layout.specs.Record.{rules_of}
use Rattle.walk.specs.inner.Masks.{Right, Known}
use Rattle.layout.proofs.laws.Bytes.{same_turn, same_end}
use Rattle.layout.proofs.laws.Contents.{length_tab, get_or_tab}
use Rattle.layout.proofs.laws.Columns.{all_length, no_segment}
use Rattle.layout.specs.inner.Entries.{Stands}
use Rattle.walk.proofs.laws.Masks.{enough}
use Rattle.layout.specs.Records.{shape_of, is_detail}
use Rattle.layout.specs.declared.fixed.Content.{Content}
use Rattle.layout.specs.declared.Direction.{Direction}
use Rattle.layout.specs.declared.Record.{Record}

-- ---- a field's bytes

-- the digits are i and those that the rest begins with
module _ (s : List ℕ) (i : ℕ) (e : i + leading (drop i s) ≡ leading s) where
  module _ (h : i < length s) where
    pub digit_more : not (is_digit (get_or s i 0)) ≡ false → i + 1 + leading (drop (i + 1) s) ≡ leading s
    digit_more t = rw add-one (omega (arith, rw (not-false (is_digit (get_or s i 0)) t) at (leading_drop s i h)))

    pub digit_wrong : not (is_digit (get_or s i 0)) ≡ true → all_digits s ≡ false
    digit_wrong t =
        let few : leading s ≢ length s = omega (arith, rw (not-true (is_digit (get_or s i 0)) t) at (leading_drop s i h)) in
        ne_eqb _ _ few

  pub digits_end : i ≤ length s → length s ≤ i → all_digits s ≡ true
  unfolding leading
  digits_end h l =
      let all : leading s ≡ length s = omega (arith, rw (drop_of_length-le s {i = i} l) at e) in
      eq-eqb _ _ all

-- the rest is the content just if all is
pub record Compared (c : Content) (part : List ℕ) (i : ℕ) : Type 0 where
  pub rest : same (drop i (content_of c (length part))) (drop i part) ≡ same (content_of c (length part)) part

module _ {c : Content} {part : List ℕ} {i : ℕ} (e : Compared c part i) where
  abbrev content : List ℕ
  content = content_of c (length part)

  long : length content ≡ length part
  long = length_tab (length part) (byte_at c)

  module _ {b : ℕ} (at : b ≡ byte_at c i) (h : i < length part) where
    there : b ≡ get_or content i 0
    there = at ∙ sym (get_or_tab (length part) (byte_at c) i h)

    turn : same (drop i content) (drop i part) ≡ eqb (get_or content i 0) (get_or part i 0) && same (drop (suc i) content) (drop (suc i) part)
    turn = same_turn content part i (rw long h) h

    pub byte_more : get_or part i 0 ≡ b → Compared c part (i + 1)
    byte_more q = record { rest = rw add-one (sym (turn ∙ rw (eq-eqb (get_or content i 0) (get_or part i 0) (sym (q ∙ there)))) ∙ e.rest) }

    pub byte_wrong : (get_or part i 0 ≡ b → ⊥) → same content part ≡ false
    byte_wrong q = sym e.rest ∙ turn ∙ rw (ne_eqb (get_or content i 0) (get_or part i 0) (λ p. q (sym p ∙ sym there)))

  pub content_end : length part ≤ i → same content part ≡ true
  content_end l = sym e.rest ∙ same_end content part i (rw long l) l

-- ---- its rules

-- a field's only rule, kept and broken
module _ {rules : List Rule} {number place : ℕ} {kept : Bool} (e : rules ≡ rule number place kept ∷ []) where
  pub only_kept : kept ≡ true → first_broken rules ≡ Ok tt
  only_kept k = ap first_broken e ∙ sym (past _ _ _ _ _ k done)

  pub only_broken : kept ≡ false → refused_as number place ≡ first_broken rules
  only_broken k = here _ _ _ _ k ∙ sym (ap first_broken e)

-- the answer for the fields from f on, where field f is right, and where it is not
pub record Here (rec : List ℕ) (d : Direction) (f past : ℕ) (rules : List Rule) : Type 0 where
  pub good : first_broken rules ≡ Ok tt → first_broken (rules_of (slice (f + 1) past all) d rec) ≡ first_broken (rules_of (slice f past all) d rec)
  pub bad : {r : Refusal} → Err r ≡ first_broken rules → Err r ≡ first_broken (rules_of (slice f past all) d rec)

module _ (rec : List ℕ) (d : Direction) (f past : ℕ) where
  module _ {from to k : ℕ} (h : f < past) (l : past ≤ field_count) (s : Stands f from to k) where
    opened : rules_of (slice f past all) d rec ≡ (means (kind_of k)).rules (a_part from (places from to rec) rec d) ++ rules_of (slice (f + 1) past all) d rec
    unfolding rules_of
    opened = let l' : past ≤ length all = rw all_length l in rw (add-one, slice-cons f past all none h l', ← s.is)

    pub here_at : Here rec d f past ((means (kind_of k)).rules (a_part from (places from to rec) rec d))
    here_at = record { good = λ t. rw opened (gone_on _ _ t); bad = λ {r} t. rw opened (stopped _ _ r (sym t)) }

  -- what the masks have tested
  pub skip_at : {masked : Bool} {first from to k : ℕ} → Known masked first past d rec → masked ≡ true → first ≤ f → f < past → Stands f from to k → is_whole k ≡ false
      → first_broken ((means (kind_of k)).rules (a_part from (places from to rec) rec d)) ≡ Ok tt
  skip_at {k} known m l h s w = subst⁻¹ (Right d rec) s.is (known.each m f l h) (enough k w)

  pub finished : f ≤ past → past ≤ f → (Ok tt) ≡ first_broken (rules_of (slice f past all) d rec)
  unfolding rules_of
  finished h l = rw (le_antisymm h l, slice_empty) done

-- ---- type and segment

module _ (r : Record) (d : Direction) (rec : List ℕ) where
  pub type_alone : is_detail (shape_of r).line ≡ false → first_broken (rules_of (type_field r ∷ []) d rec) ≡ first_broken (rules_of (marks r) d rec)
  type_alone e = rw (no_segment r e)

  pub type_then : and_then (first_broken (rules_of (type_field r ∷ []) d rec)) (first_broken (rules_of (segment_fields r) d rec)) ≡ first_broken (rules_of (marks r) d rec)
  unfolding rules_of
  type_then = one_then _ _ _ refl
