-- A caller who makes fields and never says that one is not given: every number is given, and the record is made of the numbers and the text alone.
-- Assumes nothing.
use Rattle.std.specs.Prelude.{◌≡◌, Bool, true, false, cond, ℕ, zero, suc, ◌+◌, ◌≤◌, ◌<◌, ltb, eqb, length, map, set, None, Option, Some}
use Rattle.std.proofs.Math.Path.{refl, sym, ap}
use Rattle.std.proofs.Common.{ap₂, ◌∙◌, arith, eqb-true, get_or-set_same, get_or-set_other}
use mathlib.Core.List.{List, [], ◌∷◌, ◌++◌}
use Rattle.std.proofs.Math.Nat.{add-zero, zero-add}
use Rattle.std.proofs.Math.Numerals.{add-one}
use Rattle.std.proofs.lemmas.Bool.{eqb-false}
use Rattle.std.proofs.Math.ListN.{get_or, drop}
use Rattle.std.proofs.lemmas.List.{get_or-replicate}
use Rattle.std.proofs.Math.Seq.{get_or-drop, drop-drop}
use Rattle.answer.proofs.laws.Order.{never}
use Rattle.digits.specs.Numbers.{numeral}
use Rattle.layout.specs.Field.{Field, part}
use Rattle.layout.specs.Table.{fields_of}
use Rattle.layout.specs.Kinds.{Held, a_number, as_bytes, as_fixed}
use Rattle.layout.specs.declared.Record.{Record}
use Rattle.layout.specs.declared.names.Name.{Name}
use Rattle.fields.specs.Values.{held_as, nth, is_given, or_zero, number_bytes, rendered, joined, record_of, most_fields, all_as, is_of, unless_spoiled, taken_as, with_number, with_text, Whole}
use Rattle.fields.proofs.laws.Parts.{few}
use Rattle.fields.specs.declared.Fields.{Fields}

pub record AllGiven (v : Fields) : Type 0 where
  pub each : (j : ℕ) → j < most_fields → is_given (nth j v) ≡ true

-- ---- no call that makes or sets fields takes one away, but `not_given`

-- fields that are new, with no text or blanks, or spoiled
pub all-as : (n b : ℕ) (r : Record) → AllGiven (all_as n b r)
all-as n b r = record { each = λ j h. ap is_given (get_or-replicate {A = Option ℕ} most_fields j (Some n) None h) }

unless-spoiled : (right : Bool) (r : Record) {v : Fields} → AllGiven v → AllGiven (unless_spoiled right r v)
unless-spoiled true r a = a
unless-spoiled false r a = all-as _ _ r

pub with-number : (name : Name) (n : ℕ) {v : Fields} → Whole v → AllGiven v → AllGiven (with_number name n v)
with-number name n {v} whole a = unless-spoiled (is_of name.0 v) v.which (record { each = λ j h. go j h (ltb name.1 most_fields) (eqb j name.1) refl })
  where
    go : (j : ℕ) → j < most_fields → (b t : Bool) → eqb j name.1 ≡ t → is_given (get_or (cond b (set v.numbers name.1 (Some n)) v.numbers) j None) ≡ true
    go j h true true e =
        let same = eqb-true j name.1 e in
        rw same (ap is_given (get_or-set_same v.numbers name.1 (Some n) None (omega (arith, whole.numbers, same))))
    go j h true false e = ap is_given (get_or-set_other v.numbers name.1 j (Some n) None (eqb-false j name.1 e)) ∙ a.each j h
    go j h false t e = a.each j h

pub with-text : (name : Name) (bs : List ℕ) {v : Fields} → AllGiven v → AllGiven (with_text name bs v)
with-text name bs {v} a = unless-spoiled (is_of name.0 v) v.which (record { each = a.each })

pub taken-as : (r : Record) {v : Fields} → AllGiven v → AllGiven (taken_as r v)
taken-as r {v} a = record { each = (unless-spoiled (is_of r v) r a).each }

-- ---- what is written

-- a field's bytes, from a number and a text
abbrev pub plainly : Held → ℕ → List ℕ → List ℕ
plainly (a_number p) n bs = numeral (length bs) n
plainly as_bytes n bs = bs
plainly (as_fixed content) n bs = content (length bs)

-- fields, one behind the other: each takes the next number, and the text at its places
unfoldable pub plain : List Field → List ℕ → List ℕ → List ℕ
plain [] ns text = []
plain (f ∷ fs) ns text = plainly (held_as f) (get_or ns 0 0) (part f text) ++ plain fs (drop 1 ns) text

-- the numbers of a value of which each is given
abbrev pub given_numbers : Fields → List ℕ
given_numbers v = map or_zero v.numbers

number_there : (ms : List (Option ℕ)) (i : ℕ) → get_or (map or_zero ms) i 0 ≡ or_zero (get_or ms i None)
number_there [] i = refl
number_there (m ∷ ms) zero = refl
number_there (m ∷ ms) (suc i) = number_there ms i

given_some : (m : Option ℕ) → is_given m ≡ true → m ≡ Some (or_zero m)
given_some (Some n) e = refl
given_some None e = never e

module _ (v : Fields) (a : AllGiven v) where
  one_plain : (h : Held) (i : ℕ) (bs : List ℕ) → i < most_fields → rendered h (nth i v) bs ≡ plainly h (get_or (given_numbers v) i 0) bs
  one_plain (a_number p) i bs l =
      ap (number_bytes (length bs)) (given_some (nth i v) (a.each i l)) ∙ ap (numeral (length bs)) (sym (number_there v.numbers i))
  one_plain as_bytes i bs l = refl
  one_plain (as_fixed content) i bs l = refl

  plain_from : (fs : List Field) (i : ℕ) → i + length fs ≤ most_fields → joined fs i v ≡ plain fs (drop i (given_numbers v)) v.text
  unfolding joined plain
  plain_from [] i h = refl
  plain_from (f ∷ fs) i h =
      let ns = given_numbers v in
      let first : get_or (drop i ns) 0 0 ≡ get_or ns i 0 = get_or-drop i ns 0 0 ∙ rw add-zero in
      let others : drop 1 (drop i ns) ≡ drop (suc i) ns = drop-drop 1 i ns ∙ rw add-one in
      rw (first, others) (ap₂ ◌++◌ (one_plain (held_as f) i (part f v.text) (omega arith)) (plain_from fs (suc i) (omega arith)))

  pub as_before : (r : Record) → record_of r v ≡ plain (fields_of r) (given_numbers v) v.text
  unfolding record_of
  as_before r = plain_from (fields_of r) 0 (rw zero-add (few r))
