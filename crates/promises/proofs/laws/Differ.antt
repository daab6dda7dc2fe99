-- Two lists of bytes that differ at one place: a part that does not hold the place is the same in both, and one that is the same does not hold it.
-- Assumes nothing.
use Rattle.std.specs.Prelude.{◌≡◌, ◌≢◌, true, List, ℕ, ◌+◌, ◌-◌, ◌≤◌, ◌<◌, length, get_or, drop, set, Some}
use Rattle.std.proofs.Common.{sym, ap, ◌∙◌, arith, eqb-true, le-leb, length-set, length-take, length-drop, get_or-take, get_or-drop, get_or-set_same, get_or-set_other, ext_get_or}
use Rattle.digits.specs.Digits.{all_digits, place}
use Rattle.digits.specs.Numbers.{most_digits, number_of, value}
use Rattle.digits.proofs.laws.Strings.{part_get_or, leading_all}
use Rattle.digits.proofs.laws.Numerals.{number_inj, given}
use Rattle.layout.specs.Field.{Field, part}
use Rattle.layout.specs.Kinds.{is_fixed}
use Rattle.layout.proofs.laws.Bytes.{same_true}
use Rattle.promises.specs.Guarded.{In}

pub record Differ (p : ℕ) (xs ys : List ℕ) : Type 0 where
  pub long : length xs ≡ length ys
  pub counted : 1 ≤ p
  pub here : place p xs ≢ place p ys
  pub other : (q : ℕ) → 1 ≤ q → q ≢ p → place q xs ≡ place q ys

pub turned : {p : ℕ} {xs ys : List ℕ} → Differ p xs ys → Differ p ys xs
turned d = record { long = sym d.long; counted = d.counted; here = λ e. d.here (sym e); other = λ q h n. sym (d.other q h n) }

-- another byte at a place
pub stored : (p b : ℕ) (xs : List ℕ) → 1 ≤ p → p ≤ length xs → b ≢ place p xs → Differ p xs (set xs (p - 1) b)
stored p b xs h k ne = record {
  long = sym (length-set xs (p - 1) b);
  counted = h;
  here = λ e. ne (sym (get_or-set_same xs (p - 1) b 0 (omega arith)) ∙ sym e);
  other = λ q l n. sym (get_or-set_other xs (p - 1) (q - 1) b 0 (λ e. n (omega arith)));
}

-- ---- bytes of one length that are the same

-- they give one number
pub reads_same : (bs cs : List ℕ) {k : ℕ} → length bs ≡ length cs → number_of bs ≡ Some k → number_of cs ≡ Some k → bs ≡ cs
reads_same bs cs {k} e p q =
    let g = given bs k p in
    let h = given cs k q in
    number_inj bs cs e g.digits h.digits (sym g.is ∙ h.is)

-- digits that have one value
pub value_same : (bs cs : List ℕ) → length bs ≡ length cs → length bs ≤ most_digits → all_digits bs ≡ true → all_digits cs ≡ true
    → value bs ≡ value cs → bs ≡ cs
value_same bs cs e few p q v =
    number_inj bs cs e (leading_all bs (eqb-true _ _ p)) (leading_all cs (eqb-true _ _ q))
    (rw (le-leb (length bs) most_digits few, le-leb (length cs) most_digits (omega arith)) at v)

-- they have the content of their width
pub content_same : (content : ℕ → List ℕ) (bs cs : List ℕ) → length bs ≡ length cs → is_fixed content bs ≡ true → is_fixed content cs ≡ true → bs ≡ cs
content_same content bs cs e p q = sym (same_true (content (length bs)) bs p) ∙ (ap content e ∙ same_true (content (length cs)) cs q)

-- ---- parts

module _ {p : ℕ} {xs ys : List ℕ} (d : Differ p xs ys) (f : Field) where
  pub same_long : length (part f xs) ≡ length (part f ys)
  same_long = simp (length-take, length-drop) (rw d.long)

  -- a part that is the same in both does not hold the place
  pub apart : part f xs ≡ part f ys → In f p → ⊥
  apart e h =
      let c = d.counted in
      let at = f.from - 1 in
      let wide = f.to - at in
      d.here
      (sym (part_get_or xs at wide (p - 1) 0 (omega arith) (omega arith))
      ∙ (ap (λ (w : List ℕ). get_or w (p - 1 - at) 0) e ∙ part_get_or ys at wide (p - 1) 0 (omega arith) (omega arith)))

  -- and one that does not hold the place is the same
  pub kept : (In f p → ⊥) → part f xs ≡ part f ys
  kept out = ext_get_or 0 (part f xs) (part f ys) same_long each
    where
      each : (i : ℕ) → i < length (part f xs) → get_or (part f xs) i 0 ≡ get_or (part f ys) i 0
      each i h =
          let at = f.from - 1 in
          let k : i < f.to - at = omega (arith, length-take (f.to - at) (drop at xs)) in
          let q : at + i ≡ at + i + 1 - 1 = omega arith in
          rw (get_or-take (f.to - at) (drop at xs) i 0 k, get_or-take (f.to - at) (drop at ys) i 0 k, get_or-drop, get_or-drop, q)
          (d.other (at + i + 1) (omega arith) (λ e. out (omega arith)))

  -- a field of digits that have one value does not hold the place
  pub not_worth : f.to - (f.from - 1) ≤ most_digits → all_digits (part f xs) ≡ true → all_digits (part f ys) ≡ true → value (part f xs) ≡ value (part f ys)
      → In f p → ⊥
  not_worth few h k e =
      apart (value_same (part f xs) (part f ys) same_long (omega (arith, length-take (f.to - (f.from - 1)) (drop (f.from - 1) xs))) h k e)
