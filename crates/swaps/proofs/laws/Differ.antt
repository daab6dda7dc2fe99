-- Two lists of bytes that differ only inside a field: other parts are the same in both, and the field's own part is not. Assumes nothing.
use Rattle.std.specs.Prelude.{◌≡◌, ◌≢◌, true, List, ℕ, suc, ◌+◌, ◌-◌, ◌≤◌, ◌<◌, length, get_or, take, drop, set, Some}
use Rattle.std.proofs.Common.{sym, ap, ◌∙◌, arith, eqb-true, le-leb, length-set, length-take, length-drop, take_all, get_or-take, get_or-drop, get_or-set_same, get_or-set_other, ext_get_or}
use Rattle.std.proofs.Math.Decide.{dec_le}
use Rattle.digits.specs.Digits.{all_digits, place, swapped}
use Rattle.digits.specs.Numbers.{most_digits, number_of, value}
use Rattle.digits.proofs.laws.Strings.{part_get_or, leading_all}
use Rattle.digits.proofs.laws.Numerals.{number_inj, given}
use Rattle.layout.specs.Field.{Field, part}
use Rattle.layout.specs.Kinds.{is_fixed}
use Rattle.layout.proofs.laws.Bytes.{same_true}
use Rattle.promises.specs.Guarded.{In}
use Rattle.swaps.specs.Guarded.{DifferIn}

pub turned : {f : Field} {xs ys : List ℕ} → DifferIn f xs ys → DifferIn f ys xs
turned d = record { long = sym d.long; unlike = λ e. d.unlike (sym e); elsewhere = λ q h out. sym (d.elsewhere q h out) }

-- ---- another byte in a field, and two neighbours swapped

pub byte_differs : (f : Field) (p b : ℕ) (xs : List ℕ) → In f p → 1 ≤ p → p ≤ length xs → b ≢ place p xs → DifferIn f xs (set xs (p - 1) b)
byte_differs f p b xs i h k ne = record {
  long = sym (length-set xs (p - 1) b);
  unlike = λ e. ne (sym (get_or-set_same xs (p - 1) b 0 (omega arith)) ∙ ap (place p) (sym e));
  elsewhere = λ q l out. sym (get_or-set_other xs (p - 1) (q - 1) b 0 (λ e. out (omega arith)));
}

pub pair_differs : (f : Field) (p : ℕ) (xs : List ℕ) → In f p → In f (suc p) → 1 ≤ p → suc p ≤ length xs → place p xs ≢ place (suc p) xs
    → DifferIn f xs (swapped p xs)
pair_differs f p xs i j h k ne =
    let once = set xs (p - 1) (place (suc p) xs) in
    let now : place p (swapped p xs) ≡ place (suc p) xs =
    get_or-set_other once p (p - 1) (place p xs) 0 (λ e. omega arith) ∙ get_or-set_same xs (p - 1) (place (suc p) xs) 0 (omega arith) in
    record {
      long = sym (length-set once p (place p xs) ∙ length-set xs (p - 1) (place (suc p) xs));
      unlike = λ e. ne (ap (place p) e ∙ now);
      elsewhere =
          λ q l out.
          sym
          (get_or-set_other once p (q - 1) (place p xs) 0 (λ e. out (omega arith))
          ∙ get_or-set_other xs (p - 1) (q - 1) (place (suc p) xs) 0 (λ e. out (omega arith)));
    }

-- ---- bytes of one length that are the same

-- they give one number
pub reads_same : (bs cs : List ℕ) {k : ℕ} → length bs ≡ length cs → number_of bs ≡ Some k → number_of cs ≡ Some k → bs ≡ cs
reads_same bs cs {k} e p q =
    let g = given bs k p in
    let h = given cs k q in
    number_inj bs cs e g.digits h.digits (sym g.is ∙ h.is)

-- digits that have one value
pub value_same : (bs cs : List ℕ) → length bs ≡ length cs → length bs ≤ most_digits → all_digits bs ≡ true → all_digits cs ≡ true
    → value bs ≡ value cs → bs ≡ cs
value_same bs cs e few p q v =
    number_inj bs cs e (leading_all bs (eqb-true _ _ p)) (leading_all cs (eqb-true _ _ q))
    (rw (le-leb (length bs) most_digits few, le-leb (length cs) most_digits (omega arith)) at v)

-- they have the content of their width
pub content_same : (content : ℕ → List ℕ) (bs cs : List ℕ) → length bs ≡ length cs → is_fixed content bs ≡ true → is_fixed content cs ≡ true → bs ≡ cs
content_same content bs cs e p q = sym (same_true (content (length bs)) bs p) ∙ (ap content e ∙ same_true (content (length cs)) cs q)

-- ---- places

is_in : (f : Field) (q : ℕ) → Dec (In f q)
is_in f q = go (dec_le f.from q) (dec_le q f.to)
  where
    go : Dec (f.from ≤ q) → Dec (q ≤ f.to) → Dec (In f q)
    go (yes h) (yes k) = yes (h, k)
    go (yes h) (no k) = no (λ i. k i.1)
    go (no h) k = no (λ i. h i.0)

module _ {f : Field} {xs ys : List ℕ} (d : DifferIn f xs ys) where
  -- a place at which they differ is in the field
  pub holds : (q : ℕ) → 1 ≤ q → place q xs ≢ place q ys → In f q
  holds q h ne = go (is_in f q)
    where
      go : Dec (In f q) → In f q
      go (yes i) = i
      go (no out) = absurd (ne (d.elsewhere q h out))

  -- and at one of the field they do
  pub somewhere : ((q : ℕ) → 1 ≤ q → In f q → place q xs ≡ place q ys) → ⊥
  somewhere same = d.unlike (ext_get_or 0 xs ys d.long (λ i h. each i (is_in f (suc i))))
    where
      each : (i : ℕ) → Dec (In f (suc i)) → get_or xs i 0 ≡ get_or ys i 0
      each i (yes k) = let e : suc i - 1 ≡ i = omega arith in rw e at (same (suc i) (omega arith) k)
      each i (no out) = let e : suc i - 1 ≡ i = omega arith in rw e at (d.elsewhere (suc i) (omega arith) out)

  -- ---- parts

  -- k bytes behind place a, none of them in the field; and all that stands behind it
  pub slice_same : (a k : ℕ) → ((q : ℕ) → a < q → q ≤ a + k → In f q → ⊥) → take k (drop a xs) ≡ take k (drop a ys)
  slice_same a k out = ext_get_or 0 (take k (drop a xs)) (take k (drop a ys)) (simp (length-take, length-drop) (rw d.long)) each
    where
      each : (i : ℕ) → i < length (take k (drop a xs)) → get_or (take k (drop a xs)) i 0 ≡ get_or (take k (drop a ys)) i 0
      each i h =
          let l : i < k = omega (arith, length-take k (drop a xs)) in
          let e : a + i ≡ suc (a + i) - 1 = omega arith in
          rw (get_or-take k (drop a xs) i 0 l, get_or-take k (drop a ys) i 0 l, get_or-drop, get_or-drop, e)
          (d.elsewhere (suc (a + i)) (omega arith) (out (suc (a + i)) (omega arith) (omega arith)))

  pub rest_same : (a : ℕ) → ((q : ℕ) → a < q → In f q → ⊥) → drop a xs ≡ drop a ys
  rest_same a out =
      let k = length xs in
      sym (take_all k (drop a xs) (rw length-drop (omega arith)))
      ∙ slice_same a k (λ q h l. out q h)
      ∙ take_all k (drop a ys) (rw length-drop (omega (arith, d.long)))

  pub same_long : (g : Field) → length (part g xs) ≡ length (part g ys)
  same_long g = simp (length-take, length-drop) (rw d.long)

  -- another field
  pub kept : (g : Field) → ((q : ℕ) → 1 ≤ q → In f q → In g q → ⊥) → part g xs ≡ part g ys
  kept g out = slice_same (g.from - 1) (g.to - (g.from - 1)) (λ q h l i. out q (omega arith) i (omega arith))

  -- the field itself is not the same
  pub apart : part f xs ≡ part f ys → ⊥
  apart e =
      let at = f.from - 1 in
      let wide = f.to - at in
      somewhere
      (λ q h i.
      sym (part_get_or xs at wide (q - 1) 0 (omega arith) (omega arith))
      ∙ (ap (λ (w : List ℕ). get_or w (q - 1 - at) 0) e ∙ part_get_or ys at wide (q - 1) 0 (omega arith) (omega arith)))

  -- nor are its digits of one value
  pub not_worth : f.to - (f.from - 1) ≤ most_digits → all_digits (part f xs) ≡ true → all_digits (part f ys) ≡ true → value (part f xs) ≡ value (part f ys) → ⊥
  not_worth few h k e =
      apart (value_same (part f xs) (part f ys) (same_long f) (omega (arith, length-take (f.to - (f.from - 1)) (drop (f.from - 1) xs))) h k e)
