-- Strings with a check digit in them: a part replaced breaks the seal unless both parts count the same.
-- Over any length, any place of the check digit and every modulus. Assumes nothing.
use Rattle.std.specs.Prelude.{◌≡◌, ℕ, zero, suc, ◌+◌, ◌-◌, ◌%◌, ◌<◌, ◌≤◌, cond, not, T, ◌≢◌, ◌⊎◌, List, [], ◌∷◌, ◌++◌, length, take, drop, nat_lt, slice_index, slice_index_or, slice_set, refl}
use Rattle.std.proofs.Common.{sym, ap, ◌∙◌, subst, inl, inr, append_assoc, le_of_suc-le-suc, not-suc-le-zero, mod-lt, length-append, length-take, length-drop, length-take-le, get_or-set_same, drop-set-lt, lt-ltb, le-ltb}
use Rattle.std.proofs.Math.Nat.{sub-zero, suc-sub-suc}
use Rattle.std.proofs.Math.Decide.{ℕ_discrete, dec_lt}
use native.Mathlib.Omega.{arith}
use Rattle.std.proofs.Math.Seq.{split_at, take-set-lt}
use Rattle.std.proofs.lemmas.List.{set_split, set-get_or, take-set-le, drop-set-add, set-append_left}
use Rattle.digits.specs.Digits.{digit_of, digit_byte, weighed}
use Rattle.digits.specs.inner.Steps.{behind}
use Rattle.digits.specs.Checks.{base, value_of, counts, check_digit}
use Rattle.digits.specs.declared.sealing.Modulus.{Modulus}
use Rattle.digits.specs.declared.sealing.Modulus.TheVariants.{Eleven}
use Rattle.digits.proofs.laws.Strings.{Digit, digit_small, same_digit, set_append_right, two_stored, two_split}
use Rattle.digits.proofs.laws.Sums.{replaced, one, two}
use Rattle.digits.proofs.laws.Moduli.{TellsDigits, base_pos, value_digit, eleven_tells_neighbours, firm, blind, lift_small}

-- all bytes but the one at index p
abbrev pub out : ℕ → List ℕ → List ℕ
out p bs = take p bs ++ drop (suc p) bs

-- the byte at index p is the check digit of the others
abbrev pub Sealed : Modulus → ℕ → List ℕ → Type 0
Sealed m p bs = slice_index bs p ≡ digit_byte (check_digit m (out p bs))

pub check_small : (m : Modulus) (bs : List ℕ) → check_digit m bs ≤ 9
unfolding check_digit
check_small m bs = lift_small m _ (mod-lt _ (base_pos m))

-- the byte at p and the others, where p is in the first or in the second of two strings
out_left : (xs ys : List ℕ) (p : ℕ) → p < length xs → (out p (xs ++ ys) ≡ out p xs ++ ys) × (slice_index (xs ++ ys) p ≡ slice_index xs p)
out_left [] ys p h = absurd (not-suc-le-zero h)
out_left (x ∷ xs) ys zero h = (refl, refl)
out_left (x ∷ xs) ys (suc p) h = let r = out_left xs ys p (le_of_suc-le-suc h) in (ap (λ (l : List ℕ). x ∷ l) r.0, r.1)

out_right : (xs ys : List ℕ) (p : ℕ) → length xs ≤ p → (out p (xs ++ ys) ≡ xs ++ out (p - length xs) ys) × (slice_index (xs ++ ys) p ≡ slice_index ys (p - length xs))
out_right [] ys p h = rw sub-zero (refl, refl)
out_right (x ∷ xs) ys zero h = absurd (not-suc-le-zero h)
out_right (x ∷ xs) ys (suc p) h =
    let r = out_right xs ys p (le_of_suc-le-suc h) in
    rw suc-sub-suc (ap (λ (l : List ℕ). x ∷ l) r.0, r.1)

-- where the byte at index i stands among the others
abbrev pub among : ℕ → ℕ → ℕ
among p i = cond (nat_lt p i) (i - 1) i

pub among_before : (p i : ℕ) → i ≤ p → among p i ≡ i
among_before p i l = rw (le-ltb p i l)

pub among_behind : (p i : ℕ) → p < i → among p i ≡ i - 1
among_behind p i l = rw (lt-ltb p i l)

pub out_long : (p : ℕ) (bs : List ℕ) → p < length bs → length (out p bs) ≡ length bs - 1
out_long p bs h = simp (length-append, length-take, length-drop) (omega arith)

-- a byte stored beside the check digit
module _ (p : ℕ) (bs : List ℕ) (i v : ℕ) (h : p < length bs) (ne : i ≢ p) where
  pub out_set : out p (slice_set bs i v) ≡ slice_set (out p bs) (among p i) v
  out_set = go (dec_lt p i)
    where
      len : length (take p bs) ≡ p
      len = length-take-le p bs (omega arith)

      go : Dec (p < i) → out p (slice_set bs i v) ≡ slice_set (out p bs) (among p i) v
      go (yes l) =
          let e : i ≡ suc p + (i - 1 - p) = omega arith in
          let back : i - 1 - length (take p bs) ≡ i - 1 - p = omega (arith, len) in
          rw (among_behind p i l, take-set-le p bs i v (omega arith), set_append_right (take p bs) (drop (suc p) bs) (i - 1) v (omega (arith, len)), back)
          (ap (λ (k : ℕ). take p bs ++ drop (suc p) (slice_set bs k v)) e ∙ rw (drop-set-add (suc p) bs (i - 1 - p) v))
      go (no l) =
          rw (among_before p i (omega arith), take-set-lt p bs i v (omega arith), drop-set-lt (suc p) bs i v (omega arith), set-append_left (take p bs) (drop (suc p) bs) i v (omega (arith, len)))

pub among_lt : (p i n : ℕ) → i ≢ p → p < n → i < n → among p i < n - 1
among_lt p i n ne hp hi = go (dec_lt p i)
  where
    go : Dec (p < i) → among p i < n - 1
    go (yes l) = rw (among_behind p i l) (omega arith)
    go (no l) = rw (among_before p i (omega arith)) (omega arith)

pub out_get_or : (p : ℕ) (bs : List ℕ) (i : ℕ) → p < length bs → i ≢ p → i < length bs → slice_index (out p bs) (among p i) ≡ slice_index bs i
out_get_or p bs i h ne hi =
    let b = slice_index_or bs i 0 in
    ap (λ (l : List ℕ). slice_index l (among p i)) (ap (λ (l : List ℕ). out p l) (sym (set-get_or bs i 0)) ∙ out_set p bs i b h ne)
    ∙ get_or-set_same (out p bs) (among p i) b 0 (rw (out_long p bs h) (among_lt p i (length bs) ne h hi))

module _ (m : Modulus) (ys ys' : List ℕ) (e : length ys ≡ length ys') where
  -- one check digit of two strings that differ in a part: the parts count the same
  counted : (xs zs : List ℕ) (x : ℕ) → x ≡ digit_byte (check_digit m (xs ++ (ys ++ zs))) → x ≡ digit_byte (check_digit m (xs ++ (ys' ++ zs))) → T (not (blind m (x - 48))) →
      weighed (value_of m) (behind (length zs) (counts m)) ys % base m ≡ weighed (value_of m) (behind (length zs) (counts m)) ys' % base m
  unfolding check_digit
  counted xs zs x s s' f =
      let value : x - 48 ≡ check_digit m (xs ++ (ys ++ zs)) = omega arith in
      replaced (value_of m) (counts m) (base m) xs ys ys' zs e
      (firm m _ _ (mod-lt _ (base_pos m)) (mod-lt _ (base_pos m)) (rw value at f) (omega arith))

  -- two sealed strings that differ in a part before or behind the check digit at p
  parts : (xs zs : List ℕ) (p : ℕ) → (p < length xs) ⊎ (length xs + length ys ≤ p) → Sealed m p (xs ++ (ys ++ zs)) → Sealed m p (xs ++ (ys' ++ zs)) →
      T (not (blind m (slice_index (xs ++ (ys ++ zs)) p - 48))) →
      (n : ℕ) × (weighed (value_of m) (behind n (counts m)) ys % base m ≡ weighed (value_of m) (behind n (counts m)) ys' % base m)
  parts xs zs p (inl h) s s' f =
      let l = out_left xs (ys ++ zs) p h in
      let l' = out_left xs (ys' ++ zs) p h in
      (length zs, counted (out p xs) zs (slice_index xs p) (rw (l.0, l.1) at s) (rw (l'.0, l'.1) at s') (rw l.1 at f))
  parts xs zs p (inr h) s s' f =
      let r = simp (append_assoc, length-append) at (out_right (xs ++ ys) zs p (simp length-append h)) in
      let r' = simp (append_assoc, length-append, ← e) at (out_right (xs ++ ys') zs p (simp (length-append, ← e) h)) in
      let q = p - (length xs + length ys) in
      (length (out q zs), counted xs (out q zs) (slice_index zs q) (rw (r.0, r.1) at s) (rw (r'.0, r'.1) at s') (rw r.1 at f))

-- one byte stored, two neighbours swapped: where both strings are sealed, the byte is as it was, and the neighbours are equal
module _ (m : Modulus) (bs : List ℕ) (p i v : ℕ) (hp : p < length bs) (hi : i < length bs) (s : Sealed m p bs) (s' : Sealed m p (slice_set bs i v)) where
  -- the check digit itself
  at_check : i ≡ p → v ≡ slice_index bs i
  at_check e =
      let o : out p (slice_set bs i v) ≡ out p bs = rw (take-set-le p bs i v (omega arith), drop-set-lt (suc p) bs i v (omega arith)) in
      sym (get_or-set_same bs i v 0 hi) ∙ ap (λ (k : ℕ). slice_index (slice_set bs i v) k) e ∙ s' ∙ ap (λ (l : List ℕ). digit_byte (check_digit m l)) o ∙ sym s ∙ ap (λ (k : ℕ). slice_index bs k) (sym e)

  module _ (t : TellsDigits (base m) (counts m)) (d : Digit (slice_index bs i)) (d' : Digit v) where
    -- another digit
    beside : (p < length (take i bs)) ⊎ (length (take i bs) + 1 ≤ p) → T (not (blind m (slice_index bs p - 48))) → v ≡ slice_index bs i
    beside w f =
        let was = split_at bs i 0 hi in
        let r = parts m (slice_index bs i ∷ []) (v ∷ []) refl (take i bs) (drop (suc i) bs) p w (subst (Sealed m p) was s) (subst (Sealed m p) (set_split bs i v hi) s')
        (subst (λ (l : List ℕ). T (not (blind m (slice_index l p - 48)))) was f) in
        sym (same_digit (slice_index bs i) v d d' (t.tells r.0 (digit_of (slice_index bs i)) (digit_of v) (digit_small (slice_index bs i)) (digit_small v) (simp (one, value_digit m _ d, value_digit m _ d') at r.1)))

    pub one_change : (i ≢ p → T (not (blind m (slice_index bs p - 48)))) → v ≡ slice_index bs i
    one_change f = go (ℕ_discrete i p) (dec_lt p i)
      where
        len : length (take i bs) ≡ i
        len = length-take-le i bs (omega arith)

        go : Dec (i ≡ p) → Dec (p < i) → v ≡ slice_index bs i
        go (yes e) q = at_check e
        go (no ne) (yes l) = beside (inl (omega (arith, len))) (f ne)
        go (no ne) (no l) = beside (inr (omega (arith, len))) (f ne)

pub neighbours : (xs zs : List ℕ) (a b p : ℕ) → Sealed Eleven p (xs ++ a ∷ b ∷ zs) → Sealed Eleven p (xs ++ b ∷ a ∷ zs) →
    Digit a → Digit b → (p < length xs) ⊎ (length xs + 2 ≤ p) → T (not (blind Eleven (slice_index (xs ++ a ∷ b ∷ zs) p - 48))) → a ≡ b
neighbours xs zs a b p s s' da db w f =
    let r = parts Eleven (a ∷ b ∷ []) (b ∷ a ∷ []) refl xs zs p w s s' f in
    same_digit a b da db (eleven_tells_neighbours.tells r.0 (digit_of a) (digit_of b) (digit_small a) (digit_small b) (simp two at r.1))

-- two neighbours swapped, neither of them the check digit
pub neighbours_swapped : (bs : List ℕ) (p i : ℕ) → suc i < length bs → Sealed Eleven p bs → Sealed Eleven p (slice_set (slice_set bs i (slice_index bs (suc i))) (suc i) (slice_index bs i)) →
    Digit (slice_index bs i) → Digit (slice_index bs (suc i)) → i ≢ p → suc i ≢ p → T (not (blind Eleven (slice_index bs p - 48))) → slice_index bs i ≡ slice_index bs (suc i)
neighbours_swapped bs p i h s s' da db ne ne' f =
    let a = slice_index_or bs i 0 in
    let b = slice_index_or bs (suc i) 0 in
    let was = two_split bs i h in
    let r = parts Eleven (a ∷ b ∷ []) (b ∷ a ∷ []) refl (take i bs) (drop (suc (suc i)) bs) p (go (dec_lt p i)) (subst (Sealed Eleven p) was s)
    (subst (Sealed Eleven p) (two_stored bs i b a h) s') (subst (λ (l : List ℕ). T (not (blind Eleven (slice_index l p - 48)))) was f) in
    same_digit a b da db (eleven_tells_neighbours.tells r.0 (digit_of a) (digit_of b) (digit_small a) (digit_small b) (simp two at r.1))
  where
    len : length (take i bs) ≡ i
    len = length-take-le i bs (omega arith)

    go : Dec (p < i) → (p < length (take i bs)) ⊎ (length (take i bs) + 2 ≤ p)
    go (yes l) = inl (omega (arith, len))
    go (no l) = inr (omega (arith, len))
