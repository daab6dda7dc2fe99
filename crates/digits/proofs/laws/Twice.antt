-- Strings that end in two check digits, and one byte of them changed. Over any length. Assumes nothing.
use Rattle.std.specs.Prelude.{◌≡◌, ℕ, suc, ◌+◌, ◌-◌, ◌%◌, ◌<◌, ◌≤◌, Bool, true, ◌&&◌, ◌≢◌, ◌↔◌, List, length, take, ◌==◌, slice_index, slice_index_or, slice_set}
use Rattle.std.proofs.Common.{sym, ap, ◌∙◌, arith, length-set, length-take-le, take-take, get_or-take, get_or-set_same, get_or-set_other, eqb-true, eq-eqb}
use Rattle.std.proofs.Math.Bool.{and-eq-true_iff}
use Rattle.std.proofs.Math.Decide.{ℕ_discrete}
use Rattle.std.proofs.lemmas.List.{take-set-le}
use Rattle.std.proofs.Math.Seq.{take-set-lt}
use Rattle.digits.specs.Digits.{digit_byte}
use Rattle.digits.specs.Checks.{value_of, weight, remainder, check_digit, ends_right_twice}
use Rattle.digits.specs.declared.sealing.Modulus.{Modulus}
use Rattle.digits.proofs.laws.Plain.{Stays, same, low, LiftsPlainly, stays_exactly, zero_for_low, byte_told}

-- both remainders of a string stay, or pass between 0 and 1, when it becomes another: of its first n bytes, and of its first n + 1
abbrev pub BothStay : Modulus → ℕ → List ℕ → List ℕ → Type 0
BothStay m n bs bs' = Stays (remainder m (take n bs)) (remainder m (take n bs')) × Stays (remainder m (take (n + 1) bs)) (remainder m (take (n + 1) bs'))

-- ---- both check digits, by their places

-- the byte at index p is the check digit of those before it
abbrev Checked : Modulus → ℕ → List ℕ → Type 0
Checked m p bs = slice_index bs p ≡ digit_byte (check_digit m (take p bs))

abbrev checked : Modulus → ℕ → List ℕ → Bool
checked m p bs = slice_index bs p == digit_byte (check_digit m (take p bs))

module _ (m : Modulus) (n : ℕ) where
  twice : (bs : List ℕ) → length bs ≡ n + 2 → ends_right_twice m bs ≡ checked m n bs && checked m (n + 1) bs
  twice bs h =
      let last : length bs - 1 ≡ n + 1 = omega arith in
      let first : n + 1 - 1 ≡ n = omega arith in
      rw (last, length-take-le (n + 1) bs (omega arith), first, get_or-take (n + 1) bs n 0 (omega arith), take-take n (n + 1) bs (omega arith))

  ends : (bs : List ℕ) → length bs ≡ n + 2 → ends_right_twice m bs ≡ true → Checked m n bs × Checked m (n + 1) bs
  ends bs h e =
      let t = (and-eq-true_iff (checked m n bs) (checked m (n + 1) bs)).0 (sym (twice bs h) ∙ e) in
      (eqb-true _ _ t.0, eqb-true _ _ t.1)

  right : (bs : List ℕ) → length bs ≡ n + 2 → Checked m n bs → Checked m (n + 1) bs → ends_right_twice m bs ≡ true
  right bs h c d = rw (twice bs h, eq-eqb _ _ c, eq-eqb _ _ d)

  -- the one at index i, if it is one of the two
  check_at : (bs : List ℕ) (i : ℕ) → length bs ≡ n + 2 → n ≤ i → i < n + 2 → ends_right_twice m bs ≡ true → Checked m i bs
  check_at bs i h lo up e = go (ℕ_discrete i n)
    where
      go : Dec (i ≡ n) → Checked m i bs
      go (yes q) = rw q (ends bs h e).0
      go (no ne) = let q : i ≡ n + 1 = omega arith in rw q (ends bs h e).1

-- ---- one byte changed

module _ (m : Modulus) (bs : List ℕ) (n i v : ℕ) (h : length bs ≡ n + 2) (e : ends_right_twice m bs ≡ true) where
  -- one of the check digits: it is as it was, or the string no longer ends right
  pub check_seen : n ≤ i → i < n + 2 → ends_right_twice m (slice_set bs i v) ≡ true → v ≡ slice_index bs i
  check_seen lo up e' =
      sym (get_or-set_same bs i v 0 (omega arith))
      ∙ rw (take-set-le i bs i v (omega arith)) at (check_at m n (slice_set bs i v) i (rw length-set h) lo up e')
      ∙ sym (check_at m n bs i h lo up e)

  module _ (p : LiftsPlainly m) (l : i < n) where
    -- a check digit behind the byte is right again exactly if its remainder stays
    stays_at : (k : ℕ) → i < k → Checked m k bs → Checked m k (slice_set bs i v) ↔ Stays (remainder m (take k bs)) (remainder m (take k (slice_set bs i v)))
    stays_at k l s = rw (get_or-set_other bs i k v 0 (λ q. omega arith)) (stays_exactly p (take k bs) (take k (slice_set bs i v)) (slice_index bs k) s)

    -- a byte before the check digits: the string ends right again exactly if both remainders stay or pass between 0 and 1
    pub unseen_exactly : ends_right_twice m (slice_set bs i v) ≡ true ↔ BothStay m n bs (slice_set bs i v)
    unseen_exactly =
        let c = ends m n bs h e in
        let h' : length (slice_set bs i v) ≡ n + 2 = rw length-set h in
        let first = stays_at n l c.0 in
        let second = stays_at (n + 1) (omega arith) c.1 in
        (λ e'. let c' = ends m n (slice_set bs i v) h' e' in (first.0 c'.0, second.0 c'.1), λ t. right m n (slice_set bs i v) h' (first.1 t.0) (second.1 t.1))

    -- where the first check digit isn't 0 and the byte's weight is no multiple of 11, a byte that counts otherwise modulo 11 is seen
    pub byte_seen : slice_index_or bs n 0 ≢ digit_byte 0 → weight m (n - suc i) % 11 ≢ 0 → value_of m v % 11 ≢ value_of m (slice_index bs i) % 11 → ends_right_twice m (slice_set bs i v) ≢ true
    byte_seen some w ne e' = go (unseen_exactly.0 e').0
      where
        go : Stays (remainder m (take n bs)) (remainder m (take n (slice_set bs i v))) → ⊥
        go (same q) =
            let len = length-take-le n bs (omega arith) in
            let told = byte_told p (take n bs) i v (rw len l) (rw len w) (q ∙ ap (remainder m) (take-set-lt n bs i v l)) in
            ne (sym (rw (get_or-take n bs i 0 l) at told))
        go (low t u) = some ((ends m n bs h e).0 ∙ ap digit_byte (zero_for_low p (take n bs) t))
