-- For the code that prints a number from the right: of n there is left what stands before i. Assumes nothing.
use Rattle.std.proofs.Common.{◌≡◌, ℕ, zero, suc, ◌-◌, ◌/◌, ◌%◌, ◌^◌, ◌<◌, ◌≤◌, ltb, List, ◌++◌, length, drop, set, replicate, append_assoc, pow-suc, sub-one, arith, length-set, drop-cons, get_or-set_same, drop-set-lt, le-ltb, lt-ltb}
use native.Mathlib.Decide.{dec_lt}
use Rattle.digits.specs.Digits.{digit_byte}
use Rattle.digits.specs.Numbers.{last_digits, numeral, star}

pub digits_more : (i n : ℕ) (l : List ℕ) → 0 < i → i ≤ length l
    → last_digits (i - 1) (n / 10) ++ drop (i - 1) (set l (i - 1) (digit_byte (n % 10))) ≡ last_digits i n ++ drop i l
unfolding last_digits
digits_more zero n l p h = absurd (omega arith)
digits_more (suc i) n l p h =
    rw (sub-one, drop-cons (set l i (digit_byte (n % 10))) i 0 (rw length-set h), get_or-set_same l i (digit_byte (n % 10)) 0, drop-set-lt (suc i) l i (digit_byte (n % 10)) (omega arith), append_assoc)

pub fits_more : (i n : ℕ) → 0 < i → ltb (n / 10) (10 ^ (i - 1)) ≡ ltb n (10 ^ i)
fits_more zero n p = absurd (omega arith)
fits_more (suc i) n p = rw sub-one (by_test (dec_lt (n / 10) (10 ^ i)))
  where
    by_test : Dec (n / 10 < 10 ^ i) → ltb (n / 10) (10 ^ i) ≡ ltb n (10 ^ suc i)
    by_test (yes h) = rw (lt-ltb (n / 10) (10 ^ i) h, lt-ltb n (10 ^ suc i) (rw pow-suc (omega arith)))
    by_test (no h) = rw (le-ltb (n / 10) (10 ^ i) (omega arith), le-ltb n (10 ^ suc i) (rw pow-suc (omega arith)))

-- at the end nothing is left, or too much was given
module _ (w n left i : ℕ) (e : i ≤ 0) (t : ltb left (10 ^ i) ≡ ltb n (10 ^ w)) where
  at_zero : i ≡ 0
  at_zero = omega arith

  pub all_written : (l : List ℕ) → last_digits i left ++ drop i l ≡ last_digits w n → left ≡ 0 → l ≡ numeral w n
  unfolding numeral last_digits
  all_written l d z = rw (← t, at_zero, z) (rw at_zero at d)

  pub too_wide : (left ≡ 0 → ⊥) → replicate w star ≡ numeral w n
  unfolding numeral
  too_wide z = rw (← t, at_zero, le-ltb left 1 (omega arith))
