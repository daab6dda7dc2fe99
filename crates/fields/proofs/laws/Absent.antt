-- A number that is not given: blanks, which no number is written as, and which give no number. Assumes nothing.
use Rattle.std.specs.Prelude.{◌≡◌, false, List, ℕ, ◌^◌, ◌<◌, get_or, None, Some}
use Rattle.std.proofs.Common.{sym, ap, ◌∙◌, arith}
use Rattle.std.proofs.Math.Decide.{dec_lt}
use Rattle.std.proofs.lemmas.List.{get_or-replicate}
use Rattle.digits.specs.Digits.{all_digits}
use Rattle.digits.specs.Numbers.{number_of, numeral, last_digits, star}
use Rattle.digits.proofs.laws.Strings.{Digit}
use Rattle.digits.proofs.laws.Numerals.{length_digits, digits_digits, numeral_fits, numeral_wide}
use Rattle.layout.specs.Kinds.{run, blank}
use Rattle.layout.proofs.laws.Bytes.{blank_first}
use Rattle.fields.specs.Values.{number_bytes}

-- bytes that are not all digits give no number, and so do blanks
pub no_digits_none : (bs : List ℕ) → all_digits bs ≡ false → number_of bs ≡ None
unfolding number_of
no_digits_none bs e = rw e

pub blanks_none : (w : ℕ) → 0 < w → number_of (run blank w) ≡ None
blanks_none w h = no_digits_none (run blank w) (blank_first (run blank w) (get_or-replicate {A = ℕ} w 0 blank 0 h))

-- the first byte of a written number is a digit, or a star where it is too wide
first_solid : (w n : ℕ) → 0 < w → get_or (numeral w n) 0 0 ≡ blank → ⊥
first_solid w n h e = go (dec_lt n (10 ^ w))
  where
    go : Dec (n < 10 ^ w) → ⊥
    go (yes l) =
        let d : Digit (get_or (last_digits w n) 0 0) = (digits_digits w n).each 0 (rw (length_digits w n) h) in
        let z = rw (numeral_fits w n l) at e in
        omega (arith, d, z)
    go (no l) =
        let z : star ≡ blank = sym (get_or-replicate {A = ℕ} w 0 star 0 h) ∙ (rw (numeral_wide w n (omega arith)) at e) in
        omega (arith, z)

-- no number is written as blanks: none stands for 'not given'
pub no_number_blank : (w n : ℕ) → 0 < w → number_bytes w (Some n) ≡ number_bytes w None → ⊥
no_number_blank w n h e = first_solid w n h (ap (λ (bs : List ℕ). get_or bs 0 0) e ∙ get_or-replicate {A = ℕ} w 0 blank 0 h)
