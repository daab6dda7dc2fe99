-- The number that a digit string spells, and the digits of a number at a width. Assumes nothing.
use Rattle.std.specs.Prelude.{ℕ, zero, suc, ◌*◌, ◌/◌, ◌%◌, ◌^◌, cond, ◌&&◌, List, [], ◌∷◌, ◌++◌, length, replicate, nat_le, nat_lt, None, Option, Some}
use Rattle.digits.specs.Digits.{digit_of, digit_byte, all_digits, weighed}

-- a digit with k digits to its right counts 10 to the k times
abbrev pub number : List ℕ → ℕ
number = weighed digit_of (λ k d. d * 10 ^ k)

-- as many digits as always fit 64 bits
abbrev pub most_digits : ℕ
most_digits = 19

-- the number that a string gives: digits give one, if they are not too many
unfoldable pub number_of : List ℕ → Option ℕ
number_of bs = cond (all_digits bs && nat_le (length bs) most_digits) (Some (number bs)) None

-- the same, a byte that is no digit counting 0, and too many digits 0
abbrev pub value : List ℕ → ℕ
value bs = cond (nat_le (length bs) most_digits) (number bs) 0

-- the last w digits of n
unfoldable pub last_digits : ℕ → ℕ → List ℕ
last_digits zero n = []
last_digits (suc w) n = last_digits w (n / 10) ++ digit_byte (n % 10) ∷ []

-- printable and no digit: what stands where a number has more digits than its width
abbrev pub star : ℕ
star = 42

-- n at the width w: its digits behind zeros, or stars
unfoldable pub numeral : ℕ → ℕ → List ℕ
numeral w n = cond (nat_lt n (10 ^ w)) (last_digits w n) (replicate w star)
