-- Check digits by modulus 10 and modulus 11, weighed from the right. Assumes nothing.
--     Ten           the fields of a boleto's line; a collection code by modulus 10
--     Eleven        a boleto's general check
--     PlainEleven   a CNPJ, digits and capital letters; a collection code by modulus 11
--     LongEleven    a CPF
use Rattle.std.specs.Prelude.{ℕ, ◌+◌, ◌-◌, ◌*◌, ◌/◌, ◌%◌, Bool, cond, ◌&&◌, ◌||◌, List, length, take, ◌==◌, nat_lt, slice_index}
use Rattle.digits.specs.Digits.{digit_of, character_of, digit_byte, weighed, without, place}
use Rattle.digits.specs.declared.sealing.Modulus.{Modulus}
use Rattle.digits.specs.declared.sealing.Modulus.TheVariants.{Ten, Eleven, PlainEleven, LongEleven}

abbrev pub base : Modulus → ℕ
base Ten = 10
base Eleven = 11
base PlainEleven = 11
base LongEleven = 11

-- what a byte counts by itself
abbrev pub value_of : Modulus → ℕ → ℕ
value_of Ten b = digit_of b
value_of Eleven b = digit_of b
value_of PlainEleven b = character_of b
value_of LongEleven b = digit_of b

-- the weight of a byte with k bytes to its right. Ten: 2, 1, 2 ... Eleven and PlainEleven: 2 to 9, repeating.
-- LongEleven: 2 to 11, repeating
abbrev pub weight : Modulus → ℕ → ℕ
weight Ten k = 2 - k % 2
weight Eleven k = 2 + k % 8
weight PlainEleven k = 2 + k % 8
weight LongEleven k = 2 + k % 10

-- what a weighed value counts. Ten: the digits of the product, added. The others: the product
unfoldable pub counts : Modulus → ℕ → ℕ → ℕ
counts Ten k d = weight Ten k * d / 10 + weight Ten k * d % 10
counts Eleven k d = weight Eleven k * d
counts PlainEleven k d = weight PlainEleven k * d
counts LongEleven k d = weight LongEleven k * d

-- 0 for remainder 0 or 1, else 11 - r
abbrev pub plain_lift : ℕ → ℕ
plain_lift r = cond (nat_lt r 2) 0 (11 - r)

-- the check digit for a remainder. Ten: what lifts the sum to a multiple of ten. Eleven: 1 for 0, 1 or 10, else 11 - r
unfoldable pub lift : Modulus → ℕ → ℕ
lift Ten r = (10 - r) % 10
lift Eleven r = cond (r == 0 || r == 1 || r == 10) 1 (11 - r)
lift PlainEleven r = plain_lift r
lift LongEleven r = plain_lift r

-- what the weighed sum of a string leaves
abbrev pub remainder : Modulus → List ℕ → ℕ
remainder m bs = weighed (value_of m) (counts m) bs % base m

-- the check digit of a string
unfoldable pub check_digit : Modulus → List ℕ → ℕ
check_digit m bs = lift m (remainder m bs)

-- the byte at place p is the check digit of all the others
abbrev pub sealed : Modulus → ℕ → List ℕ → Bool
sealed m p bs = place p bs == digit_byte (check_digit m (without p bs))

-- the last byte is the check digit of those before it
abbrev pub ends_right : Modulus → List ℕ → Bool
ends_right m bs = slice_index bs (length bs - 1) == digit_byte (check_digit m (take (length bs - 1) bs))

-- the last byte is, and so is the one before it
abbrev pub ends_right_twice : Modulus → List ℕ → Bool
ends_right_twice m bs = ends_right m (take (length bs - 1) bs) && ends_right m bs
