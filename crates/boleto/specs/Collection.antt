-- The collection code of water, power and taxes, and its line. Places count from 1. Assumes nothing.
--     code   1 product (8), 2 segment of the issuer, 3 value identifier, 4 general check over the other 43,
--            5-15 value, 16-44 free
--     line   the code in four blocks of eleven digits, each with its check digit behind it
use Rattle.std.specs.Prelude.{cond, ◌||◌, List, ◌++◌, ℕ, eqb}
use Rattle.digits.specs.Digits.{digit_byte, place, places}
use Rattle.digits.specs.declared.sealing.Modulus.{Modulus}
use Rattle.digits.specs.declared.sealing.Modulus.TheVariants.{Ten, PlainEleven}
use Rattle.boleto.specs.Parts.{checked}

abbrev pub code_digits : ℕ
code_digits = 44

abbrev pub code_line_digits : ℕ
code_line_digits = 48

-- where product and identifier stand, and the general check, in a code; a line has them at the same places
abbrev pub product_place : ℕ
product_place = 1

abbrev pub identifier_place : ℕ
identifier_place = 3

abbrev pub code_check : ℕ
code_check = 4

-- how the check digits of a code and of its line are made: identifier 6 or 7 by modulus 10, 8 or 9 by modulus 11, and so
-- any other, which 53 refuses
unfoldable pub modulus_of : List ℕ → Modulus
modulus_of bs = cond (eqb (place identifier_place bs) (digit_byte 6) || eqb (place identifier_place bs) (digit_byte 7)) Ten PlainEleven

unfoldable pub code_line_of : List ℕ → List ℕ
code_line_of code =
    checked (modulus_of code) (places 1 11 code)
    ++ checked (modulus_of code) (places 12 22 code)
    ++ checked (modulus_of code) (places 23 33 code)
    ++ checked (modulus_of code) (places 34 44 code)

-- the line without its places 12, 24, 36 and 48
unfoldable pub code_of : List ℕ → List ℕ
code_of line = places 1 11 line ++ places 13 23 line ++ places 25 35 line ++ places 37 47 line
