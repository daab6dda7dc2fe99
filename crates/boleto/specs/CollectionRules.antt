-- The rules of a collection code and of its line, in the order of their test. Assumes nothing.
use Rattle.std.specs.Prelude.{Bool, ◌&&◌, List, [], ◌∷◌, ◌++◌, ℕ, eqb, leb}
use Rattle.answer.specs.Rules.{Rule, rule}
use Rattle.digits.specs.Digits.{digit_byte, place}
use Rattle.digits.specs.Checks.{sealed}
use Rattle.boleto.specs.Parts.{string_rules, part_rule}
use Rattle.boleto.specs.Collection.{code_digits, code_line_digits, product_place, identifier_place, code_check, modulus_of, code_of}

-- the product is 8, the value identifier one of 6, 7, 8 and 9
abbrev pub product_fits : List ℕ → Bool
product_fits bs = eqb (place product_place bs) (digit_byte 8)

abbrev pub identifier_fits : List ℕ → Bool
identifier_fits bs = leb (digit_byte 6) (place identifier_place bs) && leb (place identifier_place bs) (digit_byte 9)

-- the general check of a code
abbrev pub code_sealed : List ℕ → Bool
code_sealed code = sealed (modulus_of code) code_check code

-- a string of n digits: its length, its first non-digit, its product, its identifier
unfoldable pub code_head_rules : ℕ → List ℕ → List Rule
code_head_rules n bs =
    string_rules n bs
    ++ rule 52 product_place (product_fits bs)
    ∷ rule 53 identifier_place (identifier_fits bs)
    ∷ []

unfoldable pub code_rules : List ℕ → List Rule
code_rules code = code_head_rules code_digits code ++ rule 55 code_check (code_sealed code) ∷ []

-- a block of the line, from place a to its check digit at place b
abbrev pub block_rule : ℕ → ℕ → List ℕ → Rule
block_rule a b line = part_rule 54 (modulus_of line) a b line

-- the four blocks, then the general check, which is that of the code
unfoldable pub block_rules : List ℕ → List Rule
block_rules line =
    block_rule 1 12 line
    ∷ block_rule 13 24 line
    ∷ block_rule 25 36 line
    ∷ block_rule 37 48 line
    ∷ rule 55 code_check (code_sealed (code_of line))
    ∷ []

unfoldable pub code_line_rules : List ℕ → List Rule
code_line_rules line = code_head_rules code_line_digits line ++ block_rules line
