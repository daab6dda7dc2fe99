-- The rules of a barcode and of a digit line, in the paper's order. Assumes nothing.
use Rattle.std.specs.Prelude.{Bool, List, [], ◌∷◌, ◌++◌, ℕ, eqb}
use Rattle.answer.specs.Rules.{Rule, rule}
use Rattle.digits.specs.Digits.{digit_byte, place}
use Rattle.digits.specs.Checks.{sealed}
use Rattle.digits.specs.declared.sealing.Modulus.TheVariants.{Ten, Eleven}
use Rattle.boleto.specs.Parts.{string_rules, part_rule}
use Rattle.boleto.specs.Strings.{barcode_digits, line_digits, currency_place, barcode_check, line_check, barcode_of}

abbrev pub currency_fits : List ℕ → Bool
currency_fits bs = eqb (place currency_place bs) (digit_byte 9)

-- a string of n digits: its length, its first non-digit, its currency 9
unfoldable pub head_rules : ℕ → List ℕ → List Rule
head_rules n bs = string_rules n bs ++ rule 43 currency_place (currency_fits bs) ∷ []

-- the general check of a barcode
abbrev pub general_fits : List ℕ → Bool
general_fits bar = sealed Eleven barcode_check bar

unfoldable pub barcode_rules : List ℕ → List Rule
barcode_rules bar = head_rules barcode_digits bar ++ rule 44 barcode_check (general_fits bar) ∷ []

-- a field of the line, from place a to its check digit at place b
abbrev pub field_rule : ℕ → ℕ → List ℕ → Rule
field_rule a b line = part_rule 42 Ten a b line

-- the three fields, then the general check, which is that of the barcode
unfoldable pub check_rules : List ℕ → List Rule
check_rules line =
    field_rule 1 10 line
    ∷ field_rule 11 21 line
    ∷ field_rule 22 32 line
    ∷ rule 44 line_check (general_fits (barcode_of line))
    ∷ []

unfoldable pub digit_line_rules : List ℕ → List Rule
digit_line_rules line = head_rules line_digits line ++ check_rules line
