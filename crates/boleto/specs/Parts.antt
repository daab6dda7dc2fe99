-- What a boleto's strings and a collection's share: so many digits, and parts of them with a check digit. Assumes nothing.
use Rattle.std.specs.Prelude.{List, [], ◌∷◌, ◌++◌, ℕ, ◌+◌, ◌-◌, eqb, length}
use Rattle.answer.specs.Rules.{Rule, rule}
use Rattle.digits.specs.Digits.{digit_byte, leading, all_digits, places}
use Rattle.digits.specs.Checks.{check_digit, sealed}
use Rattle.digits.specs.declared.sealing.Modulus.{Modulus}

-- a string of n digits: its length, its first non-digit
abbrev pub string_rules : ℕ → List ℕ → List Rule
string_rules n bs =
    rule 40 0 (eqb (length bs) n)
    ∷ rule 41 (leading bs + 1) (all_digits bs)
    ∷ []

-- digits with their check digit behind them
abbrev pub checked : Modulus → List ℕ → List ℕ
checked m bs = bs ++ digit_byte (check_digit m bs) ∷ []

-- the part of a line from place a to its check digit at place b; a wrong one is refused there, by this number
abbrev pub part_rule : ℕ → Modulus → ℕ → ℕ → List ℕ → Rule
part_rule number m a b line = rule number b (sealed m (b - a + 1) (places a b line))
