-- What one step of writing a string leaves, for the contracts of the private writers. Assumes nothing.
use Rattle.std.specs.Prelude.{List, ℕ, ◌-◌, drop, set}
use Rattle.std.proofs.Math.Seq.{paste}
use Rattle.digits.specs.Digits.{digit_byte, places}
use Rattle.digits.specs.Checks.{check_digit}
use Rattle.digits.specs.declared.sealing.Modulus.{Modulus}

-- the output with the places a to b of a source from place p on
abbrev pub laid : List ℕ → ℕ → List ℕ → ℕ → ℕ → List ℕ
laid out p src a b = paste out (p - 1) (drop (a - 1) src) (b - (a - 1))

-- the output with the check digit of its places a to b - 1 at place b
abbrev pub sealing : Modulus → List ℕ → ℕ → ℕ → List ℕ
sealing m out a b = set out (b - 1) (digit_byte (check_digit m (places a (b - 1) out)))
