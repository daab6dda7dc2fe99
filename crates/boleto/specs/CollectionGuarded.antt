-- The guarded places of an accepted collection code and of an accepted line: another byte there is refused.
-- By modulus 11 a check digit 0 stands for two remainders, and guards only itself. The identifier chooses the modulus,
-- and is not among the guarded places: what is claimed of it stands below. Assumes nothing.
use Rattle.std.specs.Prelude.{◌≡◌, ◌≢◌, false, List, ℕ, ◌+◌, ◌-◌, ◌*◌, ◌/◌, ◌<◌, ◌≤◌, set}
use Rattle.digits.specs.Digits.{digit_byte, place, places}
use Rattle.digits.specs.Checks.{weight}
use Rattle.digits.specs.declared.sealing.Modulus.TheVariants.{Ten, PlainEleven}
use Rattle.boleto.specs.Collection.{code_digits, code_line_digits, product_place, identifier_place, code_check, modulus_of}
use Rattle.boleto.specs.CollectionRules.{identifier_fits}

-- in a string of n digits: by modulus 10, or when the general check isn't 0, all places but the identifier's; else the
-- product and the general check only
pub data GuardedByCode (n : ℕ) (bs : List ℕ) : ℕ → Type 0 where
  ten : {p : ℕ} → modulus_of bs ≡ Ten → 1 ≤ p → p ≤ n → p ≢ identifier_place → GuardedByCode n bs p
  general : {p : ℕ} → place code_check bs ≢ digit_byte 0 → 1 ≤ p → p ≤ n → p ≢ identifier_place → GuardedByCode n bs p
  product : GuardedByCode n bs product_place
  check : GuardedByCode n bs code_check

abbrev pub GuardedInCode : List ℕ → ℕ → Type 0
GuardedInCode code p = GuardedByCode code_digits code p

-- the digits of a block with its check digit; where the block ends in which place p stands, and the block
abbrev pub block_places : ℕ
block_places = 12

abbrev pub block_end : ℕ → ℕ
block_end p = ((p - 1) / block_places + 1) * block_places

abbrev pub block_of : ℕ → List ℕ → List ℕ
block_of p line = places (block_end p - block_places + 1) (block_end p) line

-- the place in the code of a digit at place p of the line: every block before it has one digit more there
abbrev pub place_in_code : ℕ → ℕ
place_in_code p = p - (p - 1) / block_places

-- the weights, by modulus 11, of a digit at place p of the line: in its block, and, behind the general check, in the code
abbrev pub weight_in_block : ℕ → ℕ
weight_in_block p = weight PlainEleven (block_end p - 1 - p)

abbrev pub weight_in_code : ℕ → ℕ
weight_in_code p = weight PlainEleven (code_digits - place_in_code p)

-- what the code guards; the check digits of the blocks; all places but the identifier's of a block whose check isn't 0;
-- and, whatever the check digits, those behind the general check that block and code weigh neither equally nor
-- oppositely modulo 11: 5 to 11, 13 to 23 and 25 to 35, but for 8, 25, 29 and 33
pub data GuardedInCodeLine (line : List ℕ) : ℕ → Type 0 where
  as_code : {p : ℕ} → GuardedByCode code_line_digits line p → GuardedInCodeLine line p
  block_check : {p : ℕ} → 1 ≤ p → p ≤ code_line_digits → p ≡ block_end p → GuardedInCodeLine line p
  block : {p : ℕ} → place (block_end p) line ≢ digit_byte 0 → 1 ≤ p → p ≤ code_line_digits → p ≢ identifier_place → GuardedInCodeLine line p
  weights : {p : ℕ} → weight_in_block p ≢ weight_in_code p → weight_in_block p + weight_in_code p ≢ 11 → code_check < p → p ≤ code_line_digits → p ≢ block_end p
      → GuardedInCodeLine line p

-- another identifier v that is seen, in a code or a line: one of the same modulus, or none of 6, 7, 8 and 9. One of the
-- other modulus may pass
pub data SeenIdentifier (bs : List ℕ) (v : ℕ) : Type 0 where
  same_modulus : modulus_of (set bs (identifier_place - 1) v) ≡ modulus_of bs → SeenIdentifier bs v
  unknown : identifier_fits (set bs (identifier_place - 1) v) ≡ false → SeenIdentifier bs v
