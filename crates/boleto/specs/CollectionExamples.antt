-- Collection codes and lines, computed: one statement over one table. Assumes nothing.
use Rattle.std.specs.Prelude.{Bool, true, false, cond, not, ◌&&◌, ◌||◌, List, [], ◌∷◌, ℕ, zero, suc, ◌+◌, ◌-◌, T, eqb, set, Err, Ok}
use Prim.Native.String.{String}
use Rattle.answer.specs.Rules.{first_broken, accepts}
use Rattle.answer.specs.Rules.{Answer}
use Rattle.digits.specs.Digits.{bytes, digit_byte, leading, place, weighed}
use Rattle.digits.specs.Checks.{counts, lift, check_digit}
use Rattle.digits.specs.declared.sealing.Modulus.TheVariants.{Ten, PlainEleven}
use Rattle.boleto.specs.Rules.{head_rules, check_rules, digit_line_rules}
use Rattle.boleto.specs.Collection.{modulus_of, code_line_of, code_of}
use Rattle.boleto.specs.CollectionRules.{code_head_rules, code_rules, block_rules, code_line_rules}
use Rattle.boleto.specs.CollectionGuarded.{weight_in_block, weight_in_code}

-- the check digits of a string by both moduli; a right code and its line; a code, a line, and a boleto's line refused by a number at a place; a right code, or line,
-- that is right with another digit at a place too; of the places a to b of a line, those that block and code weigh alike
pub data Example : Type 0 where
  checks : ℕ → ℕ → String → Example
  right : String → String → Example
  wrong_code : ℕ → ℕ → String → Example
  wrong_line : ℕ → ℕ → String → Example
  wrong_boleto_line : ℕ → ℕ → String → Example
  codes_differ : ℕ → ℕ → String → Example
  lines_differ : ℕ → ℕ → String → Example
  alike : ℕ → ℕ → List ℕ → Example

abbrev right_code : List ℕ → Bool
right_code code = accepts (first_broken (code_rules code))

abbrev right_line : List ℕ → Bool
right_line line = accepts (first_broken (code_line_rules line))

abbrev refused_with : ℕ → ℕ → Answer → Bool
refused_with number place (Ok tt) = false
refused_with number place (Err r) = eqb r.number number && eqb r.place place

-- a test passed by a string, and by the string with another digit d at place p
abbrev differ : (List ℕ → Bool) → ℕ → ℕ → List ℕ → Bool
differ test p d bs = test bs && test (set bs (p - 1) (digit_byte d)) && not (eqb (place p bs) (digit_byte d))

abbrev same : List ℕ → List ℕ → Bool
same [] [] = true
same [] (y ∷ ys) = false
same (x ∷ xs) [] = false
same (x ∷ xs) (y ∷ ys) = eqb x y && same xs ys

-- equally or oppositely modulo 11
abbrev weighed_alike : ℕ → Bool
weighed_alike p = eqb (weight_in_block p) (weight_in_code p) || eqb (weight_in_block p + weight_in_code p) 11

-- of n places from a on
abbrev alike_from : ℕ → ℕ → List ℕ
alike_from zero a = []
alike_from (suc n) a = cond (weighed_alike a) (a ∷ alike_from n (a + 1)) (alike_from n (a + 1))

abbrev pub holds : Example → Bool
holds (checks ten eleven s) = eqb (check_digit Ten (bytes s)) ten && eqb (check_digit PlainEleven (bytes s)) eleven
holds (right code line) = right_code (bytes code) && right_line (bytes line) && same (code_line_of (bytes code)) (bytes line) && same (code_of (bytes line)) (bytes code)
holds (wrong_code number place s) = refused_with number place (first_broken (code_rules (bytes s)))
holds (wrong_line number place s) = refused_with number place (first_broken (code_line_rules (bytes s)))
holds (wrong_boleto_line number place s) = refused_with number place (first_broken (digit_line_rules (bytes s)))
holds (codes_differ p d s) = differ right_code p d (bytes s)
holds (lines_differ p d s) = differ right_line p d (bytes s)
holds (alike a b ps) = same (alike_from (b - a + 1) a) ps

-- the pairs show where each claim ends: by modulus 11 with check digits 0, and where the identifier's modulus changes
unfoldable pub table : List Example
table =
    checks 3 0 "01230067896"
    ∷ right "82620000001000000010408000111110000000004010" "826200000014000000010405800011111005000000040105"
    ∷ right "83790000001000000010408000111110000000004010" "837900000014000000010405800011111005000000040105"
    ∷ right "85870000001000000010408000111110000000004010" "858700000014000000010405800011111004000000040100"
    ∷ right "84980000001000000010408000111110000000004010" "849800000017000000010405800011111004000000040100"
    ∷ right "81800000000000000000000000000000000000000002" "818000000004000000000000000000000000000000000027"
    ∷ wrong_code 40 0 "8587000000100000001040800011111000000000401"
    ∷ wrong_code 40 0 "858700000010000000104080001111100000000040100"
    ∷ wrong_code 41 3 "85:70000001000000010408000111110000000004010"
    ∷ wrong_code 41 44 "8587000000100000001040800011111000000000401A"
    ∷ wrong_code 52 1 "75870000001000000010408000111110000000004010"
    ∷ wrong_code 52 1 "75570000001000000010408000111110000000004010"
    ∷ wrong_code 53 3 "85570000001000000010408000111110000000004010"
    ∷ wrong_code 53 3 "85070000001000000010408000111110000000004010"
    ∷ wrong_code 55 4 "85880000001000000010408000111110000000004010"
    ∷ wrong_code 55 4 "82620000001000000010408000111110000000004011"
    ∷ wrong_code 55 4 "85970000001000000010408000111110000000004010"
    ∷ wrong_line 40 0 "85870000001400000001040580001111100400000004010"
    ∷ wrong_line 41 12 "85870000001 000000010405800011111004000000040100"
    ∷ wrong_line 52 1 "758700000014000000010405800011111004000000040100"
    ∷ wrong_line 53 3 "855700000014000000010405800011111004000000040100"
    ∷ wrong_line 54 12 "858700000015000000010405800011111004000000040100"
    ∷ wrong_line 54 24 "858700000014000000010406800011111004000000040100"
    ∷ wrong_line 54 36 "858700000014000000010405800011111005000000040100"
    ∷ wrong_line 54 48 "858700000014000000010405800011111004000000040101"
    ∷ wrong_line 54 12 "836200000014000000010405800011111005000000040105"
    ∷ wrong_line 54 24 "826200000014001000010405800011111005000000040105"
    ∷ wrong_line 54 36 "826200000014000000010405800012111005000000040105"
    ∷ wrong_line 54 48 "826200000014000000010405800011111005000100040105"
    ∷ wrong_line 55 4 "858700000014000000010405800011111004000000040150"
    ∷ wrong_line 55 4 "826300000013000000010405800011111005000000040105"
    ∷ wrong_line 40 0 "08591040850001111100200000004010272690000010000"
    ∷ wrong_boleto_line 40 0 "858700000014000000010405800011111004000000040100"
    ∷ codes_differ 44 8 "81800000000000000000000000000000000000000002"
    ∷ codes_differ 2 9 "82900000000000000000000000000000000000000000"
    ∷ codes_differ 15 8 "86800000000000000000000000000000000000000000"
    ∷ codes_differ 3 8 "84660000000000000000000000000000000000000000"
    ∷ codes_differ 3 6 "84860000000000000000000000000000000000000000"
    ∷ codes_differ 3 9 "84740000000000000000000000000000000000000000"
    ∷ codes_differ 3 7 "84940000000000000000000000000000000000000000"
    ∷ lines_differ 2 9 "829000000000000000000000000000000000000000000000"
    ∷ lines_differ 8 9 "878010000000000000000000000000000000000000000000"
    ∷ lines_differ 25 3 "829000000000000000000000000000000000000000000000"
    ∷ lines_differ 29 7 "829000000000000000000000000000000000000000000000"
    ∷ lines_differ 33 3 "829000000000000000000000000000000000000000000000"
    ∷ lines_differ 37 3 "868000000000000000000000000000000000000000000000"
    ∷ lines_differ 47 6 "868000000000000000000000000000000000000000000000"
    ∷ lines_differ 3 9 "836700000000000000000000000000000000000008020000"
    ∷ lines_differ 3 7 "818100300000000000000000000000000000000000030007"
    ∷ alike 5 11 (8 ∷ [])
    ∷ alike 13 23 []
    ∷ alike 25 35 (25 ∷ 29 ∷ 33 ∷ [])
    ∷ alike 37 47 (37 ∷ 38 ∷ 39 ∷ 40 ∷ 41 ∷ 42 ∷ 43 ∷ 44 ∷ 45 ∷ 46 ∷ 47 ∷ [])
    ∷ []

abbrev pub every : List Example → Bool
every [] = true
every (x ∷ xs) = holds x && every xs

pub table_holds : T (every table)
unfolding table first_broken head_rules check_rules digit_line_rules modulus_of code_line_of code_of code_head_rules code_rules block_rules code_line_rules leading weighed counts lift check_digit
table_holds = tt
