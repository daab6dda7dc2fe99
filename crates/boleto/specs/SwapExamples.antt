-- Barcodes with two neighbours swapped, computed: one statement over one table. Assumes nothing.
use Rattle.std.specs.Prelude.{Bool, true, not, ◌&&◌, List, [], ◌∷◌, ℕ, suc, T, eqb}
use Prim.Native.String.{String}
use Rattle.answer.specs.Rules.{first_broken, accepts}
use Rattle.digits.specs.Digits.{bytes, leading, place, swapped, weighed}
use Rattle.digits.specs.Checks.{counts, lift, check_digit}
use Rattle.boleto.specs.Rules.{head_rules, barcode_rules}

-- a right barcode whose unequal digits at a place and behind it, swapped, make a right barcode too, or a wrong one
pub data Example : Type 0 where
  unseen : ℕ → String → Example
  seen : ℕ → String → Example

abbrev is_right : List ℕ → Bool
is_right bar = accepts (first_broken (barcode_rules bar))

abbrev unequal : ℕ → List ℕ → Bool
unequal p bar = not (eqb (place p bar) (place (suc p) bar))

abbrev pub holds : Example → Bool
holds (unseen p s) = is_right (bytes s) && unequal p (bytes s) && is_right (swapped p (bytes s))
holds (seen p s) = is_right (bytes s) && unequal p (bytes s) && not (is_right (swapped p (bytes s)))

-- the check digits 9 and 6 before a factor that begins with 1, and the first of them read backwards, where the check digit is 1; then check digit 1, with
-- two free digits swapped. Behind them what is seen: check digit 8 before that 1, bank and currency, currency and check digit, free digits
unfoldable pub table : List Example
table =
    unseen 5 "08599166100001250001048230917650042815360006"
    ∷ unseen 5 "08596163600000487520104080001111100000004009"
    ∷ unseen 5 "08591966100001250001048230917650042815360006"
    ∷ unseen 26 "08591164300000214352048119034567001728095002"
    ∷ seen 5 "08598166100001250000104080001111100000000401"
    ∷ seen 3 "08598166100001250000104080001111100000000401"
    ∷ seen 4 "08598166100001250000104080001111100000000401"
    ∷ seen 28 "08599166100001250001048230917650042815360006"
    ∷ []

abbrev pub every : List Example → Bool
every [] = true
every (x ∷ xs) = holds x && every xs

pub table_holds : T (every table)
unfolding table first_broken head_rules barcode_rules leading weighed counts lift check_digit
table_holds = tt
