-- Registration numbers and their fields, computed: one statement over one table. Assumes nothing.
use Rattle.std.specs.Prelude.{Bool, true, not, ◌&&◌, List, [], ◌∷◌, ℕ, T}
use Prim.Native.String.{String}
use Rattle.digits.specs.Digits.{bytes, digit_byte, leading, every_byte, weighed}
use Rattle.digits.specs.Checks.{counts, lift, check_digit}
use Rattle.ids.specs.Ids.{is_cpf, is_cnpj, registration_of, characters_fit, id_fits}

-- a number by itself; a field beside a type, whose characters and number fit, whose characters alone do, or not even those
pub data Example : Type 0 where
  right_cpf : String → Example
  wrong_cpf : String → Example
  right_cnpj : String → Example
  wrong_cnpj : String → Example
  fits_as : ℕ → String → Example
  characters_only : ℕ → String → Example
  wrong_characters : ℕ → String → Example

abbrev characters_fit_as : ℕ → String → Bool
characters_fit_as type s = characters_fit (registration_of (digit_byte type)) (bytes s)

abbrev id_fits_as : ℕ → String → Bool
id_fits_as type s = id_fits (registration_of (digit_byte type)) (bytes s)

abbrev pub holds : Example → Bool
holds (right_cpf s) = is_cpf (bytes s)
holds (wrong_cpf s) = not (is_cpf (bytes s))
holds (right_cnpj s) = is_cnpj (bytes s)
holds (wrong_cnpj s) = not (is_cnpj (bytes s))
holds (fits_as type s) = characters_fit_as type s && id_fits_as type s
holds (characters_only type s) = characters_fit_as type s && not (id_fits_as type s)
holds (wrong_characters type s) = not (characters_fit_as type s)

-- the first two CPFs differ in one digit, and a remainder passes from 1 to 0; the first two CNPJs in one character,
-- of two that count the same modulo 11
unfoldable pub table : List Example
table =
    right_cpf "00000000604"
    ∷ right_cpf "10000000604"
    ∷ right_cpf "52998224725"
    ∷ wrong_cpf "52998224735"
    ∷ wrong_cpf "52998224724"
    ∷ right_cpf "11111111111"
    ∷ right_cpf "00000000000"
    ∷ wrong_cpf "2998224725"
    ∷ wrong_cpf "052998224725"
    ∷ wrong_cpf "5299822472A"
    ∷ wrong_cpf "A2998224725"
    ∷ right_cnpj "12ABC34501DE35"
    ∷ right_cnpj "126BC34501DE35"
    ∷ right_cnpj "11222333000181"
    ∷ right_cnpj "00000000000000"
    ∷ wrong_cnpj "12ABC34501DE3A"
    ∷ wrong_cnpj "12ABC34501DEA5"
    ∷ wrong_cnpj "12abc34501de35"
    ∷ wrong_cnpj "12ABC34501DE53"
    ∷ wrong_cnpj "12ABC34501DF35"
    ∷ wrong_cnpj "2ABC34501DE35"
    ∷ fits_as 1 "00052998224725"
    ∷ fits_as 1 "000052998224725"
    ∷ characters_only 1 "10052998224725"
    ∷ characters_only 1 "100052998224725"
    ∷ characters_only 1 "00052998224724"
    ∷ wrong_characters 1 "00A52998224725"
    ∷ wrong_characters 1 "12ABC34501DE35"
    ∷ fits_as 2 "12ABC34501DE35"
    ∷ characters_only 2 "12ABC34501DE36"
    ∷ wrong_characters 2 "12ABC34501DE3E"
    ∷ fits_as 2 "012ABC34501DE35"
    ∷ characters_only 2 "112ABC34501DE35"
    ∷ wrong_characters 2 "A12ABC34501DE35"
    ∷ fits_as 0 "00000000000000"
    ∷ fits_as 0 "99999999999999"
    ∷ fits_as 0 "123456789012345"
    ∷ wrong_characters 0 "12ABC34501DE35"
    ∷ []

abbrev pub every : List Example → Bool
every [] = true
every (x ∷ xs) = holds x && every xs

pub table_holds : T (every table)
unfolding table leading every_byte weighed counts lift check_digit characters_fit id_fits
table_holds = tt
