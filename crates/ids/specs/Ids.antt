-- Registration numbers: the CPF of a person and the CNPJ of a company or an office, by Receita Federal's
-- check digits, as strings and as they stand in the fields of a record. Assumes nothing.
use Rattle.std.specs.Prelude.{Bool, true, cond, ◌&&◌, List, ℕ, ◌+◌, ◌-◌, eqb, length, take, drop}
use Rattle.digits.specs.Digits.{digit_byte, all_digits, every_byte, all_characters, places}
use Rattle.digits.specs.Checks.{ends_right_twice}
use Rattle.digits.specs.declared.sealing.Modulus.TheVariants.{PlainEleven, LongEleven}
use Rattle.ids.specs.declared.Registration.{Registration}
use Rattle.ids.specs.declared.Registration.TheVariants.{Unchecked, Cpf, Cnpj}

-- ---- the numbers as strings

-- a CPF: eleven digits, the last two the check digits
abbrev pub cpf_digits : ℕ
cpf_digits = 11

abbrev pub is_cpf : List ℕ → Bool
is_cpf bs = (eqb (length bs) cpf_digits && all_digits bs) && ends_right_twice LongEleven bs

-- a CNPJ: twelve digits or capital letters and two digits, the two being the check digits
abbrev pub cnpj_characters : ℕ
cnpj_characters = 14

abbrev pub cnpj_letters : ℕ
cnpj_letters = 12

abbrev pub has_cnpj_characters : List ℕ → Bool
has_cnpj_characters bs =
    eqb (length bs) cnpj_characters && (all_characters (places 1 cnpj_letters bs) && all_digits (places (cnpj_letters + 1) cnpj_characters bs))

abbrev pub is_cnpj : List ℕ → Bool
is_cnpj bs = has_cnpj_characters bs && ends_right_twice PlainEleven bs

-- ---- the numbers in a record

-- by the type beside the number: 1 a CPF, 2 a CNPJ; any other is not checked
abbrev pub registration_of : ℕ → Registration
registration_of b = cond (eqb b (digit_byte 1)) Cpf (cond (eqb b (digit_byte 2)) Cnpj Unchecked)

-- the last n bytes of a field, and those in front of them
abbrev pub on_the_right : ℕ → List ℕ → List ℕ
on_the_right n bs = drop (length bs - n) bs

abbrev pub in_front : ℕ → List ℕ → List ℕ
in_front n bs = take (length bs - n) bs

-- the characters of a field: digits; of a CNPJ its own, and digits in front
unfoldable pub characters_fit : Registration → List ℕ → Bool
characters_fit Unchecked bs = all_digits bs
characters_fit Cpf bs = all_digits bs
characters_fit Cnpj bs = all_digits (in_front cnpj_characters bs) && has_cnpj_characters (on_the_right cnpj_characters bs)

abbrev pub all_zeros : List ℕ → Bool
all_zeros bs = every_byte (λ b. eqb b (digit_byte 0)) bs

-- the number of a field: right, on the right, and behind zeros
unfoldable pub id_fits : Registration → List ℕ → Bool
id_fits Unchecked bs = true
id_fits Cpf bs = all_zeros (in_front cpf_digits bs) && is_cpf (on_the_right cpf_digits bs)
id_fits Cnpj bs = all_zeros (in_front cnpj_characters bs) && is_cnpj (on_the_right cnpj_characters bs)
