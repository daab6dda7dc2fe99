-- Fields of registration numbers. Assumes nothing.
use Rattle.std.specs.Prelude.{◌≡◌, true, List, ℕ, ◌-◌, ◌≤◌, length}
use Rattle.std.proofs.Common.{arith, length-drop, eqb-true, eq-eqb}
use Rattle.digits.specs.Digits.{all_digits}
use Rattle.digits.proofs.laws.Strings.{Digits, digits_drop, digits_take, leading_all, all_leading, digits_characters}
use Rattle.ids.specs.Ids.{characters_fit, cnpj_characters, on_the_right}
use Rattle.ids.specs.declared.Registration.{Registration}
use Rattle.ids.specs.declared.Registration.TheVariants.{Unchecked, Cpf, Cnpj}

all-digits : {bs : List ℕ} → Digits bs → all_digits bs ≡ true
all-digits {bs} ds = eq-eqb _ _ (all_leading bs ds)

-- digits are the characters of a number of any type, where the field has the places of a CNPJ
pub digits_fit : (r : Registration) (bs : List ℕ) → cnpj_characters ≤ length bs → all_digits bs ≡ true → characters_fit r bs ≡ true
unfolding characters_fit
digits_fit Unchecked bs h e = e
digits_fit Cpf bs h e = e
digits_fit Cnpj bs h e =
    let ds = leading_all bs (eqb-true _ _ e) in
    let right = digits_drop (length bs - cnpj_characters) ds in
    let long : length (on_the_right cnpj_characters bs) ≡ cnpj_characters = rw length-drop (omega arith) in
    rw (all-digits (digits_take (length bs - cnpj_characters) ds), eq-eqb _ cnpj_characters long, digits_characters _ (all-digits (digits_take 12 right)), all-digits (digits_take 2 (digits_drop 12 right)))
