-- One byte of a right CPF or CNPJ changed: what the check digits see, and exactly what they don't. Assumes nothing.
use Rattle.std.specs.Prelude.{◌≡◌, ◌≢◌, ◌↔◌, true, false, ◌&&◌, List, ℕ, ◌+◌, ◌<◌, ◌≤◌, ◌%◌, eqb, length, get_or, set}
use Rattle.std.proofs.Common.{◌∙◌, arith, length-set, get_or-set_same, drop-set-lt, eqb-true, eq-eqb}
use Rattle.std.proofs.Math.Bool.{and-eq-true_iff}
use Rattle.std.proofs.Math.Seq.{take-set-lt}
use Rattle.digits.specs.Digits.{is_character, character_of, digit_byte, all_digits, all_characters, places}
use Rattle.digits.specs.Checks.{ends_right_twice}
use Rattle.digits.specs.declared.sealing.Modulus.TheVariants.{PlainEleven, LongEleven}
use Rattle.digits.proofs.laws.Tests.{not_so}
use Rattle.digits.proofs.laws.Strings.{Digit, Digits, digit_small, same_digit, digits_set, every_set, leading_all, all_leading}
use Rattle.digits.proofs.laws.Plain.{plain_eleven, long_eleven}
use Rattle.digits.proofs.laws.Twice.{BothStay, check_seen, unseen_exactly, byte_seen}
use Rattle.ids.specs.Ids.{is_cpf, cpf_digits, is_cnpj, has_cnpj_characters, cnpj_characters, cnpj_letters}

-- ---- a CPF: eleven digits

-- those before the check digits
abbrev pub cpf_body : ℕ
cpf_body = 9

record IsCpf (bs : List ℕ) : Type 0 where
  long : length bs ≡ cpf_digits
  digits : Digits bs
  ends : ends_right_twice LongEleven bs ≡ true

cpf_is : (bs : List ℕ) → is_cpf bs ≡ true → IsCpf bs
cpf_is bs e =
    let t = (and-eq-true_iff (eqb (length bs) cpf_digits && all_digits bs) (ends_right_twice LongEleven bs)).0 e in
    let u = (and-eq-true_iff (eqb (length bs) cpf_digits) (all_digits bs)).0 t.0 in
    record { long = eqb-true _ _ u.0; digits = leading_all bs (eqb-true _ _ u.1); ends = t.1 }

module _ (bs : List ℕ) (i v : ℕ) (e : is_cpf bs ≡ true) where
  -- another check digit is seen
  pub cpf_check_seen : cpf_body ≤ i → i < cpf_digits → v ≢ get_or bs i 0 → is_cpf (set bs i v) ≡ false
  cpf_check_seen lo up ne =
      let c = cpf_is bs e in
      not_so _ (λ e'. ne (check_seen LongEleven bs cpf_body i v c.long c.ends lo up (cpf_is (set bs i v) e').ends))

  -- another digit before them is unseen exactly if both remainders stay or pass between 0 and 1
  pub cpf_unseen : i < cpf_body → Digit v → is_cpf (set bs i v) ≡ true ↔ BothStay LongEleven cpf_body bs (set bs i v)
  cpf_unseen l d =
      let c = cpf_is bs e in
      let u = unseen_exactly LongEleven bs cpf_body i v c.long c.ends long_eleven l in (
        λ e'. u.0 (cpf_is (set bs i v) e').ends,
        λ t. rw (eq-eqb _ cpf_digits (length-set bs i v ∙ c.long), eq-eqb _ _ (all_leading _ (digits_set i v c.digits d)), u.1 t),
      )

  -- where the first check digit isn't 0, any other byte before them is seen
  pub cpf_digit_seen : i < cpf_body → get_or bs cpf_body 0 ≢ digit_byte 0 → v ≢ get_or bs i 0 → is_cpf (set bs i v) ≡ false
  cpf_digit_seen l some ne = not_so _ (λ e'. go (cpf_is bs e) (cpf_is (set bs i v) e'))
    where
      go : IsCpf bs → IsCpf (set bs i v) → ⊥
      go c c' =
          let was = get_or bs i 0 in
          let d = rw (get_or-set_same bs i v 0 (omega arith)) at (c'.digits.each i (omega arith)) in
          byte_seen LongEleven bs cpf_body i v c.long c.ends long_eleven l some (λ z. omega arith)
          (λ q. ne (same_digit v was d (c.digits.each i (omega arith)) (omega (arith, digit_small v, digit_small was)))) c'.ends

-- ---- a CNPJ: twelve digits or letters, and the check digits

record IsCnpj (bs : List ℕ) : Type 0 where
  long : length bs ≡ cnpj_characters
  characters : all_characters (places 1 cnpj_letters bs) ≡ true
  digits : all_digits (places (cnpj_letters + 1) cnpj_characters bs) ≡ true
  ends : ends_right_twice PlainEleven bs ≡ true

cnpj_is : (bs : List ℕ) → is_cnpj bs ≡ true → IsCnpj bs
cnpj_is bs e =
    let t = (and-eq-true_iff (has_cnpj_characters bs) (ends_right_twice PlainEleven bs)).0 e in
    let u = (and-eq-true_iff (eqb (length bs) cnpj_characters) (all_characters (places 1 cnpj_letters bs) && all_digits (places (cnpj_letters + 1) cnpj_characters bs))).0 t.0 in
    let w = (and-eq-true_iff (all_characters (places 1 cnpj_letters bs)) (all_digits (places (cnpj_letters + 1) cnpj_characters bs))).0 u.1 in
    record { long = eqb-true _ _ u.0; characters = w.0; digits = w.1; ends = t.1 }

module _ (bs : List ℕ) (i v : ℕ) (e : is_cnpj bs ≡ true) where
  -- another check digit is seen
  pub cnpj_check_seen : cnpj_letters ≤ i → i < cnpj_characters → v ≢ get_or bs i 0 → is_cnpj (set bs i v) ≡ false
  cnpj_check_seen lo up ne =
      let c = cnpj_is bs e in
      not_so _ (λ e'. ne (check_seen PlainEleven bs cnpj_letters i v c.long c.ends lo up (cnpj_is (set bs i v) e').ends))

  -- another character before them is unseen exactly if both remainders stay or pass between 0 and 1
  pub cnpj_unseen : i < cnpj_letters → is_character v ≡ true → is_cnpj (set bs i v) ≡ true ↔ BothStay PlainEleven cnpj_letters bs (set bs i v)
  cnpj_unseen l d =
      let c = cnpj_is bs e in
      let u = unseen_exactly PlainEleven bs cnpj_letters i v c.long c.ends plain_eleven l in (
        λ e'. u.0 (cnpj_is (set bs i v) e').ends,
        λ t. rw (eq-eqb _ cnpj_characters (length-set bs i v ∙ c.long), take-set-lt cnpj_letters bs i v l, every_set is_character _ i v c.characters d, drop-set-lt cnpj_letters bs i v l, c.digits, u.1 t),
      )

  -- where the first check digit isn't 0, another byte before them that counts otherwise modulo 11 is seen
  pub cnpj_character_seen : i < cnpj_letters → get_or bs cnpj_letters 0 ≢ digit_byte 0 → character_of v % 11 ≢ character_of (get_or bs i 0) % 11 → is_cnpj (set bs i v) ≡ false
  cnpj_character_seen l some ne =
      let c = cnpj_is bs e in
      not_so _ (λ e'. byte_seen PlainEleven bs cnpj_letters i v c.long c.ends plain_eleven l some (λ z. omega arith) ne (cnpj_is (set bs i v) e').ends)
