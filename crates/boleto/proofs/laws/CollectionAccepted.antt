-- What an accepted collection code and an accepted line of one are. Assumes nothing.
use Rattle.std.specs.Prelude.{◌≡◌, true, List, ℕ, length, Ok}
use Rattle.std.proofs.Common.{eq-eqb, eqb-true}
use Rattle.answer.specs.Rules.{first_broken, AllKept}
use Rattle.answer.proofs.laws.Order.{kept_accepted, accepted_kept}
use Rattle.digits.specs.Digits.{digit_byte, place, places}
use Rattle.digits.proofs.laws.Strings.{Digits, leading_all, all_leading}
use Rattle.digits.proofs.laws.Seals.{Sealed}
use Rattle.boleto.specs.Collection.{code_digits, code_line_digits, modulus_of, code_of}
use Rattle.boleto.specs.CollectionRules.{identifier_fits, code_head_rules, code_rules, block_rules, code_line_rules}

pub record Code (code : List ℕ) : Type 0 where
  pub long : length code ≡ code_digits
  pub digits : Digits code
  pub product : place 1 code ≡ digit_byte 8
  pub identifier : identifier_fits code ≡ true
  pub seal : Sealed (modulus_of code) 3 code

pub record CodeLine (line : List ℕ) : Type 0 where
  pub long : length line ≡ code_line_digits
  pub digits : Digits line
  pub product : place 1 line ≡ digit_byte 8
  pub identifier : identifier_fits line ≡ true
  pub first : Sealed (modulus_of line) 11 (places 1 12 line)
  pub second : Sealed (modulus_of line) 11 (places 13 24 line)
  pub third : Sealed (modulus_of line) 11 (places 25 36 line)
  pub fourth : Sealed (modulus_of line) 11 (places 37 48 line)
  pub seal : Sealed (modulus_of (code_of line)) 3 (code_of line)

pub code_head_long : (n : ℕ) (bs : List ℕ) → first_broken (code_head_rules n bs) ≡ Ok tt → length bs ≡ n
unfolding code_head_rules AllKept
code_head_long n bs e = eqb-true _ _ (accepted_kept (code_head_rules n bs) e).0

pub code-of : (code : List ℕ) → first_broken (code_rules code) ≡ Ok tt → Code code
unfolding code_head_rules code_rules AllKept
code-of code e =
    let k = accepted_kept (code_rules code) e in
    record {
      long = eqb-true _ _ k.0;
      digits = leading_all code (eqb-true _ _ k.1.0);
      product = eqb-true _ _ k.1.1.0;
      identifier = k.1.1.1.0;
      seal = eqb-true _ _ k.1.1.1.1.0;
    }

pub of_code : (code : List ℕ) → Code code → first_broken (code_rules code) ≡ Ok tt
unfolding code_head_rules code_rules AllKept
of_code code c =
    kept_accepted (code_rules code)
    (eq-eqb _ _ c.long, (eq-eqb _ _ (all_leading code c.digits), (eq-eqb _ _ c.product, (c.identifier, (eq-eqb _ _ c.seal, tt)))))

pub code-line-of : (l : List ℕ) → first_broken (code_line_rules l) ≡ Ok tt → CodeLine l
unfolding code_head_rules block_rules code_line_rules AllKept
code-line-of l e =
    let k = accepted_kept (code_line_rules l) e in
    let b = k.1.1.1.1 in
    record {
      long = eqb-true _ _ k.0;
      digits = leading_all l (eqb-true _ _ k.1.0);
      product = eqb-true _ _ k.1.1.0;
      identifier = k.1.1.1.0;
      first = eqb-true _ _ b.0;
      second = eqb-true _ _ b.1.0;
      third = eqb-true _ _ b.1.1.0;
      fourth = eqb-true _ _ b.1.1.1.0;
      seal = eqb-true _ _ b.1.1.1.1.0;
    }

pub of_code_line : (l : List ℕ) → CodeLine l → first_broken (code_line_rules l) ≡ Ok tt
unfolding code_head_rules block_rules code_line_rules AllKept
of_code_line l a =
    let blocks : AllKept (block_rules l) = (eq-eqb _ _ a.first, (eq-eqb _ _ a.second, (eq-eqb _ _ a.third, (eq-eqb _ _ a.fourth, (eq-eqb _ _ a.seal, tt))))) in
    kept_accepted (code_line_rules l)
    (eq-eqb _ _ a.long, (eq-eqb _ _ (all_leading l a.digits), (eq-eqb _ _ a.product, (a.identifier, blocks))))
