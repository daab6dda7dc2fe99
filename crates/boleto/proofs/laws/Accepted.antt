-- What an accepted barcode and an accepted line are. Assumes nothing.
use Rattle.std.specs.Prelude.{◌≡◌, List, ℕ, length, Ok}
use Rattle.std.proofs.Common.{eq-eqb, eqb-true}
use Rattle.answer.specs.Rules.{first_broken, AllKept}
use Rattle.answer.proofs.laws.Order.{kept_accepted, accepted_kept}
use Rattle.digits.specs.Digits.{digit_byte, place, places}
use Rattle.digits.proofs.laws.Strings.{Digits, leading_all, all_leading}
use Rattle.digits.proofs.laws.Seals.{Sealed}
use Rattle.digits.specs.declared.sealing.Modulus.TheVariants.{Ten, Eleven}
use Rattle.boleto.specs.Strings.{barcode_digits, line_digits, barcode_of}
use Rattle.boleto.specs.Rules.{head_rules, barcode_rules, check_rules, digit_line_rules}

pub record Barcode (bar : List ℕ) : Type 0 where
  pub long : length bar ≡ barcode_digits
  pub digits : Digits bar
  pub currency : place 4 bar ≡ digit_byte 9
  pub seal : Sealed Eleven 4 bar

pub record Line (line : List ℕ) : Type 0 where
  pub long : length line ≡ line_digits
  pub digits : Digits line
  pub currency : place 4 line ≡ digit_byte 9
  pub first : Sealed Ten 9 (places 1 10 line)
  pub second : Sealed Ten 10 (places 11 21 line)
  pub third : Sealed Ten 10 (places 22 32 line)
  pub seal : Sealed Eleven 4 (barcode_of line)

pub head_long : (n : ℕ) (bs : List ℕ) → first_broken (head_rules n bs) ≡ Ok tt → length bs ≡ n
unfolding head_rules AllKept
head_long n bs e = eqb-true _ _ (accepted_kept (head_rules n bs) e).0

pub barcode-of : (bar : List ℕ) → first_broken (barcode_rules bar) ≡ Ok tt → Barcode bar
unfolding head_rules barcode_rules AllKept
barcode-of bar e =
    let k = accepted_kept (barcode_rules bar) e in
    record {
      long = eqb-true _ _ k.0;
      digits = leading_all bar (eqb-true _ _ k.1.0);
      currency = eqb-true _ _ k.1.1.0;
      seal = eqb-true _ _ k.1.1.1.0;
    }

pub of_barcode : (bar : List ℕ) → Barcode bar → first_broken (barcode_rules bar) ≡ Ok tt
unfolding head_rules barcode_rules AllKept
of_barcode bar b =
    kept_accepted (barcode_rules bar)
    (eq-eqb _ _ b.long, (eq-eqb _ _ (all_leading bar b.digits), (eq-eqb _ _ b.currency, (eq-eqb _ _ b.seal, tt))))

pub line_of : (l : List ℕ) → first_broken (digit_line_rules l) ≡ Ok tt → Line l
unfolding head_rules check_rules digit_line_rules AllKept
line_of l e =
    let k = accepted_kept (digit_line_rules l) e in
    let c = k.1.1.1 in
    record {
      long = eqb-true _ _ k.0;
      digits = leading_all l (eqb-true _ _ k.1.0);
      currency = eqb-true _ _ k.1.1.0;
      first = eqb-true _ _ c.0;
      second = eqb-true _ _ c.1.0;
      third = eqb-true _ _ c.1.1.0;
      seal = eqb-true _ _ c.1.1.1.0;
    }

pub of_line : (l : List ℕ) → Line l → first_broken (digit_line_rules l) ≡ Ok tt
unfolding head_rules check_rules digit_line_rules AllKept
of_line l b =
    kept_accepted (digit_line_rules l) (
      eq-eqb _ _ b.long,
      (
        eq-eqb _ _ (all_leading l b.digits),
        (
          eq-eqb _ _ b.currency,
          (eq-eqb _ _ b.first, (eq-eqb _ _ b.second, (eq-eqb _ _ b.third, (eq-eqb _ _ b.seal, tt)))),
        ),
      ),
    )
