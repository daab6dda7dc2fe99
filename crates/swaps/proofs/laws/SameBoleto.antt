-- Two right lines of segment J that differ only inside a field: it is none of the amounts. A right line has a right barcode. Assumes nothing.
use Rattle.std.specs.Prelude.{◌≡◌, List, ℕ, ◌+◌, ◌≤◌, Ok}
use Rattle.std.proofs.Common.{ap, arith, eqb-true, lit≤}
use Rattle.answer.specs.Rules.{AllKept, first_broken}
use Rattle.digits.specs.Numbers.{value}
use Rattle.digits.proofs.laws.Strings.{leading_all}
use Rattle.boleto.specs.Rules.{barcode_rules}
use Rattle.boleto.proofs.laws.Accepted.{of_barcode}
use Rattle.layout.specs.Field.{Field, part}
use Rattle.layout.specs.Table.{fields_of, barcode_field, nominal_field, discount_field, fine_field}
use Rattle.layout.specs.Records.{boleto_amount}
use Rattle.layout.proofs.laws.Bytes.{length_places}
use Rattle.layout.specs.declared.Direction.{Direction}
use Rattle.layout.specs.declared.Record.TheVariants.{SegmentJ}
use Rattle.checker.specs.Line.{record_in, cents, boleto_rules}
use Rattle.promises.specs.Grammar.{RightLine}
use Rattle.promises.specs.Guarded.{In}
use Rattle.swaps.specs.Guarded.{AmountIn, nominal, discount, fine, boleto, DifferIn}
use Rattle.swaps.proofs.laws.Differ.{kept, not_worth}
use Rattle.swaps.proofs.laws.SameLine.{right_at}

-- ---- the amounts: any three of them determine the fourth

amounts : {dir : Direction} {l : List ℕ} → RightLine SegmentJ dir l
    → cents boleto_amount (record_in l) + cents discount_field (record_in l) ≡ cents nominal_field (record_in l) + cents fine_field (record_in l)
unfolding boleto_rules AllKept
amounts a = eqb-true _ _ a.house.1.1.1.0

module _ {dir : Direction} {l l' : List ℕ} (a : RightLine SegmentJ dir l) (a' : RightLine SegmentJ dir l') where
  -- another amount is the same
  same : {f : Field} (g : Field) → DifferIn f (record_in l) (record_in l') → ((q : ℕ) → 1 ≤ q → In f q → In g q → ⊥) → cents g (record_in l) ≡ cents g (record_in l')
  same g d out = ap value (kept d g out)

  pub not_amount : {f : Field} → AmountIn SegmentJ f → DifferIn f (record_in l) (record_in l') → ⊥
  unfolding fields_of AllKept
  not_amount nominal d =
      not_worth d (omega arith) (right_at a 10 (lit≤ tt)).0 (right_at a' 10 (lit≤ tt)).0
      (omega (arith, amounts a, amounts a', same discount_field d (λ q h i k. omega arith), same fine_field d (λ q h i k. omega arith), same boleto_amount d (λ q h i k. omega arith)))
  not_amount discount d =
      not_worth d (omega arith) (right_at a 11 (lit≤ tt)).0 (right_at a' 11 (lit≤ tt)).0
      (omega (arith, amounts a, amounts a', same nominal_field d (λ q h i k. omega arith), same fine_field d (λ q h i k. omega arith), same boleto_amount d (λ q h i k. omega arith)))
  not_amount fine d =
      not_worth d (omega arith) (right_at a 12 (lit≤ tt)).0 (right_at a' 12 (lit≤ tt)).0
      (omega (arith, amounts a, amounts a', same nominal_field d (λ q h i k. omega arith), same discount_field d (λ q h i k. omega arith), same boleto_amount d (λ q h i k. omega arith)))
  not_amount boleto d =
      not_worth d (omega arith) (right_at a 14 (lit≤ tt)).0 (right_at a' 14 (lit≤ tt)).0
      (omega (arith, amounts a, amounts a', same nominal_field d (λ q h i k. omega arith), same discount_field d (λ q h i k. omega arith), same fine_field d (λ q h i k. omega arith)))

-- ---- the barcode

pub barcode_accepted : {dir : Direction} (l : List ℕ) → RightLine SegmentJ dir l → first_broken (barcode_rules (part barcode_field (record_in l))) ≡ Ok tt
unfolding fields_of boleto_rules AllKept
barcode_accepted l a =
    let bar = part barcode_field (record_in l) in
    let rules = right_at a 7 (lit≤ tt) in
    of_barcode bar (record {
      long = length_places barcode_field.from barcode_field.to (record_in l) (omega (arith, a.long));
      digits = leading_all bar (eqb-true _ _ rules.0);
      currency = eqb-true _ _ rules.1.0;
      seal = eqb-true _ _ a.house.0;
    })
