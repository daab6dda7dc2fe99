-- Two right lines of segment J that differ at one place: it isn't a place of the amounts, nor a guarded one of the barcode. Assumes nothing.
use Rattle.std.specs.Prelude.{◌≡◌, ◌≢◌, List, ℕ, ◌+◌, ◌-◌, ◌≤◌, set, Ok}
use Rattle.std.proofs.Common.{ap, arith, eqb-true, lit≤}
use Rattle.std.proofs.Math.Decide.{dec_le}
use Rattle.std.proofs.Math.Seq.{take-set-lt}
use Rattle.answer.specs.Rules.{AllKept, first_broken}
use Rattle.digits.specs.Digits.{place}
use Rattle.digits.specs.Numbers.{value}
use Rattle.digits.proofs.laws.Strings.{leading_all, part_set, part_get_or}
use Rattle.boleto.specs.Guarded.{GuardedInBarcode, all, currency, check}
use Rattle.boleto.specs.Strings.{barcode_digits}
use Rattle.boleto.specs.Rules.{barcode_rules}
use Rattle.boleto.proofs.laws.Accepted.{of_barcode}
use Rattle.boleto.proofs.laws.Changes.{barcode_change}
use Rattle.layout.specs.Field.{Field, part}
use Rattle.layout.specs.Table.{fields_of, record_bytes, barcode_field, nominal_field, discount_field, fine_field}
use Rattle.layout.specs.Records.{boleto_amount}
use Rattle.layout.proofs.laws.Bytes.{length_places}
use Rattle.layout.specs.declared.Direction.{Direction}
use Rattle.layout.specs.declared.Record.TheVariants.{SegmentJ}
use Rattle.checker.specs.Line.{record_in, cents, boleto_rules}
use Rattle.promises.specs.Grammar.{RightLine}
use Rattle.promises.specs.Guarded.{place_of, On, In}
use Rattle.promises.proofs.laws.Differ.{Differ, kept, not_worth}
use Rattle.promises.proofs.laws.SameLine.{right_at}

-- ---- the amounts: any three of them determine the fourth

amounts : {dir : Direction} {l : List ℕ} → RightLine SegmentJ dir l
    → cents boleto_amount (record_in l) + cents discount_field (record_in l) ≡ cents nominal_field (record_in l) + cents fine_field (record_in l)
unfolding boleto_rules AllKept
amounts a = eqb-true _ _ a.house.1.1.1.0

module _ {p : ℕ} {dir : Direction} {l l' : List ℕ}
    (d : Differ p (record_in l) (record_in l')) (a : RightLine SegmentJ dir l) (a' : RightLine SegmentJ dir l') where
  same : (f : Field) → (In f p → ⊥) → cents f (record_in l) ≡ cents f (record_in l')
  same f out = ap value (kept d f out)

  pub not_values : On nominal_field.from fine_field.to p → ⊥
  unfolding fields_of AllKept
  not_values h = go (dec_le p nominal_field.to) (dec_le p discount_field.to)
    where
      paid : cents boleto_amount (record_in l) ≡ cents boleto_amount (record_in l')
      paid = same boleto_amount (λ i. omega arith)

      go : Dec (p ≤ nominal_field.to) → Dec (p ≤ discount_field.to) → ⊥
      go (yes k) m =
          not_worth d nominal_field (omega arith) (right_at a 10 (lit≤ tt)).0 (right_at a' 10 (lit≤ tt)).0
          (omega (arith, amounts a, amounts a', paid, same discount_field (λ i. omega arith), same fine_field (λ i. omega arith))) (omega arith)
      go (no k) (yes m) =
          not_worth d discount_field (omega arith) (right_at a 11 (lit≤ tt)).0 (right_at a' 11 (lit≤ tt)).0
          (omega (arith, amounts a, amounts a', paid, same nominal_field (λ i. omega arith), same fine_field (λ i. omega arith))) (omega arith)
      go (no k) (no m) =
          not_worth d fine_field (omega arith) (right_at a 12 (lit≤ tt)).0 (right_at a' 12 (lit≤ tt)).0
          (omega (arith, amounts a, amounts a', paid, same nominal_field (λ i. omega arith), same discount_field (λ i. omega arith))) (omega arith)

  pub not_paid : In boleto_amount p → ⊥
  unfolding fields_of AllKept
  not_paid h =
      not_worth d boleto_amount (omega arith) (right_at a 14 (lit≤ tt)).0 (right_at a' 14 (lit≤ tt)).0
      (omega (arith, amounts a, amounts a', same nominal_field (λ i. omega arith), same discount_field (λ i. omega arith), same fine_field (λ i. omega arith))) h

-- ---- the barcode

barcode_accepted : {dir : Direction} (l : List ℕ) → RightLine SegmentJ dir l → first_broken (barcode_rules (part barcode_field (record_in l))) ≡ Ok tt
unfolding fields_of boleto_rules AllKept
barcode_accepted l a =
    let bar = part barcode_field (record_in l) in
    let rules = right_at a 7 (lit≤ tt) in
    of_barcode bar (record {
      long = length_places barcode_field.from barcode_field.to (record_in l) (omega (arith, a.long));
      digits = leading_all bar (eqb-true _ _ rules.0);
      currency = eqb-true _ _ rules.1.0;
      seal = eqb-true _ _ a.house.0;
    })

pub in_barcode : {bar : List ℕ} {q : ℕ} → GuardedInBarcode bar q → (1 ≤ q) × (q ≤ barcode_digits)
in_barcode (all ne h k) = (h, k)
in_barcode currency = (lit≤ tt, lit≤ tt)
in_barcode check = (lit≤ tt, lit≤ tt)

-- another byte in the line is another byte in its barcode
pub not_barcode : {dir : Direction} {q : ℕ} (l : List ℕ) (p b : ℕ) → RightLine SegmentJ dir l → RightLine SegmentJ dir (set l (p - 1) b)
    → GuardedInBarcode (part barcode_field (record_in l)) q → p ≡ place_of q barcode_field → b ≢ place p (record_in l) → ⊥
not_barcode {q = q} l p b a a' g e ne =
    let c = in_barcode g in
    let rec = record_in l in
    let k : p - 1 - 17 ≡ q - 1 = omega arith in
    let changed : part barcode_field (record_in (set l (p - 1) b)) ≡ set (part barcode_field rec) (q - 1) b =
    rw (take-set-lt record_bytes l (p - 1) b (omega arith), part_set rec 17 44 (p - 1) b (omega arith) (omega arith), k) in
    let same : place q (part barcode_field rec) ≡ place p rec = rw (← k) (part_get_or rec 17 44 (p - 1) 0 (omega arith) (omega arith)) in
    barcode_change (part barcode_field rec) q b (barcode_accepted l a) g (rw same ne) (rw changed at (barcode_accepted (set l (p - 1) b) a'))
