-- What a sound state leaves room for: no sum wraps. Assumes nothing.
use Rattle.std.specs.Prelude.{◌≡◌, refl, Bool, true, ◌&&◌, List, ℕ, ◌*◌, ◌^◌, ◌≤◌, leb, ltb, length, None, Option, Some}
use Rattle.std.proofs.Common.{arith, leb-true, ltb-true, le-leb, lt-ltb, length-take}
use Rattle.answer.specs.Sums.{capped}
use Rattle.answer.proofs.laws.Sums.{fits}
use Rattle.digits.proofs.laws.Numerals.{value_lt}
use Rattle.layout.specs.Field.{Field, part}
use Rattle.layout.specs.Records.{shape_of, amount_field, credit_amount, boleto_amount, collection_amount}
use Rattle.layout.proofs.laws.Bytes.{and_left, and_right}
use Rattle.layout.specs.declared.Record.{Record}
use Rattle.layout.specs.declared.shapes.LineType.{LineType}
use Rattle.layout.specs.declared.shapes.LineType.TheVariants.{FileFirst, BatchFirst, Detail, BatchLast, FileLast}
use Rattle.layout.specs.declared.shapes.Amount.{Amount}
use Rattle.layout.specs.declared.shapes.Amount.TheVariants.{OfA, OfJ, OfO}
use Rattle.checker.specs.Totals.{add, opens, cents_in, counts, payments_of, amount_digits, batch_count, cent_sum, payment_count, record_count}
use Rattle.checker.specs.Machine.{sound}
use Rattle.checker.specs.inner.Steps.{Bounded, Room}
use Rattle.checker.proofs.laws.Sums.{together}
use Rattle.checker.specs.declared.Checker.{Checker}

-- `sound`, read as facts
both : (a : Bool) {b : Bool} → a && b ≡ true → (a ≡ true) × (b ≡ true)
both a {b} e = (and_left a b e, and_right a b e)

pub bounded : (s : Checker) → sound s ≡ true → Bounded s
unfolding sound
bounded s e =
    let e0 = both (leb (batch_count s.closed) _) e in
    let e1 = both (leb (record_count s.closed) _) e0.1 in
    let e2 = both (leb (payment_count s.closed) _) e1.1 in
    let e3 = both (ltb (cent_sum s.closed) _) e2.1 in
    let e4 = both (leb (batch_count s.current) _) e3.1 in
    let e5 = both (leb (record_count s.current) _) e4.1 in
    let e6 = both (leb (payment_count s.current) _) e5.1 in
    record {
      batches = leb-true _ _ e0.0;
      records = leb-true _ _ e1.0;
      payments = leb-true _ _ e2.0;
      cents = ltb-true _ _ e3.0;
      batches_current = leb-true _ _ e4.0;
      records_current = leb-true _ _ e5.0;
      payments_current = leb-true _ _ e6.0;
      cents_current = leb-true _ _ e6.1;
    }

-- and the facts as the test
pub bounded_sound : {s : Checker} → Bounded s → sound s ≡ true
unfolding sound
bounded_sound b =
    rw (
      le-leb _ _ b.batches,
      le-leb _ _ b.records,
      le-leb _ _ b.payments,
      lt-ltb _ _ b.cents,
      le-leb _ _ b.batches_current,
      le-leb _ _ b.records_current,
      le-leb _ _ b.payments_current,
      le-leb _ _ b.cents_current,
    )

-- so what is read of it is not capped
module _ {s : Checker} (b : Bounded s) where
  pub payments_fit : capped (payment_count s.current) ≡ payment_count s.current
  payments_fit = fits _ (omega arith)

  pub cents-fit : capped (cent_sum s.current) ≡ cent_sum s.current
  cents-fit = fits _ (omega arith)

  pub closed_cents_fit : capped (cent_sum s.closed) ≡ cent_sum s.closed
  closed_cents_fit = fits _ (omega arith)

-- ---- what a line counts

pub record Small (r : Record) (rec : List ℕ) : Type 0 where
  pub batches : (counts r rec).batches ≤ 1
  pub records : (counts r rec).records.0 ≡ 1
  pub payments : payment_count (counts r rec) ≡ payments_of r
  pub one : payments_of r ≤ 1
  pub cents : cent_sum (counts r rec) ≤ payments_of r * 10 ^ amount_digits

few_opens : (t : LineType) → opens t ≤ 1
few_opens FileFirst = omega arith
few_opens BatchFirst = omega arith
few_opens Detail = omega arith
few_opens BatchLast = omega arith
few_opens FileLast = omega arith

-- one amount at most, of fifteen digits
record OneAmount (fs : List Field) (rec : List ℕ) : Type 0 where
  one : length fs ≤ 1
  below : cents_in fs rec ≤ length fs * 10 ^ amount_digits

one_amount : (a : Option Amount) (rec : List ℕ) → OneAmount (amount_field a) rec
one_amount None rec = omega arith
one_amount (Some OfA) rec = omega (arith, value_lt amount_digits (part credit_amount rec) (rw length-take (omega arith)))
one_amount (Some OfJ) rec = omega (arith, value_lt amount_digits (part boleto_amount rec) (rw length-take (omega arith)))
one_amount (Some OfO) rec = omega (arith, value_lt amount_digits (part collection_amount rec) (rw length-take (omega arith)))

pub small : (r : Record) (rec : List ℕ) → Small r rec
small r rec =
    let a = one_amount (shape_of r).amount rec in
    let t = together r rec in
    record { batches = few_opens (shape_of r).line; records = refl; payments = t.payments_are; one = a.one; cents = rw t.cents_are a.below }

-- ---- no sum of a line leaves 64 bits

pub room : {s : Checker} → Bounded s → (r : Record) (rec : List ℕ) → Room s (counts r rec)
unfolding add
room b r rec = omega (arith, small r rec)
