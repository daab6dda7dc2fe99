-- The records of a payment that is given: its first, how many they are, and one after the other. Assumes nothing.
use Rattle.std.specs.Prelude.{◌≡◌, refl, List, [], ◌∷◌, ℕ, zero, suc, ◌<◌, ◌≤◌, length, drop, get_or, None, Option, Some}
use Rattle.std.proofs.Common.{sym, ap, ◌∙◌, arith, lt-ltb, eq-eqb, drop-cons}
use Rattle.std.proofs.Math.Decide.{dec_lt}
use Rattle.answer.proofs.laws.Order.{never}
use Rattle.layout.specs.Records.{code}
use Rattle.layout.specs.declared.Record.{Record}
use Rattle.layout.specs.declared.pairs.Batch.{Batch}
use Rattle.layout.specs.declared.pairs.Batch.TheVariants.{Credit, Boleto, Collection}
use Rattle.layout.specs.declared.Record.TheVariants.{SegmentO}
use Rattle.layout.specs.declared.shapes.Phase.{Phase}
use Rattle.layout.specs.declared.shapes.Phase.TheVariants.{Within, Paid}
use Rattle.fields.specs.Values.{taken_as}
use Rattle.fields.specs.declared.Fields.{Fields}
use Rattle.checker.specs.Order.{payment}
use Rattle.checker.specs.Machine.{most_details}
use Rattle.checker.proofs.laws.Payments.{brief, row, stands_in, one_stands}
use Rattle.checker.specs.inner.Following.{Stands}
use Rattle.writer.specs.Given.{one, two, three, first_of, later_of, first_in, records_in}
use Rattle.writer.specs.Refusals.{turns}
use Rattle.writer.specs.inner.Steps.{third_of, third_in, nth_in}
use Rattle.writer.specs.declared.given.Given.{Given}
use Rattle.writer.specs.declared.given.Given.TheVariants.{One, Two, Three}
use Rattle.writer.specs.declared.given.Payment.{Payment}

-- it has a first
pub begins_with : (p : Payment) → records_in p ≡ first_in p ∷ drop 1 (records_in p)
begins_with p = refl

-- and no more than a payment may have
pub some_few : (p : Payment) → (1 ≤ length (records_in p)) × (length (records_in p) ≤ most_details)
some_few p = go p.given
  where
    go : (r : Given) → (1 ≤ length (first_of r ∷ later_of r)) × (length (first_of r ∷ later_of r) ≤ most_details)
    go (One a) = omega arith
    go (Two a b) = omega arith
    go (Three a b c) = omega arith

-- behind an O no record of a payment is due
o_alone : (b : Option Batch) → Stands b 0 SegmentO → length (payment b) ≤ 1
o_alone b g = go (dec_lt 1 (length (payment b)))
  where
    go : Dec (1 < length (payment b)) → length (payment b) ≤ 1
    go (yes h) = let e : Paid ≡ Within 1 = (row g).phase ∙ rw (lt-ltb 1 (length (payment b)) h) in never (sym (ap (λ (p : Phase). (turns p).payment) e))
    go (no h) = omega arith

-- where its first is the one that is due, it has as many as its kind of batch asks for
pub paid_in_full : (b : Option Batch) (p : Payment) → Stands b 0 (first_in p).which → length (payment b) ≤ length (records_in p)
paid_in_full b p g = go p.given g
  where
    go : (r : Given) → Stands b 0 (first_of r).which → length (payment b) ≤ length (first_of r ∷ later_of r)
    go (One x) f = o_alone b f
    go (Two x y) f = omega (arith, brief b)
    go (Three x y z) f = omega (arith, brief b)

-- from a position on
pub from_position : (p : Payment) (k : ℕ) → k < length (records_in p) → drop k (records_in p) ≡ nth_in k p ∷ drop (suc k) (records_in p)
from_position p k h = drop-cons (records_in p) k (third_in p) h

-- behind the second, the third
pub the_third : (p : Payment) (k : ℕ) → 2 ≤ k → nth_in k p ≡ third_in p
the_third p zero h = absurd (omega arith)
the_third p (suc zero) h = absurd (omega arith)
the_third p (suc (suc k)) h = go p.given k
  where
    go : (r : Given) (k : ℕ) → get_or (first_of r ∷ later_of r) (suc (suc k)) (third_of r) ≡ third_of r
    go (One a) k = refl
    go (Two a b) k = refl
    go (Three a b c) zero = refl
    go (Three a b c) (suc k) = refl

-- ---- and so many records are a payment

-- a payment of one record begins with an O
one_o : (b : Option Batch) {r : Record} → Stands b 0 r → length (payment b) ≤ 1 → r ≡ SegmentO
one_o (Some Credit) g h = absurd (omega arith)
one_o (Some Boleto) g h = absurd (omega arith)
one_o (Some Collection) g h = one_stands g (record { is = refl })
one_o None g h = absurd (omega (arith, stands_in g))

-- fields of an O are taken as they are
taken_o : (v : Fields) → v.which ≡ SegmentO → taken_as SegmentO v ≡ v
taken_o v e = rw (eq-eqb (code v.which) (code SegmentO) (ap code e)) (λ i. record { which = sym e i; numbers = v.numbers; text = v.text })

pub as_payment : (b : Option Batch) (g : Fields) (gs : List Fields) → Stands b 0 g.which → length (payment b) ≤ length (g ∷ gs) → length (g ∷ gs) ≤ most_details
    → (p : Payment) × (records_in p ≡ g ∷ gs)
as_payment b g [] f low high = (one g, ap (λ (v : Fields). v ∷ []) (taken_o g (one_o b f low)))
as_payment b g (h ∷ []) f low high = (two g h, refl)
as_payment b g (h ∷ k ∷ []) f low high = (three g h k, refl)
as_payment b g (h ∷ k ∷ m ∷ gs) f low high = absurd (omega arith)
