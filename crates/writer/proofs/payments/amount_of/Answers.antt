-- `writer::payments::amount_of` meets its contract. Assumes nothing.
use Rattle.std.specs.Prelude.{Option, Some}
use mathlib.Core.Path.{◌≡◌, refl, sym, ap, ◌∙◌}
use Rattle.layout.specs.Records.{shape_of}
use Rattle.layout.proofs.laws.Records.{by_amount}
use Rattle.layout.specs.declared.Record.{Record}
use Rattle.layout.specs.declared.Record.TheVariants.{SegmentA, SegmentJ, SegmentO}
use Rattle.layout.specs.declared.shapes.Shape.{Shape}
use Rattle.layout.specs.declared.shapes.Amount.{Amount}
use Rattle.layout.specs.declared.shapes.Amount.TheVariants.{OfA, OfJ, OfO}
use Rattle.layout.specs.Table.{fields_of}
use Rattle.layout.specs.Names.{before, index_of}
use Rattle.writer.proofs.payments.amount_of.Goals as goal

-- an amount is A's, J's or O's
of_a : (r : Record) → (shape_of r).amount ≡ (Some OfA) → r ≡ SegmentA
of_a = by_amount (λ r. (shape_of r).amount ≡ (Some OfA) → r ≡ SegmentA) (λ r e q. cc) (λ q. refl) (λ q. cc) (λ q. cc)

of_j : (r : Record) → (shape_of r).amount ≡ (Some OfJ) → r ≡ SegmentJ
of_j = by_amount (λ r. (shape_of r).amount ≡ (Some OfJ) → r ≡ SegmentJ) (λ r e q. cc) (λ q. cc) (λ q. refl) (λ q. cc)

of_o : (r : Record) → (shape_of r).amount ≡ (Some OfO) → r ≡ SegmentO
of_o = by_amount (λ r. (shape_of r).amount ≡ (Some OfO) → r ≡ SegmentO) (λ r e q. cc) (λ q. cc) (λ q. cc) (λ q. refl)

amount_told : (r : Record) {x : Shape} {a : Option Amount} → x ≡ shape_of r → x.amount ≡ a → (shape_of r).amount ≡ a
amount_told r e q = sym (ap (λ (x : Shape). x.amount) e) ∙ q

pub returns-in-Some-OfA : goal.returns-in-Some-OfA
unfolding fields_of index_of before
returns-in-Some-OfA c =
    let e = of_a c.args.v.which (amount_told c.args.v.which c.shape_of.ensures (let e : c.in-Some-OfA.field-0 ≡ OfA = cc in c.in-Some-OfA.is ∙ ap Some e)) in
    rw e (rw e at c.cents_at.ensures)

pub returns-in-Some-OfJ : goal.returns-in-Some-OfJ
unfolding fields_of index_of before
returns-in-Some-OfJ c =
    let e = of_j c.args.v.which (amount_told c.args.v.which c.shape_of.ensures (let e : c.in-Some-OfJ.field-0 ≡ OfJ = cc in c.in-Some-OfJ.is ∙ ap Some e)) in
    rw e (rw e at c.cents_at-in-Some-OfJ.ensures)

pub returns-in-Some-OfO : goal.returns-in-Some-OfO
unfolding fields_of index_of before
returns-in-Some-OfO c =
    let e = of_o c.args.v.which (amount_told c.args.v.which c.shape_of.ensures (let e : c.in-Some-OfO.field-0 ≡ OfO = cc in c.in-Some-OfO.is ∙ ap Some e)) in
    rw e (rw e at c.cents_at-in-Some-OfO.ensures)
