-- `layout::table::span_of` meets its contract, by the law on the records' rows. Assumes nothing.
use mathlib.Core.Path.{◌≡◌, ap, subst⁻¹}
use Prim.Native.Nat.{ℕ, ◌<◌}
use native.Mathlib.Omega.{arith}
use Rattle.layout.specs.inner.Lent.{span_of}
use Rattle.layout.proofs.laws.Columns.{starts, span_in, starts_are}
use Rattle.layout.proofs.laws.Records.{tabled}
use Rattle.layout.specs.Records.{shape_of}
use Rattle.layout.specs.declared.Record.{Record}
use Rattle.layout.specs.declared.shapes.Shape.{Shape}
use Rattle.layout.proofs.table.span_of.Goals as goal

below : (r : Record) {s : Shape} → s ≡ shape_of r → s.code < 10
below r e = rw e (tabled r).below

pub returns : goal.returns
returns c =
    subst⁻¹ (λ (n : ℕ). span_in starts n ≡ span_of c.args.which) (ap (λ (x : Shape). x.code) c.shape_of-n.ensures) (starts_are c.args.which)

pub offset_bounds-n : goal.offset_bounds-n
offset_bounds-n c = omega (arith, (below c.args.which c.shape_of-n.ensures))

pub bounds-n : goal.bounds-n
bounds-n c = omega (arith, (below c.args.which c.shape_of-n.ensures))

pub overflow_add-result : goal.overflow_add-result
overflow_add-result c = omega (arith, (below c.args.which c.shape_of-n.ensures))

pub offset_bounds-n-2 : goal.offset_bounds-n-2
offset_bounds-n-2 c = omega (arith, (below c.args.which c.shape_of-n.ensures))

pub bounds-n-2 : goal.bounds-n-2
bounds-n-2 c = omega (arith, (below c.args.which c.shape_of-n.ensures))
