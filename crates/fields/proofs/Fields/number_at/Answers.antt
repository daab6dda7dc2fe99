-- `fields::Fields::number_at` meets its contract. Assumes nothing.
use native.Mathlib.Omega.{arith}
use Rattle.fields.proofs.laws.Parts.{few}
use Rattle.fields.proofs.Fields.number_at.Goals as goal

pub offset_bounds-self-field : goal.offset_bounds-self-field
offset_bounds-self-field c = omega (arith, rw c.count.ensures at c.if-field-count.true, few c.args.self.which)

pub bounds-self-field : goal.bounds-self-field
bounds-self-field c = omega (arith, rw c.count.ensures at c.if-field-count.true, few c.args.self.which)
