-- `fields::table::count` meets its contract. Assumes nothing.
use native.Mathlib.Omega.{arith}
use Rattle.layout.proofs.laws.Columns.{first_is, past_is, in_order}
use Rattle.fields.proofs.table.count.Goals as goal

pub overflow_sub-result : goal.overflow_sub-result
overflow_sub-result c = in_order _ c.span_of-s.ensures

pub returns : goal.returns
returns c =
    let s = c.span_of-s.ensures in
    let r = c.args.which in
    omega (arith, first_is r s, past_is r s)
