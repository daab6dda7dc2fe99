-- `checker::order::line_reading` meets its contract. Assumes nothing.
use mathlib.Core.Path.{◌∙◌}
use borrow.Author.Tests.{ne_eqb}
use Rattle.checker.proofs.Edges.{no_detail}
use Rattle.checker.proofs.order.line_reading.Goals as goal

pub returns-else-kind-eq-DETAIL : goal.returns-else-kind-eq-DETAIL
returns-else-kind-eq-DETAIL c = let a = c.args in c.end_reading.ensures ∙ no_detail a.phase a.dir a.batch a.kind a.segment (ne_eqb _ _ c.if-kind-eq-DETAIL.false)
