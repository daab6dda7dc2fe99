-- `checker::order::detail_reading` meets its contract. Assumes nothing.
use mathlib.Core.Path.{◌∙◌}
use Rattle.checker.proofs.Edges.{alone_reading}
use Rattle.checker.proofs.order.detail_reading.Goals as goal

pub returns-in-Within : goal.returns-in-Within
returns-in-Within c = let a = c.args in rw c.in-Within.is (c.record_at.ensures ∙ alone_reading a.segment c.in-Within.position a.batch)
