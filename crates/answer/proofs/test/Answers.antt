-- `answer::test` meets its contract. Assumes nothing.
use Rattle.answer.proofs.laws.Order.{past, here, done}
use Rattle.answer.proofs.test.Goals as goal
use Rattle.std.proofs.Common.{◌∙◌}

pub returns-then-kept : goal.returns-then-kept
returns-then-kept c = past _ _ _ _ _ c.if-kept.true done

pub returns-else-kept : goal.returns-else-kept
returns-else-kept c = c.refused.ensures ∙ here _ _ _ _ c.if-kept.false
