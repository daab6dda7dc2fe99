-- `answer::RecordCount::stay_within` meets its contract. Assumes nothing.
use native.Mathlib.Omega.{arith}
use Rattle.answer.proofs.Tests.{left_over, passed}
use Rattle.answer.proofs.RecordCount.stay_within.Goals as goal

pub returns-then-self-limit : goal.returns-then-self-limit
returns-then-self-limit c = let a = c.args in left_over a.self.0 a.more.0 a.limit.0 (omega arith)

pub returns-else-self-limit : goal.returns-else-self-limit
returns-else-self-limit c = let a = c.args in passed a.self.0 a.more.0 a.limit.0 (omega arith)
