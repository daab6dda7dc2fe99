-- `answer::Cents::stay_below` meets its contract. Assumes nothing.
use native.Mathlib.Omega.{arith}
use Rattle.answer.proofs.Tests.{left_below, reached}
use Rattle.answer.proofs.Cents.stay_below.Goals as goal

pub returns-then-self-limit : goal.returns-then-self-limit
returns-then-self-limit c = let a = c.args in left_below a.self.0 a.more.0 a.limit.0 (omega arith)

pub returns-else-self-limit : goal.returns-else-self-limit
returns-else-self-limit c = let a = c.args in reached a.self.0 a.more.0 a.limit.0 (omega arith)
