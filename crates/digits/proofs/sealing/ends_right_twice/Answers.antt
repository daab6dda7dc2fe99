-- `digits::sealing::ends_right_twice` meets its contract. Assumes nothing.
use Rattle.std.proofs.Common.{sym}
use native.Mathlib.Nat.{sub-zero}
use Rattle.digits.proofs.Small.{ends_wrong_twice}
use Rattle.digits.proofs.sealing.ends_right_twice.Goals as goal

pub returns-then-s-eq0 : goal.returns-then-s-eq0
returns-then-s-eq0 c = let a = c.args in sym (ends_wrong_twice a.m a.s.now c.if-s-eq0.true)

pub returns : goal.returns
returns c = rw (c.ends_right-first.ensures, c.ends_right.ensures, sub-zero)
