-- `digits::check_digit` meets its contract. Assumes nothing.
use Rattle.digits.specs.Checks.{counts, check_digit}
use Rattle.digits.proofs.laws.Sums.{behind_none}
use Rattle.digits.proofs.sealing.check_digit.Goals as goal

pub returns : goal.returns
unfolding check_digit
returns c = rw (c.lifted.ensures, c.weigh.ensures, behind_none (counts c.args.m))
