-- `digits::sealing::check_of` meets its contract. Assumes nothing.
use Rattle.digits.specs.Checks.{base, value_of, counts, check_digit}
use Rattle.digits.proofs.laws.Sums.{weighed_split}
use Rattle.digits.proofs.sealing.check_of.Goals as goal

pub returns : goal.returns
unfolding check_digit
returns c =
    let a = c.args in
    let w = weighed_split (value_of a.m) (counts a.m) (base a.m) a.a.now a.b.now in
    cc
