-- Six digits spell a number below a million. Assumes nothing.
use Rattle.std.proofs.Common.{arith, sym, ◌∙◌}
use Rattle.digits.proofs.laws.Numerals.{given_lt}
use Rattle.probe.proofs.header.announced.Goals as goal

pub returns : goal.returns
returns c =
    let below = given_lt c.args.text.now c.in_ok-n.n (sym c.number_of.ensures ∙ c.in_ok-n.was) in
    omega (arith, rw c.requires at below)
