-- `checker::totals::Totals::plus` meets its contract. Assumes nothing.
use Rattle.answer.proofs.laws.Sums.{fits}
use Rattle.checker.specs.Totals.{add}
use Rattle.checker.proofs.totals.Totals.plus.Goals as goal

pub returns : goal.returns
unfolding add
returns c = let fit = c.requires in rw (c.plus.ensures, c.plus-2.ensures, c.plus-3.ensures, fits _ fit.records)
