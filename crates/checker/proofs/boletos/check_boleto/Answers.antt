-- `checker::boletos::check_boleto` meets its contract: its rules, one after the other. Assumes nothing.
use mathlib.Core.Path.{◌∙◌}
use Rattle.answer.proofs.laws.Order.{ahead}
use Rattle.checker.specs.Line.{boleto_rules}
use Rattle.checker.proofs.boletos.check_boleto.Goals as goal

pub returns : goal.returns
unfolding boleto_rules
returns c =
    ahead c.and-3.ensures _ _ (c.test-check.ensures ∙ rw c.is_sealed-general.ensures)
    (ahead c.and-2.ensures _ _ (c.test-due.ensures ∙ rw c.due_fits.ensures)
    (ahead c.and.ensures _ _ (c.test-cents.ensures ∙ rw c.cents_fit.ensures)
    (c.test-amount.ensures ∙ rw c.amount_fits-paid.ensures)))
