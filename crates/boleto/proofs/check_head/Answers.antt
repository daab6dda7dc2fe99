-- `boleto::check_head` meets its contract. Assumes nothing.
use Rattle.std.proofs.Common.{sym, ap, ◌∙◌}
use Rattle.answer.specs.Rules.{answer_alone}
use Rattle.answer.proofs.laws.Leaving.{turned, turns_back, goes_on}
use Rattle.boleto.specs.Rules.{head_rules}
use Rattle.boleto.proofs.check_head.Goals as goal

pub returns-in_err-string-clause-answer : goal.returns-in_err-string-clause-answer
unfolding head_rules
returns-in_err-string-clause-answer g c =
    turns_back _ _ c.check_string.ensures.answer _ (ap answer_alone c.in_err-string.was) c.from_residual.ensures

pub returns-in_err-test-clause-answer : goal.returns-in_err-test-clause-answer
unfolding head_rules
returns-in_err-test-clause-answer g c =
    let asked = rw (c.currency_fits.ensures, c.in_ok-string.ensures.string) at c.test.ensures in
    goes_on _ _ c.check_string.ensures.answer (ap answer_alone c.in_ok-string.was)
    (turned _ c.in_err-test.was c.from_residual-in_err-test.ensures ∙ asked)

pub returns-clause-answer : goal.returns-clause-answer
unfolding head_rules
returns-clause-answer g c =
    let asked = rw (c.currency_fits.ensures, c.in_ok-string.ensures.string) at c.test.ensures in
    goes_on _ _ c.check_string.ensures.answer (ap answer_alone c.in_ok-string.was) (sym c.in_ok-test.was ∙ asked)
