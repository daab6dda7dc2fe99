-- `boleto::right_barcode` meets its contract. Assumes nothing.
use Rattle.std.proofs.Common.{sym, ap, ◌∙◌}
use Rattle.answer.specs.Rules.{answer_alone}
use Rattle.answer.proofs.laws.Leaving.{turned, turns_back, goes_on}
use Rattle.boleto.specs.Rules.{barcode_rules}
use Rattle.boleto.proofs.right_barcode.Goals as goal

pub returns-in_err-bar-clause-answer : goal.returns-in_err-bar-clause-answer
unfolding barcode_rules
returns-in_err-bar-clause-answer c =
    turns_back _ _ c.check_head.ensures.answer _ (ap answer_alone c.in_err-bar.was) c.from_residual.ensures

pub returns-in_err-test-clause-answer : goal.returns-in_err-test-clause-answer
unfolding barcode_rules
returns-in_err-test-clause-answer c =
    let asked = rw (c.is_sealed.ensures, c.in_ok-bar.ensures.string) at c.test.ensures in
    goes_on _ _ c.check_head.ensures.answer (ap answer_alone c.in_ok-bar.was)
    (turned _ c.in_err-test.was c.from_residual-in_err-test.ensures ∙ asked)

pub returns-clause-answer : goal.returns-clause-answer
unfolding barcode_rules
returns-clause-answer c =
    let asked = rw (c.is_sealed.ensures, c.in_ok-bar.ensures.string) at c.test.ensures in
    goes_on _ _ c.check_head.ensures.answer (ap answer_alone c.in_ok-bar.was) (sym c.in_ok-test.was ∙ asked)
