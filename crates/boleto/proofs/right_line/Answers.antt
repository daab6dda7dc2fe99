-- `boleto::right_line` meets its contract. Assumes nothing.
use Rattle.std.proofs.Common.{sym, ap, ◌∙◌}
use Rattle.answer.specs.Rules.{answer_alone}
use Rattle.answer.proofs.laws.Leaving.{turned, turns_back, goes_on}
use Rattle.boleto.specs.Rules.{digit_line_rules}
use Rattle.boleto.proofs.right_line.Goals as goal

pub returns-in_err-line-clause-answer : goal.returns-in_err-line-clause-answer
unfolding digit_line_rules
returns-in_err-line-clause-answer c =
    turns_back _ _ c.check_head.ensures.answer _ (ap answer_alone c.in_err-line.was) c.from_residual.ensures

pub returns-in_err-check_digits-clause-answer : goal.returns-in_err-check_digits-clause-answer
unfolding digit_line_rules
returns-in_err-check_digits-clause-answer c =
    let asked = rw c.in_ok-line.ensures.string at c.check_digits.ensures in
    goes_on _ _ c.check_head.ensures.answer (ap answer_alone c.in_ok-line.was)
    (turned _ c.in_err-check_digits.was c.from_residual-in_err-check_digits.ensures ∙ asked)

pub returns-clause-answer : goal.returns-clause-answer
unfolding digit_line_rules
returns-clause-answer c =
    let asked = rw c.in_ok-line.ensures.string at c.check_digits.ensures in
    goes_on _ _ c.check_head.ensures.answer (ap answer_alone c.in_ok-line.was) (sym c.in_ok-check_digits.was ∙ asked)
