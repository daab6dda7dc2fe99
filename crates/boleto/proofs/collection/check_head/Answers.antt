-- `boleto::collection::check_head` meets its contract. Assumes nothing.
use Rattle.std.proofs.Common.{sym, ap, ◌∙◌}
use Rattle.answer.specs.Rules.{answer_alone}
use Rattle.answer.proofs.laws.Leaving.{turned, turns_back, goes_on}
use Rattle.boleto.specs.CollectionRules.{code_head_rules}
use Rattle.boleto.proofs.collection.check_head.Goals as goal

pub returns-in_err-string-clause-answer : goal.returns-in_err-string-clause-answer
unfolding code_head_rules
returns-in_err-string-clause-answer g c =
    turns_back _ _ c.check_string.ensures.answer _ (ap answer_alone c.in_err-string.was) c.from_residual.ensures

pub returns-in_err-test-clause-answer : goal.returns-in_err-test-clause-answer
unfolding code_head_rules
returns-in_err-test-clause-answer g c =
    let product = rw (c.product_fits.ensures, c.in_ok-string.ensures.string) at c.test.ensures in
    goes_on _ _ c.check_string.ensures.answer (ap answer_alone c.in_ok-string.was)
    (turns_back _ _ product _ c.in_err-test.was c.from_residual-in_err-test.ensures)

pub returns-in_err-test-2-clause-answer : goal.returns-in_err-test-2-clause-answer
unfolding code_head_rules
returns-in_err-test-2-clause-answer g c =
    let product = rw (c.product_fits.ensures, c.in_ok-string.ensures.string) at c.test.ensures in
    let identifier = rw (c.identifier_fits.ensures, c.in_ok-string.ensures.string) at c.test-2.ensures in
    goes_on _ _ c.check_string.ensures.answer (ap answer_alone c.in_ok-string.was)
    (goes_on _ _ product c.in_ok-test.was
    (turned _ c.in_err-test-2.was c.from_residual-in_err-test-2.ensures ∙ identifier))

pub returns-clause-answer : goal.returns-clause-answer
unfolding code_head_rules
returns-clause-answer g c =
    let product = rw (c.product_fits.ensures, c.in_ok-string.ensures.string) at c.test.ensures in
    let identifier = rw (c.identifier_fits.ensures, c.in_ok-string.ensures.string) at c.test-2.ensures in
    goes_on _ _ c.check_string.ensures.answer (ap answer_alone c.in_ok-string.was)
    (goes_on _ _ product c.in_ok-test.was (sym c.in_ok-test-2.was ∙ identifier))
