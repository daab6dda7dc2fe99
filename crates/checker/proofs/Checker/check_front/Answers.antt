-- `checker::Checker::check_front` meets its contract. Assumes nothing.
use Rattle.std.proofs.Common.{◌≢◌, ◌∙◌, length, arith, eq-eqb, ne_eqb, sym}
use Rattle.answer.proofs.laws.Order.{here, past}
use Rattle.answer.proofs.laws.Leaving.{turns_back, goes_on}
use Rattle.checker.specs.Line.{line_bytes}
use Rattle.checker.proofs.Checker.check_front.Goals as goal
use Rattle.checker.proofs.Checker.check_front.Goals.{in_default-via-in-Some+else-line-eq-LINE_BYTES, in_default-via-in_default}

pub returns-in_err-test-clause-answer : goal.returns-in_err-test-clause-answer
returns-in_err-test-clause-answer c = turns_back _ _ (rw c.is_ended.ensures at c.test.ensures) _ c.in_err-test.was c.from_residual.ensures

pub returns-in_default-clause-answer : goal.returns-in_default-clause-answer
returns-in_default-clause-answer c =
    let other : length c.args.line.now ≢ line_bytes = elim c.in_default.branch [
      | in_default-via-in-Some+else-line-eq-LINE_BYTES w ↦ w.if-line-eq-LINE_BYTES.false
      | in_default-via-in_default w ↦ let short = rw w.in_default.is at c.first_chunk.ensures.cases in omega arith
    ] in
    goes_on _ _ (rw c.is_ended.ensures at c.test.ensures) c.in_ok-test.was (rw c.at.ensures (here _ _ _ _ (ne_eqb _ _ other)))

pub returns-in_err-check_bytes-clause-answer : goal.returns-in_err-check_bytes-clause-answer
returns-in_err-check_bytes-clause-answer c =
    goes_on _ _ (rw c.is_ended.ensures at c.test.ensures) c.in_ok-test.was
    (past _ _ _ _ _ (eq-eqb _ _ c.if-line-eq-LINE_BYTES.true)
    (turns_back _ _ (rw c.in-Some.ensures.cases.same at c.check_bytes.ensures) _ c.in_err-check_bytes.was c.from_residual-in_err-check_bytes.ensures))

pub returns-in_err-test-2-clause-answer : goal.returns-in_err-test-2-clause-answer
returns-in_err-test-2-clause-answer c =
    goes_on _ _ (rw c.is_ended.ensures at c.test.ensures) c.in_ok-test.was
    (past _ _ _ _ _ (eq-eqb _ _ c.if-line-eq-LINE_BYTES.true)
    (goes_on _ _ (rw c.in-Some.ensures.cases.same at c.check_bytes.ensures) c.in_ok-check_bytes.was
    (turns_back _ _ c.test-2.ensures _ c.in_err-test-2.was c.from_residual-in_err-test-2.ensures)))

pub returns-in_err-test-3-clause-answer : goal.returns-in_err-test-3-clause-answer
returns-in_err-test-3-clause-answer c =
    goes_on _ _ (rw c.is_ended.ensures at c.test.ensures) c.in_ok-test.was
    (past _ _ _ _ _ (eq-eqb _ _ c.if-line-eq-LINE_BYTES.true)
    (goes_on _ _ (rw c.in-Some.ensures.cases.same at c.check_bytes.ensures) c.in_ok-check_bytes.was
    (goes_on _ _ c.test-2.ensures c.in_ok-test-2.was
    (turns_back _ _ c.test-3.ensures _ c.in_err-test-3.was c.from_residual-in_err-test-3.ensures))))

pub returns-clause-answer : goal.returns-clause-answer
returns-clause-answer c =
    goes_on _ _ (rw c.is_ended.ensures at c.test.ensures) c.in_ok-test.was
    (past _ _ _ _ _ (eq-eqb _ _ c.if-line-eq-LINE_BYTES.true)
    (goes_on _ _ (rw c.in-Some.ensures.cases.same at c.check_bytes.ensures) c.in_ok-check_bytes.was
    (goes_on _ _ c.test-2.ensures c.in_ok-test-2.was
    (sym c.in_ok-test-3.was ∙ c.test-3.ensures))))
