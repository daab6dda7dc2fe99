-- `writer::Writer::payment` meets its contract. Assumes nothing.
use Rattle.answer.proofs.laws.Order.{ahead}
use Rattle.writer.proofs.Answering.{turn_is, turned, whole_call}
use Rattle.writer.specs.Given.{pay}
use Rattle.writer.proofs.laws.TakesCall.{pay_may}
use Rattle.writer.proofs.Writer.payment.Goals as goal

pub write_payment-requires : goal.write_payment-requires
write_payment-requires c =
    λ t.
    let a = c.args in
    let k = turned (pay a.p) a.self.checker (turn_is a.self.checker _ (ahead c.and-asked.ensures _ _ (rw (c.turns_at.ensures, c.phase.ensures) at c.test_turn-turn.ensures) (rw c.records.ensures.0 at c.payment_limits.ensures))) t in
    pay_may a.self.checker k.0 a.p k.1

pub returns : goal.returns
returns c =
    let a = c.args in
    rw c.hand_back.ensures
    (whole_call (pay a.p) (turn_is a.self.checker _ (ahead c.and-asked.ensures _ _ (rw (c.turns_at.ensures, c.phase.ensures) at c.test_turn-turn.ensures) (rw c.records.ensures.0 at c.payment_limits.ensures))) c.write_payment.ensures)
