-- `writer::payments::put_payment` meets its contract: line behind line. Assumes nothing.
use native.Mathlib.Omega.{arith}
use Rattle.writer.proofs.Lent.{over_first, over_next}
use Rattle.writer.proofs.Trying.{right_at}
use Rattle.writer.proofs.payments.put_payment.Goals as goal

pub loop-k-init : goal.loop-k-init
loop-k-init c = over_first _ _

pub put_line-requires-clause-answer_value : goal.put_line-requires-clause-answer_value
put_line-requires-clause-answer_value c = right_at c.args.made.now c.loop-k.k _ c.requires.all_right (omega arith)

pub loop-k-preserved : goal.loop-k-preserved
loop-k-preserved c =
    over_next c.args.made.now c.loop-k.k _ c.loop-k.invariant (omega arith) (omega (arith, c.requires.room)) _ c.put_line.ensures c.put_line.auto.part
