use Rattle.writer.proofs.Lent.{Over}
use Rattle.writer.proofs.payments.put_payment.Given as goal

abbrev pub invariant-loop-k : goal.invariant-loop-k
invariant-loop-k l = Over l.made l.k l.initial.part l.part
