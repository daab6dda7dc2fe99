use Rattle.writer.proofs.Trying.{Going}
use Rattle.writer.proofs.payments.try_payment.Given as goal

abbrev pub invariant-loop-position : goal.invariant-loop-position
invariant-loop-position l = Going l.initial.checker l.p l.made l.checker l.position
