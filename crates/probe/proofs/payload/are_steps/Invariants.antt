-- The measure is what is left of the payload. Assumes nothing.
use Rattle.std.proofs.Common.{length}
use Rattle.probe.proofs.payload.are_steps.Given as goal

abbrev pub decreases-loop-rest : goal.decreases-loop-rest
decreases-loop-rest g l = length l.rest.0.now
