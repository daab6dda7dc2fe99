-- The measure is what is left of the payload. Assumes nothing.
use Rattle.std.proofs.Common.{length}
use Rattle.probe.proofs.payload.take_steps.Given as goal

abbrev pub decreases-loop-step : goal.decreases-loop-step
decreases-loop-step g l = length l.rest.0.now
