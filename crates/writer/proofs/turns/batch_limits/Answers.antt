-- `writer::turns::batch_limits` meets its contract. Assumes nothing.
use Rattle.answer.proofs.laws.Leaving.{leaves, goes_on}
use Rattle.writer.proofs.Held.{below}
use mathlib.Core.Path.{◌≡◌, ◌∙◌}
use Prim.Native.Nat.{◌+◌}
use native.Mathlib.Omega.{arith}
use Rattle.answer.proofs.laws.Sums.{fits}
use Rattle.writer.specs.Refusals.{kind_given, least_details, trailers}
use Rattle.writer.proofs.turns.batch_limits.Goals as goal

pub returns-in_err-test : goal.returns-in_err-test
returns-in_err-test c =
    leaves _ _ (rw (c.batches-few.ensures, c.closed.ensures, below) at c.test.ensures) c.in_err-test.was c.from_residual.ensures

pub returns : goal.returns
returns c =
    let a = c.args in
    let kind : c.kind_given.result ≡ kind_given a.m.dir a.v = c.kind_given.ensures ∙ rw c.direction.ensures in
    let least = c.least_details-least.ensures in
    let room : c.plus.result.0 ≡ 1 + least_details (kind_given a.m.dir a.v) + trailers =
    c.plus.ensures ∙ fits (c.least_details-least.result.0 + 3) (omega arith) ∙ rw (← kind) (omega arith) in
    goes_on _ _ (rw (c.batches-few.ensures, c.closed.ensures, below) at c.test.ensures) c.in_ok-test.was (c.test-2.ensures ∙ rw (c.fits_file.ensures, room))
