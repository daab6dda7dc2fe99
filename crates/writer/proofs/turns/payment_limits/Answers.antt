-- `writer::turns::payment_limits` meets its contract. Assumes nothing.
use Rattle.answer.proofs.laws.Leaving.{leaves, goes_on}
use Rattle.answer.proofs.laws.Sums.{fits, capped_below}
use Rattle.checker.specs.Totals.{payment_count}
use Rattle.checker.specs.Line.{most_payments}
use Prim.Native.Nat.{◌+◌}
use native.Mathlib.Omega.{arith}
use Rattle.writer.proofs.Held.{below}
use mathlib.Core.Path.{◌∙◌}
use Rattle.writer.proofs.turns.payment_limits.Goals as goal

pub returns-in_err-test : goal.returns-in_err-test
returns-in_err-test c =
    leaves _ _ (rw (c.payments-few.ensures, c.current.ensures, capped_below (payment_count c.args.m.current) most_payments (omega arith), below) at c.test.ensures)
    c.in_err-test.was c.from_residual.ensures

pub returns : goal.returns
returns c =
    goes_on _ _ (rw (c.payments-few.ensures, c.current.ensures, capped_below (payment_count c.args.m.current) most_payments (omega arith), below) at c.test.ensures)
    c.in_ok-test.was (c.test-2.ensures ∙ rw (c.fits_file.ensures, c.plus.ensures, fits (c.args.details.0 + 2) (omega arith)))
