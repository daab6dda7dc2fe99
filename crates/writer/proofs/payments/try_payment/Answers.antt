-- `writer::payments::try_payment` meets its contract: position by position. Assumes nothing.
use mathlib.Core.Path.{refl}
use native.Mathlib.Omega.{arith}
use Rattle.writer.specs.inner.Steps.{nth_in}
use Rattle.writer.proofs.laws.Paying.{may_try}
use Rattle.writer.proofs.Trying.{going_first, going_stopped, going_on, gone_through}
use Rattle.writer.proofs.payments.try_payment.Goals as goal

pub loop-position-init : goal.loop-position-init
loop-position-init c = going_first c.args.p _ c.requires refl

pub try_record-requires : goal.try_record-requires
try_record-requires c =
    rw (c.is_expected-expected.ensures, c.record_at-v.ensures, c.direction-dir.ensures, c.batch-batch.ensures)
    (may_try c.loop-position.invariant.stands (nth_in c.loop-position.position c.args.p).which)

pub returns-in_err-tried : goal.returns-in_err-tried
returns-in_err-tried c =
    going_stopped c.loop-position.invariant (omega (arith, c.records-position-end.ensures))
    (rw (c.is_expected-expected.ensures, c.record_at-v.ensures, c.direction-dir.ensures, c.batch-batch.ensures) at c.in_err-tried.ensures)
    c.from_residual.ensures

pub loop-position-preserved : goal.loop-position-preserved
loop-position-preserved c =
    going_on c.loop-position.invariant (omega (arith, c.records-position-end.ensures))
    (rw (c.is_expected-expected.ensures, c.record_at-v.ensures, c.direction-dir.ensures, c.batch-batch.ensures) at c.in_ok-tried.ensures)

pub returns : goal.returns
returns c = gone_through c.loop-position.invariant (omega (arith, c.records-position-end.ensures))
