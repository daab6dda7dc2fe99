-- `writer::payments::check_sum` meets its contract. Assumes nothing.
use mathlib.Core.Path.{◌≡◌, ◌∙◌}
use Prim.Native.Nat.{◌+◌}
use Rattle.answer.proofs.laws.Sums.{fits}
use Rattle.checker.proofs.laws.Bounds.{bounded, cents-fit, closed_cents_fit}
use Rattle.checker.specs.Totals.{cent_sum}
use native.Mathlib.Omega.{arith}
use Rattle.writer.proofs.payments.check_sum.Goals as goal

pub returns : goal.returns
returns c =
    let bound = bounded _ c.requires in
    let m = c.args.m in
    let closed : c.cents.result.0 ≡ cent_sum m.closed = c.cents.ensures ∙ rw c.closed.ensures (closed_cents_fit bound) in
    let current : c.cents-2.result.0 ≡ cent_sum m.current = c.cents-2.ensures ∙ rw c.current.ensures (cents-fit bound) in
    let paid : c.plus-paid.result.0 ≡ cent_sum m.closed + cent_sum m.current = c.plus-paid.ensures ∙ rw (closed, current) (fits _ (omega arith)) in
    rw (c.test.ensures, c.fit_a_file-fits.ensures, c.amount_of.ensures, c.first_record.ensures, paid)
