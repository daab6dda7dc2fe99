-- `writer::turns::is_held` meets its contract. Assumes nothing.
use Rattle.checker.proofs.laws.Bounds.{bounded, payments_fit, cents-fit, closed_cents_fit}
use Rattle.writer.specs.Refusals.{held}
use borrow.Author.Tests.{not-true, not-false}
use mathlib.Core.Path.{◌≡◌, sym, ◌∙◌}
use Rattle.checker.specs.Totals.{payment_count, cent_sum}
use native.Mathlib.Omega.{arith}
use Rattle.writer.proofs.turns.is_held.Goals as goal

pub returns-then-not-is_sound : goal.returns-then-not-is_sound
unfolding held
returns-then-not-is_sound c = rw (sym c.is_sound.ensures ∙ not-true _ c.if-not-is_sound.true-raw)

pub overflow_mul-few : goal.overflow_mul-few
overflow_mul-few c = let b = bounded _ (sym c.is_sound.ensures ∙ not-false _ c.if-not-is_sound.false-raw) in rw (c.payments.ensures, c.current-current.ensures) (omega arith)

pub overflow_add-few : goal.overflow_add-few
overflow_add-few c = let b = bounded _ (sym c.is_sound.ensures ∙ not-false _ c.if-not-is_sound.false-raw) in rw (c.payments.ensures, c.current-current.ensures) (omega arith)

pub returns : goal.returns
unfolding held
returns c =
    let m = c.args.m in
    let is = sym c.is_sound.ensures ∙ not-false _ c.if-not-is_sound.false-raw in
    let b = bounded m is in
    let payments : c.payments.result ≡ payment_count m.current = c.payments.ensures ∙ rw c.current-current.ensures (payments_fit b) in
    let closed : c.cents.result.0 ≡ cent_sum m.closed = c.cents.ensures ∙ rw c.closed-closed.ensures (closed_cents_fit b) in
    let current : c.cents-2.result.0 ≡ cent_sum m.current = c.cents-2.ensures ∙ rw c.current-current.ensures (cents-fit b) in
    rw (is, c.fit_a_file.ensures, closed, current, payments, c.records.ensures, c.current-current.ensures)
