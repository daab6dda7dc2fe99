-- `files::lines::run` meets its contract. The loop: the steps over what is left give what all steps give. Assumes nothing.
use Rattle.std.proofs.Common.{sym, ◌∙◌}
use Rattle.files.proofs.Rounds.{turn, no_more, goes_on, stops}
use Rattle.files.proofs.lines.run.Goals as goal

pub loop-line-preserved : goal.loop-line-preserved
loop-line-preserved c =
    let inv = c.loop-line.invariant in
    let cut = c.in-Some.ensures.steps in
    let t = turn _ _ _ cut.1.0 (rw inv.0 at cut.1.1) cut.1.2 c.loop-line.state in
    let on = rw c.step-stepped.ensures at (sym c.is_err.ensures.value ∙ c.if-is_err.false) in
    (cut.0 ∙ inv.0, rw c.step-stepped.ensures (sym (t ∙ goes_on _ _ _ on) ∙ inv.1))

pub returns-then-is_err : goal.returns-then-is_err
returns-then-is_err c =
    let inv = c.loop-line.invariant in
    let cut = c.in-Some.ensures.steps in
    let t = turn _ _ _ cut.1.0 (rw inv.0 at cut.1.1) cut.1.2 c.loop-line.state in
    let stop = rw c.step-stepped.ensures at (sym c.is_err.ensures.value ∙ c.if-is_err.true) in
    rw c.step-stepped.ensures (sym (t ∙ stops _ _ _ stop) ∙ inv.1)

pub returns : goal.returns
returns c = sym (no_more _ _ c.in-None.ensures.steps.1.0) ∙ c.loop-line.invariant.1
