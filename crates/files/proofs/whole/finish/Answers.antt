-- `files::whole::finish` meets its contract: the run, then the end. Assumes nothing.
use Rattle.std.proofs.Common.{◌≡◌, ◌∙◌, List, ℕ}
use Rattle.std.proofs.lemmas.Result.{err_from_is_err_and}
use Rattle.checker.specs.declared.Checker.{Checker}
use Rattle.checker.specs.declared.Stepped.{Stepped}
use Rattle.files.specs.File.{lines_of, steps, end_of, outcome, finish}
use Rattle.files.proofs.whole.finish.Goals as goal

-- what a run leaves, and its end
by_run : (s : Checker) (rest : List ℕ) {t : Stepped} → t ≡ steps s (lines_of rest) → outcome t.answer (end_of t.state) ≡ finish s rest
unfolding finish
by_run s rest e = rw e

pub returns-in_err-stepped : goal.returns-in_err-stepped
returns-in_err-stepped c =
    let p = err_from_is_err_and c.from_residual.result c.from_residual.ensures.1 in
    rw (p.1, p.2) (rw c.in_err-stepped.was at (by_run _ _ c.run-stepped.ensures))

pub returns : goal.returns
returns c = c.end.ensures ∙ (rw c.in_ok-stepped.was at (by_run _ _ c.run-stepped.ensures))
