-- `files::incoming::arrive` meets its contract. Assumes nothing.
use mathlib.Core.Path.{◌∙◌, sym}
use Rattle.files.proofs.Arriving.{lines_first}
use Rattle.files.proofs.incoming.arrive.Goals as goal

pub returns-in-Ok : goal.returns-in-Ok
returns-in-Ok c =
    let run = c.run-stepped in
    let all = rw (← run.ensures) at (lines_first c.args.machine c.args.bytes.now) in
    c.wait.ensures ∙ sym (rw c.in-Ok.is at all)

pub returns-in-Err : goal.returns-in-Err
returns-in-Err c =
    let run = c.run-stepped in
    let all = rw (← run.ensures) at (lines_first c.args.machine c.args.bytes.now) in
    c.at_line_end.ensures ∙ sym (rw c.in-Err.is at all)
