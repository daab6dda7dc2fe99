-- `files::incoming::Incoming::part` meets its contract. Assumes nothing.
use mathlib.Core.Path.{sym, ◌∙◌}
use borrow.Author.Tests.{not-true, not-false}
use Rattle.files.proofs.Arriving.{not_taken, is_taken}
use Rattle.files.proofs.incoming.Incoming.part.Goals as goal

pub returns-then-not-is_open : goal.returns-then-not-is_open
returns-then-not-is_open c =
    let shut = sym c.is_open.ensures ∙ not-true _ c.if-not-is_open.true-raw in
    rw c.answer.ensures (not_taken c.args.self c.args.part.now shut)

pub returns : goal.returns
returns c =
    let going = sym c.is_open.ensures ∙ not-false _ c.if-not-is_open.false-raw in
    rw (c.answer-2.ensures, c.take-state.ensures) (is_taken c.args.self c.args.part.now going)
