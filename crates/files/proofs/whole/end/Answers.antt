-- `files::whole::end` meets its contract: by the state alone. Assumes nothing.
use mathlib.Core.Path.{sym, ◌∙◌}
use borrow.Author.Tests.{not-true, not-false}
use Rattle.files.specs.File.{end_of}
use Rattle.files.proofs.whole.end.Goals as goal

pub returns-then-not-is_sound : goal.returns-then-not-is_sound
unfolding end_of
returns-then-not-is_sound c = rw (c.out_of_turn.ensures, sym c.is_sound.ensures ∙ not-true _ c.if-not-is_sound.true-raw)

pub returns-then-is_ended : goal.returns-then-is_ended
unfolding end_of
returns-then-is_ended c =
    rw (sym c.is_sound.ensures ∙ not-false _ c.if-not-is_sound.false-raw, c.closed.ensures, ← c.phase.ensures, sym c.is_ended.ensures ∙ c.if-is_ended.true)

pub returns : goal.returns
unfolding end_of
returns c =
    let ok = sym c.is_sound.ensures ∙ not-false _ c.if-not-is_sound.false-raw in
    rw (ok, ← c.phase.ensures, sym c.is_ended.ensures ∙ c.if-is_ended.false, c.next_line.ensures, ok)
