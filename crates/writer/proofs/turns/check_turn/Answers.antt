-- `writer::turns::check_turn` meets its contract. Assumes nothing.
use Rattle.writer.proofs.Held.{held_sound}
use borrow.Author.Tests.{not-false}
use mathlib.Core.Path.{sym, ◌∙◌}
use Rattle.writer.proofs.turns.check_turn.Goals as goal

pub returns : goal.returns
returns c =
    let e = sym c.is_held.ensures ∙ not-false _ c.if-not-is_held.false-raw in
    rw (e, c.on_line.ensures, c.next_line.ensures, held_sound _ e)
