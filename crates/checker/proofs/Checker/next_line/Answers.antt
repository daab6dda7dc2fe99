-- `checker::Checker::next_line` meets its contract. Assumes nothing.
use mathlib.Core.Path.{sym, ◌∙◌}
use Rattle.checker.proofs.laws.Bounds.{bounded}
use Rattle.checker.proofs.Checker.next_line.Goals as goal

pub line_no-requires : goal.line_no-requires
line_no-requires c = bounded _ (sym c.is_sound.ensures ∙ c.if-is_sound.true)
