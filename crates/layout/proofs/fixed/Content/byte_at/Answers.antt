-- `layout::fixed::Content::byte_at` meets its contract: in each arm the byte string computes. Assumes nothing.
use mathlib.Core.Path.{◌∙◌}
use Rattle.layout.proofs.fixed.Content.byte_at.Goals as goal

pub returns-in-LetterC : goal.returns-in-LetterC
returns-in-LetterC c = c.byte_in.ensures ∙ rw c.in-LetterC.is

pub returns-in-Code09 : goal.returns-in-Code09
returns-in-Code09 c = c.byte_in-in-Code09.ensures ∙ rw c.in-Code09.is

pub returns-in-Code52 : goal.returns-in-Code52
returns-in-Code52 c = c.byte_in-in-Code52.ensures ∙ rw c.in-Code52.is
