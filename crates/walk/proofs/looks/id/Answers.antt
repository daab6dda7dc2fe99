-- `walk::looks::id` meets its contract. Assumes nothing.
use mathlib.Core.Path.{◌∙◌}
use Rattle.walk.proofs.looks.id.Goals as goal

pub returns : goal.returns
returns c = c.test.ensures ∙ rw (c.characters_fit.ensures, c.registration_at-registration.ensures)
