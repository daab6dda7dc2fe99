-- `fields::Fields::not_given` meets its contract. Assumes nothing.
use mathlib.Core.Path.{◌∙◌}
use Rattle.fields.proofs.Fields.not_given.Goals as goal

pub returns : goal.returns
returns c = c.with_text.ensures ∙ rw c.give_number.ensures
