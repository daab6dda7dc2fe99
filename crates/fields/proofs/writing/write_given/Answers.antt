-- `fields::writing::write_given` meets its contract. Assumes nothing.
use mathlib.Core.Path.{◌∙◌}
use lib.ListN.{length}
use Rattle.layout.specs.Kinds.{blank}
use Rattle.layout.proofs.laws.Contents.{run_is}
use Rattle.fields.proofs.writing.write_given.Goals as goal

pub returns-in-None : goal.returns-in-None
returns-in-None c = rw c.in-None.is (c.write.ensures ∙ run_is blank (length c.args.part.now))
