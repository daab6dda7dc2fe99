-- `walk::walk::Checked::new` meets its contract. Assumes nothing.
use mathlib.Core.Path.{sym, ◌∙◌}
use Rattle.walk.proofs.laws.Masks.{right_at}
use Rattle.walk.proofs.walk.Checked.new.Goals as goal

pub invariant_of-result : goal.invariant_of-result
invariant_of-result c =
    record { known = record { each = λ t. right_at c.args.dir c.args.rec.now c.told-rec c.args.which (sym c.hold.ensures ∙ t) } }
