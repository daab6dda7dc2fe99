-- `checker::collections::check_collection` meets its contract: its rules, one after the other. Assumes nothing.
use mathlib.Core.Path.{◌∙◌}
use Rattle.answer.proofs.laws.Order.{ahead}
use Rattle.checker.specs.Line.{collection_rules}
use Rattle.checker.proofs.collections.check_collection.Goals as goal

pub returns : goal.returns
unfolding collection_rules
returns c =
    ahead c.and-2.ensures _ _ (c.test-first.ensures ∙ rw c.product_fits-product.ensures)
    (ahead c.and.ensures _ _ (c.test-second.ensures ∙ rw c.identifier_fits-identifier.ensures)
    (c.test-third.ensures ∙ rw c.is_sealed-sealed.ensures))
