-- `walk::check_fields` meets its contract. Assumes nothing.
use mathlib.Core.Path.{◌∙◌}
use borrow.Author.Tests.{eq-eqb, ne_eqb}
use Rattle.std.proofs.lemmas.Option.{MatchOption-at_none, MatchOption-at_some}
use Rattle.answer.proofs.laws.Order.{past, here}
use Rattle.walk.proofs.check_fields.Goals as goal

pub returns-in_default : goal.returns-in_default
returns-in_default c =
    c.refused.ensures ∙ here _ _ _ _ (ne_eqb _ _ (MatchOption-at_none _ _ c.in_default.is c.as_array.ensures.cases))

pub returns : goal.returns
returns c =
    let whole = MatchOption-at_some _ _ _ c.in-Some.is c.as_array.ensures.cases in
    past _ _ _ _ _ (eq-eqb _ _ whole.long) (c.check_fields.ensures ∙ rw (c.new.ensures.bytes, c.new.ensures.record, c.new.ensures.direction, whole.same))
