-- `walk::check_record` meets its contract. Assumes nothing.
use mathlib.Core.Path.{sym, ◌∙◌}
use borrow.Author.Tests.{eq-eqb, ne_eqb}
use Rattle.std.proofs.lemmas.Option.{MatchOption-at_none, MatchOption-at_some}
use Rattle.answer.proofs.laws.Order.{past, here, one_then, first_append}
use Rattle.layout.specs.Record.{record_rules}
use Rattle.layout.proofs.laws.Columns.{all_fields}
use Rattle.walk.proofs.check_record.Goals as goal

pub returns-in_default : goal.returns-in_default
unfolding record_rules
returns-in_default c =
    c.refused.ensures ∙ here _ _ _ _ (ne_eqb _ _ (MatchOption-at_none _ _ c.in_default.is c.as_array.ensures.cases))

pub returns : goal.returns
unfolding record_rules
returns c =
    let whole = MatchOption-at_some _ _ _ c.in-Some.is c.as_array.ensures.cases in
    let made = c.new-checked.ensures in
    let fields = c.and.ensures ∙ rw (c.check_marks-marks.ensures, c.check_fields-fields.ensures, made.bytes, made.record, made.direction, all_fields _) (sym (first_append _ _)) in
    past _ _ _ _ _ (eq-eqb _ _ whole.long) (c.and-2.ensures ∙ rw (c.check_bytes-clean.ensures, ← whole.same) (one_then _ _ _ fields))
