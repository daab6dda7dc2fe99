-- `fields::table::may_be_absent` meets its contract. Assumes nothing.
use mathlib.Core.Path.{ap, ◌∙◌}
use borrow.Author.Tests.{lt-ltb}
use Rattle.layout.specs.Field.{Field}
use Rattle.layout.specs.Kinds.{may_be_absent}
use Rattle.layout.proofs.laws.Columns.{in_record}
use Rattle.fields.specs.Values.{held_as}
use Rattle.fields.proofs.table.may_be_absent.Goals as goal

pub returns-then-field-count : goal.returns-then-field-count
returns-then-field-count c =
    let a = c.args in
    let one = rw c.count.ensures at c.if-field-count.true in
    rw (lt-ltb _ _ one) (c.may_be_absent.ensures ∙ ap (λ (f : Field). may_be_absent (held_as f)) (c.entry_of.ensures.is ∙ in_record a.which a.field one))
