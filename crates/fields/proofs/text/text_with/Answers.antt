-- `fields::text::text_with` meets its contract. Assumes nothing.
use mathlib.Core.Path.{ap, ◌∙◌}
use native.Mathlib.Omega.{arith}
use borrow.Author.Tests.{lt-ltb}
use Rattle.layout.specs.inner.Lent.{kind_of}
use Rattle.layout.specs.Field.{Field, field}
use Rattle.layout.proofs.laws.Columns.{in_record}
use Rattle.fields.specs.Values.{over_field}
use Rattle.fields.proofs.Put.{put_over}
use Rattle.fields.proofs.text.text_with.Goals as goal

pub returns-then-field-count : goal.returns-then-field-count
returns-then-field-count c =
    let a = c.args in
    let e = c.entry_of-e in
    let s = e.ensures in
    let one = rw c.count.ensures at c.if-field-count.true in
    let f = field e.result.from e.result.to (kind_of e.result.kind) in
    rw (lt-ltb _ _ one, c.copy.ensures)
    (put_over f a.bytes.now a.text (omega arith) ∙ ap (λ (g : Field). over_field g a.bytes.now a.text) (s.is ∙ in_record a.which a.field one))
