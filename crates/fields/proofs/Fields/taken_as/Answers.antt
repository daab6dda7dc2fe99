-- `fields::Fields::taken_as` meets its contract. Assumes nothing.
use mathlib.Core.Path.{◌≡◌, sym, ◌∙◌}
use borrow.Author.Tests.{eqb-true}
use Rattle.layout.specs.Records.{code}
use Rattle.layout.specs.declared.Record.{Record}
use Rattle.layout.proofs.laws.Records.{same_code}
use Rattle.fields.specs.Values.{of_record}
use Rattle.fields.specs.declared.Fields.{Fields}
use Rattle.fields.proofs.Fields.taken_as.Goals as goal

as_itself : (r : Record) (v : Fields) → v.which ≡ r → of_record r v ≡ v
as_itself r v e = λ i. record { which = sym e i; numbers = v.numbers; text = v.text }

pub returns-then-is_of : goal.returns-then-is_of
returns-then-is_of c =
    let a = c.args in
    let own = sym c.is_of.ensures ∙ c.if-is_of.true in
    rw own (sym (as_itself a.which a.self (same_code a.self.which a.which (eqb-true (code a.self.which) (code a.which) own))))
