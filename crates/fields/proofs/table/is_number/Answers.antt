-- `fields::table::is_number` meets its contract. Assumes nothing.
use mathlib.Core.Path.{◌≡◌, sym, ap, ◌∙◌}
use borrow.Author.Tests.{lt-ltb}
use Prim.Native.Nat.{ℕ, ◌+◌, ◌<◌}
use lib.ListN.{length}
use Rattle.layout.specs.inner.Lent.{kind_of, start_of}
use Rattle.layout.specs.inner.Entries.{Stands}
use Rattle.layout.specs.Table.{fields_of}
use Rattle.layout.specs.declared.Record.{Record}
use Rattle.layout.specs.Field.{Field}
use Rattle.layout.specs.Kinds.{means}
use Rattle.layout.proofs.laws.Columns.{in_record}
use Rattle.fields.specs.Values.{held_as, is_number, is_number_at}
use Rattle.fields.proofs.Fills.{as_number, no_number}
use Rattle.fields.proofs.table.is_number.Goals as goal

-- a field of a record is a number as the kind of its entry is held
by_kind : (r : Record) (i : ℕ) {from to k : ℕ} → i < length (fields_of r) → Stands (start_of r + i) from to k → is_number_at r i ≡ is_number (means (kind_of k)).held
by_kind r i one s = rw (lt-ltb _ _ one) (ap (λ (f : Field). is_number (held_as f)) (sym (s.is ∙ in_record r i one)))

pub returns-in-Number : goal.returns-in-Number
returns-in-Number c =
    let one = rw c.count.ensures at c.if-field-count.true in
    sym (by_kind _ _ one c.entry_of.ensures ∙ ap is_number (as_number c.entry_of.result.kind c.fill_of.ensures c.in-Number.is).held)

pub returns-in_default : goal.returns-in_default
returns-in_default c =
    let one = rw c.count.ensures at c.if-field-count.true in
    sym (by_kind _ _ one c.entry_of.ensures ∙ no_number c.entry_of.result.kind c.fill_of.ensures c.in_default.not-Number)
