-- `layout::table::field_at` meets its contract: the arrays are the table's columns, which antt computes. Assumes nothing.
use Rattle.layout.specs.Table.{fields_of, fields_of_each, all}
use Rattle.layout.proofs.laws.Columns.{entry_is}
use Rattle.layout.proofs.table.field_at.Goals as goal

pub returns : goal.returns
unfolding all fields_of_each fields_of
returns c = rw c.entry_at.ensures (search entry_is)
