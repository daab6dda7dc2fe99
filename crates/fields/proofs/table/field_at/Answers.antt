-- `fields::table::field_at` meets its contract. Assumes nothing.
use Rattle.layout.proofs.laws.Columns.{entry_stands}
use Rattle.fields.proofs.table.field_at.Goals as goal

pub returns : goal.returns
returns c = entry_stands c.field_at.result c.field_at.ensures.field c.requires
