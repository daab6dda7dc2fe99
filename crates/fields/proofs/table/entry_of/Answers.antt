-- `fields::table::entry_of` meets its contract: a record's fields stand one behind the other among all. Assumes nothing.
use native.Mathlib.Omega.{arith}
use Rattle.layout.proofs.laws.Columns.{first_is, past_is, in_table}
use Rattle.fields.proofs.table.entry_of.Goals as goal

pub field_at-requires : goal.field_at-requires
field_at-requires c = omega (arith, first_is c.args.which c.span_of-s.ensures, past_is c.args.which c.span_of-s.ensures, in_table c.args.which c.span_of-s.ensures)

pub returns : goal.returns
returns c = rw (← (first_is _ c.span_of-s.ensures)) c.field_at.ensures

pub overflow_add-s : goal.overflow_add-s
overflow_add-s c = omega (arith, first_is c.args.which c.span_of-s.ensures, past_is c.args.which c.span_of-s.ensures, in_table c.args.which c.span_of-s.ensures)
