-- `fields::reading::read_record` meets its contract. Assumes nothing.
use mathlib.Core.Path.{sym}
use Rattle.std.proofs.lemmas.Result.{err_from_is_err_and}
use Rattle.fields.specs.Values.{read_record}
use Rattle.fields.proofs.laws.Kept.{right_length}
use Rattle.fields.proofs.reading.read_record.Goals as goal

pub fields_of-requires : goal.fields_of-requires
fields_of-requires c = right_length _ _ _ (sym c.in_ok-check_record.ensures)

pub returns-in_err-check_record : goal.returns-in_err-check_record
unfolding read_record
returns-in_err-check_record c =
    let p = err_from_is_err_and c.from_residual.result c.from_residual.ensures.1 in
    rw (p.1, p.2, ← c.in_err-check_record.ensures)

pub returns : goal.returns
unfolding read_record
returns c = rw (← c.in_ok-check_record.ensures, c.fields_of.ensures)
