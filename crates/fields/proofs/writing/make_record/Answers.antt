-- `fields::writing::make_record` meets its contract. Assumes nothing.
use Rattle.fields.specs.Values.{made_of}
use Rattle.fields.proofs.writing.make_record.Goals as goal

pub returns-in-Ok : goal.returns-in-Ok
unfolding made_of
returns-in-Ok c = rw (← c.bytes_of-all.ensures, ← c.check_record-answer.ensures, c.in-Ok.is)

pub returns-in-Err : goal.returns-in-Err
unfolding made_of
returns-in-Err c = rw (← c.bytes_of-all.ensures, ← c.check_record-answer.ensures, c.in-Err.is)
