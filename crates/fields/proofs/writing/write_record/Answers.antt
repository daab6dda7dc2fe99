-- `fields::writing::write_record` meets its contract. Assumes nothing.
use Rattle.fields.proofs.Making.{writes}
use Rattle.fields.proofs.writing.write_record.Goals as goal

pub returns : goal.returns
returns c =
    let a = c.args in
    writes a.dir a.v _ c.make_record.ensures c.put.ensures
