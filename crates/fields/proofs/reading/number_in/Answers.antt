-- `fields::reading::number_in` meets its contract. Assumes nothing.
use Rattle.fields.proofs.Fills.{as_number}
use Rattle.fields.proofs.reading.number_in.Goals as goal

pub returns-in-Number : goal.returns-in-Number
returns-in-Number c =
    let told = as_number c.args.k c.fill_of.ensures c.in-Number.is in
    rw told.held c.number_of.ensures
