-- `layout::names::bank` meets its contract. Assumes nothing.
use Rattle.layout.proofs.laws.Indexes.{bank-index}
use Rattle.layout.proofs.names.bank.Goals as goal

pub returns : goal.returns
returns c = rw (bank-index c.args.of)
