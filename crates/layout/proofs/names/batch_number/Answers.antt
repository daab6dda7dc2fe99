-- `layout::names::batch_number` meets its contract. Assumes nothing.
use Rattle.layout.proofs.laws.Indexes.{batch-index}
use Rattle.layout.proofs.names.batch_number.Goals as goal

pub returns : goal.returns
returns c = rw (batch-index c.args.of)
