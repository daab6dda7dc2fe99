-- `layout::names::detail_number` meets its contract. Assumes nothing.
use Rattle.layout.proofs.laws.Indexes.{number-index}
use Rattle.layout.proofs.names.detail_number.Goals as goal

pub returns : goal.returns
returns c = rw (number-index c.args.of)
