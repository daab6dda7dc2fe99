-- `layout::bytes::copy` meets its contract. Assumes nothing.
use Rattle.layout.proofs.laws.Bytes.{over_is}
use Rattle.layout.proofs.bytes.copy.Goals as goal

pub returns : goal.returns
returns c = rw c.copy_from_slice.ensures.after (over_is c.args.text.now c.args.out.now c.min-both.result c.min-both.ensures)
