-- `layout::kinds::may_be_absent` meets its contract. Assumes nothing.
use mathlib.Core.Path.{sym}
use Rattle.layout.proofs.laws.Contents.{absent_is}
use Rattle.layout.proofs.kinds.may_be_absent.Goals as goal

pub returns : goal.returns
returns c = sym (absent_is c.args.k)
