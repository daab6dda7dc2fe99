-- `fields::writing::Made::put` meets its contract. Assumes nothing.
use borrow.Author.Rules.{rules}
use Rattle.fields.proofs.Making.{roomy, put_there}
use Rattle.fields.proofs.writing.Made.put.Goals as goal

pub render-requires : goal.render-requires
render-requires c = roomy c.args.out.now c.in_ok-room.ensures

pub returns : goal.returns
returns c = put_there c.args.self c.args.out.now _ (search rules) c.in_ok-room.ensures c.render.ensures c.render.auto.out
