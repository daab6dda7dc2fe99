-- `checker::Checker::after` meets its contract. Assumes nothing.
use Rattle.checker.proofs.laws.Bounds.{room}
use Rattle.checker.proofs.Checker.after.Goals as goal

pub plus-requires-in-Detail : goal.plus-requires-in-Detail
plus-requires-in-Detail c =
    let reading = c.args.reading in
    rw (c.counted-in-Detail.ensures, reading.row) (room c.requires reading.which reading.rec.now).in-batch

pub plus-requires-in-BatchLast-2 : goal.plus-requires-in-BatchLast-2
plus-requires-in-BatchLast-2 c =
    let reading = c.args.reading in
    rw (c.plus-in-BatchLast.ensures, c.counted-in-BatchLast.ensures, reading.row) (room c.requires reading.which reading.rec.now).at_end
