-- `files::incoming::wait` meets its contract. Assumes nothing.
use native.Mathlib.Omega.{arith}
use Rattle.files.proofs.Waiting.{first_joined}
use Rattle.files.proofs.Arriving.{kept, judged}
use Rattle.files.proofs.incoming.wait.Goals as goal

pub with-requires : goal.with-requires
with-requires c = rw c.none.ensures (omega (arith, c.requires))

pub returns-then-not-is_ended : goal.returns-then-not-is_ended
returns-then-not-is_ended c =
    let test = rw (c.is_ended.ensures, c.phase.ensures) at c.if-not-is_ended.true-raw in
    rw (c.with.ensures, c.none.ensures, first_joined c.args.rest.now) (kept c.args.machine c.args.rest.now c.requires test)

pub returns : goal.returns
returns c =
    let test = rw (c.is_ended.ensures, c.phase.ensures) at c.if-not-is_ended.false-raw in
    rw (c.at_line_end.ensures, c.from.ensures, c.run-stepped.ensures) (judged c.args.machine c.args.rest.now c.requires test)
