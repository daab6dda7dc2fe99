-- `walk::bytes::check_bytes` meets its contract. The loop: the printable bytes are i and those that the rest begins with. Assumes nothing.
use mathlib.Core.Path.{◌≡◌, sym, ◌∙◌}
use native.Mathlib.Omega.{arith}
use native.Mathlib.Numerals.{add-one}
use borrow.Author.Tests.{eq-eqb}
use lib.ListN.{length, drop_of_length-le}
use Rattle.answer.proofs.laws.Order.{past, here, done}
use Rattle.layout.specs.Record.{clean}
use Rattle.layout.proofs.laws.Bytes.{clean_turn}
use Rattle.walk.proofs.bytes.check_bytes.Goals as goal

pub returns-then-is_clean : goal.returns-then-is_clean
returns-then-is_clean c = past _ _ _ _ _ (sym c.if-is_clean.ensures) done

pub loop-i-preserved : goal.loop-i-preserved
loop-i-preserved c =
    let turn = clean_turn c.args.rec.now c.loop-i.i c.loop-i-test.true in
    rw add-one (omega (arith, c.loop-i.invariant, rw (← c.if-not-is_printable.ensures) at turn))

pub returns-then-not-is_printable : goal.returns-then-not-is_printable
returns-then-not-is_printable c =
    let turn = clean_turn c.args.rec.now c.loop-i.i c.loop-i-test.true in
    let first : clean c.args.rec.now ≡ c.loop-i.i = omega (arith, c.loop-i.invariant, rw (← c.if-not-is_printable.ensures) at turn) in
    c.refused.ensures ∙ rw (add-one, ← first) (here _ _ _ _ (sym c.if-is_clean.ensures))

pub returns-after-loop-i : goal.returns-after-loop-i
unfolding clean
returns-after-loop-i c =
    let end = drop_of_length-le c.args.rec.now {i = c.loop-i.i} c.loop-i-test.false in
    let all : clean c.args.rec.now ≡ length c.args.rec.now = omega (arith, rw end at c.loop-i.invariant) in
    past _ _ _ _ _ (eq-eqb _ _ all) done
