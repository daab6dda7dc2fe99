-- `digits::write_number` meets its contract. The invariant: the digits of what is left, before i, and the part from i on are the digits; and what is left fits i places as the number fits all. Assumes nothing.
use Rattle.std.proofs.Common.{refl, ◌∙◌, append-nil, arith, length-set, rules}
use lib.Seq.{drop-length}
use Rattle.digits.proofs.Printed.{digits_more, fits_more, all_written, too_wide}
use Rattle.digits.proofs.spelling.write_number.Goals as goal

pub loop-i-init : goal.loop-i-init
loop-i-init c = (search rules, search rules, rw (drop-length, append-nil), refl)

pub loop-i-preserved : goal.loop-i-preserved
loop-i-preserved c =
    let l = c.loop-i in
    (simp length-set (omega arith), simp length-set l.invariant.1, digits_more l.i l.left l.part c.loop-i-test.true l.invariant.0 ∙ l.invariant.2, fits_more l.i l.left c.loop-i-test.true ∙ l.invariant.3)

pub returns-then-left-ne0 : goal.returns-then-left-ne0
returns-then-left-ne0 c =
    let l = c.loop-i in
    c.fill.ensures.after (search rules) ∙ rw l.invariant.1 (too_wide _ _ l.left l.i c.loop-i-test.false l.invariant.3 c.if-left-ne0.true)

pub returns-else-left-ne0 : goal.returns-else-left-ne0
returns-else-left-ne0 c =
    let l = c.loop-i in
    all_written _ _ l.left l.i c.loop-i-test.false l.invariant.3 l.part l.invariant.2 (search rules)
