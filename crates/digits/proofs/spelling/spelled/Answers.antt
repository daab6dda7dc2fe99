-- `digits::spelling::spelled` meets its contract. The invariant: n, with as many zeros behind it as digits are left, and what these spell make the number. Assumes nothing.
use Rattle.std.proofs.Common.{◌≡◌, length, sym, ◌∙◌, add-one, arith}
use native.Mathlib.Nat.{sub_self}
use lib.Seq.{drop-length}
use Rattle.digits.specs.Digits.{weighed}
use Rattle.digits.proofs.laws.Numerals.{number_turn, below_more, below_limit}
use Rattle.digits.proofs.spelling.spelled.Goals as goal

pub loop-b-init : goal.loop-b-init
loop-b-init c = (omega arith, omega arith)

pub overflow_mul-n : goal.overflow_mul-n
overflow_mul-n c = omega (arith, below_limit c.loop-b.b-index c.loop-b.n (omega arith) c.loop-b.invariant.0)

pub overflow_add-n : goal.overflow_add-n
overflow_add-n c =
    let l = c.loop-b in
    omega (arith, below_limit l.b-index l.n (omega arith) l.invariant.0)

pub loop-b-preserved : goal.loop-b-preserved
loop-b-preserved c =
    let s = c.args.s.now in
    rw add-one (
      below_more c.loop-b.b-index c.loop-b.n c.worth.result c.loop-b.invariant.0 c.worth.ensures.1,
      rw c.worth.ensures.0 (sym (number_turn c.loop-b.n c.loop-b.b-index s (omega arith)) ∙ c.loop-b.invariant.1),
    )

pub returns : goal.returns
unfolding weighed
returns c =
    let s = c.args.s.now in
    let end : c.loop-b.b-index ≡ length s = omega arith in
    omega (arith, rw (end, drop-length, sub_self) at c.loop-b.invariant.1)
