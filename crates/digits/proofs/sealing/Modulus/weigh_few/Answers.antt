-- `digits::sealing::Modulus::weigh_few` meets its contract. The invariant: the sum and that of the bytes from index i on are the whole sum, and k bytes stand to the right of the last. Assumes nothing.
use Rattle.std.proofs.Common.{◌≡◌, suc, ◌+◌, ◌-◌, ◌≤◌, length, get_or, add-one, arith}
use lib.Seq.{drop-length}
use Rattle.digits.specs.Digits.{weighed}
use Rattle.digits.specs.inner.Steps.{behind, most_count}
use Rattle.digits.specs.Checks.{value_of, counts}
use Rattle.digits.proofs.laws.Sums.{weighed_drop}
use Rattle.digits.proofs.Small.{counts_small}
use Rattle.digits.proofs.sealing.Modulus.weigh_few.Goals as goal

-- what the byte counts
small : (c : goal.After-count) → c.count.result ≤ most_count
small c =
    rw c.count.ensures (counts_small c.args.self (c.loop-b.k - 1) c.value_of.result c.value_of.ensures.1)

pub loop-b-preserved : goal.loop-b-preserved
loop-b-preserved c =
    let a = c.args in
    let f = behind (length a.right.now) (counts a.self) in
    let k : c.loop-b.k - 1 ≡ length a.s.now - suc c.loop-b.b-index + length a.right.now = omega arith in
    let t = weighed_drop (value_of a.self) f a.s.now c.loop-b.b-index (omega arith) in
    let d : c.count.result ≡ f (length a.s.now - suc c.loop-b.b-index) (value_of a.self (get_or a.s.now c.loop-b.b-index 0)) =
    rw (c.count.ensures, c.value_of.ensures.0, k) in
    rw add-one (omega arith, omega (arith, small c), omega (arith, t, d, c.loop-b.invariant.2))

pub returns : goal.returns
unfolding weighed
returns c =
    let s = c.args.s.now in
    let end : c.loop-b.b-index ≡ length s = omega arith in
    omega (arith, rw (end, drop-length) at c.loop-b.invariant.2)

pub overflow_cast-sum : goal.overflow_cast-sum
overflow_cast-sum c = omega (arith, small c)

pub overflow_add-sum : goal.overflow_add-sum
overflow_add-sum c = omega (arith, small c)
