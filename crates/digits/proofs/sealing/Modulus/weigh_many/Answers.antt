-- `digits::sealing::Modulus::weigh_many` meets its contract. The invariant: the sum, a remainder, and that of the bytes from index i on leave what the whole sum leaves, and k bytes stand to the right of the last. Assumes nothing.
use Rattle.std.proofs.Common.{◌≡◌, ℕ, suc, ◌+◌, ◌-◌, ◌%◌, length, get_or, drop, sym, ap, ◌∙◌, add-zero, add-one, arith}
use native.Mathlib.Nat.{mod-mod, add-mod}
use lib.Seq.{drop-length}
use Rattle.digits.specs.Digits.{weighed}
use Rattle.digits.specs.inner.Steps.{behind}
use Rattle.digits.specs.Checks.{base, value_of, counts}
use Rattle.digits.proofs.laws.Sums.{weighed_drop}
use Rattle.digits.proofs.Small.{counts_small, rest_small}
use Rattle.digits.proofs.sealing.Modulus.weigh_many.Goals as goal

pub overflow_add-sum : goal.overflow_add-sum
overflow_add-sum c =
    let m = c.args.self in
    omega (arith, rest_small m _ _ c.loop-b.invariant.1, counts_small m (c.loop-b.k - 1) c.value_of.result c.value_of.ensures.1)

pub loop-b-preserved : goal.loop-b-preserved
loop-b-preserved c =
    let a = c.args in
    let l = c.loop-b in
    let M = base a.self in
    let f = behind (length a.right.now) (counts a.self) in
    let k : l.k - 1 ≡ length a.s.now - suc l.b-index + length a.right.now = omega arith in
    let t = weighed_drop (value_of a.self) f a.s.now l.b-index (omega arith) in
    let d : c.count.result ≡ f (length a.s.now - suc l.b-index) (value_of a.self (get_or a.s.now l.b-index 0)) =
    rw (c.count.ensures, c.value_of.ensures.0, k) in
    let sum = l.sum + c.count.result in
    let rest = weighed (value_of a.self) f (drop (suc l.b-index) a.s.now) in
    rw (add-one, c.base.ensures) (
      omega arith,
      sym (mod-mod sum M),
      add-mod (sum % M) rest M ∙ ap (λ (n : ℕ). (n + rest % M) % M) (mod-mod sum M) ∙ sym (add-mod sum rest M) ∙ ap (λ (n : ℕ). n % M) (omega (arith, t, d)) ∙ l.invariant.2,
    )

pub returns : goal.returns
unfolding weighed
returns c =
    let l = c.loop-b in
    let end : l.b-index ≡ length c.args.s.now = omega arith in
    l.invariant.1 ∙ rw (end, drop-length, add-zero) at l.invariant.2
