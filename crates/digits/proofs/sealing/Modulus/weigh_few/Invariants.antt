use Rattle.std.proofs.Common.{◌≡◌, ◌+◌, ◌-◌, ◌*◌, ◌≤◌, length, drop}
use Rattle.digits.specs.inner.Steps.{most_count, weighed_before}
use Rattle.digits.proofs.sealing.Modulus.weigh_few.Given as goal

abbrev pub invariant-loop-b : goal.invariant-loop-b
invariant-loop-b l =
    let n = length l.right in
    (l.k ≡ length l.s - l.b-index + n) × (l.sum ≤ most_count * l.b-index) × (l.sum + weighed_before l.self n (drop l.b-index l.s) ≡ weighed_before l.self n l.s)
