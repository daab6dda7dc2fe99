use Rattle.std.proofs.Common.{◌≡◌, ◌+◌, ◌-◌, ◌%◌, length, drop}
use Rattle.digits.specs.inner.Steps.{weighed_before}
use Rattle.digits.specs.Checks.{base}
use Rattle.digits.proofs.sealing.Modulus.weigh_many.Given as goal

abbrev pub invariant-loop-b : goal.invariant-loop-b
invariant-loop-b l =
    let n = length l.right in
    (l.k ≡ length l.s - l.b-index + n) × (l.sum ≡ l.sum % base l.self) × ((l.sum + weighed_before l.self n (drop l.b-index l.s)) % base l.self ≡ weighed_before l.self n l.s % base l.self)
