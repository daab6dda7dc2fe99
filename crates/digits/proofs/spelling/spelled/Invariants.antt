use Rattle.std.proofs.Common.{◌≡◌, ◌+◌, ◌-◌, ◌*◌, ◌^◌, ◌<◌, length, drop}
use Rattle.digits.specs.Numbers.{number}
use Rattle.digits.proofs.spelling.spelled.Given as goal

abbrev pub invariant-loop-b : goal.invariant-loop-b
invariant-loop-b l = (l.n < 10 ^ l.b-index) × (l.n * 10 ^ (length l.s - l.b-index) + number (drop l.b-index l.s) ≡ number l.s)
