use Rattle.std.proofs.Common.{◌≡◌, ◌^◌, ◌≤◌, ltb, ◌++◌, length, drop}
use Rattle.digits.specs.Numbers.{last_digits}
use Rattle.digits.proofs.spelling.write_number.Given as goal

abbrev pub invariant-loop-i : goal.invariant-loop-i
invariant-loop-i l =
    (l.i ≤ length l.part) × (length l.part ≡ length l.initial.part) × (last_digits l.i l.left ++ drop l.i l.part ≡ last_digits (length l.initial.part) l.n) × (ltb l.left (10 ^ l.i) ≡ ltb l.n (10 ^ length l.initial.part))
