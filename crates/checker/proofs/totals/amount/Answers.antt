-- `checker::totals::amount` meets its contract: the value of 15 digits. Assumes nothing.
use mathlib.Core.Path.{◌≡◌, refl}
use Prim.Native.Nat.{◌+◌, ◌-◌}
use native.Mathlib.Omega.{arith}
use lib.ListN.{length, take, drop, length-take, length-drop}
use Rattle.digits.proofs.laws.Numerals.{value_lt}
use Rattle.checker.proofs.totals.amount.Goals as goal

pub returns : goal.returns
returns c =
    let place = c.args.place in
    let rec = c.args.rec.now in
    let wide : place - 1 + 15 - (place - 1) ≡ 15 = omega arith in
    let many : length (take 15 (drop (place - 1) rec)) ≡ 15 = rw (length-take 15 (drop (place - 1) rec), length-drop (place - 1) rec) (omega arith) in
    rw (c.value.ensures, wide) (refl, value_lt 15 (take 15 (drop (place - 1) rec)) (omega arith))
