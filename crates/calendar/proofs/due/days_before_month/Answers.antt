-- `calendar::due::days_before_month` meets its contract. Assumes nothing.
use mathlib.Core.Path.{sym}
use Prim.Native.Nat.{◌-◌}
use native.Mathlib.Omega.{arith}
use borrow.Author.Tests.{le-ltb}
use Rattle.calendar.proofs.laws.Days.{months_closed, february_short}
use Rattle.calendar.proofs.due.days_before_month.Goals as goal

pub overflow_sub-result : goal.overflow_sub-result
overflow_sub-result c = omega (arith, c.february_days.ensures, february_short c.args.year)

pub returns-else-before-lt-FEBRUARY : goal.returns-else-before-lt-FEBRUARY
returns-else-before-lt-FEBRUARY c =
    let a = c.args in
    rw c.february_days.ensures (sym (rw (le-ltb (a.month - 1) 2 (omega arith)) at (months_closed a.year (a.month - 1) (omega arith))))
