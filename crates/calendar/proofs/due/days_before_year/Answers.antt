-- `calendar::due::days_before_year` meets its contract. Assumes nothing.
use mathlib.Core.Path.{◌≡◌, sym}
use Prim.Native.Nat.{◌+◌, ◌-◌}
use native.Mathlib.Omega.{arith}
use Rattle.calendar.specs.Calendar.{first_year}
use Rattle.calendar.proofs.laws.Days.{years_closed}
use Rattle.calendar.proofs.due.days_before_year.Goals as goal

pub returns : goal.returns
returns c =
    let year = c.args.year in
    let last : first_year - 1 + (year - first_year) ≡ year - 1 = omega arith in
    rw last at (sym (years_closed (year - first_year)))
