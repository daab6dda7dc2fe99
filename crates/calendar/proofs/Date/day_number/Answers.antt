-- `calendar::Date::day_number` meets its contract. Assumes nothing.
use mathlib.Core.Path.{◌≡◌, sym, ◌∙◌}
use mathlib.Core.Bool.{true}
use Prim.Native.Nat.{◌+◌, ◌-◌, ◌^◌, ◌<◌}
use native.Mathlib.Omega.{arith}
use Rattle.calendar.specs.Calendar.{first_year, exists}
use Rattle.calendar.specs.Due.{day_number}
use Rattle.calendar.proofs.laws.Days.{in_year, years_closed}
use Rattle.calendar.proofs.laws.Existing.{day_in_month}
use Rattle.calendar.proofs.Date.day_number.Goals as goal

exists-here : (c : goal.Then-exists) → exists c.args.self ≡ true
exists-here c = sym c.exists.ensures ∙ c.if-exists.true

pub returns-else-exists : goal.returns-else-exists
unfolding day_number
returns-else-exists c = rw (sym c.exists.ensures ∙ c.if-exists.false)

pub days_before_year-requires : goal.days_before_year-requires
days_before_year-requires c = (day_in_month _ (exists-here c)).0.year

pub days_before_month-requires : goal.days_before_month-requires
days_before_month-requires c = (day_in_month _ (exists-here c.before)).0.month

-- the closed count of the years keeps the sum small
sum_fits : (c : goal.After-days_before_month) → c.days_before_year.result + c.days_before_month.result + c.args.self.day < 2 ^ 64
sum_fits c =
    let s = c.args.self in
    let d = day_in_month s (exists-here c.before.before) in
    omega (arith, in_year s.year (s.month - 1) (omega arith), years_closed (s.year - first_year))

pub returns-then-exists : goal.returns-then-exists
unfolding day_number
returns-then-exists c = rw (exists-here c.before.before.before, c.days_before_year.ensures, c.days_before_month.ensures)

pub overflow_add-result : goal.overflow_add-result
overflow_add-result c = omega (arith, sum_fits c)

pub overflow_add-result-then-exists : goal.overflow_add-result-then-exists
overflow_add-result-then-exists c = omega (arith, sum_fits c.before)
