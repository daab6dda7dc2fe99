-- Day numbers, and the due factor of a boleto. Assumes nothing.
use Rattle.std.specs.Prelude.{Bool, cond, ◌||◌, List, [], ◌∷◌, ℕ, zero, suc, ◌+◌, ◌-◌, ◌%◌, eqb, leb, take}
use Rattle.calendar.specs.Calendar.{date, first_year, months, exists}
use Rattle.calendar.specs.declared.Date.{Date}

abbrev pub total : List ℕ → ℕ
total [] = 0
total (n ∷ ns) = n + total ns

-- the days of the first n years from 1997 on, year by year
unfoldable pub days_of_years : ℕ → ℕ
days_of_years zero = 0
days_of_years (suc n) = days_of_years n + total (months (first_year + n))

-- the number of a day, 1 January 1997 being 1; a date that does not exist has none: 0
unfoldable pub day_number : Date → ℕ
day_number d =
    cond (exists d) (days_of_years (d.year - first_year) + total (take (d.month - 1) (months d.year)) + d.day) 0

-- the days of a date after 7 October 1997, from which factors count; up to that day there are none: 0
unfoldable pub due_days : Date → ℕ
due_days d = day_number d - day_number (date 7 10 1997)

-- the last factor, the one to which the day behind it returns, and the days from one return to the next
abbrev pub last_factor : ℕ
last_factor = 9999

abbrev pub returns_to : ℕ
returns_to = 1000

abbrev pub round_days : ℕ
round_days = last_factor + 1 - returns_to

-- days as a factor: up to the last factor they are it, later ones are folded into a round
unfoldable pub folded : ℕ → ℕ
folded n = cond (leb n last_factor) n (returns_to + (n - returns_to) % round_days)

-- the one factor of a due date; a date up to 7 October 1997 has none: 0
unfoldable pub factor_of : Date → ℕ
factor_of d = folded (due_days d)

-- factor 0 means no due date
abbrev pub no_due_date : ℕ → Bool
no_due_date factor = eqb factor 0

-- a factor fits a due date: it means none, or it is the date's
abbrev pub factor_fits : ℕ → Date → Bool
factor_fits factor d = no_due_date factor || eqb factor (factor_of d)
