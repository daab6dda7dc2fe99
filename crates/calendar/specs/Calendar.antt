-- Which dates DDMMAAAA and times HHMMSS there are. Assumes nothing.
use Rattle.std.specs.Prelude.{Bool, false, not, cond, ◌&&◌, ◌||◌, List, [], ◌∷◌, ℕ, ◌-◌, ◌/◌, ◌%◌, eqb, leb, length, get_or, None, Option, Some}
use Rattle.digits.specs.Numbers.{number_of}
use Rattle.calendar.specs.declared.Date.{Date}

abbrev pub date : ℕ → ℕ → ℕ → Date
date day month year = record { day = day; month = month; year = year }

-- the date that the number DDMMAAAA names
abbrev pub date_of : ℕ → Date
date_of n = date (n / 1000000) (n / 10000 % 100) (n % 10000)

-- the years that a date may have
abbrev pub first_year : ℕ
first_year = 1997

abbrev pub last_year : ℕ
last_year = 2199

-- Gregorian leap years
abbrev pub leap : ℕ → Bool
leap y = (eqb (y % 4) 0 && not (eqb (y % 100) 0)) || eqb (y % 400) 0

-- the days of a year's February
abbrev pub february : ℕ → ℕ
february y = cond (leap y) 29 28

-- the days of each month of a year
abbrev pub months : ℕ → List ℕ
months y = 31 ∷ february y ∷ 31 ∷ 30 ∷ 31 ∷ 30 ∷ 31 ∷ 31 ∷ 30 ∷ 31 ∷ 30 ∷ 31 ∷ []

unfoldable pub exists : Date → Bool
exists d =
    (leb first_year d.year && leb d.year last_year)
    && ((leb 1 d.month && leb d.month 12)
    && (leb 1 d.day && leb d.day (get_or (months d.year) (d.month - 1) 0)))

-- the number HHMMSS is a time: to 23, 59, 59
abbrev pub is_time : ℕ → Bool
is_time n = leb (n / 10000) 23 && (leb (n / 100 % 100) 59 && leb (n % 100) 59)

-- a number for which a test holds
abbrev pub number_fits : (ℕ → Bool) → Option ℕ → Bool
number_fits test (Some n) = test n
number_fits test None = false

-- eight digits that are a date, six that are a time
unfoldable pub date_fits : List ℕ → Bool
date_fits bs = eqb (length bs) 8 && number_fits (λ n. exists (date_of n)) (number_of bs)

unfoldable pub time_fits : List ℕ → Bool
time_fits bs = eqb (length bs) 6 && number_fits is_time (number_of bs)
