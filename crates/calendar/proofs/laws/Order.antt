-- Dates in their order: the later of two that exist has the larger day number. Assumes nothing.
use Rattle.std.specs.Prelude.{◌≡◌, refl, true, ◌⊎◌, ℕ, ◌+◌, ◌-◌, ◌<◌, take}
use Rattle.std.proofs.Common.{sym, ap, inl, inr, arith}
use Rattle.std.proofs.Math.Decide.{dec_lt}
use Rattle.calendar.specs.Calendar.{date, first_year, months, exists}
use Rattle.calendar.specs.Due.{total, days_of_years, day_number}
use Rattle.calendar.specs.declared.Date.{Date}
use Rattle.calendar.proofs.laws.Days.{in_year, months_grow, years_grow}
use Rattle.calendar.proofs.laws.Existing.{day_in_month}

-- a date comes before another: in an earlier year, an earlier month of its year, or on an earlier day of its month
pub data Before (d e : Date) : Type 0 where
  by_year : d.year < e.year → Before d e
  by_month : d.year ≡ e.year → d.month < e.month → Before d e
  by_day : d.year ≡ e.year → d.month ≡ e.month → d.day < e.day → Before d e

-- the number of a date that exists, by its year and month
number_is : (d : Date) {y m : ℕ} → exists d ≡ true → d.year ≡ y → d.month ≡ m → day_number d ≡ days_of_years (y - first_year) + total (take (m - 1) (months y)) + d.day
unfolding day_number
number_is d p year month = rw (← year, ← month, p)

-- the later of two dates has the larger number
pub number_grows : (d e : Date) → exists d ≡ true → exists e ≡ true → Before d e → day_number d < day_number e
number_grows d e p q (by_year h) =
    let a = day_in_month d p in
    let b = day_in_month e q in
    let year : first_year + (d.year - first_year) ≡ d.year = omega arith in
    let grown = rw year at (years_grow (d.year - first_year) (e.year - first_year) (omega arith)) in
    omega (arith, number_is d p refl refl, number_is e q refl refl, in_year d.year (d.month - 1) (omega arith), grown)
number_grows d e p q (by_month year h) =
    let a = day_in_month d p in
    let b = day_in_month e q in
    let grown = months_grow (months d.year) (d.month - 1) (e.month - 1) (omega arith) in
    omega (arith, number_is d p refl refl, number_is e q (sym year) refl, grown)
number_grows d e p q (by_day year month h) = omega (arith, number_is d p refl refl, number_is e q (sym year) (sym month))

abbrev ThreeWays : ℕ → ℕ → Type 0
ThreeWays a b = (a < b) ⊎ ((a ≡ b) ⊎ (b < a))

three_ways : (a b : ℕ) → ThreeWays a b
three_ways a b = go (dec_lt a b) (dec_lt b a)
  where
    go : Dec (a < b) → Dec (b < a) → ThreeWays a b
    go (yes h) other = inl h
    go (no up) (yes h) = inr (inr h)
    go (no up) (no down) = inr (inl (omega arith))

same_date : {day month year day' month' year' : ℕ} → year ≡ year' → month ≡ month' → day ≡ day' → date day month year ≡ date day' month' year'
same_date y m n = cc

-- of two dates one comes before the other, or they are one
pub in_order : (d e : Date) → Before d e ⊎ ((d ≡ e) ⊎ Before e d)
in_order d e = go (three_ways d.year e.year) (three_ways d.month e.month) (three_ways d.day e.day)
  where
    go : ThreeWays d.year e.year → ThreeWays d.month e.month → ThreeWays d.day e.day → Before d e ⊎ ((d ≡ e) ⊎ Before e d)
    go (inl y) m n = inl (by_year y)
    go (inr (inr y)) m n = inr (inr (by_year y))
    go (inr (inl y)) (inl m) n = inl (by_month y m)
    go (inr (inl y)) (inr (inr m)) n = inr (inr (by_month (sym y) m))
    go (inr (inl y)) (inr (inl m)) (inl n) = inl (by_day y m n)
    go (inr (inl y)) (inr (inl m)) (inr (inr n)) = inr (inr (by_day (sym y) (sym m) n))
    go (inr (inl y)) (inr (inl m)) (inr (inl n)) = inr (inl (same_date y m n))

-- two dates that exist and have one number are one
pub one_number : (d e : Date) → exists d ≡ true → exists e ≡ true → day_number d ≡ day_number e → d ≡ e
one_number d e p q same = by_order (in_order d e)
  where
    by_order : Before d e ⊎ ((d ≡ e) ⊎ Before e d) → d ≡ e
    by_order (inl h) = absurd (omega (arith, number_grows d e p q h))
    by_order (inr (inl h)) = h
    by_order (inr (inr h)) = absurd (omega (arith, number_grows e d q p h))

-- of two dates that exist, the one with the smaller number comes before the other
pub before_by_number : (d e : Date) → exists d ≡ true → exists e ≡ true → day_number d < day_number e → Before d e
before_by_number d e p q less = by_order (in_order d e)
  where
    by_order : Before d e ⊎ ((d ≡ e) ⊎ Before e d) → Before d e
    by_order (inl h) = h
    by_order (inr (inl h)) = absurd (omega (arith, ap day_number h))
    by_order (inr (inr h)) = absurd (omega (arith, number_grows e d q p h))
