-- The days of months and years, how they grow and by closed arithmetic: the months of both kinds of years by tests that antt computes, the years by
-- induction. Assumes nothing.
use Rattle.std.specs.Prelude.{◌≡◌, refl, Bool, true, false, not, cond, ◌&&◌, ◌||◌, List, [], ◌∷◌, ◌≢◌, ◌⊎◌, ℕ, zero, suc, ◌+◌, ◌-◌, ◌*◌, ◌/◌, ◌%◌, ◌<◌, ◌≤◌, T, eqb, ltb, get_or, take}
use Rattle.std.proofs.Common.{sym, ap, ◌∙◌, subst, inl, inr, sub-one, eq-or-lt_of_le, mod-lt, mod-eq_of_lt, arith, eqb-true, ne_eqb, eqb→eq}
use Rattle.std.proofs.Math.Nat.{mod_self, div_self, div-eq_of_lt, div-add-mod, mul-add-div, mul-add-mod_self_left}
use Rattle.std.proofs.lemmas.Bool.{eqb-false}
use Rattle.std.proofs.Math.Dec.{not_T}
use Rattle.digits.proofs.laws.Tests.{every, every_at, or_left}
use Rattle.calendar.specs.Calendar.{first_year, leap, february, months}
use Rattle.calendar.specs.Due.{total, days_of_years}

-- ---- months

-- a year with the same months
abbrev like : Bool → ℕ
like b = cond b 2000 1997

same_months : (y : ℕ) → months (like (leap y)) ≡ months y
same_months y = by_leap (leap y) refl
  where
    by_leap : (b : Bool) → leap y ≡ b → months (like b) ≡ months y
    by_leap true e = rw e
    by_leap false e = rw e

-- a test of the months of both kinds of years tells of every year
every_year : (p : List ℕ → ℕ → Bool) → ((b : Bool) → T (every 12 (p (months (like b))))) → (y k : ℕ) → k < 12 → T (p (months y) k)
every_year p t y k h = subst (λ (l : List ℕ). T (p l k)) (same_months y) (every_at 12 _ (t (leap y)) k h)

abbrev turns_at : List ℕ → ℕ → Bool
turns_at l k = eqb k 1 || eqb (30 + (suc k + suc k / 8) % 2) (get_or l k 0)

turns_test : (b : Bool) → T (every 12 (turns_at (months (like b))))
unfolding every
turns_test true = tt
turns_test false = tt

-- outside February 30 and 31 days take turns
pub turns : (y m : ℕ) → 1 ≤ m → m ≤ 12 → m ≢ 2 → 30 + (m + m / 8) % 2 ≡ get_or (months y) (m - 1) 0
turns y zero lo up ne = absurd (omega arith)
turns y (suc k) lo up ne =
    let other : T (not (eqb k 1)) = not_T (eqb k 1) (λ t. ne (ap suc (eqb→eq k 1 t))) in
    rw sub-one (eqb→eq _ _ (or_left (eqb k 1) _ other (every_year turns_at turns_test y k (omega arith))))

pub february_short : (y : ℕ) → february y ≤ 30
february_short y = by_leap (leap y)
  where
    by_leap : (b : Bool) → cond b 29 28 ≤ 30
    by_leap true = omega arith
    by_leap false = omega arith

-- the days of the first k months, if 31 and 30 took turns from January and, anew, from August
abbrev pub by_turns : ℕ → ℕ
by_turns k = 30 * k + (k + k / 8 + 1) / 2

abbrev closed_at : List ℕ → ℕ → Bool
closed_at l k = eqb (total (take k l)) (cond (ltb k 2) (by_turns k) (by_turns k - (30 - get_or l 1 0)))

closed_test : (b : Bool) → T (every 12 (closed_at (months (like b))))
unfolding every
closed_test true = tt
closed_test false = tt

-- the days of a year's first months, one by one, are those by turns, less what February lacks once it is over
pub months_closed : (y k : ℕ) → k < 12 → total (take k (months y)) ≡ cond (ltb k 2) (by_turns k) (by_turns k - (30 - february y))
months_closed y k h = eqb→eq _ _ (every_year closed_at closed_test y k h)

-- the months before one, with it, have no more days than those before any later one
pub months_grow : (l : List ℕ) (j k : ℕ) → j < k → total (take j l) + get_or l j 0 ≤ total (take k l)
months_grow l j zero h = absurd (omega arith)
months_grow [] zero (suc k) h = omega arith
months_grow [] (suc j) (suc k) h = omega arith
months_grow (n ∷ l) zero (suc k) h = omega arith
months_grow (n ∷ l) (suc j) (suc k) h = omega (arith, months_grow l j k (omega arith))

-- ---- years

abbrev counted : Bool → ℕ
counted b = cond b 1 0

year_days : (y : ℕ) → total (months y) ≡ 365 + counted (leap y)
year_days y = by_leap (leap y) refl
  where
    by_leap : (b : Bool) → leap y ≡ b → total (months y) ≡ 365 + counted b
    by_leap true e = rw e
    by_leap false e = rw e

-- the months before one, with it, have no more days than their year, and that no more than a leap year has
pub in_year : (y k : ℕ) → k < 12 → (total (take k (months y)) + get_or (months y) k 0 ≤ total (months y)) × (total (months y) ≤ 366)
in_year y k h = (months_grow (months y) k 12 h, by_leap (leap y) (year_days y))
  where
    by_leap : (b : Bool) → total (months y) ≡ 365 + counted b → total (months y) ≤ 366
    by_leap true e = omega arith
    by_leap false e = omega arith

-- the years before one, with it, have no more days than those before any later one
pub years_grow : (j k : ℕ) → j < k → days_of_years j + total (months (first_year + j)) ≤ days_of_years k
unfolding days_of_years
years_grow j zero h = absurd (omega arith)
years_grow j (suc k) h = by_last (years_grow j k) (eq-or-lt_of_le (omega arith))
  where
    by_last : (j < k → days_of_years j + total (months (first_year + j)) ≤ days_of_years k)
        → (j ≡ k) ⊎ (j < k)
        → days_of_years j + total (months (first_year + j)) ≤ days_of_years k + total (months (first_year + k))
    by_last before (inl e) = rw e (omega arith)
    by_last before (inr l) = omega (arith, before l)

-- up to one number more there is one multiple of d more, where it is one
rest_turn : (d r : ℕ) → 0 < d → (suc r ≡ d) ⊎ (suc r < d) → suc r / d ≡ counted (eqb (suc r % d) 0)
rest_turn d r h (inl e) = rw (e, div_self h, mod_self) refl
rest_turn d r h (inr l) = rw (div-eq_of_lt l, mod-eq_of_lt l, ne_eqb (suc r) 0 (λ e. omega (arith, e)))

multiples_turn : (d y : ℕ) → 0 < d → suc y / d ≡ y / d + counted (eqb (suc y % d) 0)
multiples_turn d y h =
    let parted : suc y ≡ d * (y / d) + suc (y % d) = omega (arith, div-add-mod y d) in
    ap (λ (n : ℕ). n / d) parted
    ∙ mul-add-div h (y / d) (suc (y % d))
    ∙ ap (λ (n : ℕ). y / d + n) (rest_turn d (y % d) h (eq-or-lt_of_le (mod-lt y h)))
    ∙ ap (λ (n : ℕ). y / d + counted (eqb n 0)) (sym (ap (λ (n : ℕ). n % d) parted ∙ mul-add-mod_self_left d (y / d) (suc (y % d))))

-- the leap years up to a year: every fourth, without the centuries, with every fourth of these
abbrev pub leap_years_to : ℕ → ℕ
leap_years_to y = y / 4 - y / 100 + y / 400

-- up to one year more there is one leap year more, where it is one
leap_years_turn : (y : ℕ) → leap_years_to (suc y) ≡ leap_years_to y + counted (leap (suc y))
leap_years_turn y =
    rw (multiples_turn 4 y (omega arith), multiples_turn 100 y (omega arith), multiples_turn 400 y (omega arith)) (by_tests _ _ _ refl refl refl)
  where
    by_tests : (a b c : Bool)
        → eqb (suc y % 4) 0 ≡ a → eqb (suc y % 100) 0 ≡ b → eqb (suc y % 400) 0 ≡ c
        → y / 4 + counted a - (y / 100 + counted b) + (y / 400 + counted c) ≡ leap_years_to y + counted ((a && not b) || c)
    by_tests true true true p q r = omega arith
    by_tests true true false p q r = omega arith
    by_tests true false false p q r = omega arith
    by_tests false false false p q r = omega arith
    by_tests a false true p q r = absurd (omega (arith, eqb-false (suc y % 100) 0 q, eqb-true (suc y % 400) 0 r))
    by_tests false true c p q r = absurd (omega (arith, eqb-false (suc y % 4) 0 p, eqb-true (suc y % 100) 0 q))

-- the leap years before the first year, which the closed count leaves out
abbrev pub leap_years_before : ℕ
leap_years_before = leap_years_to (first_year - 1)

-- a year more, of numbers alone
add_year : (n days start leaps year day more : ℕ) → days ≡ 365 * n + (leaps - start) → start ≤ leaps → year ≡ 365 + day → more ≡ leaps + day
    → (days + year ≡ 365 * suc n + (more - start)) × (start ≤ more)
add_year n days start leaps year day more p h q r = omega (arith, p, h, q, r)

closed : (n : ℕ) → (days_of_years n ≡ 365 * n + (leap_years_to (first_year - 1 + n) - leap_years_before)) × (leap_years_before ≤ leap_years_to (first_year - 1 + n))
unfolding days_of_years
closed zero = (refl, omega arith)
closed (suc n) =
    let last = first_year - 1 + n in
    let this : first_year + n ≡ suc last = omega arith in
    let next : first_year - 1 + suc n ≡ suc last = omega arith in
    rw (next, this) (add_year n _ _ _ _ _ _ (closed n).0 (closed n).1 (year_days (suc last)) (leap_years_turn last))

-- the days of the first n years, year by year, are 365 for each and one for each leap year among them
pub years_closed : (n : ℕ) → days_of_years n ≡ 365 * n + (leap_years_to (first_year - 1 + n) - leap_years_before)
years_closed n = (closed n).0
