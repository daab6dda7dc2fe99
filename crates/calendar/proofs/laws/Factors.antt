-- The due factor over its rounds: of every count of days, and of all dates that exist. Assumes nothing.
use Rattle.std.specs.Prelude.{◌≡◌, refl, Bool, true, false, ◌||◌, ◌≢◌, ◌⊎◌, ◌↔◌, ℕ, ◌+◌, ◌-◌, ◌*◌, ◌/◌, ◌%◌, ◌<◌, ◌≤◌, eqb}
use Rattle.std.proofs.Common.{sym, ap, ◌∙◌, inl, inr, arith, eqb-true, le-leb, lit≤}
use Rattle.std.proofs.Math.Nat.{add-mul-mod_self_right}
use Rattle.std.proofs.Math.Decide.{dec_le}
use Rattle.std.proofs.lemmas.Bool.{lt-leb}
use Rattle.calendar.specs.Calendar.{date, exists}
use Rattle.calendar.specs.Due.{day_number, days_of_years, due_days, last_factor, returns_to, round_days, folded, factor_of, factor_fits}
use Rattle.calendar.specs.declared.Date.{Date}
use Rattle.calendar.proofs.laws.Order.{Before, number_grows, one_number, before_by_number}

-- ---- of every count of days

-- a round has 9,000 days
pub round_is : round_days ≡ 9000
round_is = refl

-- two counts are whole rounds apart, both from day 1000 on
pub record RoundsApart (m n : ℕ) : Type 0 where
  pub first_from : returns_to ≤ m
  pub second_from : returns_to ≤ n
  pub rounds : ℕ
  pub apart : (n ≡ m + rounds * round_days) ⊎ (m ≡ n + rounds * round_days)

-- folded from day 1000 on, and not before
small : (n : ℕ) → n < returns_to → folded n ≡ n
unfolding folded
small n h = rw (le-leb n last_factor (omega arith))

large : (n : ℕ) → returns_to ≤ n → folded n ≡ returns_to + (n - returns_to) % round_days
unfolding folded
large n h = go (dec_le n last_factor)
  where
    go : Dec (n ≤ last_factor) → folded n ≡ returns_to + (n - returns_to) % round_days
    go (yes up) = rw (le-leb n last_factor up) (omega arith)
    go (no up) = rw (lt-leb n last_factor (omega arith))

-- of one day or more the factor is from 1 to the last
pub folded_between : (n : ℕ) → 1 ≤ n → (1 ≤ folded n) × (folded n ≤ last_factor)
folded_between n h = go (dec_le returns_to n)
  where
    go : Dec (returns_to ≤ n) → (1 ≤ folded n) × (folded n ≤ last_factor)
    go (yes up) = omega (arith, large n up)
    go (no up) = omega (arith, small n (omega arith))

-- of no day there is none
pub folded_none : (n : ℕ) → folded n ≡ 0 ↔ n ≡ 0
folded_none n = (none (dec_le 1 n), λ e. rw e (small 0 (omega arith)))
  where
    none : Dec (1 ≤ n) → folded n ≡ 0 → n ≡ 0
    none (yes h) e = absurd (omega (arith, folded_between n h))
    none (no h) e = omega arith

-- a count some rounds later has the same factor
later_same : (m n k : ℕ) → returns_to ≤ m → n ≡ m + k * round_days → folded m ≡ folded n
later_same m n k h e =
    let rest : n - returns_to ≡ (m - returns_to) + k * round_days = omega arith in
    large m h
    ∙ ap (λ (r : ℕ). returns_to + r) (sym (add-mul-mod_self_right (m - returns_to) k round_days) ∙ ap (λ (r : ℕ). r % round_days) (sym rest))
    ∙ sym (large n (omega arith))

-- the rounds between two counts that have the same rest
rounds_between : (m n : ℕ) → returns_to ≤ m → returns_to ≤ n → (m - returns_to) % round_days ≡ (n - returns_to) % round_days → RoundsApart m n
rounds_between m n h h' e = go (dec_le ((m - returns_to) / round_days) ((n - returns_to) / round_days))
  where
    go : Dec ((m - returns_to) / round_days ≤ (n - returns_to) / round_days) → RoundsApart m n
    go (yes up) = record {
      first_from = omega arith;
      second_from = omega arith;
      rounds = (n - returns_to) / round_days - (m - returns_to) / round_days;
      apart = inl (omega arith);
    }
    go (no up) = record {
      first_from = omega arith;
      second_from = omega arith;
      rounds = (m - returns_to) / round_days - (n - returns_to) / round_days;
      apart = inr (omega arith);
    }

-- two counts have one factor exactly if they are equal or whole rounds apart
pub folded_same : (m n : ℕ) → folded m ≡ folded n ↔ (m ≡ n) ⊎ RoundsApart m n
folded_same m n = (apart (dec_le returns_to m) (dec_le returns_to n), same)
  where
    apart : Dec (returns_to ≤ m) → Dec (returns_to ≤ n) → folded m ≡ folded n → (m ≡ n) ⊎ RoundsApart m n
    apart (yes h) (yes h') e = inr (rounds_between m n h h' (omega (arith, large m h, large n h')))
    apart (yes h) (no h') e = absurd (omega (arith, large m h, small n (omega arith)))
    apart (no h) (yes h') e = absurd (omega (arith, small m (omega arith), large n h'))
    apart (no h) (no h') e = inl (omega (arith, small m (omega arith), small n (omega arith)))

    same : (m ≡ n) ⊎ RoundsApart m n → folded m ≡ folded n
    same (inl e) = ap folded e
    same (inr r) = by_side r.apart
      where
        by_side : (n ≡ m + r.rounds * round_days) ⊎ (m ≡ n + r.rounds * round_days) → folded m ≡ folded n
        by_side (inl e) = later_same m n r.rounds (omega arith) e
        by_side (inr e) = sym (later_same n m r.rounds (omega arith) e)

-- ---- of all dates that exist

-- the day from which factors count, and the first that has one
pub base_day : day_number (date 7 10 1997) ≡ 280
unfolding day_number exists days_of_years
base_day = refl

abbrev pub first_due : Date
first_due = date 8 10 1997

first_day : (day_number first_due ≡ 281) × (exists first_due ≡ true)
unfolding day_number exists days_of_years
first_day = (refl, refl)

-- a date has none exactly before 8 October 1997
pub factor_none : (d : Date) → exists d ≡ true → factor_of d ≡ 0 ↔ Before d first_due
unfolding factor_of due_days
factor_none d p = (
  λ none. before_by_number d first_due p first_day.1 (omega (arith, (folded_none (due_days d)).0 none, base_day, first_day)),
  λ before. (folded_none (due_days d)).1 (omega (arith, number_grows d first_due p first_day.1 before, base_day, first_day)),
)

-- such a date goes with factor 0 only
pub undated_only : (factor : ℕ) (d : Date) → exists d ≡ true → Before d first_due → factor_fits factor d ≡ true → factor ≡ 0
undated_only factor d p before fits = eqb-true factor 0 (once (eqb factor 0) (rw ((factor_none d p).1 before) at fits))
  where
    once : (b : Bool) → (b || b) ≡ true → b ≡ true
    once true e = refl
    once false e = e

-- every other date has a factor from 1 to the last
pub factor_between : (d : Date) → exists d ≡ true → (Before d first_due → ⊥) → (1 ≤ factor_of d) × (factor_of d ≤ last_factor)
unfolding factor_of
factor_between d p on = go (dec_le 1 (due_days d))
  where
    go : Dec (1 ≤ due_days d) → (1 ≤ factor_of d) × (factor_of d ≤ last_factor)
    go (yes h) = folded_between (due_days d) h
    go (no h) = absurd (on ((factor_none d p).0 ((folded_none (due_days d)).1 (omega arith))))

-- dates whole rounds apart have the same
pub factor_again : (d e : Date) → RoundsApart (due_days d) (due_days e) → factor_of d ≡ factor_of e
unfolding factor_of
factor_again d e r = (folded_same (due_days d) (due_days e)).1 (inr r)

-- two dates of one factor are one, or whole rounds apart
pub factor_apart : (d e : Date) → exists d ≡ true → exists e ≡ true → factor_of d ≢ 0 → factor_of d ≡ factor_of e
    → (d ≡ e) ⊎ RoundsApart (due_days d) (due_days e)
unfolding factor_of due_days
factor_apart d e p q some same = go ((folded_same (due_days d) (due_days e)).0 same)
  where
    some_day : due_days d ≢ 0
    some_day none = some ((folded_none (due_days d)).1 none)

    go : (due_days d ≡ due_days e) ⊎ RoundsApart (due_days d) (due_days e) → (d ≡ e) ⊎ RoundsApart (due_days d) (due_days e)
    go (inl days) = inl (one_number d e p q (omega (arith, days, some_day)))
    go (inr r) = inr r

-- the first day of the second round is one round behind 3 July 2000
pub one_round : RoundsApart (due_days (date 3 7 2000)) (due_days (date 22 2 2025))
unfolding due_days day_number exists days_of_years
one_round = record { first_from = lit≤ tt; second_from = lit≤ tt; rounds = 1; apart = inl refl }
