-- The dates that exist: their tests as facts. Assumes nothing.
use Rattle.std.specs.Prelude.{◌≡◌, Bool, true, ◌&&◌, ℕ, ◌-◌, ◌≤◌, T, leb, get_or}
use Rattle.std.proofs.Common.{sym, ◌∙◌, subst, leb→le}
use Rattle.std.proofs.Math.Bool.{and_assoc}
use Rattle.digits.proofs.laws.Tests.{both}
use Rattle.calendar.specs.Calendar.{first_year, last_year, months, exists}
use Rattle.calendar.specs.declared.Date.{Date}

-- the tests of the year and the month, which come before that of the day
abbrev pub in_range : Date → Bool
in_range d = (leb first_year d.year && leb d.year last_year) && (leb 1 d.month && leb d.month 12)

pub exists_is : (d : Date) → exists d ≡ (in_range d && (leb 1 d.day && leb d.day (get_or (months d.year) (d.month - 1) 0)))
unfolding exists
exists_is d = simp and_assoc

pub record InRange (d : Date) : Type 0 where
  pub year : (first_year ≤ d.year) × (d.year ≤ last_year)
  pub month : (1 ≤ d.month) × (d.month ≤ 12)

within : (a x b : ℕ) → T (leb a x && leb x b) → (a ≤ x) × (x ≤ b)
within a x b t = let ts = both (leb a x) (leb x b) t in (leb→le a x ts.0, leb→le x b ts.1)

pub in-range : (d : Date) → T (in_range d) → InRange d
in-range d t =
    let ts = both (leb first_year d.year && leb d.year last_year) (leb 1 d.month && leb d.month 12) t in
    record { year = within first_year d.year last_year ts.0; month = within 1 d.month 12 ts.1 }

-- a date that exists is in range, and its day is one of its month
pub day_in_month : (d : Date) → exists d ≡ true → InRange d × ((1 ≤ d.day) × (d.day ≤ get_or (months d.year) (d.month - 1) 0))
day_in_month d e =
    let most = get_or (months d.year) (d.month - 1) 0 in
    let ts = both (in_range d) (leb 1 d.day && leb d.day most) (subst T (sym e ∙ exists_is d) tt) in
    (in-range d ts.0, within 1 d.day most ts.1)
