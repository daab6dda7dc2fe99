-- The records of a payment: what is so of each by its position, tested once over the lists, and carried to the record at any position. Assumes nothing.
use Rattle.std.specs.Prelude.{◌≡◌, refl, true, false, cond, List, [], ◌∷◌, ◌++◌, ℕ, zero, suc, ◌+◌, ◌<◌, ◌≤◌, ltb, eqb, length, take, drop, None, Option, Some, is_some}
use Rattle.std.proofs.Common.{sym, ap, subst, ◌∙◌, add-one, arith, ltb-true, length-drop, take-add}
use Rattle.digits.specs.Digits.{digit_byte}
use Rattle.layout.specs.Records.{type_of, letter_z}
use Rattle.layout.specs.Table.{segment_field, segment_fields}
use Rattle.layout.specs.declared.Record.{Record}
use Rattle.layout.specs.declared.pairs.Batch.{Batch}
use Rattle.layout.specs.declared.pairs.Batch.TheVariants.{Credit, Boleto, Collection}
use Rattle.checker.specs.Order.{payment, optional}
use Rattle.layout.specs.Records.{after}
use Rattle.checker.specs.Totals.{payments_of}
use Rattle.checker.specs.Machine.{most_details}
use Rattle.layout.specs.declared.shapes.Phase.{Phase}
use Rattle.layout.specs.declared.shapes.Phase.TheVariants.{Within, Paid}
use Rattle.checker.specs.inner.Following.{Stands}

-- the first begins a payment
abbrev pub begun_at : ℕ → ℕ
begun_at zero = 1
begun_at (suc n) = 0

-- behind a record more come, or the payment is made
abbrev pub phase_behind : ℕ → Option Batch → Phase
phase_behind n b = cond (ltb (suc n) (length (payment b))) (Within (suc n)) Paid

-- a detail, known by its place, with another letter than Z's; what it begins; and the phase behind it
pub record Row (b : Option Batch) (n : ℕ) (r : Record) : Type 0 where
  pub type : type_of r ≡ digit_byte 3
  pub needed : optional r ≡ false
  pub letter : ℕ
  pub marked : segment_fields r ≡ segment_field letter ∷ []
  pub no_z : eqb letter letter_z ≡ false
  pub begins : payments_of r ≡ begun_at n
  pub phase : after r ≡ phase_behind n b

-- ---- the test

-- each record of a list, at its position
abbrev EachAt : (ℕ → Record → Type 0) → List Record → Type 0
EachAt P [] = Unit {0}
EachAt P (r ∷ rs) = P 0 r × EachAt (λ n. P (suc n)) rs

fits : {b : Option Batch} {n letter : ℕ} {r : Record} → type_of r ≡ digit_byte 3 → optional r ≡ false → segment_fields r ≡ segment_field letter ∷ [] → eqb letter letter_z ≡ false
    → payments_of r ≡ begun_at n → after r ≡ phase_behind n b → Row b n r
fits {letter = l} t o m z p a = record { type = t; needed = o; letter = l; marked = m; no_z = z; begins = p; phase = a }

-- the phases of the table agree with the lists, and so do types and counts
rows : (b : Option Batch) → EachAt (Row b) (payment b)
rows (Some Credit) = (fits refl refl refl refl refl refl, (fits refl refl refl refl refl refl, tt))
rows (Some Boleto) = (fits refl refl refl refl refl refl, (fits refl refl refl refl refl refl, tt))
rows (Some Collection) = (fits refl refl refl refl refl refl, tt)
rows None = tt

-- with a Z a payment has no more records than it may have
pub brief : (b : Option Batch) → length (payment b) + 1 ≤ most_details
brief (Some Credit) = omega arith
brief (Some Boleto) = omega arith
brief (Some Collection) = omega arith
brief None = omega arith

-- a kind of batch has a payment, and where there is none there is no payment
pub known_paid : (b : Option Batch) → is_some b ≡ ltb 0 (length (payment b))
known_paid (Some Credit) = refl
known_paid (Some Boleto) = refl
known_paid (Some Collection) = refl
known_paid None = refl

pub some_paid : (b : Option Batch) → is_some b ≡ true → 1 ≤ length (payment b)
some_paid b e = ltb-true 0 (length (payment b)) (sym (known_paid b) ∙ e)

-- ---- carried

pub head_of : {A : Type 0} {x r : A} {xs rs : List A} → x ∷ xs ≡ r ∷ rs → x ≡ r
head_of e = cc

none_there : {r : Record} → [] ≡ r ∷ [] → ⊥
none_there e = let z : ◌≡◌ {A = ℕ} 0 1 = ap length e in omega arith

of_each : (P : ℕ → Record → Type 0) (n : ℕ) (rs : List Record) {r : Record} → EachAt P rs → take 1 (drop n rs) ≡ r ∷ [] → P n r
of_each P zero [] h e = absurd (none_there e)
of_each P (suc n) [] h e = absurd (none_there e)
of_each P zero (x ∷ rs) h e = subst (P 0) (head_of e) h.0
of_each P (suc n) (x ∷ rs) h e = of_each (λ n. P (suc n)) n rs h.1 e

module _ {b : Option Batch} {n : ℕ} {r : Record} (g : Stands b n r) where
  pub row : Row b n r
  row = of_each (Row b) n (payment b) (rows b) g.is

  pub stands_in : n < length (payment b)
  stands_in = go (drop n (payment b)) refl
    where
      go : (xs : List Record) → drop n (payment b) ≡ xs → n < length (payment b)
      go [] e = absurd (none_there (sym (ap (take 1) e) ∙ g.is))
      go (x ∷ xs) e = omega (arith, length-drop n (payment b), ap length e)

  -- the payment's records up to it, and it
  pub up_to : take (suc n) (payment b) ≡ take n (payment b) ++ r ∷ []
  up_to = rw (← add-one n, take-add n 1 (payment b), g.is)

-- two that stand at one position are one
pub one_stands : {b : Option Batch} {n : ℕ} {r q : Record} → Stands b n r → Stands b n q → r ≡ q
one_stands g h = head_of (sym g.is ∙ h.is)
