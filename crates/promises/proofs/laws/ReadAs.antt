-- Lines that are accepted one after the other, each read as its record. Assumes nothing.
use Rattle.std.specs.Prelude.{◌≡◌, refl, true, List, [], ◌∷◌, ◌++◌, ℕ, zero, suc, ◌<◌, length, get_or, take, Some}
use Rattle.std.proofs.Common.{ap, arith}
use Rattle.answer.specs.Rules.{AllKept}
use Rattle.layout.specs.declared.Record.{Record}
use Rattle.layout.specs.declared.Record.TheVariants.{FileHeader}
use Rattle.checker.specs.Order.{ended}
use Rattle.checker.specs.Line.{record_in, line_is, rules_of_line}
use Rattle.checker.specs.Machine.{step_of}
use Rattle.checker.specs.Calls.{Through, left}
use Rattle.checker.specs.Calls as calls
use Rattle.checker.specs.declared.totals.Totals.{Totals}
use Rattle.checker.specs.declared.Checker.{Checker}

-- from a state to a state
pub data ThroughAs : Checker → List (List ℕ) → List Record → Checker → Type 0 where
  here : {s : Checker} → ThroughAs s [] [] s
  further : {s t : Checker} {l : List ℕ} {ls : List (List ℕ)} {r : Record} {rs : List Record}
      → AllKept (rules_of_line s l) → line_is s (record_in l) ≡ Some r → ThroughAs (step_of s l).state ls rs t → ThroughAs s (l ∷ ls) (r ∷ rs) t

-- up to the file's end, with these totals
pub record PassedAs (s : Checker) (ls : List (List ℕ)) (rs : List Record) (t : Totals) : Type 0 where
  pub to : Checker
  pub through : ThroughAs s ls rs to
  pub at_end : ended to.phase ≡ true
  pub counted : t ≡ to.closed

-- one line
pub one_as : {s : Checker} {l : List ℕ} {t : Checker} {r : Record} → line_is s (record_in l) ≡ Some r → Through s (l ∷ []) t → ThroughAs s (l ∷ []) (r ∷ []) t
one_as e (calls.further k calls.here) = further k e here

-- lines behind others
pub as_append : {s t u : Checker} {xs ys : List (List ℕ)} {ps qs : List Record}
    → ThroughAs s xs ps t → ThroughAs t ys qs u → ThroughAs s (xs ++ ys) (ps ++ qs) u
as_append here on = on
as_append (further k e xs) on = further k e (as_append xs on)

-- they are accepted
pub accepted_as : {s t : Checker} {ls : List (List ℕ)} {rs : List Record} → ThroughAs s ls rs t → Through s ls t
accepted_as here = calls.here
accepted_as (further k e on) = calls.further k (accepted_as on)

-- as many records as lines
pub as_many : {s t : Checker} {ls : List (List ℕ)} {rs : List Record} → ThroughAs s ls rs t → length rs ≡ length ls
as_many here = refl
as_many (further k e on) = ap suc (as_many on)

-- each line is read as its record, behind the lines before it
pub read_as : {s t : Checker} {ls : List (List ℕ)} {rs : List Record} → ThroughAs s ls rs t → (n : ℕ) → n < length ls
    → line_is (left s (take n ls)) (record_in (get_or ls n [])) ≡ Some (get_or rs n FileHeader)
unfolding left
read_as here n h = absurd (omega arith)
read_as (further k e on) zero h = e
read_as (further k e on) (suc n) h = read_as on n (omega arith)
