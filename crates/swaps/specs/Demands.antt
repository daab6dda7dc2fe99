-- Demand 3 of a checker, for the guarded fields and neighbours. Assumes nothing.
use Rattle.std.specs.Prelude.{◌≡◌, ◌≢◌, List, ℕ, suc, Err, Ok}
use Rattle.answer.specs.declared.Refusal.{Refusal}
use Rattle.digits.specs.Digits.{place}
use Rattle.checker.specs.declared.totals.Totals.{Totals}
use Rattle.files.specs.File.{Outcome}
use Rattle.promises.specs.Guarded.{line_at, changed}
use Rattle.swaps.specs.Guarded.{GuardedIn, GuardedPairIn, swapped_at}

-- another byte at a guarded place of an accepted file is refused
abbrev pub Demand3 : (List ℕ → Outcome) → Type 0
Demand3 check = (file : List ℕ) (t : Totals) (n p b : ℕ) → check file ≡ Ok t → GuardedIn file n p → b ≢ place p (line_at n file)
    → (r : Refusal) × (check (changed file n p b) ≡ Err r)

-- two unequal neighbours of an accepted file that are guarded, swapped, are refused
abbrev pub SwapDemand3 : (List ℕ → Outcome) → Type 0
SwapDemand3 check = (file : List ℕ) (t : Totals) (n p : ℕ) → check file ≡ Ok t → GuardedPairIn file n p → place p (line_at n file) ≢ place (suc p) (line_at n file)
    → (r : Refusal) × (check (swapped_at file n p) ≡ Err r)
