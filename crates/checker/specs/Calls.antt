-- Calls one after the other: the states they produce, and lines that are accepted. Assumes nothing.
use Rattle.std.specs.Prelude.{List, [], ◌∷◌, ℕ}
use Rattle.answer.specs.Rules.{AllKept}
use Rattle.checker.specs.Line.{rules_of_line}
use Rattle.checker.specs.Machine.{start, step_of}
use Rattle.checker.specs.declared.Checker.{Checker}

-- ---- calls with one line each, whatever the answers: a refused call leaves the state, and the next call is made all the same

-- the states that calls produce
pub data Reached : Checker → Type 0 where
  at_start : Reached start
  after_line : {s : Checker} (line : List ℕ) → Reached s → Reached (step_of s line).state

unfoldable pub left : Checker → List (List ℕ) → Checker
left s [] = s
left s (l ∷ ls) = left (step_of s l).state ls

-- ---- lines that are accepted

-- lines accepted one after the other, from a state to a state
pub data Through : Checker → List (List ℕ) → Checker → Type 0 where
  here : {s : Checker} → Through s [] s
  further : {s t : Checker} {l : List ℕ} {ls : List (List ℕ)} → AllKept (rules_of_line s l) → Through (step_of s l).state ls t → Through s (l ∷ ls) t
