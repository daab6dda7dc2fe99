-- Many lines, the end, and a whole file. Assumes nothing.
use Rattle.std.specs.Prelude.{◌≡◌, cond, List, [], ◌∷◌, ℕ, zero, suc, ◌≤◌, ◌<◌, length, take, drop, Result, Ok, Err}
use Rattle.answer.specs.Rules.{no_line, refusal}
use Rattle.answer.specs.declared.Refusal.{Refusal}
use Rattle.answer.specs.Rules.{Answer}
use Rattle.checker.specs.Order.{ended}
use Rattle.checker.specs.Line.{line_bytes}
use Rattle.checker.specs.Machine.{start, line_of, sound, stepped, step_of}
use Rattle.checker.specs.declared.Checker.{Checker}
use Rattle.checker.specs.declared.totals.Totals.{Totals}
use Rattle.checker.specs.declared.Stepped.{Stepped}

-- lines are parts of 242 bytes; a last one may be shorter, and is not empty
pub data Lines : List (List ℕ) → Type 0 where
  empty : Lines []
  short : (l : List ℕ) → 1 ≤ length l → length l < line_bytes → Lines (l ∷ [])
  full : (l : List ℕ) {ls : List (List ℕ)} → length l ≡ line_bytes → Lines ls → Lines (l ∷ ls)

-- the lines of bytes are such parts that join to the bytes; there is one way to cut them so, and this is it (the law `lines_are`): every 242 bytes, in
-- at most k parts
unfoldable pub cut : ℕ → List ℕ → List (List ℕ)
cut zero bytes = []
cut (suc k) [] = []
cut (suc k) (b ∷ bytes) = take line_bytes (b ∷ bytes) ∷ cut k (drop line_bytes (b ∷ bytes))

abbrev pub lines_of : List ℕ → List (List ℕ)
lines_of bytes = cut (length bytes) bytes

-- a refusal ends the steps
abbrev pub unless : Answer → Stepped → Stepped → Stepped
unless (Ok tt) on stop = on
unless (Err r) on stop = stop

unfoldable pub steps : Checker → List (List ℕ) → Stepped
steps s [] = stepped s (Ok tt)
steps s (l ∷ ls) = unless (step_of s l).answer (steps (step_of s l).state ls) (step_of s l)

-- what is in an accepted file, or the first refusal
abbrev pub Outcome : Type 0
Outcome = Result Totals Refusal

-- a call that the state does not allow
abbrev pub out_of_turn : Refusal
out_of_turn = refusal 51 no_line 0

-- the end, declared: behind the file trailer the totals, else 2
unfoldable pub end_of : Checker → Outcome
end_of s = cond (sound s) (cond (ended s.phase) (Ok s.closed) (Err (refusal 2 (line_of s) 0))) (Err out_of_turn)

abbrev pub outcome : Answer → Outcome → Outcome
outcome (Ok tt) end = end
outcome (Err r) end = Err r

-- lines, and then the end
abbrev pub whole : Checker → List (List ℕ) → Outcome
whole s ls = outcome (steps s ls).answer (end_of (steps s ls).state)

-- the end of the input, with the bytes that are left of it
unfoldable pub finish : Checker → List ℕ → Outcome
finish s rest = whole s (lines_of rest)

abbrev pub check_file : List ℕ → Outcome
check_file file = finish start file
