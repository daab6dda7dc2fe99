-- What a call does: its answer, the state and the output afterwards. Assumes nothing.
use Rattle.std.specs.Prelude.{◌≡◌, ℕ, ◌+◌, length, take, drop, Err, Ok}
use mathlib.Core.List.{List, [], ◌∷◌, ◌++◌, flatten}
use Rattle.fields.specs.declared.Fields.{Fields}
use Rattle.answer.specs.Rules.{first_broken}
use Rattle.answer.specs.Rules.{Answer}
use Rattle.checker.specs.Line.{line_from}
use Rattle.checker.specs.Machine.{start}
use Rattle.checker.specs.declared.Checker.{Checker}
use Rattle.writer.specs.Given.{Call, records_of}
use Rattle.filling.specs.Filling.{bytes_of}
use Rattle.writer.specs.Refusals.{next_by, size, call_rules}
use Rattle.writer.specs.declared.Writer.{Writer}
use Rattle.writer.specs.declared.Written.{Written}

abbrev pub writer : Checker → ℕ → Writer
writer s at = record { checker = s; cursor = at }

abbrev pub new_writer : Writer
new_writer = writer start 0

-- ---- records one behind the other, from a state on

unfoldable pub lines_for : Checker → List Fields → List (List ℕ)
lines_for s [] = []
lines_for s (g ∷ gs) = line_from (bytes_of s g) ∷ lines_for (next_by s g) gs

unfoldable pub behind_all : Checker → List Fields → Checker
behind_all s [] = s
behind_all s (g ∷ gs) = behind_all (next_by s g) gs

-- the cursor behind them
abbrev pub cursor_behind : Writer → List Fields → ℕ
cursor_behind w gs = w.cursor + size (length gs)

-- a refusal leaves the state and the output
abbrev pub state_after : Answer → Writer → List Fields → Writer
state_after (Ok tt) w gs = writer (behind_all w.checker gs) (cursor_behind w gs)
state_after (Err r) w gs = w

abbrev pub output_after : Answer → Writer → List Fields → List ℕ → List ℕ
output_after (Ok tt) w gs out = take w.cursor out ++ (flatten (lines_for w.checker gs) ++ drop (cursor_behind w gs) out)
output_after (Err r) w gs out = out

-- ---- a call

unfoldable pub answer_of : Writer → Call → List ℕ → Answer
answer_of w c out = first_broken (call_rules w c out)

-- a call of the writer w that is lent the output `out`: its result, and the output afterwards
pub record Wrote (w : Writer) (c : Call) (out after : List ℕ) (r : Written) : Type 0 where
  pub answered : r.answer ≡ answer_of w c out
  pub moved : r.state ≡ state_after r.answer w (records_of c)
  pub memory : after ≡ output_after r.answer w (records_of c) out
