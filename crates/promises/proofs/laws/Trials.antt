-- What the tables of computed files and of computed calls say of each of their rows. Assumes nothing.
use Rattle.std.specs.Prelude.{Bool, true, false, ◌&&◌, List, [], ◌∷◌, ℕ, ◌-◌, ◌*◌, replicate, Err, Ok}
use Prim.Native.String.{String}
use Rattle.answer.specs.Rules.{Answer}
use Rattle.checker.specs.Line.{line_bytes}
use Rattle.files.specs.File.{check_file}
use Rattle.files.specs.File.{Outcome}
use Rattle.writer.specs.Given.{Call}
use Rattle.writer.specs.Outcome.{new_writer}
use Rattle.writer.specs.Calls.{lent_on}
use Rattle.promises.specs.Demands.{right_answers}
use Rattle.promises.proofs.laws.AcceptedFiles.{is_accepted, is_at, overwritten}

-- ---- files

-- a text put over a line, counted from 1, from a place on
pub record Put : Type 0 where
  pub line : ℕ
  pub place : ℕ
  pub text : String

abbrev pub put : ℕ → ℕ → String → Put
put line place text = record { line = line; place = place; text = text }

unfoldable pub with_all : List Put → List ℕ → List ℕ
with_all [] file = file
with_all (x ∷ xs) file = with_all xs (overwritten file (x.line - 1) x.place x.text)

-- a file with these is accepted; or it is refused with a number, at a line and a place
pub data Changed : Type 0 where
  right : List ℕ → List Put → Changed
  wrong : List ℕ → List Put → ℕ → ℕ → ℕ → Changed

abbrev pub is_refused : ℕ → ℕ → ℕ → Outcome → Bool
is_refused n line place (Ok t) = false
is_refused n line place (Err r) = is_at n line place r

abbrev pub file_holds : Changed → Bool
file_holds (right file puts) = is_accepted (check_file (with_all puts file))
file_holds (wrong file puts n line place) = is_refused n line place (check_file (with_all puts file))

abbrev pub every_file : List Changed → Bool
every_file [] = true
every_file (x ∷ xs) = file_holds x && every_file xs

-- ---- calls of the writer

-- calls that are accepted; calls of which the last is refused with a number, at a line and a place
pub data Calls : Type 0 where
  taken : List Call → Calls
  refused_as : List Call → ℕ → ℕ → ℕ → Calls

abbrev pub all_taken : List Answer → Bool
all_taken [] = true
all_taken ((Ok tt) ∷ later) = all_taken later
all_taken (Err r ∷ later) = false

abbrev pub last_refused : ℕ → ℕ → ℕ → List Answer → Bool
last_refused n line place [] = false
last_refused n line place ((Ok tt) ∷ later) = last_refused n line place later
last_refused n line place (Err r ∷ []) = is_at n line place r
last_refused n line place (Err r ∷ (next ∷ later)) = false

-- in memory for six lines
abbrev pub answers : List Call → List Answer
answers cs = right_answers new_writer (lent_on new_writer cs (replicate (6 * line_bytes) 0))

abbrev pub calls_hold : Calls → Bool
calls_hold (taken cs) = all_taken (answers cs)
calls_hold (refused_as cs n line place) = last_refused n line place (answers cs)

abbrev pub every_calls : List Calls → Bool
every_calls [] = true
every_calls (x ∷ xs) = calls_hold x && every_calls xs
