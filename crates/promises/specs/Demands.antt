-- The demands, said of any checker, any checker in parts, any writer and any converters of digit strings, whatever they are made of. Assumes
-- nothing.
use Rattle.std.specs.Prelude.{◌≡◌, ◌≢◌, ◌↔◌, List, [], ◌∷◌, ◌++◌, cond, ℕ, ◌≤◌, length, take, drop, Err, Ok}
use Rattle.answer.specs.Rules.{AllKept}
use Rattle.answer.specs.declared.Refusal.{Refusal}
use Rattle.answer.specs.Rules.{Answer}
use Rattle.digits.specs.Digits.{place}
use Rattle.checker.specs.Machine.{start}
use Rattle.files.specs.File.{lines_of, steps, out_of_turn, check_file}
use Rattle.files.specs.Parts.{arrived, answer_in, status_behind}
use Rattle.files.specs.Calls.{PartsCall, part, end, bytes_of, end_declared}
use Rattle.checker.specs.declared.Checker.{Checker}
use Rattle.layout.specs.declared.shapes.Phase.TheVariants.{Ended}
use Rattle.checker.specs.declared.totals.Totals.{Totals}
use Rattle.files.specs.File.{Outcome}
use Rattle.writer.specs.Given.{Call}
use Rattle.writer.specs.Outcome.{new_writer, answer_of}
use Rattle.writer.specs.Calls.{Lent, WholeCalls, state_behind, left, file_of, put_in, lent_on}
use Rattle.writer.specs.declared.Writer.{Writer}
use Rattle.promises.specs.Strings.{Family}
use Rattle.promises.specs.Grammar.{Meets}
use Rattle.promises.specs.Guarded.{line_at, GuardedIn, changed}

-- ---- a checker: the bytes of a file, and the outcome

-- a file is accepted exactly if it meets the rules
abbrev pub Demand2 : (List ℕ → Outcome) → Type 0
Demand2 check = (file : List ℕ) (t : Totals) → check file ≡ Ok t ↔ Meets file t

-- another byte at a guarded place of an accepted file is refused
abbrev pub Demand3 : (List ℕ → Outcome) → Type 0
Demand3 check = (file : List ℕ) (t : Totals) (n p b : ℕ) → check file ≡ Ok t → GuardedIn file n p → b ≢ place p (line_at n file)
    → (r : Refusal) × (check (changed file n p b) ≡ Err r)

-- ---- a checker in parts: states of any kind, a call with a part, and a call for the end

-- its states, the one that it starts in, and its calls, each with its answer
pub record AnyIncoming : Type 1 where
  pub State : Type 0
  pub new : State
  pub part : State → List ℕ → State × Answer
  pub end : State → State × Outcome
  pub machine : State → Checker

-- behind calls
module _ (w : AnyIncoming) where
  unfoldable pub state_fed : w.State → List PartsCall → w.State
  state_fed s [] = s
  state_fed s (part bytes ∷ cs) = state_fed (w.part s bytes).0 cs
  state_fed s (end ∷ cs) = state_fed (w.end s).0 cs

-- what an end says behind an end: an acceptance is not given again
abbrev pub said_again : Outcome → Outcome
said_again (Ok t) = Err out_of_turn
said_again (Err r) = Err r

-- behind any calls, each answer is that of the bytes so far and of whether the end is declared, and the machine is that of the whole-file check
pub record PartsDemand (w : AnyIncoming) : Type 0 where
  pub told : (cs : List PartsCall) (bytes : List ℕ) → (w.part (state_fed w w.new cs) bytes).1
      ≡ answer_in (cond (end_declared cs) (status_behind (check_file (bytes_of cs))) (arrived (bytes_of cs ++ bytes)).status)
  pub ended : (cs : List PartsCall) → let whole = check_file (bytes_of cs) in (w.end (state_fed w w.new cs)).1 ≡ cond (end_declared cs) (said_again whole) whole
  pub counted : (cs : List PartsCall) → w.machine (state_fed w w.new cs) ≡ (steps start (lines_of (bytes_of cs))).state

-- ---- a writer: states of any kind, and calls that are lent an output

-- what a call hands back, and the output afterwards
pub record Done (S : Type 0) : Type 0 where
  pub state : S
  pub answer : Answer
  pub out : List ℕ

-- its states, the one that it starts in, and its calls
pub record AnyWriter : Type 1 where
  pub State : Type 0
  pub new : State
  pub call : State → Call → List ℕ → Done State

-- calls one after the other, each lent the output that the last one left: their answers, and the output behind them
module _ (w : AnyWriter) where
  unfoldable pub answers_from : w.State → List Call → List ℕ → List Answer
  answers_from s [] out = []
  answers_from s (c ∷ cs) out = let x = w.call s c out in x.answer ∷ answers_from x.state cs x.out

  unfoldable pub output_from : w.State → List Call → List ℕ → List ℕ
  output_from s [] out = out
  output_from s (c ∷ cs) out = let x = w.call s c out in output_from x.state cs x.out

-- the answers that the refusals give, each behind the calls before it
unfoldable pub right_answers : Writer → List Lent → List Answer
right_answers w [] = []
right_answers w (l ∷ ls) = answer_of w l.call l.out ∷ right_answers (state_behind w l) ls

-- calls of a new writer, the first of which is lent this output
abbrev pub lent_first : List Call → List ℕ → List Lent
lent_first cs out = lent_on new_writer cs out

-- a call is accepted exactly if none of the refusals applies, else refused by the first; the output is the records of the accepted calls, in
-- order, and nothing outside is touched; a file that is closed is accepted, with the totals of what was put in
pub record WritesRight (w : AnyWriter) (cs : List Call) (out : List ℕ) : Type 0 where
  pub answered : answers_from w w.new cs out ≡ right_answers new_writer (lent_first cs out)
  pub written : let file = file_of (lent_first cs out) in take (length file) (output_from w w.new cs out) ≡ file
  pub kept : let n = length (file_of (lent_first cs out)) in drop n (output_from w w.new cs out) ≡ drop n out
  pub accepted : (left new_writer (lent_first cs out)).checker.phase ≡ Ended → let n = length (file_of (lent_first cs out)) in
      check_file (take n (output_from w w.new cs out)) ≡ Ok (put_in new_writer (lent_first cs out))

-- so behind every sequence of calls
abbrev pub WriterDemand2 : AnyWriter → Type 0
WriterDemand2 w = (cs : List Call) (out : List ℕ) → WholeCalls (lent_first cs out) → WritesRight w cs out

-- ---- digit converters: a string, and an output that is lent; the answer, and the output afterwards

-- with room, a code of the family whose rules are kept is accepted, its line is written, and that is turned into the code again; the same from a line
pub record ConverterDemand2 (f : Family) (toLine toCode : List ℕ → List ℕ → Answer × List ℕ) : Type 0 where
  pub from_code : (code out other : List ℕ) → AllKept (f.code_rules code) → f.line_digits ≤ length out → f.code_digits ≤ length other
      → let there = toLine code out in let back = toCode (take f.line_digits there.1) other in
      (there.0 ≡ Ok tt) × (take f.line_digits there.1 ≡ f.line_of code) × (back.0 ≡ Ok tt) × (take f.code_digits back.1 ≡ code)
  pub from_line : (line out other : List ℕ) → AllKept (f.line_rules line) → f.code_digits ≤ length out → f.line_digits ≤ length other
      → let there = toCode line out in let back = toLine (take f.code_digits there.1) other in
      (there.0 ≡ Ok tt) × (take f.code_digits there.1 ≡ f.code_of line) × (back.0 ≡ Ok tt) × (take f.line_digits back.1 ≡ line)
