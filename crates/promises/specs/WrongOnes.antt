-- Wrong checkers, checkers in parts, writers and converters that the paper names, by what they show. Assumes nothing.
use Rattle.std.specs.Prelude.{◌≡◌, false, ℕ, ◌<◌, length, Err, Ok}
use mathlib.Core.List.{List, [], ◌∷◌, ◌++◌, flatten}
use Rattle.answer.specs.declared.Refusal.{Refusal}
use Rattle.answer.specs.Rules.{Answer}
use Rattle.layout.specs.declared.Direction.{Direction}
use Rattle.layout.specs.declared.Record.TheVariants.{FileHeader}
use Rattle.checker.specs.Line.{line_bytes, header_batch}
use Rattle.checker.specs.Order.{ended}
use Rattle.checker.specs.Machine.{start}
use Rattle.checker.specs.Calls.{Through}
use Rattle.checker.specs.declared.Checker.{Checker}
use Rattle.checker.specs.declared.totals.Totals.{Totals}
use Rattle.files.specs.Calls.{PartsCall, bytes_of, end_declared}
use Rattle.files.specs.File.{Outcome}
use Rattle.writer.specs.Given.{Call, pay}
use Rattle.writer.specs.declared.given.Payment.{Payment}
use Rattle.promises.specs.Grammar.{Numbered, RightBatch}
use Rattle.promises.specs.Demands.{AnyIncoming, state_fed, AnyWriter, answers_from, output_from}

-- ---- a checker that looks at the first batch only

-- the bytes of a file header and of the batch behind it
pub record FirstBatch (front : List ℕ) : Type 0 where
  pub direction : Direction
  pub bank : ℕ
  pub header : List ℕ
  pub batch : List (List ℕ)
  pub in_it : Totals
  pub header_right : Numbered FileHeader direction bank header_batch header
  pub batch_right : RightBatch direction bank 1 batch in_it
  pub joined : header ++ flatten batch ≡ front

-- files of one length that agree up to the end of the first batch, and in their last line, get one answer
abbrev pub FirstBatchOnly : (List ℕ → Outcome) → Type 0
FirstBatchOnly check = (front later other last : List ℕ) → FirstBatch front → length later ≡ length other → length last ≡ line_bytes
    → check (front ++ (later ++ last)) ≡ check (front ++ (other ++ last))

-- ---- checkers in parts

-- one that puts everything off to the end: every part before it is taken
abbrev pub PutsOff : AnyIncoming → Type 0
PutsOff w = (cs : List PartsCall) → end_declared cs ≡ false → (bytes : List ℕ) → (w.part (state_fed w w.new cs) bytes).1 ≡ Ok tt

-- one that looks into a line that is not finished: behind lines that are accepted, not the file trailer, it refuses less than a line
pub record LooksInto (w : AnyIncoming) : Type 0 where
  pub calls : List PartsCall
  pub bytes : List ℕ
  pub earlier : List (List ℕ)
  pub line : List ℕ
  pub to : Checker
  pub before_end : end_declared calls ≡ false
  pub are : bytes_of calls ++ bytes ≡ flatten earlier ++ line
  pub through : Through start earlier to
  pub going : ended to.phase ≡ false
  pub less : length line < line_bytes
  pub refusal : Refusal
  pub refused : (w.part (state_fed w w.new calls) bytes).1 ≡ Err refusal

-- ---- writers

-- all are refusals
pub data AllRefused : List Answer → Type 0 where
  no_answer : AllRefused []
  and_refused : {r : Refusal} {later : List Answer} → AllRefused later → AllRefused (Err r ∷ later)

-- one that always refuses
abbrev pub AlwaysRefuses : AnyWriter → Type 0
AlwaysRefuses w = (cs : List Call) (out : List ℕ) → AllRefused (answers_from w w.new cs out)

-- one that does nothing: the output is as it was lent
abbrev pub DoesNothing : AnyWriter → Type 0
DoesNothing w = (cs : List Call) (out : List ℕ) → output_from w w.new cs out ≡ out

-- one that writes the first payment and only counts the later ones: a payment behind another leaves the output as that one left it
abbrev pub FirstPaymentOnly : AnyWriter → Type 0
FirstPaymentOnly w = (cs : List Call) (p q : Payment) (out : List ℕ)
    → output_from w w.new (cs ++ pay p ∷ pay q ∷ []) out ≡ output_from w w.new (cs ++ pay p ∷ []) out

-- ---- a digit converter that always refuses

abbrev pub RefusesDigits : (List ℕ → List ℕ → Answer × List ℕ) → Type 0
RefusesDigits convert = (digits out : List ℕ) → (r : Refusal) × ((convert digits out).0 ≡ Err r)
