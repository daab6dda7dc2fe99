-- Calls one after the other, each lent some memory; a refused one leaves the state, and the next is made all the same. Assumes nothing.
use mathlib.Core.List.{List, [], ◌∷◌, ◌++◌, flatten}
use Rattle.std.specs.Prelude.{ℕ, length, Err, Ok}
use Rattle.answer.specs.Rules.{Answer}
use Rattle.fields.specs.Values.{Whole}
use Rattle.fields.specs.declared.Fields.{Fields}
use Rattle.checker.specs.Totals.{bare, none, add}
use Rattle.checker.specs.declared.totals.Totals.{Totals}
use Rattle.writer.specs.Given.{Call, open_file, open_batch, pay, close_batch, close_file, records_in, records_of, amount_in, is_withdrawn, one_payment}
use Rattle.writer.specs.Outcome.{new_writer, lines_for, answer_of, state_after, output_after}
use Rattle.writer.specs.declared.Writer.{Writer}

pub data AllWhole : List Fields → Type 0 where
  no_more : AllWhole []
  and_then : {g : Fields} {gs : List Fields} → Whole g → AllWhole gs → AllWhole (g ∷ gs)

-- a call, and the memory that it is lent
pub record Lent : Type 0 where
  pub call : Call
  pub out : List ℕ

pub data WholeCalls : List Lent → Type 0 where
  no_call : WholeCalls []
  and_call : {l : Lent} {ls : List Lent} → AllWhole (records_of l.call) → WholeCalls ls → WholeCalls (l ∷ ls)

-- ---- the state

abbrev pub state_behind : Writer → Lent → Writer
state_behind w l = state_after (answer_of w l.call l.out) w (records_of l.call)

unfoldable pub left : Writer → List Lent → Writer
left w [] = w
left w (l ∷ ls) = left (state_behind w l) ls

-- ---- what the accepted calls write

abbrev pub lines_if : Answer → List (List ℕ) → List (List ℕ)
lines_if (Ok tt) ls = ls
lines_if (Err r) ls = []

unfoldable pub written : Writer → List Lent → List (List ℕ)
written w [] = []
written w (l ∷ ls) = lines_if (answer_of w l.call l.out) (lines_for w.checker (records_of l.call)) ++ written (state_behind w l) ls

-- the file: the records of the accepted calls, joined
abbrev pub file_of : List Lent → List ℕ
file_of ls = flatten (written new_writer ls)

-- ---- what is put in: the batches opened, the records, the live payments and the withdrawn ones with the sums of their amounts

abbrev pub put_by : Call → Totals
put_by (open_file v) = bare 0 1
put_by (open_batch v) = bare 1 1
put_by (pay p) = one_payment (length (records_in p)) (is_withdrawn p) (amount_in p)
put_by (close_batch v) = bare 0 1
put_by (close_file v) = bare 0 1

abbrev pub totals_if : Answer → Totals → Totals
totals_if (Ok tt) t = t
totals_if (Err r) t = none

unfoldable pub put_in : Writer → List Lent → Totals
put_in w [] = none
put_in w (l ∷ ls) = add (totals_if (answer_of w l.call l.out) (put_by l.call)) (put_in (state_behind w l) ls)

-- ---- each call is lent the memory that the last one left

abbrev pub lent : Call → List ℕ → Lent
lent c out = record { call = c; out = out }

abbrev pub memory_behind : Writer → Lent → List ℕ
memory_behind w l = output_after (answer_of w l.call l.out) w (records_of l.call) l.out

unfoldable pub lent_on : Writer → List Call → List ℕ → List Lent
lent_on w [] out = []
lent_on w (c ∷ cs) out = lent c out ∷ lent_on (state_behind w (lent c out)) cs (memory_behind w (lent c out))

unfoldable pub memory : Writer → List Call → List ℕ → List ℕ
memory w [] out = out
memory w (c ∷ cs) out = memory (state_behind w (lent c out)) cs (memory_behind w (lent c out))
