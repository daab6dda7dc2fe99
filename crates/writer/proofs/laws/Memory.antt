-- The memory that calls leave: the file, and behind it what was there. Assumes nothing.
use Rattle.std.specs.Prelude.{◌≡◌, refl, ℕ, ◌+◌, ◌≤◌, leb, length, take, drop, Err, Ok}
use Rattle.std.proofs.Common.{ap, ◌∙◌, arith, length-append}
use mathlib.Core.List.{List, [], ◌∷◌, ◌++◌, append_assoc, flatten}
use Rattle.answer.specs.Rules.{Answer}
use Rattle.writer.specs.Given.{Call, records_of}
use Rattle.writer.specs.Refusals.{call_rules}
use Rattle.writer.specs.Outcome.{new_writer, lines_for, cursor_behind, state_after, output_after, answer_of}
use Rattle.writer.specs.Calls.{AllWhole, Lent, WholeCalls, no_call, and_call, state_behind, left, lines_if, written, file_of, lent, memory_behind, lent_on, memory}
use Rattle.writer.specs.declared.Writer.{Writer}
use Rattle.writer.proofs.laws.Lines.{lines_size}
use Rattle.writer.proofs.laws.Laid.{Laid, Puts, laid, puts_nothing, puts_more}
use Rattle.writer.proofs.laws.Answers.{wrote}

flatten_append : (xs ys : List (List ℕ)) → flatten (xs ++ ys) ≡ flatten xs ++ flatten ys
unfolding flatten
flatten_append [] ys = refl
flatten_append (x ∷ xs) ys = rw (flatten_append xs ys, append_assoc)

-- ---- one call, whatever its answer

-- the lines that it writes
abbrev lines_by : Answer → Writer → Call → List (List ℕ)
lines_by a w c = lines_if a (lines_for w.checker (records_of c))

-- the cursor moves behind them, and they are put from it on
record Lays (w : Writer) (c : Call) (out : List ℕ) (a : Answer) : Type 0 where
  cursor : (state_after a w (records_of c)).cursor ≡ w.cursor + length (flatten (lines_by a w c))
  puts : w.cursor ≤ length out → Puts w.cursor (flatten (lines_by a w c)) out (output_after a w (records_of c) out)

lays : (w : Writer) (c : Call) (out : List ℕ) → AllWhole (records_of c) → Lays w c out (answer_of w c out)
unfolding flatten
lays w c out h = go (answer_of w c out) refl
  where
    go : (a : Answer) → answer_of w c out ≡ a → Lays w c out a
    go (Ok tt) e = record { cursor = rw (lines_size w.checker h); puts = λ l. rw e at (wrote w c out h e) }
    go (Err r) e = record { cursor = omega arith; puts = puts_nothing }

-- ---- calls one after the other

calls_cursor : (w : Writer) {ls : List Lent} → WholeCalls ls → (left w ls).cursor ≡ w.cursor + length (flatten (written w ls))
unfolding left written flatten
calls_cursor w no_call = omega arith
calls_cursor w (and_call {l} {ls} h hs) =
    let one = (lays w l.call l.out h).cursor in
    let more = calls_cursor (state_behind w l) hs in
    rw (flatten_append, length-append) (omega arith)

-- the cursor stands behind the file
pub cursor_is : (ls : List Lent) → WholeCalls ls → (left new_writer ls).cursor ≡ length (file_of ls)
cursor_is ls h = omega (arith, calls_cursor new_writer h)

-- ---- each call is lent the memory that the last one left

calls_put : (w : Writer) (cs : List Call) (out : List ℕ) → WholeCalls (lent_on w cs out) → w.cursor ≤ length out
    → Puts w.cursor (flatten (written w (lent_on w cs out))) out (memory w cs out)
unfolding lent_on memory written flatten
calls_put w [] out no_call l = puts_nothing l
calls_put w (c ∷ cs) out (and_call h hs) l =
    let one = lays w c out h in
    let now = one.puts l in
    let room : (state_behind w (lent c out)).cursor ≤ length (memory_behind w (lent c out)) = omega (arith, one.cursor, now.fits, (laid now).long) in
    let on = calls_put (state_behind w (lent c out)) cs (memory_behind w (lent c out)) hs room in
    rw flatten_append (puts_more now (rw one.cursor at on))

module _ (cs : List Call) (out : List ℕ) (h : WholeCalls (lent_on new_writer cs out)) where
  all_laid : let file = file_of (lent_on new_writer cs out) in Laid 0 (length file) file out (memory new_writer cs out)
  all_laid = laid (calls_put new_writer cs out h (omega arith))

  -- its first bytes are the file
  pub memory_is : take (left new_writer (lent_on new_writer cs out)).cursor (memory new_writer cs out) ≡ file_of (lent_on new_writer cs out)
  memory_is = rw (cursor_is (lent_on new_writer cs out) h) all_laid.between

  -- what was behind them is there
  pub memory-behind : let at = (left new_writer (lent_on new_writer cs out)).cursor in drop at (memory new_writer cs out) ≡ drop at out
  memory-behind = rw (calls_cursor new_writer h) all_laid.behind

  pub memory_length : length (memory new_writer cs out) ≡ length out
  memory_length = all_laid.long

-- ---- the memory that is lent

-- whether there is room is all that the answer takes from it
pub answer_any : (w : Writer) (c : Call) (out other : List ℕ) → let end = cursor_behind w (records_of c) in
    leb end (length out) ≡ leb end (length other) → answer_of w c out ≡ answer_of w c other
unfolding answer_of call_rules
answer_any w c out other e = rw e

-- the same calls with the same answers, lent other memory
pub data Alike : Writer → List Lent → List Lent → Type 0 where
  both_end : {w : Writer} → Alike w [] []
  both_call : {w : Writer} {ls ks : List Lent} (c : Call) (out other : List ℕ)
      → answer_of w c out ≡ answer_of w c other → Alike (state_behind w (lent c out)) ls ks → Alike w (lent c out ∷ ls) (lent c other ∷ ks)

written_any : {w : Writer} {ls ks : List Lent} → Alike w ls ks → written w ls ≡ written w ks
unfolding written
written_any both_end = refl
written_any (both_call {w} {ls} {ks} c out other e on) =
    ap (λ (later : List (List ℕ)). lines_by (answer_of w c out) w c ++ later) (written_any on)
    ∙ ap (λ (a : Answer). lines_by a w c ++ written (state_after a w (records_of c)) ks) e

-- write the same file
pub lent_any : {ls ks : List Lent} → Alike new_writer ls ks → file_of ls ≡ file_of ks
lent_any h = ap flatten (written_any h)
