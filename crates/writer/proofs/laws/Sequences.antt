-- Calls one after the other: the reader takes every line that they write, and counts what was put in. Assumes nothing.
use Rattle.std.specs.Prelude.{◌≡◌, refl, true, List, ℕ, ◌<◌, ◌≤◌, ◌+◌, ◌*◌, Err, Ok}
use Rattle.std.proofs.Common.{sym, ap, ◌∙◌, arith, lt-ltb, le-leb, lit<}
use Rattle.answer.specs.Limits.{file_cents}
use Rattle.answer.specs.Rules.{Answer}
use Rattle.checker.specs.Totals.{none, add, payment_count, record_count}
use Rattle.checker.specs.Machine.{start, most_details}
use Rattle.files.specs.File.{check_file}
use Rattle.checker.specs.Calls.{Reached, at_start, Through, here}
use Rattle.checker.proofs.laws.Sums.{same_totals, add_none, none_add, add_assoc, counted}
use Rattle.checker.proofs.laws.Bounds.{bounded_sound}
use Rattle.checker.proofs.laws.Kept as checker
use Rattle.checker.proofs.laws.Reached.{reached_kept}
use Rattle.files.proofs.laws.Runs.{lines_are}
use Rattle.files.proofs.laws.Verdict.{through_reached, through_append, through_lines, accepted_file}
use Rattle.layout.specs.declared.shapes.Phase.TheVariants.{Ended}
use Rattle.checker.specs.declared.Checker.{Checker}
use Rattle.writer.specs.Given.{Call, records_of}
use Rattle.writer.specs.Refusals.{held, cents_so_far}
use Rattle.writer.specs.Outcome.{new_writer, lines_for, state_after, answer_of}
use Rattle.writer.specs.Calls.{AllWhole, Lent, WholeCalls, no_call, and_call, state_behind, left, lines_if, written, file_of, put_by, totals_if, put_in}
use Rattle.writer.specs.declared.Writer.{Writer}
use Rattle.writer.proofs.laws.TakesCall.{call_through}
use Rattle.writer.proofs.laws.Counted.{call_counted, call_cents}

-- ---- one call, whatever its answer

-- the checker takes what is written, and counts what is put in, and the sum of the file stays below its limit
record Does (w : Writer) (c : Call) (a : Answer) : Type 0 where
  through : Through w.checker (lines_if a (lines_for w.checker (records_of c))) (state_after a w (records_of c)).checker
  counts : counted (state_after a w (records_of c)).checker ≡ add (counted w.checker) (totals_if a (put_by c))
  cents : cents_so_far w.checker < file_cents → cents_so_far (state_after a w (records_of c)).checker < file_cents

does : (w : Writer) (c : Call) (out : List ℕ) → AllWhole (records_of c) → Does w c (answer_of w c out)
does w c out h = go (answer_of w c out) refl
  where
    go : (a : Answer) → answer_of w c out ≡ a → Does w c a
    go (Ok tt) e = record { through = call_through w c out h e; counts = call_counted w c out h e; cents = call_cents w c out h e }
    go (Err r) e = record { through = here; counts = sym (add_none (counted w.checker)); cents = λ l. l }

-- ---- calls one after the other

calls_through : (w : Writer) {ls : List Lent} → WholeCalls ls → Through w.checker (written w ls) (left w ls).checker
unfolding written left
calls_through w no_call = here
calls_through w (and_call {l} h hs) = through_append (does w l.call l.out h).through (calls_through (state_behind w l) hs)

calls_count : (w : Writer) {ls : List Lent} → WholeCalls ls → counted (left w ls).checker ≡ add (counted w.checker) (put_in w ls)
unfolding left put_in
calls_count w no_call = sym (add_none (counted w.checker))
calls_count w (and_call {l} h hs) = calls_count (state_behind w l) hs ∙ rw (does w l.call l.out h).counts (add_assoc (counted w.checker) _ _)

calls_cents : (w : Writer) {ls : List Lent} → WholeCalls ls → cents_so_far w.checker < file_cents → cents_so_far (left w ls).checker < file_cents
unfolding left
calls_cents w no_call l = l
calls_cents w (and_call {l = c} h hs) l = calls_cents (state_behind w c) hs ((does w c.call c.out h).cents l)

-- ---- a state that a reader's lines lead to

pub held_kept : {s : Checker} → checker.Kept s → cents_so_far s < file_cents → held s ≡ true
unfolding held
held_kept {s} k few =
    let b = checker.kept_bounded k in
    let details : record_count s.current ≤ 1 + most_details * payment_count s.current = omega arith in
    rw (bounded_sound b, le-leb _ _ details, lt-ltb _ _ few)

-- behind the file's trailer no batch is open
ended_none : {s : Checker} → checker.Kept s → s.phase ≡ Ended → s.current ≡ none
ended_none {s} k e = let closed : (checker.stage s.phase).opened ≡ 0 = rw e in same_totals (omega arith)

-- ---- a file

module _ (ls : List Lent) (h : WholeCalls ls) where
  pub file_through : Through start (written new_writer ls) (left new_writer ls).checker
  file_through = calls_through new_writer h

  pub checker_reached : Reached (left new_writer ls).checker
  checker_reached = through_reached at_start file_through

  -- no calls leave a state that is guarded against
  pub never_guarded : held (left new_writer ls).checker ≡ true
  never_guarded = held_kept (reached_kept checker_reached) (calls_cents new_writer h (lit< tt))

  -- what is counted is what was put in
  pub put-in : counted (left new_writer ls).checker ≡ put_in new_writer ls
  put-in = calls_count new_writer h ∙ simp none_add

  -- the writer's close: its totals are what was put in
  pub closed_totals : (left new_writer ls).checker.phase ≡ Ended → (left new_writer ls).checker.closed ≡ put_in new_writer ls
  closed_totals e =
      let m = (left new_writer ls).checker in
      sym (add_none m.closed) ∙ ap (add m.closed) (sym (ended_none (reached_kept checker_reached) e)) ∙ put-in

  -- a file that is closed is accepted, with the totals of what was put in
  pub file_accepted : (left new_writer ls).checker.phase ≡ Ended → check_file (file_of ls) ≡ Ok (put_in new_writer ls)
  file_accepted e =
      let m = (left new_writer ls).checker in
      let lines = (lines_are (file_of ls) (written new_writer ls)).1 (through_lines file_through, refl) in
      (accepted_file (file_of ls) (put_in new_writer ls)).1 (record { to = m; through = rw lines file_through; at_end = rw e; counted = sym (closed_totals e) })
