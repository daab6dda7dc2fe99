-- What the answer to a whole file says, both ways: accepted, or refused and where. Assumes nothing.
use Rattle.std.specs.Prelude.{◌≡◌, refl, ◌↔◌, Bool, true, false, cond, List, [], ◌∷◌, ◌++◌, ℕ, suc, ◌+◌, ◌≤◌, length, T, Err, Ok}
use Rattle.std.proofs.Common.{sym, ap, ◌∙◌, subst, arith}
use Rattle.answer.specs.Rules.{AllKept, refusal}
use Rattle.answer.specs.declared.Refusal.{Refusal}
use Rattle.answer.specs.Rules.{Answer}
use Rattle.layout.specs.declared.Record.{Record}
use Rattle.checker.specs.Order.{ended}
use Rattle.checker.specs.Totals.{add}
use Rattle.checker.specs.Line.{record_in, rules_of_line}
use Rattle.checker.specs.Machine.{start, line_of, next, stepped, step_of}
use Rattle.files.specs.File.{Lines, empty, full, lines_of, unless, steps, end_of, outcome, whole, finish, check_file}
use Rattle.checker.specs.Calls.{Reached, at_start, after_line, Through, here, further}
use Rattle.checker.specs.declared.totals.Totals.{Totals}
use Rattle.checker.specs.declared.Checker.{Checker}
use Rattle.checker.specs.declared.Stepped.{Stepped}
use Rattle.files.specs.File.{Outcome}
use Rattle.checker.proofs.laws.Sums.{next_counts}
use Rattle.checker.proofs.laws.Listed.{numbered, line_listed, broken_listed}
use Rattle.checker.proofs.laws.Meaning.{Breaks, line_accepted, line_refused, kept_line, line_moves}
use Rattle.checker.proofs.laws.Reached.{reached}
use Rattle.files.proofs.laws.Apart.{accepted_refused}
use Rattle.files.proofs.laws.Ends.{end_never_guarded}
use Rattle.files.proofs.laws.Runs.{steps_append}

-- accepted: every line is, and the last is the file trailer
pub record Passed (s : Checker) (ls : List (List ℕ)) (t : Totals) : Type 0 where
  pub to : Checker
  pub through : Through s ls to
  pub at_end : ended to.phase ≡ true
  pub counted : t ≡ to.closed

-- refused: a line breaks that rule, and every line before it is accepted; or every line is, and the file trailer is missing
pub data Stopped (s : Checker) (ls : List (List ℕ)) (r : Refusal) : Type 0 where
  at_line : {t : Checker} (earlier later : List (List ℕ)) (l : List ℕ) → ls ≡ earlier ++ l ∷ later → Through s earlier t → Breaks t l r → Stopped s ls r
  at_end : {t : Checker} → Through s ls t → ended t.phase ≡ false → r ≡ refusal 2 (line_of t) 0 → Stopped s ls r

-- ---- lines that are accepted

pub through_reached : {s t : Checker} {ls : List (List ℕ)} → Reached s → Through s ls t → Reached t
through_reached c here = c
through_reached c (further {l = l} k on) = through_reached (after_line l c) on

pub through_steps : {s t : Checker} {ls : List (List ℕ)} → Reached s → Through s ls t → steps s ls ≡ stepped t (Ok tt)
unfolding steps
through_steps c here = refl
through_steps c (further {s} {l = l} k on) = rw ((line_accepted s l (reached c)).1 k) (through_steps (after_line l c) on)

pub through_append : {s t u : Checker} {xs ys : List (List ℕ)} → Through s xs t → Through t ys u → Through s (xs ++ ys) u
through_append here q = q
through_append (further k p) q = further k (through_append p q)

-- each is whole
pub through_lines : {s t : Checker} {ls : List (List ℕ)} → Through s ls t → Lines ls
through_lines here = empty
through_lines (further {s} {l = l} k on) = full l (kept_line s l k).1.long (through_lines on)

-- ---- what is said of a file determines its outcome

passed_accepted : {s : Checker} (ls : List (List ℕ)) (t : Totals) → Reached s → Passed s ls t → whole s ls ≡ Ok t
passed_accepted ls t c p = rw (through_steps c p.through, end_never_guarded (through_reached c p.through), p.at_end, p.counted)

stopped_refused : {s : Checker} (ls : List (List ℕ)) (r : Refusal) → Reached s → Stopped s ls r → whole s ls ≡ Err r
unfolding steps
stopped_refused {s} ls r c (at_line {t} earlier later l e on b) =
    rw (e, steps_append s earlier (l ∷ later), through_steps c on, (line_refused t l (reached (through_reached c on)) r).1 b)
stopped_refused ls r c (at_end on lacks e) = rw (through_steps c on, end_never_guarded (through_reached c on), lacks, e)

-- ---- and one of the two is said

data Described (s : Checker) (ls : List (List ℕ)) : Outcome → Type 0 where
  passed : {t : Totals} → Passed s ls t → Described s ls (Ok t)
  stopped : {r : Refusal} → Stopped s ls r → Described s ls (Err r)

at_the_end : {s : Checker} → Reached s → Described s [] (end_of s)
at_the_end {s} c = rw (end_never_guarded c) (go (ended s.phase) refl)
  where
    go : (b : Bool) → ended s.phase ≡ b → Described s [] (cond b (Ok s.closed) (Err (refusal 2 (line_of s) 0)))
    go true e = passed (record { to = s; through = here; at_end = e; counted = refl })
    go false e = stopped (at_end here e refl)

one_more : {s : Checker} {l : List ℕ} {ls : List (List ℕ)} {o : Outcome} → AllKept (rules_of_line s l) → Described (step_of s l).state ls o → Described s (l ∷ ls) o
one_more k (passed p) = passed (record { to = p.to; through = further k p.through; at_end = p.at_end; counted = p.counted })
one_more {l} k (stopped (at_line earlier later x e on b)) = stopped (at_line (l ∷ earlier) later x (ap (λ (ls : List (List ℕ)). l ∷ ls) e) (further k on) b)
one_more k (stopped (at_end on lacks e)) = stopped (at_end (further k on) lacks e)

described : {s : Checker} (ls : List (List ℕ)) → Reached s → Described s ls (whole s ls)
unfolding steps
described {s = s} [] c = at_the_end c
described {s = s} (l ∷ ls) c = go (step_of s l).answer refl (described {s = (step_of s l).state} ls (after_line l c))
  where
    on : Stepped
    on = steps (step_of s l).state ls

    go : (a : Answer) → (step_of s l).answer ≡ a → Described (step_of s l).state ls (outcome on.answer (end_of on.state))
        → Described s (l ∷ ls) (outcome (unless a on (step_of s l)).answer (end_of (unless a on (step_of s l)).state))
    go (Ok tt) e d = one_more ((line_accepted s l (reached c)).0 e) d
    go (Err r) e d = rw e (stopped (at_line [] ls l refl here ((line_refused s l (reached c) r).0 e)))

was_passed : {s : Checker} {ls : List (List ℕ)} {o : Outcome} → Described s ls o → (t : Totals) → o ≡ Ok t → Passed s ls t
was_passed {s} {ls} (passed p) t e = subst (Passed s ls) (cc) p
was_passed (stopped x) t e = accepted_refused (sym e)

was_stopped : {s : Checker} {ls : List (List ℕ)} {o : Outcome} → Described s ls o → (r : Refusal) → o ≡ Err r → Stopped s ls r
was_stopped (passed p) r e = accepted_refused e
was_stopped {s} {ls} (stopped x) r e = subst (Stopped s ls) (cc) x

-- ---- the end of the input, and a whole file

module _ {s : Checker} (c : Reached s) (rest : List ℕ) where
  pub accepted_rest : (t : Totals) → finish s rest ≡ Ok t ↔ Passed s (lines_of rest) t
  unfolding finish
  accepted_rest t = (was_passed (described (lines_of rest) c) t, passed_accepted (lines_of rest) t c)

  pub refused_rest : (r : Refusal) → finish s rest ≡ Err r ↔ Stopped s (lines_of rest) r
  unfolding finish
  refused_rest r = (was_stopped (described (lines_of rest) c) r, stopped_refused (lines_of rest) r c)

pub accepted_file : (file : List ℕ) (t : Totals) → check_file file ≡ Ok t ↔ Passed start (lines_of file) t
accepted_file file = accepted_rest at_start file

pub refused_file : (file : List ℕ) (r : Refusal) → check_file file ≡ Err r ↔ Stopped start (lines_of file) r
refused_file file = refused_rest at_start file

-- ---- the line that a refusal names: one more than the lines accepted before it

pub next_line_no : (r : Record) (s : Checker) (rec : List ℕ) → (line_of (next r s rec)).0 ≡ suc (line_of s).0
unfolding add
next_line_no r s rec =
    let records : Totals → ℕ = λ t. t.records.0 in
    omega (arith, ap records (next_counts r s rec))

pub through_line_no : {s t : Checker} {ls : List (List ℕ)} → Reached s → Through s ls t → (line_of t).0 ≡ (line_of s).0 + length ls
through_line_no c here = omega arith
through_line_no c (further {s} {l = l} k on) =
    let (r, a) = kept_line s l k in
    let more : (line_of (step_of s l).state).0 ≡ suc (line_of s).0 = rw (line_moves s l (reached c) a) (next_line_no r s (record_in l)) in
    through_line_no (after_line l c) on ∙ omega arith

pub line_named : {t : Checker} {ls : List (List ℕ)} → Through start ls t → (line_of t).0 ≡ suc (length ls)
line_named on = omega (arith, through_line_no at_start on)

-- ---- the number that a file is refused with

pub file_number : (file : List ℕ) (r : Refusal) → check_file file ≡ Err r → (1 ≤ r.number) × T (numbered r.number)
file_number file r e = go ((refused_file file r).0 e)
  where
    go : Stopped start (lines_of file) r → (1 ≤ r.number) × T (numbered r.number)
    go (at_line {t} earlier later l p on b) = let h = broken_listed (line_listed t l) b.broken in (h.low, h.is_among)
    go (at_end on lacks q) = rw q (omega arith, tt)
