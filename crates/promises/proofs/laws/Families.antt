-- How every call ends: of the checker in any state that calls lead to, of the checker in parts and of the writer behind any calls, with one
-- record, and with digit strings; one statement for each. Assumes nothing.
use Rattle.std.specs.Prelude.{◌≡◌, ◌≢◌, Bool, cond, Err, Ok}
use Rattle.std.proofs.Math.Path.{refl, sym, ap}
use Rattle.std.proofs.Common.{◌∙◌, subst, inl, inr, arith}
use Rattle.std.proofs.Math.Bool.{true, false}
use mathlib.Core.List.{List, [], ◌∷◌, ◌++◌}
use Prim.Native.Nat.{ℕ, suc, ◌+◌}
use Rattle.std.proofs.Math.ListN.{length, length-append}
use Rattle.answer.specs.Rules.{Rule, no_line, refusal, refused_as, first_broken}
use Rattle.answer.specs.Output.{Writes, room}
use Rattle.answer.proofs.laws.Order.{never, broken_refused}
use Rattle.answer.proofs.laws.Only.{Only, join}
use Rattle.answer.specs.declared.LineNo.{LineNo}
use Rattle.answer.specs.declared.Refusal.{Refusal}
use Rattle.answer.specs.Rules.{Answer}
use Rattle.layout.specs.Record.{record_rules}
use Rattle.layout.specs.declared.Direction.{Direction}
use Rattle.layout.specs.declared.Record.{Record}
use Rattle.fields.specs.Values.{record_of, fields_in, fields_if, read_record}
use Rattle.fields.specs.declared.Fields.{Fields}
use Rattle.checker.specs.Order.{ended}
use Rattle.checker.specs.Line.{record_in, rules_of_line}
use Rattle.checker.specs.Machine.{start, line_of, sound, stepped, answer_to, step_of}
use Rattle.files.specs.File.{lines_of, unless, steps, end_of, outcome as outcomeOf, finish, check_file}
use Rattle.files.specs.Parts.{arrived, answer_in, taken, status_behind, with_end, end_call}
use Rattle.files.specs.Calls.{PartsCall, part, fed, bytes_of, end_declared}
use Rattle.checker.specs.Calls.{Reached, at_start, after_line}
use Rattle.checker.proofs.laws.Meaning.{refused_leaves as line-leaves}
use Rattle.checker.proofs.laws.Reached.{never_guarded}
use Rattle.files.proofs.laws.Apart.{open_refused, open_ended, refused_ended}
use Rattle.files.proofs.laws.Ends.{end_never_guarded}
use Rattle.files.proofs.laws.Verdict.{Stopped, at_line, at_end, refused_file, through_line_no}
use Rattle.files.proofs.laws.Arrivals.{part_joined, never_ended, shut, machine_left, end_machine, end_is, end_status, fed_is, fed_reached}
use Rattle.files.proofs.laws.Told.{Stops, whole_line, behind_end, refused_exactly, part_line}
use Rattle.checker.specs.declared.totals.Totals.{Totals}
use Rattle.checker.specs.declared.Checker.{Checker}
use Rattle.checker.specs.declared.Stepped.{Stepped}
use Rattle.files.specs.File.{Outcome}
use Rattle.files.specs.declared.incoming.Status.{Status}
use Rattle.files.specs.declared.incoming.Status.TheVariants.{Open}
use Rattle.files.specs.declared.incoming.Status.TheVariants as closed
use Rattle.files.specs.declared.incoming.Incoming.{Incoming}
use Rattle.files.specs.declared.incoming.Taken.{Taken}
use Rattle.writer.specs.Given.{Call, records_of}
use Rattle.writer.specs.Refusals.{held}
use Rattle.writer.specs.Outcome.{new_writer, answer_of, Wrote}
use Rattle.writer.specs.Calls.{AllWhole, Lent, WholeCalls, left}
use Rattle.writer.proofs.laws.Answers.{refused_leaves}
use Rattle.writer.proofs.laws.RefusedLine.{LineNamed, on_no_line, on_a_line, refused_line}
use Rattle.writer.proofs.laws.Sequences as writer
use Rattle.writer.specs.declared.Writer.{Writer}
use Rattle.writer.specs.declared.Written.{Written}
use Rattle.promises.specs.Calls.{table, InTable, Ends, Concludes, accepted, refused, OnNoLine, nothing, OneOfNext, CheckerCalls, FileCalls, OnlyReached, NextOrNone, AnyCalls, LineIn, IncomingCalls, WriterCalls, RecordCalls, StringCalls}
use Rattle.promises.specs.Strings.{Family, boletos, collections}
use Rattle.promises.proofs.laws.Tabled.{Alone, tested, record-rules, line-rules, barcode-rules, digit-line-rules, code-rules, code-line-rules, call-rules}

-- ---- by rules of the table that are on no line

-- a call that such rules answer, and that leaves what it might change where they refuse
by_rules : {A : Type 0} {before after : A} {rules : List Rule} → Only Alone rules → (a : Answer) → a ≡ first_broken rules
    → ((r : Refusal) → a ≡ Err r → after ≡ before) → Ends before after OnNoLine a
by_rules tabled (Ok tt) e kept = accepted
by_rules tabled (Err r) e kept = let t = tabled.broken r (sym e) in refused t.1 t.0 (kept r refl)

-- a call that only checks, and one that writes
checks : {rules : List Rule} → Only Alone rules → Ends nothing nothing OnNoLine (first_broken rules)
checks {rules} tabled = by_rules tabled (first_broken rules) refl (λ r e. refl)

writes : {rules : List Rule} {n : ℕ} {new out after : List ℕ} {a : Answer}
    → Only Alone rules → Writes rules n new out a after → Ends out after OnNoLine a
unfolding table
writes {n} {out} {a} tabled w = by_rules (join tabled (tested (room n out ∷ []) tt)) a w.answered (λ r e. w.memory ∙ rw e)

-- the same end, of what the call might change and leaves
with_state : {A : Type 0} {before after : A} {B : Type 0} {x y : B} {L : ℕ → Type 0} (a : Answer) → Ends x y L a → ((r : Refusal) → a ≡ Err r → after ≡ before)
    → Ends before after L a
with_state (Ok tt) e kept = accepted
with_state (Err r) (refused t on k) kept = refused t on (kept r refl)

-- ---- one record, and digit strings

-- a read ends as its check does
reads : (a : Answer) (v : Fields) → Ends nothing nothing OnNoLine a → Concludes OnNoLine (fields_if a v)
reads (Ok tt) v e = accepted
reads (Err r) v (refused t on k) = refused t on

-- calls with one record of any kind, in either direction
pub record_calls : (r : Record) (d : Direction) → RecordCalls r d
unfolding read_record
record_calls r d = record {
  check = λ rec. checks (record-rules r d rec);
  read = λ rec. reads (first_broken (record_rules r d rec)) (fields_in r rec) (checks (record-rules r d rec));
  write = λ v w. writes (record-rules r d (record_of r v)) w;
}

-- calls with digit strings of a family whose rules are of the table
string_calls : (f : Family) → ((code : List ℕ) → Only Alone (f.code_rules code)) → ((line : List ℕ) → Only Alone (f.line_rules line)) → StringCalls f
string_calls f codes lines = record {
  check_code = λ code. checks (codes code);
  check_line = λ line. checks (lines line);
  to_line = λ code w. writes (codes code) w;
  to_code = λ line w. writes (lines line) w;
}

pub boleto_calls : StringCalls boletos
boleto_calls = string_calls boletos barcode-rules digit-line-rules

pub collection-calls : StringCalls collections
collection-calls = string_calls collections code-rules code-line-rules

-- ---- the checker

-- in a state that calls lead to
module _ {s : Checker} (c : Reached s) where
  -- a line's rules answer, on the line that is next
  line_ends : (l : List ℕ) → Ends s (step_of s l).state (λ n. n ≡ (line_of s).0) (step_of s l).answer
  line_ends l = rw (never_guarded c l) (go (first_broken (rules_of_line s l)) refl)
    where
      go : (a : Answer) → first_broken (rules_of_line s l) ≡ a → Ends s (answer_to a s (record_in l)).state (λ n. n ≡ (line_of s).0) (answer_to a s (record_in l)).answer
      go (Ok tt) e = accepted
      go (Err r) e = refused ((line-rules s l).broken r e).1 refl refl

  -- a refusal where lines stop: at one of them, or behind the last
  stopped : (ls : List (List ℕ)) (r : Refusal) → Stopped s ls r → InTable r × OneOfNext (suc (length ls)) s r.line.0
  unfolding table
  stopped ls r (at_line {t} earlier later l e on b) =
      let n = through_line_no c on in
      let k : length ls ≡ length earlier + suc (length later) = ap length e ∙ length-append earlier (l ∷ later) in
      (((line-rules t l).broken _ (broken_refused (rules_of_line t l) _ b.broken)).1, rw b.numbered (omega arith))
  stopped ls r (at_end on lacks e) = rw e (tt, omega (arith, through_line_no c on))

  -- the end
  end_ends : Concludes (λ n. n ≡ (line_of s).0) (end_of s)
  unfolding table
  end_ends = rw (end_never_guarded c) (go (ended s.phase))
    where
      go : (b : Bool) → Concludes (λ n. n ≡ (line_of s).0) (cond b (Ok s.closed) (Err (refusal 2 (line_of s) 0)))
      go true = accepted
      go false = refused tt refl

-- a whole file
pub file_calls : FileCalls
file_calls file = go (check_file file) refl
  where
    go : (o : Outcome) → check_file file ≡ o → Concludes (OneOfNext (suc (length (lines_of file))) start) o
    go (Ok t) e = accepted
    go (Err r) e = let k = stopped at_start (lines_of file) r ((refused_file file r).0 e) in refused k.0 k.1

-- no public function gives another state
pub states_reached : OnlyReached
states_reached = record {
  at_start = at_start;
  by_line = λ c l. after_line l c;
  in_parts = fed_reached;
  in_writer = writer.checker_reached;
}

-- calls on the checker, in every state that calls lead to; they lead to such states again (`states-reached`)
pub checker_calls : {s : Checker} → Reached s → CheckerCalls s
checker_calls c = record { line = line_ends c; end = end_ends c }

-- ---- in any state, though no calls lead to another

any_line : (s : Checker) (l : List ℕ) → Ends s (step_of s l).state (NextOrNone s) (step_of s l).answer
unfolding table step_of
any_line s l = go (sound s) (first_broken (rules_of_line s l)) refl
  where
    guard : Stepped
    guard = stepped s (refused_as 51 0)

    go : (b : Bool) (a : Answer) → first_broken (rules_of_line s l) ≡ a
        → Ends s (cond b (answer_to a s (record_in l)) guard).state (NextOrNone s) (cond b (answer_to a s (record_in l)) guard).answer
    go true (Ok tt) e = accepted
    go true (Err r) e = refused ((line-rules s l).broken r e).1 (inl refl) refl
    go false a e = refused tt (inr refl) refl

any_end : (s : Checker) → Concludes (NextOrNone s) (end_of s)
unfolding table end_of
any_end s = go (sound s) (ended s.phase)
  where
    go : (b e : Bool) → Concludes (NextOrNone s) (cond b (cond e (Ok s.closed) (Err (refusal 2 (line_of s) 0))) (Err (refusal 51 no_line 0)))
    go true true = accepted
    go true false = refused tt (inl refl)
    go false e = refused tt (inr refl)

-- every call on the checker ends so in any state: one that no calls lead to is refused by 51 on no line
pub any_state : (s : Checker) → AnyCalls s
any_state s = record { line = any_line s; end = any_end s }

-- ---- the checker in parts

-- the answer to a part by the status of the state behind it
by_status : (x : Status) (m : Checker) → ((r : Refusal) → x ≡ closed.Refused r → InTable r × (r.line.0 ≡ (line_of m).0)) → Ends nothing nothing (LineIn x m) (answer_in x)
unfolding table
by_status Open m named = accepted
by_status (closed.Refused r) m named = let k = named r refl in refused k.0 k.1 refl
by_status closed.Ended m named = refused tt refl refl

-- a refusal of the bytes so far
refused_so_far : (bytes : List ℕ) (r : Refusal) → (arrived bytes).status ≡ closed.Refused r → InTable r × (r.line.0 ≡ (line_of (arrived bytes).machine).0)
unfolding table
refused_so_far bytes r e = (go ((refused_exactly bytes r).0 e), ap (λ (n : LineNo). n.0) (part_line bytes r e))
  where
    go : Stops start bytes r → InTable r
    go (whole_line {t} earlier line later q on long going b) = ((line-rules t line).broken _ (broken_refused (rules_of_line t line) _ b.broken)).1
    go (behind_end earlier b later q on at same) = rw same tt

-- many lines, and then the end, name the line behind those accepted
any_lines : (s : Checker) (ls : List (List ℕ)) → Ends nothing nothing (NextOrNone (steps s ls).state) (steps s ls).answer
unfolding steps
any_lines s [] = accepted
any_lines s (l ∷ ls) = go (step_of s l).answer refl (any_lines (step_of s l).state ls)
  where
    on : Stepped
    on = steps (step_of s l).state ls

    go : (a : Answer) → (step_of s l).answer ≡ a → Ends nothing nothing (NextOrNone on.state) on.answer
        → Ends nothing nothing (NextOrNone (unless a on (step_of s l)).state) (unless a on (step_of s l)).answer
    go (Ok tt) e k = k
    go (Err r) e k = rw (line-leaves s l r e) (with_state (step_of s l).answer (any_line s l) (λ x q. refl))

any_rest : (s : Checker) (rest : List ℕ) → Concludes (NextOrNone (steps s (lines_of rest)).state) (finish s rest)
unfolding finish
any_rest s rest = go (steps s (lines_of rest)) (any_lines s (lines_of rest))
  where
    go : (x : Stepped) → Ends nothing nothing (NextOrNone x.state) x.answer → Concludes (NextOrNone x.state) (outcomeOf x.answer (end_of x.state))
    go x e = by x.answer e
      where
        by : (a : Answer) → Ends nothing nothing (NextOrNone x.state) a → Concludes (NextOrNone x.state) (outcomeOf a (end_of x.state))
        by (Ok tt) k = any_end x.state
        by (Err r) (refused t on k) = refused t on

-- a refusal of the whole file, which the end tells
refused_at_end : (bytes : List ℕ) (r : Refusal) → check_file bytes ≡ Err r → InTable r × (r.line.0 ≡ (line_of (arrived bytes).machine).0)
refused_at_end bytes r e = rw (machine_left bytes) (go (check_file bytes) e (any_rest start bytes) (file_calls bytes))
  where
    m : Checker
    m = (steps start (lines_of bytes)).state

    many : ℕ
    many = suc (length (lines_of bytes))

    next : NextOrNone m r.line.0 → OneOfNext many start r.line.0 → r.line.0 ≡ (line_of m).0
    next (inl q) k = q
    next (inr q) k = absurd (omega (arith, k.0))

    by : Concludes {A = Totals} (NextOrNone m) (Err r) → Concludes {A = Totals} (OneOfNext many start) (Err r) → InTable r × (r.line.0 ≡ (line_of m).0)
    by (refused t on) (refused u among) = (t, next on among)

    go : (o : Outcome) → o ≡ Err r → Concludes (NextOrNone m) o → Concludes (OneOfNext many start) o → InTable r × (r.line.0 ≡ (line_of m).0)
    go o q k l = by (rw q at k) (rw q at l)

-- how a part's call ends
abbrev TakenEnds : Taken → Type 0
TakenEnds x = Ends nothing nothing (LineIn x.state.status x.state.machine) x.answer

-- the state behind some bytes
module _ (bytes : List ℕ) where
  not_ended_line : (x : Status) → (x ≡ closed.Ended → ⊥) → {n : ℕ} → n ≡ (line_of (arrived bytes).machine).0 → LineIn x (arrived bytes).machine n
  not_ended_line Open ne e = e
  not_ended_line (closed.Refused r) ne e = e
  not_ended_line closed.Ended ne e = absurd (ne refl)

  whole_ends : (o : Outcome) → check_file bytes ≡ o → Concludes (LineIn (arrived bytes).status (arrived bytes).machine) o
  whole_ends (Ok t) e = accepted
  whole_ends (Err r) e =
      let k = refused_at_end bytes r e in
      refused k.0 (not_ended_line (arrived bytes).status (never_ended start (lines_of bytes)) k.1)

  so_far : IncomingCalls (arrived bytes)
  so_far = record {
    part = λ more. subst TakenEnds (sym (part_joined bytes more)) (by_status (arrived (bytes ++ more)).status (arrived (bytes ++ more)).machine (refused_so_far (bytes ++ more)));
    end = rw (end_is bytes) (whole_ends (check_file bytes) refl);
    shut = shut (arrived bytes);
  }

-- the state behind the end, which is not open
module _ (bytes : List ℕ) where
  abbrev over : Incoming
  over = (end_call (arrived bytes)).state

  by_outcome : (o : Outcome) (r : Refusal) → status_behind o ≡ closed.Refused r → o ≡ Err r
  by_outcome (Ok t) r e = refused_ended (sym e)
  by_outcome (Err x) r e = cc

  named : (r : Refusal) → over.status ≡ closed.Refused r → InTable r × (r.line.0 ≡ (line_of over.machine).0)
  named r e = rw (end_machine (arrived bytes)) (refused_at_end bytes r (by_outcome (check_file bytes) r (sym (end_status bytes) ∙ e)))

  not_open : over.status ≢ Open
  not_open e = go (check_file bytes) (sym (end_status bytes) ∙ e)
    where
      go : (o : Outcome) → status_behind o ≡ Open → ⊥
      go (Ok t) q = open_ended (sym q)
      go (Err r) q = open_refused (sym q)

  ends_again : (x : Status) → over.status ≡ x → Concludes (LineIn x over.machine) (with_end x over).outcome
  unfolding table
  ends_again Open e = absurd (not_open e)
  ends_again (closed.Refused r) e = let k = named r e in refused k.0 k.1
  ends_again closed.Ended e = refused tt refl

  behind_it : IncomingCalls over
  behind_it = record {
    part = λ more. subst TakenEnds (sym (ap taken (shut over not_open (part more)))) (by_status over.status over.machine named);
    end = ends_again over.status refl;
    shut = shut over;
  }

-- calls on the checker in parts, behind every sequence of calls
pub incoming_calls : (cs : List PartsCall) → IncomingCalls (fed (arrived []) cs)
incoming_calls cs = rw (fed_is cs) (go (end_declared cs))
  where
    go : (b : Bool) → IncomingCalls (cond b (end_call (arrived (bytes_of cs))).state (arrived (bytes_of cs)))
    go true = behind_it (bytes_of cs)
    go false = so_far (bytes_of cs)

-- ---- the writer

-- in a state that none of its rules guards against
module _ {w : Writer} (ok : held w.checker ≡ true) where
  -- the line of a refusal
  placed : {c : Call} {r : Refusal} → LineNamed w c r → OneOfNext (length (records_of c)) w.checker r.line.0
  placed (on_no_line q e) = never (sym q ∙ ok)
  placed (on_a_line q low high) = (low, high)

  -- a call's rules answer
  call_ends : {c : Call} {out after : List ℕ} {x : Written} → AllWhole (records_of c) → Wrote w c out after x
      → Ends {A = Writer × List ℕ} (w, out) (x.state, after) (OneOfNext (length (records_of c)) w.checker) x.answer
  unfolding answer_of
  call_ends {c} {out} {after} {x} whole k = go x.answer refl
    where
      go : (a : Answer) → x.answer ≡ a → Ends {A = Writer × List ℕ} (w, out) (x.state, after) (OneOfNext (length (records_of c)) w.checker) a
      go (Ok tt) e = accepted
      go (Err r) e =
          let q = sym k.answered ∙ e in
          let same = refused_leaves k r e in
          refused ((call-rules w c out whole).broken r q) (placed (refused_line w c out r q)) (λ i. (same.0 i, same.1 i))

-- calls on the writer, behind every sequence of calls, each lent some memory
pub writer_calls : (ls : List Lent) → WholeCalls ls → WriterCalls (left new_writer ls)
writer_calls ls h = record { call = call_ends (writer.never_guarded ls h) }
