-- Files in parts: the state behind any calls is a function of the bytes so far, and so is each answer; the end gives the whole-file check's
-- outcome, and the machine inside is the one that the whole-file check leaves. Assumes nothing.
use Rattle.std.specs.Prelude.{◌≡◌, refl, ◌≢◌, Bool, true, false, not, cond, ℕ, ◌<◌, length, Err, Ok}
use Rattle.std.proofs.Common.{sym, ap, ◌∙◌, arith, ne_eqb}
use mathlib.Core.List.{List, [], ◌∷◌, ◌++◌, flatten, map, append-nil, append_assoc}
use Rattle.answer.specs.Rules.{no_line, refusal, refused_as, first_broken}
use Rattle.answer.proofs.laws.Order.{never}
use Rattle.answer.specs.declared.Refusal.{Refusal}
use Rattle.answer.specs.Rules.{Answer}
use Rattle.checker.specs.Order.{ended}
use Rattle.checker.specs.Line.{line_bytes, record_in, rules_of_line}
use Rattle.checker.specs.Machine.{start, sound, stepped, answer_to, step_of}
use Rattle.checker.specs.Calls.{Reached, at_start}
use Rattle.checker.specs.declared.Checker.{Checker}
use Rattle.checker.specs.declared.Stepped.{Stepped}
use Rattle.files.specs.File.{Lines, empty, short, full, lines_of, unless, steps, out_of_turn, end_of, outcome, whole, finish, check_file}
use Rattle.files.specs.Parts.{bytes_in, state, waits, unless_refused, arrive, arrived, answer_in, taken, part_call, status_behind, with_end, end_call}
use Rattle.files.specs.Calls.{PartsCall, part, end, behind_call, fed, bytes_of, end_declared, answers_to}
use Rattle.files.specs.File.{Outcome}
use Rattle.files.specs.declared.incoming.Status.{Status}
use Rattle.files.specs.declared.incoming.Status.TheVariants.{Open, Refused, Ended}
use Rattle.files.specs.declared.incoming.Incoming.{Incoming}
use Rattle.files.proofs.laws.Apart.{open_ended, refused_ended}
use Rattle.files.proofs.laws.Runs.{no_lines, one_line, lines_shaped, first_of}
use Rattle.files.proofs.laws.Ends.{steps_reached}
use Rattle.files.proofs.laws.Joins.{bytes_waiting, whole_judged, waits_short, arrive_joined}

-- ---- a part

-- a part's call, in the state behind some bytes: the state behind these and the part's, and its answer
pub part_joined : (a b : List ℕ) → part_call (arrived a) b ≡ taken (arrived (a ++ b))
part_joined a b = ap taken (sym (arrive_joined start a b))

-- the state behind a part is never an ended one
pub never_ended : (m : Checker) (ls : List (List ℕ)) → (arrive m ls).status ≡ Ended → ⊥
unfolding arrive
never_ended m [] e = open_ended e
never_ended m (l ∷ ls) e = go (waits m l) (step_of m l).answer (never_ended (step_of m l).state ls) e
  where
    go : (b : Bool) (a : Answer) → ((arrive (step_of m l).state ls).status ≡ Ended → ⊥)
        → (cond b (state m l Open) (unless_refused a (step_of m l).state (arrive (step_of m l).state ls))).status ≡ Ended → ⊥
    go true a on q = open_ended q
    go false (Ok tt) on q = on q
    go false (Err r) on q = refused_ended q

-- ---- the machine

-- a line that waits would be refused at the end, and would leave the state
short_leaves : (m : Checker) (l : List ℕ) → length l < line_bytes → (on : Stepped) → (unless (step_of m l).answer on (step_of m l)).state ≡ m
unfolding step_of rules_of_line first_broken
short_leaves m l h on = rw (ne_eqb (length l) line_bytes (λ e. omega arith)) (go (sound m) (ended m.phase))
  where
    go : (ok e : Bool)
        → let x = cond ok (answer_to (cond (not e) (Err (refusal 1 no_line 0)) (Err (refusal 3 no_line 0))) m (record_in l)) (stepped m (refused_as 51 0)) in
        (unless x.answer on x).state ≡ m
    go true true = refl
    go true false = refl
    go false e = refl

-- it is what the whole-file check leaves behind the lines that it accepts
pub machine_is : (m : Checker) (ls : List (List ℕ)) → (arrive m ls).machine ≡ (steps m ls).state
unfolding arrive steps
machine_is m [] = refl
machine_is m (l ∷ ls) = go (waits m l) refl (machine_is (step_of m l).state ls)
  where
    t : Checker
    t = (step_of m l).state

    by : (a : Answer) → (step_of m l).answer ≡ a → (arrive t ls).machine ≡ (steps t ls).state
        → (unless_refused a t (arrive t ls)).machine ≡ (unless a (steps t ls) (step_of m l)).state
    by (Ok tt) q h = h
    by (Err r) q h = refl

    go : (b : Bool) → waits m l ≡ b → (arrive t ls).machine ≡ (steps t ls).state
        → (cond b (state m l Open) (unless_refused (step_of m l).answer t (arrive t ls))).machine ≡ (unless (step_of m l).answer (steps t ls) (step_of m l)).state
    go true e h = sym (short_leaves m l (waits_short m l e) (steps t ls))
    go false e h = by (step_of m l).answer refl h

pub machine_left : (bytes : List ℕ) → (arrived bytes).machine ≡ (steps start (lines_of bytes)).state
machine_left bytes = machine_is start (lines_of bytes)

-- the end leaves it
pub end_machine : (s : Incoming) → (end_call s).state.machine ≡ s.machine
end_machine s = go s.status
  where
    go : (x : Status) → (with_end x s).state.machine ≡ s.machine
    go Open = refl
    go (Refused r) = refl
    go Ended = refl

-- ---- the end

no_line_ends : (m : Checker) → (end_call (arrive m [])).outcome ≡ whole m []
unfolding arrive steps finish
no_line_ends m = rw no_lines

-- a line in front, which waits or is judged
line_ends : (m : Checker) (l : List ℕ) (ls : List (List ℕ)) → (waits m l ≡ true → (end_call (state m l Open)).outcome ≡ whole m (l ∷ ls))
    → (end_call (arrive (step_of m l).state ls)).outcome ≡ whole (step_of m l).state ls → (end_call (arrive m (l ∷ ls))).outcome ≡ whole m (l ∷ ls)
unfolding arrive steps
line_ends m l ls kept on = go (waits m l) refl
  where
    t : Checker
    t = (step_of m l).state

    by : (a : Answer) → (step_of m l).answer ≡ a
        → (end_call (unless_refused a t (arrive t ls))).outcome
        ≡ outcome (unless a (steps t ls) (step_of m l)).answer (end_of (unless a (steps t ls) (step_of m l)).state)
    by (Ok tt) q = on
    by (Err r) q = rw q

    go : (b : Bool) → waits m l ≡ b → (end_call (cond b (state m l Open) (unless_refused (step_of m l).answer t (arrive t ls)))).outcome ≡ whole m (l ∷ ls)
    go true e = kept e
    go false e = by (step_of m l).answer refl

lines_end : (m : Checker) {ls : List (List ℕ)} → Lines ls → (end_call (arrive m ls)).outcome ≡ whole m ls
unfolding finish
lines_end m empty = no_line_ends m
lines_end m (short l some less) = line_ends m l [] (λ e. rw (bytes_waiting l, one_line l some (omega arith))) (no_line_ends (step_of m l).state)
lines_end m (full l {ls} long on) = line_ends m l ls (λ e. never (sym (whole_judged m l long) ∙ e)) (lines_end (step_of m l).state on)

-- the end's outcome behind any bytes is that of the whole-file check over them, whether they are refused by then or not
pub end_is : (bytes : List ℕ) → (end_call (arrived bytes)).outcome ≡ check_file bytes
unfolding finish
end_is bytes = lines_end start (lines_shaped bytes)

-- and the status behind it goes by that outcome
pub end_status : (bytes : List ℕ) → (end_call (arrived bytes)).state.status ≡ status_behind (check_file bytes)
end_status bytes = go (arrived bytes) (never_ended start (lines_of bytes)) ∙ ap status_behind (end_is bytes)
  where
    by : (x : Status) (s : Incoming) → s.status ≡ x → (x ≡ Ended → ⊥) → (with_end x s).state.status ≡ status_behind (with_end x s).outcome
    by Open s e h = refl
    by (Refused r) s e h = e
    by Ended s e h = absurd (h refl)

    go : (s : Incoming) → (s.status ≡ Ended → ⊥) → (end_call s).state.status ≡ status_behind (end_call s).outcome
    go s h = by s.status s refl h

-- ---- refused and ended are for good

pub refused_stays : (s : Incoming) (r : Refusal) → s.status ≡ Refused r → (c : PartsCall) → behind_call s c ≡ s
refused_stays s r e (part bytes) = rw e
refused_stays s r e end = rw e

pub refused_again : (s : Incoming) (r : Refusal) → s.status ≡ Refused r → (bytes : List ℕ)
    → ((part_call s bytes).answer ≡ Err r) × ((end_call s).outcome ≡ Err r)
refused_again s r e bytes = (ap (λ (t : Incoming). answer_in t.status) (refused_stays s r e (part bytes)) ∙ ap answer_in e, rw e)

pub ended_stays : (s : Incoming) → s.status ≡ Ended → (c : PartsCall) → behind_call s c ≡ s
ended_stays s e (part bytes) = rw e
ended_stays s e end = rw e

pub ended_again : (s : Incoming) → s.status ≡ Ended → (bytes : List ℕ)
    → ((part_call s bytes).answer ≡ Err out_of_turn) × ((end_call s).outcome ≡ Err out_of_turn)
ended_again s e bytes = (ap (λ (t : Incoming). answer_in t.status) (ended_stays s e (part bytes)) ∙ ap answer_in e, rw e)

-- what is not open stays
pub shut : (s : Incoming) → s.status ≢ Open → (c : PartsCall) → behind_call s c ≡ s
shut s ne c = go s.status refl
  where
    go : (x : Status) → s.status ≡ x → behind_call s c ≡ s
    go Open e = absurd (ne e)
    go (Refused r) e = refused_stays s r e c
    go Ended e = ended_stays s e c

-- behind an end no call moves the state
pub end_stays : (s : Incoming) (c : PartsCall) → behind_call (end_call s).state c ≡ (end_call s).state
end_stays s c = go s.status refl
  where
    go : (x : Status) → s.status ≡ x → behind_call (with_end x s).state c ≡ (with_end x s).state
    go Open e = by (finish s.machine (bytes_in s.line))
      where
        by : (o : Outcome) → behind_call (state s.machine [] (status_behind o)) c ≡ state s.machine [] (status_behind o)
        by (Ok t) = ended_stays (state s.machine [] Ended) refl c
        by (Err r) = refused_stays (state s.machine [] (Refused r)) r refl c
    go (Refused r) e = refused_stays s r e c
    go Ended e = ended_stays s e c

end_stays_all : (s : Incoming) (cs : List PartsCall) → fed (end_call s).state cs ≡ (end_call s).state
unfolding fed
end_stays_all s [] = refl
end_stays_all s (c ∷ cs) = rw (end_stays s c) (end_stays_all s cs)

-- ---- any calls

calls_from : (a : List ℕ) (cs : List PartsCall)
    → fed (arrived a) cs ≡ cond (end_declared cs) (end_call (arrived (a ++ bytes_of cs))).state (arrived (a ++ bytes_of cs))
unfolding fed bytes_of end_declared
calls_from a [] = rw append-nil
calls_from a (part p ∷ cs) = rw (sym (arrive_joined start a p)) (calls_from (a ++ p) cs ∙ rw (append_assoc a p (bytes_of cs)))
calls_from a (end ∷ cs) = rw append-nil (end_stays_all (arrived a) cs)

-- the state behind any calls is a function of the bytes so far, and of whether the end is declared: however the bytes were cut
pub fed_is : (cs : List PartsCall) → fed (arrived []) cs ≡ cond (end_declared cs) (end_call (arrived (bytes_of cs))).state (arrived (bytes_of cs))
fed_is cs = calls_from [] cs

pub no_cutting : (cs ds : List PartsCall) → bytes_of cs ≡ bytes_of ds → end_declared cs ≡ end_declared ds → fed (arrived []) cs ≡ fed (arrived []) ds
no_cutting cs ds same both = fed_is cs ∙ (rw (same, both) (sym (fed_is ds)))

-- its machine is one that lines lead to
pub fed_reached : (cs : List PartsCall) → Reached (fed (arrived []) cs).machine
fed_reached cs = rw (fed_is cs) (go (end_declared cs) (arrived (bytes_of cs)) (rw (machine_left (bytes_of cs)) (steps_reached (lines_of (bytes_of cs)) at_start)))
  where
    go : (b : Bool) (s : Incoming) → Reached s.machine → Reached (cond b (end_call s).state s).machine
    go true s c = rw (end_machine s) c
    go false s c = c

-- ---- parts, and then the end: the answers taken together

-- a refusal of the bytes so far is that of the whole-file check, whatever comes behind them
pub refused_for_good : (a b : List ℕ) (r : Refusal) → (arrived a).status ≡ Refused r → check_file (a ++ b) ≡ Err r
refused_for_good a b r e =
    let same : arrived (a ++ b) ≡ arrived a = arrive_joined start a b ∙ refused_stays (arrived a) r e (part b) in
    sym (end_is (a ++ b)) ∙ (ap (λ (s : Incoming). (end_call s).outcome) same ∙ (refused_again (arrived a) r e []).1)

-- for every cutting: the first refusal among the answers, or the end's outcome, is the whole-file check's
pub together : (a : List ℕ) (ps : List (List ℕ))
    → first_of (answers_to (arrived a) ps) (end_call (fed (arrived a) (map part ps))).outcome ≡ check_file (a ++ flatten ps)
unfolding answers_to fed first_of flatten
together a [] = rw append-nil (end_is a)
together a (p ∷ ps) =
    ap (λ (s : Incoming). outcome (answer_in s.status) (later s)) (sym (arrive_joined start a p))
    ∙ (go (arrived (a ++ p)).status refl (together (a ++ p) ps) ∙ ap check_file (append_assoc a p (flatten ps)))
  where
    later : Incoming → Outcome
    later s = first_of (answers_to s ps) (end_call (fed s (map part ps))).outcome

    go : (x : Status) → (arrived (a ++ p)).status ≡ x → later (arrived (a ++ p)) ≡ check_file ((a ++ p) ++ flatten ps)
        → outcome (answer_in x) (later (arrived (a ++ p))) ≡ check_file ((a ++ p) ++ flatten ps)
    go Open e h = h
    go (Refused r) e h = sym (refused_for_good (a ++ p) (flatten ps) r e)
    go Ended e h = absurd (never_ended start (lines_of (a ++ p)) e)
