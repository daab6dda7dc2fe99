-- When a file in parts is refused, and when not yet: what each answer says of the bytes so far, both ways. Assumes nothing.
use Rattle.std.specs.Prelude.{◌≡◌, refl, ◌↔◌, Bool, true, false, cond, ℕ, ◌*◌, ◌≤◌, ◌<◌, length, take, drop, T, Err, Ok}
use Rattle.std.proofs.Common.{sym, ap, ◌∙◌, subst, arith, length-append, length-take-le, take_all}
use mathlib.Core.List.{List, [], ◌∷◌, ◌++◌, flatten, append-nil, append_assoc}
use Rattle.std.proofs.lemmas.List.{take-append-le}
use Rattle.answer.specs.Rules.{refusal}
use Rattle.answer.specs.declared.Refusal.{Refusal}
use Rattle.answer.specs.Rules.{Answer}
use Rattle.checker.specs.Order.{ended}
use Rattle.checker.specs.Line.{line_bytes}
use Rattle.checker.specs.Machine.{start, line_of, step_of}
use Rattle.checker.specs.Calls.{Reached, at_start, after_line, Through, here, further}
use Rattle.checker.proofs.laws.Listed.{numbered, line_listed, broken_listed}
use Rattle.checker.proofs.laws.Meaning.{Breaks, line_accepted, line_refused, refused_leaves, kept_line, whole_number}
use Rattle.checker.proofs.laws.Reached.{reached}
use Rattle.checker.specs.declared.Checker.{Checker}
use Rattle.files.specs.File.{Lines, empty, short, full, lines_of}
use Rattle.files.specs.Parts.{bytes_in, state, waits, unless_refused, arrive, arrived, answer_in, part_call}
use Rattle.files.specs.declared.incoming.Status.{Status}
use Rattle.files.specs.declared.incoming.Status.TheVariants.{Open, Refused}
use Rattle.files.specs.declared.incoming.Incoming.{Incoming}
use Rattle.files.specs.declared.incoming.Taken.{Taken}
use Rattle.files.proofs.laws.Apart.{open_refused}
use Rattle.files.proofs.laws.Runs.{no_lines, one_line, next_line, lines_shaped, lines_joined, lines_are}
use Rattle.files.proofs.laws.Verdict.{through_reached, through_steps, through_lines}
use Rattle.files.proofs.laws.Arrivals.{part_joined}
use Rattle.files.proofs.laws.Joins.{bytes_waiting, whole_judged, short_waits, waits_short, ended_arrives, arrive_lines}

-- ---- what is said

-- go on: the bytes so far are lines that are accepted, and less than a line behind them; none where the last of them is the file trailer
pub record GoesOn (s : Checker) (bytes : List ℕ) : Type 0 where
  pub to : Checker
  pub earlier : List (List ℕ)
  pub line : List ℕ
  pub are : bytes ≡ flatten earlier ++ line
  pub through : Through s earlier to
  pub less : length line < line_bytes
  pub going : 1 ≤ length line → ended to.phase ≡ false

-- refused: behind lines that are accepted there is a whole line, which breaks that rule; or the last of them is the file trailer, and there is
-- a byte behind it
pub data Stops (s : Checker) (bytes : List ℕ) (r : Refusal) : Type 0 where
  whole_line : {t : Checker} (earlier : List (List ℕ)) (line later : List ℕ) → bytes ≡ flatten earlier ++ (line ++ later) → Through s earlier t
      → length line ≡ line_bytes → ended t.phase ≡ false → Breaks t line r → Stops s bytes r
  behind_end : {t : Checker} (earlier : List (List ℕ)) (b : ℕ) (later : List ℕ) → bytes ≡ flatten earlier ++ b ∷ later → Through s earlier t
      → ended t.phase ≡ true → r ≡ refusal 3 (line_of t) 0 → Stops s bytes r

-- ---- one of the two is said

data Said (s : Checker) (bytes : List ℕ) : Status → Type 0 where
  goes_on : GoesOn s bytes → Said s bytes Open
  refuses : {r : Refusal} → Stops s bytes r → Said s bytes (Refused r)

-- the state behind the file trailer and a byte more
ended_said : {s : Checker} (c : Reached s) (l : List ℕ) (ls : List (List ℕ)) → 1 ≤ length l → ended s.phase ≡ true → Said s (l ++ flatten ls) (arrive s (l ∷ ls)).status
unfolding flatten
ended_said {s} c [] ls h e = absurd (omega arith)
ended_said {s} c (b ∷ l) ls h e = rw (ended_arrives s (b ∷ l) ls e, reached c) (refuses (behind_end [] b (l ++ flatten ls) refl here e refl))

-- an accepted line in front
one_more : {s : Checker} (l : List ℕ) {bytes : List ℕ} {x : Status} → (step_of s l).answer ≡ Ok tt → Reached s → Said (step_of s l).state bytes x → Said s (l ++ bytes) x
unfolding flatten
one_more {s} l a c (goes_on w) = goes_on (record {
  to = w.to;
  earlier = l ∷ w.earlier;
  line = w.line;
  are = ap (λ (x : List ℕ). l ++ x) w.are ∙ sym (append_assoc l (flatten w.earlier) w.line);
  through = further ((line_accepted s l (reached c)).0 a) w.through;
  less = w.less;
  going = w.going;
})
one_more {s} l a c (refuses (whole_line earlier line later e on long going b)) =
    refuses (whole_line (l ∷ earlier) line later (ap (λ (x : List ℕ). l ++ x) e ∙ sym (append_assoc l (flatten earlier) (line ++ later))) (further ((line_accepted s l (reached c)).0 a) on) long going b)
one_more {s} l a c (refuses (behind_end earlier b later e on at q)) =
    refuses (behind_end (l ∷ earlier) b later (ap (λ (x : List ℕ). l ++ x) e ∙ sym (append_assoc l (flatten earlier) (b ∷ later))) (further ((line_accepted s l (reached c)).0 a) on) at q)

said : {s : Checker} {ls : List (List ℕ)} → Reached s → Lines ls → Said s (flatten ls) (arrive s ls).status
unfolding arrive flatten
said {s = s} c empty = goes_on (record { to = s; earlier = []; line = []; are = refl; through = here; less = omega arith; going = λ h. absurd (omega arith) })
said {s = s} c (short l some less) = go (ended s.phase) refl
  where
    go : (b : Bool) → ended s.phase ≡ b → Said s (l ++ []) (arrive s (l ∷ [])).status
    go true e = ended_said c l [] some e
    go false e = rw (short_waits s l less, e) (goes_on (record { to = s; earlier = []; line = l; are = append-nil l; through = here; less = less; going = λ h. e }))
said {s = s} c (full l {ls} long on) = go (ended s.phase) refl (said {s = (step_of s l).state} (after_line l c) on)
  where
    t : Checker
    t = (step_of s l).state

    by : (a : Answer) → (step_of s l).answer ≡ a → ended s.phase ≡ false → Said t (flatten ls) (arrive t ls).status
        → Said s (l ++ flatten ls) (unless_refused a t (arrive t ls)).status
    by (Ok tt) q e h = one_more l q c h
    by (Err r) q e h = refuses (whole_line [] l (flatten ls) refl here long e ((line_refused s l (reached c) r).0 q))

    go : (b : Bool) → ended s.phase ≡ b → Said t (flatten ls) (arrive t ls).status → Said s (l ++ flatten ls) (arrive s (l ∷ ls)).status
    go true e h = ended_said c l ls (omega arith) e
    go false e h = rw (whole_judged s l long) (by (step_of s l).answer refl e h)

-- ---- and what is said determines the answer

-- lines that are accepted have whole lines' bytes
whole_bytes : {u v : Checker} {ls : List (List ℕ)} → Through u ls v → length (flatten ls) ≡ length ls * line_bytes
unfolding flatten
whole_bytes here = refl
whole_bytes (further {s = u} {l = l} k more) = rw (length-append l, (kept_line u l k).1.long, whole_bytes more) (omega arith)

module _ {s t : Checker} (c : Reached s) {earlier : List (List ℕ)} (on : Through s earlier t) where
  -- the state behind them and more bytes is that which they lead to, behind the others
  behind_them : (bytes : List ℕ) → arrive s (lines_of (flatten earlier ++ bytes)) ≡ arrive t (lines_of bytes)
  behind_them bytes =
      let same = (lines_are (flatten earlier) earlier).1 (through_lines on, refl) in
      arrive_lines (length earlier) s (flatten earlier) bytes (whole_bytes on) ∙ rw (same, through_steps c on)

waits_open : {s : Checker} (bytes : List ℕ) → Reached s → GoesOn s bytes → (arrive s (lines_of bytes)).status ≡ Open
unfolding arrive
waits_open {s} bytes c w = rw (w.are, behind_them c w.through w.line) (go w.line w.less w.going)
  where
    go : (l : List ℕ) → length l < line_bytes → (1 ≤ length l → ended w.to.phase ≡ false) → (arrive w.to (lines_of l)).status ≡ Open
    go [] less going = rw no_lines
    go (b ∷ l) less going = rw (one_line (b ∷ l) (omega arith) (omega arith), short_waits w.to (b ∷ l) less, going (omega arith))

-- where they stop
abbrev stopped_at : {s : Checker} {bytes : List ℕ} {r : Refusal} → Stops s bytes r → Checker
stopped_at (whole_line {t} earlier line later e on long going b) = t
stopped_at (behind_end {t} earlier b later e on at q) = t

stops_there : {s : Checker} (bytes : List ℕ) (r : Refusal) → Reached s → (k : Stops s bytes r) → arrive s (lines_of bytes) ≡ state (stopped_at k) [] (Refused r)
unfolding arrive
stops_there {s} bytes r c (whole_line {t} earlier line later e on long going b) =
    let more : 0 < length (line ++ later) = rw length-append (omega arith) in
    let refused = (line_refused t line (reached (through_reached c on)) r).1 b in
    rw (e, behind_them c on (line ++ later), next_line (line ++ later) more, take-append-le line_bytes line later (omega arith), take_all line_bytes line (omega arith), whole_judged t line long, refused, refused_leaves t line r refused)
stops_there {s} bytes r c (behind_end {t} earlier b later e on at q) =
    rw (e, behind_them c on (b ∷ later), next_line (b ∷ later) (omega arith), ended_arrives t (take line_bytes (b ∷ later)) (lines_of (drop line_bytes (b ∷ later))) at, reached (through_reached c on), q)

stops_refused : (bytes : List ℕ) (r : Refusal) → Stops start bytes r → (arrived bytes).status ≡ Refused r
stops_refused bytes r k = ap (λ (x : Incoming). x.status) (stops_there bytes r at_start k)

-- ---- the answer behind the bytes so far

was_open : {s : Checker} {bytes : List ℕ} {x : Status} → Said s bytes x → x ≡ Open → GoesOn s bytes
was_open (goes_on w) e = w
was_open (refuses k) e = open_refused (sym e)

was_refused : {s : Checker} {bytes : List ℕ} {x : Status} → Said s bytes x → (r : Refusal) → x ≡ Refused r → Stops s bytes r
was_refused (goes_on w) r e = open_refused e
was_refused {s} {bytes} (refuses k) r e = subst (Stops s bytes) (cc) k

said_of : (bytes : List ℕ) → Said start bytes (arrived bytes).status
said_of bytes = subst (λ (b : List ℕ). Said start b (arrived bytes).status) (lines_joined bytes) (said at_start (lines_shaped bytes))

-- open exactly if every whole line so far is accepted, and what is behind them may wait
pub open_exactly : (bytes : List ℕ) → (arrived bytes).status ≡ Open ↔ GoesOn start bytes
open_exactly bytes = (was_open (said_of bytes), waits_open bytes at_start)

-- refused exactly if a whole line so far is, or a byte stands behind the file trailer
pub refused_exactly : (bytes : List ℕ) (r : Refusal) → (arrived bytes).status ≡ Refused r ↔ Stops start bytes r
refused_exactly bytes r = (was_refused (said_of bytes) r, stops_refused bytes r)

-- ---- so of a part's answer: the parts before it brought the bytes a

part_told : (a p : List ℕ) {bytes : List ℕ} {x : Status} → a ++ p ≡ bytes → (arrived bytes).status ≡ x → (part_call (arrived a) p).answer ≡ answer_in x
part_told a p all e = ap (λ (t : Taken). t.answer) (part_joined a p) ∙ ap answer_in (ap (λ (l : List ℕ). (arrived l).status) all ∙ e)

-- a line is judged with the part that brings its last byte: before it the answer is to go on, from then on the refusal
module _ {t : Checker} (earlier : List (List ℕ)) (line : List ℕ) (r : Refusal) (on : Through start earlier t) (long : length line ≡ line_bytes) (going : ended t.phase ≡ false)
    (b : Breaks t line r) where
  pub not_before : (a p : List ℕ) (n : ℕ) → n < line_bytes → a ++ p ≡ flatten earlier ++ take n line → (part_call (arrived a) p).answer ≡ Ok tt
  not_before a p n h all = part_told a p all ((open_exactly (flatten earlier ++ take n line)).1 (record {
    to = t;
    earlier = earlier;
    line = take n line;
    are = refl;
    through = on;
    less = rw (length-take-le n line (omega arith)) h;
    going = λ k. going;
  }))

  pub from_then_on : (a p later : List ℕ) → a ++ p ≡ flatten earlier ++ (line ++ later) → (part_call (arrived a) p).answer ≡ Err r
  from_then_on a p later all =
      part_told a p all ((refused_exactly (flatten earlier ++ (line ++ later)) r).1 (whole_line earlier line later refl on long going b))

-- and 3 comes with the part that brings the first byte behind the file trailer, and with no empty one
module _ {t : Checker} (earlier : List (List ℕ)) (on : Through start earlier t) (at : ended t.phase ≡ true) where
  pub nothing_behind : (a p : List ℕ) → a ++ p ≡ flatten earlier → (part_call (arrived a) p).answer ≡ Ok tt
  nothing_behind a p all = part_told a p all ((open_exactly (flatten earlier)).1 (record {
    to = t;
    earlier = earlier;
    line = [];
    are = sym (append-nil (flatten earlier));
    through = on;
    less = omega arith;
    going = λ k. absurd (omega arith);
  }))

  pub first_behind : (a p : List ℕ) (b : ℕ) (later : List ℕ) → a ++ p ≡ flatten earlier ++ b ∷ later
      → (part_call (arrived a) p).answer ≡ Err (refusal 3 (line_of t) 0)
  first_behind a p b later all =
      part_told a p all ((refused_exactly (flatten earlier ++ b ∷ later) (refusal 3 (line_of t) 0)).1 (behind_end earlier b later refl on at refl))

-- ---- the line, which is the one that is next in the machine

names_it : {s : Checker} {bytes : List ℕ} {r : Refusal} (k : Stops s bytes r) → r.line ≡ line_of (stopped_at k)
names_it (whole_line earlier line later e on long going b) = b.numbered
names_it (behind_end earlier b later e on at q) = ap (λ (x : Refusal). x.line) q

pub part_line : (bytes : List ℕ) (r : Refusal) → (arrived bytes).status ≡ Refused r → r.line ≡ line_of (arrived bytes).machine
part_line bytes r e =
    let k = (refused_exactly bytes r).0 e in
    names_it k ∙ ap line_of (sym (ap (λ (x : Incoming). x.machine) (stops_there bytes r at_start k)))

-- ---- the numbers: 1 and 2 are never told before the end

pub part_number : (bytes : List ℕ) (r : Refusal) → (arrived bytes).status ≡ Refused r → (3 ≤ r.number) × T (numbered r.number)
part_number bytes r e = go ((refused_exactly bytes r).0 e)
  where
    go : Stops start bytes r → (3 ≤ r.number) × T (numbered r.number)
    go (whole_line {t} earlier line later q on long going b) =
        let h = whole_number t line r long going b in
        (omega arith, (broken_listed (line_listed t line) b.broken).is_among)
    go (behind_end earlier b later q on at same) = rw same (omega arith, tt)

-- ---- what waits is less than a line

pub less_waits : (m : Checker) (ls : List (List ℕ)) → length (bytes_in (arrive m ls).line) < line_bytes
unfolding arrive
less_waits m [] = omega arith
less_waits m (l ∷ ls) = go (waits m l) refl (step_of m l).answer (less_waits (step_of m l).state ls)
  where
    t : Checker
    t = (step_of m l).state

    go : (b : Bool) → waits m l ≡ b → (a : Answer) → length (bytes_in (arrive t ls).line) < line_bytes
        → length (bytes_in (cond b (state m l Open) (unless_refused a t (arrive t ls))).line) < line_bytes
    go true e a h = rw (bytes_waiting l) (waits_short m l e)
    go false e (Ok tt) h = h
    go false e (Err r) h = omega arith
