-- Files in parts: the state behind bytes is that behind the first of them, with the others as one more part. Assumes nothing.
use Rattle.std.specs.Prelude.{◌≡◌, refl, Bool, true, false, not, cond, ◌&&◌, List, [], ◌∷◌, ◌++◌, ℕ, zero, suc, ◌-◌, ◌*◌, ◌/◌, ◌≤◌, ◌<◌, ltb, length, take, drop, replicate, Err, Ok}
use Rattle.std.proofs.Common.{sym, ◌∙◌, append-nil, append_assoc, arith, lt-ltb, ltb-true, length-append, length-drop, take-append-drop, length-take-le, take_all}
use Rattle.std.proofs.lemmas.List.{take-append-le, drop-append-le}
use Rattle.answer.specs.Rules.{no_line, refusal, refused_as, first_broken}
use Rattle.answer.specs.Rules.{Answer}
use Rattle.layout.proofs.laws.Bytes.{and_right}
use Rattle.checker.specs.Order.{ended}
use Rattle.checker.specs.Line.{line_bytes, rules_of_line}
use Rattle.checker.specs.Machine.{line_of, sound, stepped, step_of}
use Rattle.checker.specs.declared.Checker.{Checker}
use Rattle.files.specs.File.{lines_of, unless, steps}
use Rattle.files.specs.Parts.{waiting, bytes_in, state, waits, unless_refused, arrive, with_part}
use Rattle.files.specs.declared.incoming.Status.TheVariants.{Open, Refused}
use Rattle.files.specs.declared.incoming.Incoming.{Incoming}
use Rattle.files.proofs.laws.Runs.{no_lines, next_line, one_line}

-- ---- the line that waits

pub bytes_waiting : (l : List ℕ) → bytes_in (waiting l) ≡ l
bytes_waiting l = take-append-le (length l) l (replicate (line_bytes - length l) 0) (omega arith) ∙ take_all (length l) l (omega arith)

-- a whole line does not wait
pub whole_judged : (m : Checker) (l : List ℕ) → length l ≡ line_bytes → waits m l ≡ false
whole_judged m l e = rw (e) (go (not (ended m.phase)))
  where
    go : (b : Bool) → (b && false) ≡ false
    go true = refl
    go false = refl

-- behind the file trailer nothing waits, and less than a line waits elsewhere
pub short_waits : (m : Checker) (l : List ℕ) → length l < line_bytes → waits m l ≡ not (ended m.phase)
short_waits m l h = rw (lt-ltb (length l) line_bytes h) (go (not (ended m.phase)))
  where
    go : (b : Bool) → (b && true) ≡ b
    go true = refl
    go false = refl

-- what waits is less than a line
pub waits_short : (m : Checker) (l : List ℕ) → waits m l ≡ true → length l < line_bytes
waits_short m l e = ltb-true (length l) line_bytes (and_right (not (ended m.phase)) (ltb (length l) line_bytes) e)

-- ---- whole lines, then more bytes

-- one whole line in front
one_more : (m : Checker) (l : List ℕ) → length l ≡ line_bytes → (ls both more : List (List ℕ))
    → ((t : Checker) → arrive t both ≡ unless_refused (steps t ls).answer (steps t ls).state (arrive (steps t ls).state more))
    → let x = steps m (l ∷ ls) in arrive m (l ∷ both) ≡ unless_refused x.answer x.state (arrive x.state more)
unfolding steps arrive
one_more m l long ls both more on = rw (whole_judged m l long) (go (step_of m l).answer refl (on (step_of m l).state))
  where
    t : Checker
    t = (step_of m l).state

    go : (a : Answer) → (step_of m l).answer ≡ a → arrive t both ≡ unless_refused (steps t ls).answer (steps t ls).state (arrive (steps t ls).state more)
        → let x = unless a (steps t ls) (step_of m l) in unless_refused a t (arrive t both) ≡ unless_refused x.answer x.state (arrive x.state more)
    go (Ok tt) q h = h
    go (Err r) q h = rw q

pub arrive_lines : (k : ℕ) (m : Checker) (a b : List ℕ) → length a ≡ k * line_bytes → let x = steps m (lines_of a) in
    arrive m (lines_of (a ++ b)) ≡ unless_refused x.answer x.state (arrive x.state (lines_of b))
unfolding steps
arrive_lines zero m [] b e = rw no_lines
arrive_lines zero m (y ∷ a) b e = absurd (omega arith)
arrive_lines (suc k) m a b e =
    let long : line_bytes ≤ length a = omega arith in
    let rest = drop line_bytes a in
    rw (next_line (a ++ b) (rw length-append (omega arith)), next_line a (omega arith), take-append-le line_bytes a b long, drop-append-le line_bytes a b long)
    (one_more m (take line_bytes a) (length-take-le line_bytes a long) (lines_of rest) (lines_of (rest ++ b)) (lines_of b)
    (λ t. arrive_lines k t rest b (simp length-drop (omega arith))))

-- ---- behind the file trailer

-- any line at all is refused there, in the same way
pub ended_refuses : (m : Checker) (l : List ℕ) → ended m.phase ≡ true
    → step_of m l ≡ stepped m (cond (sound m) (Err (refusal 3 (line_of m) 0)) (refused_as 51 0))
unfolding step_of rules_of_line first_broken
ended_refuses m l e = rw e (go (sound m))
  where
    go : (b : Bool)
        → cond b (stepped m (Err (refusal 3 (line_of m) 0))) (stepped m (refused_as 51 0))
        ≡ stepped m (cond b (Err (refusal 3 (line_of m) 0)) (refused_as 51 0))
    go true = refl
    go false = refl

-- so the state behind any byte there is the same
pub ended_arrives : (m : Checker) (l : List ℕ) (ls : List (List ℕ)) → ended m.phase ≡ true
    → arrive m (l ∷ ls) ≡ state m [] (cond (sound m) (Refused (refusal 3 (line_of m) 0)) (Refused (refusal 51 no_line 0)))
unfolding arrive
ended_arrives m l ls e = rw (ended_refuses m l e, e) (go (sound m))
  where
    go : (b : Bool)
        → unless_refused (cond b (Err (refusal 3 (line_of m) 0)) (refused_as 51 0)) m (arrive m ls)
        ≡ state m [] (cond b (Refused (refusal 3 (line_of m) 0)) (Refused (refusal 51 no_line 0)))
    go true = refl
    go false = refl

-- ---- less than a line, then more bytes

-- the state behind it takes the others as a part
abbrev on : Incoming → List ℕ → Incoming
on s b = with_part s.status s b

nothing_first : (m : Checker) (b : List ℕ) → arrive m (lines_of b) ≡ on (arrive m (lines_of [])) b
unfolding arrive
nothing_first m b = rw no_lines

short_first : (m : Checker) (r b : List ℕ) → 0 < length r → length r < line_bytes → arrive m (lines_of (r ++ b)) ≡ on (arrive m (lines_of r)) b
unfolding arrive
short_first m r b some less = rw (one_line r some (omega arith)) (go (ended m.phase) refl)
  where
    go : (x : Bool) → ended m.phase ≡ x → arrive m (lines_of (r ++ b)) ≡ on (arrive m (r ∷ [])) b
    go false e = rw (short_waits m r less, e, bytes_waiting r)
    go true e =
        let more : 0 < length (r ++ b) = rw length-append (omega arith) in
        rw (next_line (r ++ b) more, ended_arrives m (take line_bytes (r ++ b)) (lines_of (drop line_bytes (r ++ b))) e, ended_arrives m r [] e) (stays (sound m))
      where
        stays : (ok : Bool) → let s = state m [] (cond ok (Refused (refusal 3 (line_of m) 0)) (Refused (refusal 51 no_line 0))) in s ≡ on s b
        stays true = refl
        stays false = refl

-- ---- any bytes, then more bytes

-- whole lines, and less than a line
pub record Parted (a : List ℕ) : Type 0 where
  pub many : ℕ
  pub lines : List ℕ
  pub rest : List ℕ
  pub are : a ≡ lines ++ rest
  pub whole : length lines ≡ many * line_bytes
  pub less : length rest < line_bytes

pub parted : (a : List ℕ) → Parted a
parted a =
    let n = length a / line_bytes * line_bytes in
    let short : n ≤ length a = omega arith in
    record {
      many = length a / line_bytes;
      lines = take n a;
      rest = drop n a;
      are = sym (take-append-drop n a);
      whole = length-take-le n a short;
      less = simp length-drop (omega arith);
    }

rest_first : (m : Checker) (r b : List ℕ) → length r < line_bytes → arrive m (lines_of (r ++ b)) ≡ on (arrive m (lines_of r)) b
rest_first m [] b less = nothing_first m b
rest_first m (x ∷ r) b less = short_first m (x ∷ r) b (omega arith) less

-- the state behind bytes is a function of the bytes: however they are cut, it is the state behind the first of them with the others as a part
pub arrive_joined : (m : Checker) (a b : List ℕ) → let s = arrive m (lines_of a) in arrive m (lines_of (a ++ b)) ≡ with_part s.status s b
arrive_joined m a b =
    let p = parted a in
    rw (p.are, append_assoc p.lines p.rest b, arrive_lines p.many m p.lines (p.rest ++ b) p.whole, arrive_lines p.many m p.lines p.rest p.whole)
    (go (steps m (lines_of p.lines)).answer (steps m (lines_of p.lines)).state p.rest p.less)
  where
    go : (a : Answer) (t : Checker) (r : List ℕ) → length r < line_bytes
        → unless_refused a t (arrive t (lines_of (r ++ b))) ≡ on (unless_refused a t (arrive t (lines_of r))) b
    go (Ok tt) t r less = rest_first t r b less
    go (Err x) t r less = refl

-- behind whole lines nothing waits
pub none_waiting : (k : ℕ) (m : Checker) (a : List ℕ) → length a ≡ k * line_bytes → (arrive m (lines_of a)).line ≡ waiting []
unfolding arrive
none_waiting k m a e =
    rw (← (append-nil a), arrive_lines k m a [] e, no_lines) (go (steps m (lines_of a)).answer (steps m (lines_of a)).state)
  where
    go : (x : Answer) (t : Checker) → (unless_refused x t (state t [] Open)).line ≡ waiting []
    go (Ok tt) t = refl
    go (Err r) t = refl
