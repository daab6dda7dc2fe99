-- What each step of a part's call adds to the state behind the bytes. Assumes nothing.
use Rattle.std.specs.Prelude.{Err, Ok}
use mathlib.Core.Path.{◌≡◌, refl, sym, ap, ◌∙◌}
use mathlib.Core.Bool.{Bool, true, false, not, ◌||◌}
use mathlib.Core.Logic.{◌⊎◌, inl, inr}
use mathlib.Core.List.{List, [], ◌∷◌, ◌++◌, append_assoc}
use Prim.Native.Nat.{ℕ, ◌+◌, ◌-◌, ◌*◌, ◌/◌, ◌%◌, ◌<◌}
use native.Mathlib.Nat.{sub-zero}
use native.Mathlib.Omega.{arith}
use borrow.Author.Tests.{eqb-true, eqb-false, not-true}
use lib.Dec.{eqb}
use lib.ListN.{length, take, drop, length-append, length-drop, take-append-drop}
use lib.Seq.{length-take-le, take_all}
use Rattle.answer.proofs.laws.Order.{never}
use Rattle.answer.specs.Rules.{Answer}
use Rattle.checker.specs.Order.{ended}
use Rattle.checker.specs.Line.{line_bytes}
use Rattle.checker.specs.Machine.{step_of}
use Rattle.checker.specs.declared.Checker.{Checker}
use Rattle.files.specs.File.{lines_of, unless, steps}
use Rattle.files.specs.Parts.{waiting, bytes_in, state, unless_refused, arrive, taken, with_part, part_call, status_by}
use Rattle.files.specs.inner.Joined.{Share, is_open}
use Rattle.files.specs.declared.incoming.Status.{Status}
use Rattle.files.specs.declared.incoming.Status.TheVariants.{Open, Refused, Ended}
use Rattle.files.specs.declared.incoming.Incoming.{Incoming}
use Rattle.files.proofs.laws.Runs.{no_lines, one_line}
use Rattle.files.proofs.laws.Joins.{short_waits, arrive_lines, arrive_joined, none_waiting}

-- ---- less than a line

module _ (m : Checker) (rest : List ℕ) (less : length rest < line_bytes) where
  -- it waits, if nothing has ended
  pub kept : not (ended m.phase) ≡ true → state m rest Open ≡ arrive m (lines_of rest)
  unfolding arrive
  kept h = go rest less h
    where
      go : (l : List ℕ) → length l < line_bytes → not (ended m.phase) ≡ true → state m l Open ≡ arrive m (lines_of l)
      go [] p q = rw no_lines
      go (b ∷ l) p q = rw (one_line (b ∷ l) (omega arith) (omega arith), short_waits m (b ∷ l) p, q)

  -- behind the file trailer it is judged at once
  pub judged : not (ended m.phase) ≡ false → let x = steps m (lines_of rest) in
      state x.state [] (status_by x.answer) ≡ arrive m (lines_of rest)
  unfolding arrive steps
  judged h = go rest less h
    where
      by : (l : List ℕ) (a : Answer) → (step_of m l).answer ≡ a → let x = unless a (steps (step_of m l).state []) (step_of m l) in
          state x.state [] (status_by x.answer) ≡ unless_refused a (step_of m l).state (state (step_of m l).state [] Open)
      by l (Ok tt) e = refl
      by l (Err r) e = rw e

      go : (l : List ℕ) → length l < line_bytes → not (ended m.phase) ≡ false → let x = steps m (lines_of l) in
          state x.state [] (status_by x.answer) ≡ arrive m (lines_of l)
      go [] p q = rw no_lines
      go (b ∷ l) p q = rw (one_line (b ∷ l) (omega arith) (omega arith), short_waits m (b ∷ l) p, q) (by (b ∷ l) (step_of m (b ∷ l)).answer refl)

-- ---- whole lines first

-- the parts of the bytes as they are lent
pub lines_first : (m : Checker) (bytes : List ℕ) → let n = length bytes - length bytes % line_bytes in let x = steps m (lines_of (take (n - 0) bytes)) in
    arrive m (lines_of bytes) ≡ unless_refused x.answer x.state (arrive x.state (lines_of (take (length bytes - n) (drop n bytes))))
lines_first m bytes =
    let n = length bytes - length bytes % line_bytes in
    let whole : length (take n bytes) ≡ length bytes / line_bytes * line_bytes = length-take-le n bytes (omega arith) ∙ omega arith in
    ap (λ (l : List ℕ). arrive m (lines_of l)) (sym (take-append-drop n bytes))
    ∙ rw (sub-zero, take_all (length bytes - n) (drop n bytes) (rw length-drop (omega arith))) (arrive_lines (length bytes / line_bytes) m (take n bytes) (drop n bytes) whole)

-- ---- a part: first its share for the line that waits

-- what is not open takes nothing
stays : (x : Status) (t : Incoming) (b : List ℕ) → is_open x ≡ false → t ≡ with_part x t b
stays Open t b e = never (sym e)
stays (Refused r) t b e = refl
stays Ended t b e = refl

module _ (m : Checker) (there part : List ℕ) (share : ℕ) (s : Share (length there) (length part) share) where
  abbrev begun : Incoming
  begun = arrive m (lines_of (there ++ take share part))

  all_parts : arrive m (lines_of (there ++ part)) ≡ with_part begun.status begun (drop share part)
  all_parts =
      ap (λ (l : List ℕ). arrive m (lines_of l)) (ap (λ (l : List ℕ). there ++ l) (sym (take-append-drop share part)) ∙ sym (append_assoc there (take share part) (drop share part)))
      ∙ arrive_joined m (there ++ take share part) (drop share part)

  -- nothing more comes, or the state is not open
  pub done : (eqb (length part) share || not (is_open begun.status)) ≡ true → begun ≡ arrive m (lines_of (there ++ part))
  done h = go (eqb (length part) share) refl h
    where
      go : (b : Bool) → eqb (length part) share ≡ b → (b || not (is_open begun.status)) ≡ true → begun ≡ arrive m (lines_of (there ++ part))
      go true e q = rw (take_all share part (omega (arith, eqb-true (length part) share e)))
      go false e q = stays begun.status begun (drop share part) (not-true (is_open begun.status) q) ∙ sym all_parts

  -- more comes, and no line waits
  pub more : (eqb (length part) share || not (is_open begun.status)) ≡ false
      → arrive begun.machine (lines_of (take (length part - share) (drop share part))) ≡ arrive m (lines_of (there ++ part))
  more h = rw (take_all (length part - share) (drop share part) (rw length-drop (omega arith))) (go (eqb (length part) share) refl h)
    where
      long : length (there ++ take share part) ≡ length there + share
      long = rw (length-append, length-take-le share part s.within)

      nothing : share < length part → begun.line ≡ waiting []
      nothing l = by (s.finishes l)
        where
          by : (length there + share ≡ 0) ⊎ (length there + share ≡ line_bytes) → begun.line ≡ waiting []
          by (inl e) = none_waiting 0 m (there ++ take share part) (long ∙ e)
          by (inr e) = none_waiting 1 m (there ++ take share part) (long ∙ e)

      on : (x : Status) (t : Incoming) → x ≡ Open → t.line ≡ waiting [] → (b : List ℕ) → arrive t.machine (lines_of b) ≡ with_part x t b
      on x t e q b = rw (e, q)

      opened : (x : Status) → not (is_open x) ≡ false → x ≡ Open
      opened Open e = refl
      opened (Refused r) e = never (sym e)
      opened Ended e = never (sym e)

      go : (b : Bool) → eqb (length part) share ≡ b → (b || not (is_open begun.status)) ≡ false
          → arrive begun.machine (lines_of (drop share part)) ≡ arrive m (lines_of (there ++ part))
      go true e q = never (sym q)
      go false e q =
          let less : share < length part = omega (arith, s.within, eqb-false (length part) share e) in
          on begun.status begun (opened begun.status q) (nothing less) (drop share part) ∙ sym all_parts

-- ---- the call

pub not_taken : (s : Incoming) (part : List ℕ) → is_open s.status ≡ false → taken s ≡ part_call s part
not_taken s part e = ap taken (stays s.status s part e)

pub is_taken : (s : Incoming) (part : List ℕ) → is_open s.status ≡ true → taken (arrive s.machine (lines_of (bytes_in s.line ++ part))) ≡ part_call s part
is_taken s part e = ap taken (go s.status e)
  where
    go : (x : Status) → is_open x ≡ true → arrive s.machine (lines_of (bytes_in s.line ++ part)) ≡ with_part x s part
    go Open q = refl
    go (Refused r) q = never q
    go Ended q = never q
