-- Bytes laid over memory: what that leaves, and more bytes behind them. Assumes nothing.
use Rattle.std.specs.Prelude.{◌≡◌, refl, List, [], ◌++◌, ℕ, ◌+◌, ◌≤◌, length, take, drop}
use Rattle.std.proofs.Common.{sym, ap, ◌∙◌, append_assoc, add-zero, arith, length-append, length-drop, take-append-drop, length-take-le, take_at, drop_at, drop-drop, take-add}

-- n new bytes laid over others from a place on, which keep their length, what stands before the new ones and what stands behind them
pub record Laid (at n : ℕ) (new out after : List ℕ) : Type 0 where
  pub long : length after ≡ length out
  pub before : take at after ≡ take at out
  pub between : take n (drop at after) ≡ new
  pub behind : drop (at + n) after ≡ drop (at + n) out

-- the same in one equation, of output that has room
pub record Puts (at : ℕ) (new out after : List ℕ) : Type 0 where
  pub fits : at + length new ≤ length out
  pub is : after ≡ take at out ++ (new ++ drop (at + length new) out)

pub laid : {at : ℕ} {new out after : List ℕ} → Puts at new out after → Laid at (length new) new out after
laid {at} {new} {out} p =
    let n = length new in
    let rest = drop (at + n) out in
    let front = length-take-le at out (omega arith) in
    let there = drop_at (take at out) (new ++ rest) at front in
    rw p.is
    (record {
      long = length-append (take at out) (new ++ rest) ∙ omega (arith, front, length-append new rest, length-drop (at + n) out);
      before = take_at (take at out) (new ++ rest) at front;
      between = rw there (take_at new rest n refl);
      behind = sym (drop-drop n at _) ∙ rw there (drop_at new rest n refl);
    })

pub puts_nothing : {at : ℕ} {out : List ℕ} → at ≤ length out → Puts at [] out out
puts_nothing {at} {out} l = record { fits = omega arith; is = rw add-zero (sym (take-append-drop at out)) }

pub puts_more : {at : ℕ} {xs ys out mid after : List ℕ} → Puts at xs out mid → Puts (at + length xs) ys mid after → Puts at (xs ++ ys) out after
puts_more {at} {xs} {ys} {out} {mid} p q =
    let l = laid p in
    let end = at + length xs in
    let long : at + length (xs ++ ys) ≡ end + length ys = rw length-append (omega arith) in
    let rest = sym (drop-drop (length ys) end mid) ∙ ap (drop (length ys)) l.behind ∙ drop-drop (length ys) end out in
    record {
      fits = omega (arith, long, l.long, q.fits);
      is = q.is ∙ rw (take-add at (length xs) mid, l.before, l.between, rest, long) (simp append_assoc);
    }
