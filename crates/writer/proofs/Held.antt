-- A state that is held, as facts; and the answer before any record. Assumes nothing.
use mathlib.Core.Path.{◌≡◌, refl}
use mathlib.Core.Bool.{Bool, true, false, ◌||◌}
use Prim.Native.Nat.{ℕ, ◌+◌, ◌<◌}
use native.Mathlib.Decide.{dec_lt}
use native.Mathlib.Omega.{arith}
use borrow.Author.Tests.{le-leb, lt-leb, lt-ltb, le-ltb}
use lib.Dec.{leb, ltb}
use Rattle.layout.proofs.laws.Bytes.{and_left}
use Rattle.checker.specs.Machine.{sound}
use Rattle.checker.specs.declared.Checker.{Checker}
use Rattle.writer.specs.Refusals.{held}

pub held_sound : (s : Checker) → held s ≡ true → sound s ≡ true
unfolding held
held_sound s e = and_left (sound s) _ e

-- a list of one
pub or_none : (b : Bool) → b ≡ b || false
or_none true = refl
or_none false = refl

-- one more is at most the limit
pub below : (n k : ℕ) → ltb n k ≡ leb (n + 1) k
below n k = go (dec_lt n k)
  where
    go : Dec (n < k) → ltb n k ≡ leb (n + 1) k
    go (yes h) = rw (lt-ltb n k h, le-leb (n + 1) k (omega arith))
    go (no h) = rw (le-ltb n k (omega arith), lt-leb (n + 1) k (omega arith))
