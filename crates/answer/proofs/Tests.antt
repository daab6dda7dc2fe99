-- A sum that is not made: what is left of the limit tells whether it is passed. Assumes nothing.
use mathlib.Core.Path.{◌≡◌}
use Prim.Native.Nat.{ℕ, suc, ◌+◌, ◌-◌, ◌≤◌, ◌<◌}
use native.Mathlib.Decide.{dec_le}
use native.Mathlib.Omega.{arith}
use borrow.Author.Tests.{le-leb, lt-leb}
use lib.Dec.{leb, ltb}

-- two tests that hold together are one
same_test : (a b c d : ℕ) → (a ≤ b → c ≤ d) → (c ≤ d → a ≤ b) → leb a b ≡ leb c d
same_test a b c d there back = go (dec_le a b) (dec_le c d)
  where
    go : Dec (a ≤ b) → Dec (c ≤ d) → leb a b ≡ leb c d
    go (yes h) (yes k) = rw (le-leb a b h, le-leb c d k)
    go (yes h) (no k) = absurd (k (there h))
    go (no h) (yes k) = absurd (h (back k))
    go (no h) (no k) = rw (lt-leb a b (omega arith), lt-leb c d (omega arith))

module _ (a b limit : ℕ) where
  pub left_over : a ≤ limit → leb b (limit - a) ≡ leb (a + b) limit
  left_over h = same_test b (limit - a) (a + b) limit (λ k. omega arith) (λ k. omega arith)

  pub passed : limit < a → leb a limit ≡ leb (a + b) limit
  passed h = same_test a limit (a + b) limit (λ k. omega arith) (λ k. omega arith)

  pub left_below : a < limit → ltb b (limit - a) ≡ ltb (a + b) limit
  left_below h = same_test (suc b) (limit - a) (suc (a + b)) limit (λ k. omega arith) (λ k. omega arith)

  pub reached : limit ≤ a → ltb a limit ≡ ltb (a + b) limit
  reached h = same_test (suc a) limit (suc (a + b)) limit (λ k. omega arith) (λ k. omega arith)
