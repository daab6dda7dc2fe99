-- Laws of sums that can't wrap. Assumes nothing.
use Rattle.std.specs.Prelude.{◌≡◌, refl, Bool, true, false, ℕ, ◌+◌, ◌^◌, ◌<◌, ltb, leb}
use Rattle.std.proofs.Common.{add-zero, add-one, arith, ltb-true, ltb-false}
use Rattle.std.proofs.lemmas.Bool.{lt-leb}
use Rattle.answer.specs.Sums.{largest, capped}

-- a sum that fits is the sum
pub fits : (n : ℕ) → n < 2 ^ 64 → capped n ≡ n
fits n h = omega arith

-- a capped sum keeps a limit exactly where the sum does
pub capped_within : (n more limit : ℕ) → limit < largest → leb (capped n + more) limit ≡ leb (n + more) limit
capped_within n more limit h = by_test (ltb n (2 ^ 64)) refl
  where
    by_test : (b : Bool) → ltb n (2 ^ 64) ≡ b → leb (capped n + more) limit ≡ leb (n + more) limit
    by_test true e = rw (fits n (ltb-true n (2 ^ 64) e))
    by_test false e =
        let g = ltb-false n (2 ^ 64) e in
        rw (lt-leb (n + more) limit (omega (arith, g)), lt-leb (capped n + more) limit (omega (arith, g)))

-- so where nothing more is asked for
pub capped_most : (n limit : ℕ) → limit < largest → leb (capped n) limit ≡ leb n limit
capped_most n limit h = rw (add-zero n, add-zero (capped n)) at (capped_within n 0 limit h)

pub capped_below : (n limit : ℕ) → limit < largest → ltb (capped n) limit ≡ ltb n limit
capped_below n limit h = rw (add-one n, add-one (capped n)) at (capped_within n 1 limit h)
