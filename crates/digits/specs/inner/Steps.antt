-- What the private steps of a weighted sum cite, for their contracts. Assumes nothing.
use Rattle.std.specs.Prelude.{List, ℕ, ◌+◌}
use Rattle.digits.specs.Digits.{weighed}
use Rattle.digits.specs.Checks.{value_of, counts}
use Rattle.digits.specs.declared.sealing.Modulus.{Modulus}

-- what values count that have n more bytes behind them
abbrev pub behind : ℕ → (ℕ → ℕ → ℕ) → ℕ → ℕ → ℕ
behind n f k d = f (k + n) d

-- the weighted sum of a string that has n bytes behind it
abbrev pub weighed_before : Modulus → ℕ → List ℕ → ℕ
weighed_before m n bs = weighed (value_of m) (behind n (counts m)) bs

-- the most that a byte counts by itself: that of Z; and weighed, by 11
abbrev pub most_value : ℕ
most_value = 42

abbrev pub most_count : ℕ
most_count = 462

-- so many bytes at most: what they count fits 16 bits
abbrev pub few : ℕ
few = 140
