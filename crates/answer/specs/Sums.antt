-- Sums of 64-bit numbers that can't wrap. Assumes nothing.
use Rattle.std.specs.Prelude.{ℕ, ◌-◌, ◌^◌, min}

-- the largest 64-bit number
abbrev pub largest : ℕ
largest = 2 ^ 64 - 1

-- a sum that does not fit stays at the largest number
abbrev pub capped : ℕ → ℕ
capped n = min n largest
