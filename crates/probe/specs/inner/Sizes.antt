-- How long a request's payload and output memory may be. Assumes nothing.
use Rattle.std.specs.Prelude.{ℕ}

-- how many digits announce a number
abbrev pub announced_digits : ℕ
announced_digits = 6

-- the most that they can announce, and the most that a call takes
abbrev pub most_announced : ℕ
most_announced = 999999

abbrev pub most_bytes : ℕ
most_bytes = 900000
