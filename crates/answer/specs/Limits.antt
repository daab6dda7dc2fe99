-- Limits of a file. Assumes nothing.
use Rattle.std.specs.Prelude.{ℕ, ◌^◌}

-- the file total stays below this many cents
abbrev pub file_cents : ℕ
file_cents = 10 ^ 18

-- a file that is written has at most this many records; the reader's trailer has six digits for them
abbrev pub most_records : ℕ
most_records = 999999
