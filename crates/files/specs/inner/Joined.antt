-- What comes to an unfinished line, and how a file stands. Assumes nothing.
use Rattle.std.specs.Prelude.{◌≡◌, ◌⊎◌, Bool, true, false, List, ◌++◌, ℕ, ◌+◌, ◌≤◌, ◌<◌, length, take, drop}
use Rattle.checker.specs.Line.{line_bytes}
use Rattle.files.specs.Parts.{bytes_in}
use Rattle.files.specs.declared.unfinished.Unfinished.{Unfinished}
use Rattle.files.specs.declared.incoming.Status.{Status}
use Rattle.files.specs.declared.incoming.Status.TheVariants.{Open, Refused, Ended}

-- the line's room with more bytes behind those that are there
abbrev pub joined : Unfinished → List ℕ → Unfinished
joined u more =
    let n = length (bytes_in u) in
    record { bytes = take n u.bytes ++ (more ++ drop (n + length more) u.bytes); count = n + length more }

-- of a part, so many bytes go to a line that has so many: all, or as many as finish it, or none where it has none
pub record Share (there part share : ℕ) : Type 0 where
  pub within : share ≤ part
  pub fits : there + share ≤ line_bytes
  pub finishes : share < part → (there + share ≡ 0) ⊎ (there + share ≡ line_bytes)

-- ---- how a file stands

abbrev pub is_open : Status → Bool
is_open Open = true
is_open (Refused r) = false
is_open Ended = false
