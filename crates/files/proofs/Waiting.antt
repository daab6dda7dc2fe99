-- The line that waits, and what comes to it. Assumes nothing.
use mathlib.Core.Path.{◌≡◌}
use mathlib.Core.Logic.{inl, inr}
use mathlib.Core.List.{List, [], ◌++◌}
use Prim.Native.Nat.{ℕ, ◌+◌, ◌-◌, ◌≤◌, min}
use native.Mathlib.Nat.{zero-add}
use native.Mathlib.Omega.{arith}
use lib.ListN.{length, take, drop}
use lib.Seq.{drop-drop}
use Rattle.layout.proofs.laws.Bytes.{drop_replicate}
use Rattle.checker.specs.Line.{line_bytes}
use Rattle.files.specs.Parts.{waiting, bytes_in}
use Rattle.files.specs.inner.Joined.{joined, Share}
use Rattle.files.specs.declared.unfinished.Unfinished.{Unfinished}

-- ---- more bytes behind those that are there

-- what a copy into the room behind them leaves
pub copied : (u : Unfinished) (more out : List ℕ) (n : ℕ) → n ≡ length (bytes_in u) → n + length more ≤ length u.bytes → let k = n + length more - n in
    out ≡ more
    → ◌≡◌ {A = Unfinished} (record { bytes = take n u.bytes ++ (out ++ drop k (drop n u.bytes)); count = n + length more }) (joined u more)
copied u more out n p h e =
    let k : n + length more - n ≡ length more = omega arith in
    rw (e, k, drop-drop, p)

-- bytes that come first
pub first_joined : (rest : List ℕ) → joined (waiting []) rest ≡ waiting rest
first_joined rest = rw (zero-add, drop_replicate {A = ℕ} (length rest) line_bytes 0)

-- ---- the share of a part

module _ (there part : ℕ) where
  pub no_share : there ≡ 0 → Share there part 0
  no_share e = record { within = omega arith; fits = omega arith; finishes = λ h. inl (omega arith) }

  pub rest_share : there ≤ line_bytes → Share there part (min part (line_bytes - there))
  rest_share h = record { within = omega arith; fits = omega arith; finishes = λ k. inr (omega arith) }
