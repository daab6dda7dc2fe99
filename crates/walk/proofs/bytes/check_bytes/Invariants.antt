use mathlib.Core.Path.{◌≡◌}
use Prim.Native.Nat.{◌+◌}
use lib.ListN.{drop}
use Rattle.layout.specs.Record.{clean}
use Rattle.walk.proofs.bytes.check_bytes.Given as goal

abbrev pub invariant-loop-i : goal.invariant-loop-i
invariant-loop-i l = l.i + clean (drop l.i l.rec) ≡ clean l.rec
