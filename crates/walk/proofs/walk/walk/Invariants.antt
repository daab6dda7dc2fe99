use mathlib.Core.Path.{◌≡◌}
use Prim.Native.Nat.{◌+◌}
use lib.ListN.{drop}
use lib.Seq.{slice}
use Rattle.answer.specs.Rules.{first_broken}
use Rattle.digits.specs.Digits.{leading}
use Rattle.layout.specs.Table.{all}
use Rattle.layout.specs.Record.{rules_of}
use Rattle.walk.proofs.Rounds.{Compared}
use Rattle.walk.proofs.walk.walk.Given as goal

abbrev pub invariant-loop-b : goal.invariant-loop-b
invariant-loop-b l = l.b-index + leading (drop l.b-index l.part) ≡ leading l.part

abbrev pub invariant-loop-i : goal.invariant-loop-i
invariant-loop-i l = Compared l.content l.part l.i

abbrev pub invariant-loop-f : goal.invariant-loop-f
invariant-loop-f l = first_broken (rules_of (slice l.f l.past all) l.dir l.rec) ≡ first_broken (rules_of (slice l.first l.past all) l.dir l.rec)
