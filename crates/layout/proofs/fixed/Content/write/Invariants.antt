use mathlib.Core.Path.{◌≡◌}
use mathlib.Core.List.{◌++◌}
use lib.ListN.{length, take, drop}
use Rattle.answer.specs.Output.{over}
use Rattle.layout.specs.inner.Lent.{content_of}
use Rattle.layout.proofs.fixed.Content.write.Given as goal

abbrev pub invariant-loop-i : goal.invariant-loop-i
invariant-loop-i l =
    take l.i l.part ++ over (drop l.i (content_of l.self (length l.initial.part))) (drop l.i l.part) ≡ content_of l.self (length l.initial.part)
