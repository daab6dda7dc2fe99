use mathlib.Core.Path.{◌≡◌}
use Prim.Native.Nat.{◌-◌}
use lib.Seq.{slice}
use Rattle.layout.specs.Table.{all}
use Rattle.fields.specs.Values.{nth}
use Rattle.fields.proofs.Put.{put_fields}
use Rattle.fields.proofs.writing.render.Given as goal

abbrev pub invariant-loop-f : goal.invariant-loop-f
invariant-loop-f l =
    put_fields (slice l.f l.s.past all) (l.f - l.s.first) (λ j. nth j l.v) l.v.text l.out ≡ put_fields (slice l.s.first l.s.past all) 0 (λ j. nth j l.v) l.v.text l.initial.out
