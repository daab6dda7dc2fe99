use mathlib.Core.Path.{◌≡◌}
use Prim.Native.Nat.{◌-◌}
use lib.ListN.{length}
use lib.Seq.{slice}
use Rattle.layout.specs.Table.{all}
use Rattle.fields.specs.Values.{most_fields, read_at}
use Rattle.fields.proofs.Store.{store_fields}
use Rattle.fields.proofs.reading.fields_of.Given as goal

abbrev pub invariant-loop-f : goal.invariant-loop-f
invariant-loop-f l =
    (length l.numbers ≡ most_fields)
    × (store_fields (read_at l.rec) (slice l.f l.s.past all) (l.f - l.s.first) l.numbers ≡ store_fields (read_at l.rec) (slice l.s.first l.s.past all) 0 l.initial.numbers)
