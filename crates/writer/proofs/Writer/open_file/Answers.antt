-- `writer::Writer::open_file` meets its contract. Assumes nothing.
use Rattle.layout.specs.declared.Record.TheVariants.{FileHeader}
use Rattle.writer.proofs.Answering.{turn_is, turned, whole_call, one_expected}
use Rattle.fields.specs.Values.{taken_as}
use Rattle.writer.specs.Given.{open_file}
use Rattle.writer.proofs.laws.TakesCall.{header_may}
use mathlib.Core.List.{[], ◌∷◌}
use mathlib.Core.Path.{refl}
use Rattle.writer.proofs.Writer.open_file.Goals as goal

pub write_one-requires : goal.write_one-requires
write_one-requires c =
    λ t.
    let a = c.args in
    let k = turned (open_file a.v) a.self.checker (turn_is a.self.checker _ (rw (c.turns_at.ensures, c.phase.ensures) at c.test_turn-asked.ensures)) t in
    rw c.taken_as.ensures (header_may a.self.checker k.0 a.v k.1)

pub returns : goal.returns
returns c =
    let a = c.args in
    rw c.hand_back.ensures
    (whole_call (open_file a.v) (turn_is a.self.checker _ (rw (c.turns_at.ensures, c.phase.ensures) at c.test_turn-asked.ensures))
    (one_expected (taken_as FileHeader a.v) ((FileHeader ∷ []) ∷ []) _ refl (rw c.taken_as.ensures at c.write_one.ensures)))
