-- `writer::Writer::close_file` meets its contract. Assumes nothing.
use Rattle.layout.specs.declared.Record.TheVariants.{FileTrailer}
use Rattle.writer.proofs.Answering.{turn_is, turned, whole_call, one_expected}
use Rattle.fields.specs.Values.{taken_as}
use Rattle.writer.specs.Given.{close_file}
use Rattle.writer.proofs.laws.TakesCall.{end_may}
use mathlib.Core.List.{[], ◌∷◌}
use mathlib.Core.Path.{refl}
use Rattle.writer.proofs.Writer.close_file.Goals as goal

pub write_one-requires : goal.write_one-requires
write_one-requires c =
    λ t.
    let a = c.args in
    let k = turned (close_file a.v) a.self.checker (turn_is a.self.checker _ (rw (c.turns_at.ensures, c.phase.ensures) at c.test_turn-asked.ensures)) t in
    rw c.taken_as.ensures (end_may a.self.checker k.0 a.v k.1)

pub returns : goal.returns
returns c =
    let a = c.args in
    rw c.hand_back.ensures
    (whole_call (close_file a.v) (turn_is a.self.checker _ (rw (c.turns_at.ensures, c.phase.ensures) at c.test_turn-asked.ensures))
    (one_expected (taken_as FileTrailer a.v) ((FileTrailer ∷ []) ∷ []) _ refl (rw c.taken_as.ensures at c.write_one.ensures)))
