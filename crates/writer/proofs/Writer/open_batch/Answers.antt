-- `writer::Writer::open_batch` meets its contract. Assumes nothing.
use Rattle.answer.proofs.laws.Order.{ahead}
use Rattle.layout.specs.declared.Record.TheVariants.{BatchHeader}
use Rattle.writer.proofs.Answering.{turn_is, turned, whole_call, one_expected}
use Rattle.fields.specs.Values.{taken_as}
use Rattle.writer.specs.Given.{open_batch}
use Rattle.writer.proofs.laws.TakesCall.{batch_may}
use mathlib.Core.List.{[], ◌∷◌}
use mathlib.Core.Path.{refl}
use Rattle.writer.proofs.Writer.open_batch.Goals as goal

pub write_one-requires : goal.write_one-requires
write_one-requires c =
    λ t.
    let a = c.args in
    let k = turned (open_batch a.v) a.self.checker (turn_is a.self.checker _ (ahead c.and-asked.ensures _ _ (rw (c.turns_at.ensures, c.phase.ensures) at c.test_turn-turn.ensures) (rw c.taken_as-given.ensures at c.batch_limits.ensures))) t in
    rw c.taken_as-given.ensures (batch_may a.self.checker k.0 a.v k.1)

pub returns : goal.returns
returns c =
    let a = c.args in
    rw c.hand_back.ensures
    (whole_call (open_batch a.v) (turn_is a.self.checker _ (ahead c.and-asked.ensures _ _ (rw (c.turns_at.ensures, c.phase.ensures) at c.test_turn-turn.ensures) (rw c.taken_as-given.ensures at c.batch_limits.ensures)))
    (one_expected (taken_as BatchHeader a.v) ((BatchHeader ∷ []) ∷ []) _ refl (rw c.taken_as-given.ensures at c.write_one.ensures)))
