-- `writer::payments::is_expected` meets its contract. Assumes nothing.
use mathlib.Core.Path.{sym, ◌∙◌}
use Rattle.writer.proofs.laws.Expected.{own_reading}
use Rattle.writer.proofs.Held.{or_none}
use Rattle.writer.proofs.payments.is_expected.Goals as goal

pub returns-in-Some : goal.returns-in-Some
returns-in-Some c =
    let a = c.args in
    c.is_same.ensures ∙ or_none _ ∙ sym (own_reading a.dir a.batch a.position a.which _ (sym c.record_at.ensures ∙ c.in-Some.is))
