-- `filling::fill_detail` meets its contract. Assumes nothing.
use mathlib.Core.Path.{refl, ◌∙◌}
use Rattle.checker.specs.Totals.{record_count}
use Rattle.fields.proofs.laws.Named.{by_name}
use Rattle.filling.specs.Filling.{number_index, filled_in_batch}
use Rattle.filling.proofs.fill_detail.Goals as goal

pub returns : goal.returns
returns c =
    let a = c.args in
    let r = a.v.which in
    c.with_records.ensures
    ∙ rw (c.records.ensures, c.current.ensures, c.detail_number.ensures, c.fill_in_batch.ensures)
    (by_name r (filled_in_batch r a.m a.v) refl (number_index r) (record_count a.m.current))
