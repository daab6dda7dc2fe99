-- `filling::fill_batch_trailer` meets its contract. Assumes nothing.
use mathlib.Core.Path.{◌≡◌, ap, ◌∙◌}
use Prim.Native.Nat.{◌+◌}
use native.Mathlib.Omega.{arith}
use Rattle.checker.specs.Totals.{record_count, cent_sum}
use Rattle.answer.proofs.laws.Sums.{fits}
use Rattle.checker.proofs.laws.Bounds.{cents-fit}
use Rattle.layout.specs.Table.{fields_of}
use Rattle.layout.specs.Names.{before, index_of}
use Rattle.layout.specs.declared.Record.{Record}
use Rattle.layout.specs.declared.Record.TheVariants.{BatchTrailer}
use Rattle.fields.specs.Values.{set_nth}
use Rattle.fields.proofs.laws.Named.{by_name}
use Rattle.filling.specs.Filling.{batch_records_index, batch_sum_index, filled_in_batch}
use Rattle.filling.proofs.fill_batch_trailer.Goals as goal

pub returns : goal.returns
unfolding index_of before fields_of
returns c =
    let a = c.args in
    let bound = c.requires.bounded in
    let many : c.and_one.result.0 ≡ record_count a.m.current + 1 = c.and_one.ensures ∙ rw (c.records.ensures, c.current-current.ensures) (fits _ (omega arith)) in
    let v = filled_in_batch BatchTrailer a.m a.v in
    let in-batch : c.fill_in_batch.result ≡ v = c.fill_in_batch.ensures ∙ ap (λ (r : Record). filled_in_batch r a.m a.v) c.requires.which_value in
    let one : c.with_records.result ≡ set_nth batch_records_index (record_count a.m.current + 1) v
    = c.with_records.ensures ∙ rw (in-batch, many) (by_name BatchTrailer v c.requires.which_value batch_records_index (record_count a.m.current + 1)) in
    let sum : c.cents.result.0 ≡ cent_sum a.m.current = c.cents.ensures ∙ rw c.current-current.ensures (cents-fit bound) in
    c.with_cents.ensures
    ∙ rw (one, sum)
    (by_name BatchTrailer (set_nth batch_records_index (record_count a.m.current + 1) v) c.requires.which_value batch_sum_index (cent_sum a.m.current))
