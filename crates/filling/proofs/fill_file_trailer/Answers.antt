-- `filling::fill_file_trailer` meets its contract. Assumes nothing.
use mathlib.Core.Path.{◌≡◌, ap, ◌∙◌}
use Prim.Native.Nat.{◌+◌}
use native.Mathlib.Omega.{arith}
use Rattle.checker.specs.Totals.{batch_count, record_count}
use Rattle.answer.proofs.laws.Sums.{fits}
use Rattle.layout.specs.Table.{fields_of}
use Rattle.layout.specs.Names.{before, index_of}
use Rattle.layout.specs.declared.Record.{Record}
use Rattle.layout.specs.declared.Record.TheVariants.{FileTrailer}
use Rattle.fields.specs.Values.{set_nth}
use Rattle.fields.proofs.laws.Named.{by_name}
use Rattle.checker.specs.Line.{trailer_batch}
use Rattle.filling.specs.Filling.{file_batches_index, file_records_index, filled_line}
use Rattle.filling.proofs.fill_file_trailer.Goals as goal

pub returns : goal.returns
unfolding index_of before fields_of
returns c =
    let a = c.args in
    let bound = c.requires.bounded in
    let many : c.and_one.result.0 ≡ record_count a.m.closed + 1 = c.and_one.ensures ∙ rw (c.records.ensures, c.closed-closed.ensures) (fits _ (omega arith)) in
    let v = filled_line FileTrailer a.m.bank trailer_batch a.v in
    let in-line : c.fill_line.result ≡ v
    = c.fill_line.ensures ∙ rw c.bank.ensures (ap (λ (r : Record). filled_line r a.m.bank trailer_batch a.v) c.requires.which_value) in
    let one : c.with_number.result ≡ set_nth file_batches_index (batch_count a.m.closed) v
    = c.with_number.ensures ∙ rw (in-line, c.batches.ensures, c.closed-closed.ensures) (by_name FileTrailer v c.requires.which_value file_batches_index (batch_count a.m.closed)) in
    c.with_records.ensures
    ∙ rw (one, many) (by_name FileTrailer (set_nth file_batches_index (batch_count a.m.closed) v) c.requires.which_value file_records_index (record_count a.m.closed + 1))
