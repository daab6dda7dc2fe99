-- `writer::records::put_line` meets its contract. Assumes nothing.
use mathlib.Core.Path.{◌≡◌}
use native.Mathlib.Omega.{arith}
use lib.ListN.{length}
use borrow.Author.Rules.{rules}
use Rattle.fields.specs.Values.{record_of}
use Rattle.writer.proofs.Lent.{line-end}
use Rattle.writer.proofs.Trying.{put_ok, put_right}
use Rattle.writer.proofs.records.put_line.Goals as goal

pub unwrap-requires : goal.unwrap-requires
unwrap-requires c = rw (put_ok c.args.made c.requires.answer_value (omega (arith, c.requires.line_bytes_in_bounds)) c.put.ensures)

pub returns : goal.returns
returns c =
    let m = c.args.made in
    let full : length m.fields.text ≡ 240 = search rules in
    line-end (record_of m.fields.which m.fields) c.args.part.now _ (put_right m c.requires.answer_value (omega (arith, c.requires.line_bytes_in_bounds)) c.put.ensures full) c.put.auto.out c.requires.line_bytes_in_bounds
