-- `writer::records::line_of` meets its contract. Assumes nothing.
use mathlib.Core.Path.{◌≡◌, ap, ◌∙◌}
use lib.ListN.{length, replicate}
use borrow.Author.Rules.{rules}
use Rattle.layout.proofs.laws.Bytes.{over_all}
use Rattle.writer.proofs.Lent.{line_over}
use Rattle.writer.proofs.records.line_of.Goals as goal

pub returns : goal.returns
returns c =
    let long : length c.args.made.bytes ≡ 240 = search rules in
    let got = c.bytes-bytes in
    line_over _ _ long (c.copy.ensures ∙ over_all got.result (replicate 240 0) (ap length got.ensures ∙ long) ∙ got.ensures)
