-- `checker::Checker::check_detail` meets its contract: its head, then its body. Assumes nothing.
use borrow.Author.Rules.{rules}
use mathlib.Core.Path.{◌≡◌, ◌∙◌}
use lib.ListN.{length}
use Rattle.answer.proofs.laws.Leaving.{leaves, goes_on}
use Rattle.layout.specs.Table.{record_bytes, segment_place}
use Rattle.layout.specs.Record.{rules_of}
use Rattle.checker.specs.Line.{behind}
use Rattle.checker.proofs.Fields.{body, head_joined}
use Rattle.checker.proofs.Checker.check_detail.Goals as goal

pub returns-in_err-check_detail_head : goal.returns-in_err-check_detail_head
returns-in_err-check_detail_head c =
    let reading = c.args.reading in
    leaves _ (rules_of (behind segment_place reading.which) c.args.self.dir reading.rec.now) c.check_detail_head.ensures c.in_err-check_detail_head.was c.from_residual.ensures
    ∙ head_joined reading.which c.args.self _

pub returns : goal.returns
returns c =
    let reading = c.args.reading in
    let long : length reading.rec.now ≡ record_bytes = search rules in
    goes_on _ _ c.check_detail_head.ensures c.in_ok-check_detail_head.was
    (body _ _ long reading.which (rw reading.row at c.requires.detail) c.check_fields.ensures)
    ∙ head_joined reading.which c.args.self _
