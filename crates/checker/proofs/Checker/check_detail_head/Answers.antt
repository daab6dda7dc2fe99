-- `checker::Checker::check_detail_head` meets its contract: its rules, one after the other. Assumes nothing.
use borrow.Author.Rules.{rules}
use mathlib.Core.Path.{◌≡◌, ◌∙◌}
use lib.ListN.{length}
use Rattle.answer.proofs.laws.Order.{ahead, joined}
use Rattle.layout.specs.Table.{record_bytes}
use Rattle.checker.proofs.laws.Bounds.{payments_fit}
use Rattle.checker.proofs.Fields.{segment_rule}
use Rattle.checker.proofs.Checker.check_detail_head.Goals as goal

pub returns : goal.returns
returns c =
    let reading = c.args.reading in
    let long : length reading.rec.now ≡ record_bytes = search rules in
    let letter = (rw reading.row at c.test-segment.ensures) ∙ segment_rule _ _ long reading.which (rw reading.row at c.requires.detail) in
    let limit = rw (c.payments.ensures ∙ payments_fit c.requires.bounded, c.payments_by.ensures.0, reading.row) at c.test-limit.ensures in
    ahead c.and-4.ensures _ _ c.check_bank-bank.ensures
    (ahead c.and-3.ensures _ _ (rw c.batches.ensures at c.check_batch-batch.ensures)
    (ahead c.and-2.ensures _ _ (rw c.records.ensures at c.check_records-number.ensures)
    (joined c.and.ensures _ _ letter limit)))
