-- `checker::Checker::check_batch_header` meets its contract: its rules, one after the other. Assumes nothing.
use Rattle.answer.proofs.laws.Order.{ahead}
use Rattle.checker.specs.Line.{rules_of_type}
use Rattle.checker.proofs.Fields.{batch-header}
use Rattle.checker.proofs.Checker.check_batch_header.Goals as goal

pub returns : goal.returns
unfolding rules_of_type
returns c =
    ahead c.and-3.ensures _ _ (rw c.batches-ordinal.ensures at c.test-limit.ensures)
    (ahead c.and-2.ensures _ _ c.check_bank-bank.ensures
    (ahead c.and.ensures _ _ (rw c.batches-ordinal.ensures at c.check_batch-batch.ensures)
    (batch-header _ _ c.told-rec c.check_fields-fields.ensures)))
