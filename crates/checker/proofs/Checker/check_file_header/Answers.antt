-- `checker::Checker::check_file_header` meets its contract: its rules, one after the other. Assumes nothing.
use mathlib.Core.Path.{◌∙◌}
use Rattle.answer.proofs.laws.Order.{ahead}
use Rattle.checker.specs.Line.{rules_of_type}
use Rattle.checker.proofs.Fields.{file-header}
use Rattle.checker.proofs.Checker.check_file_header.Goals as goal

pub returns : goal.returns
unfolding rules_of_type
returns c =
    ahead c.and-2.ensures _ _ (c.test-bank.ensures ∙ rw c.all_digits-spelled.ensures)
    (ahead c.and.ensures _ _ c.check_batch-batch.ensures (file-header _ _ c.told-rec c.check_fields-fields.ensures))
