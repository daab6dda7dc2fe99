-- `checker::Checker::check_file_trailer` meets its contract: its rules, one after the other. Assumes nothing.
use mathlib.Core.Path.{◌≡◌, ◌∙◌, ap}
use Prim.Native.Nat.{◌+◌}
use native.Mathlib.Omega.{arith}
use Rattle.answer.proofs.laws.Order.{ahead, joined_three}
use Rattle.answer.proofs.laws.Sums.{fits}
use Rattle.checker.specs.Line.{rules_of_type}
use Rattle.checker.proofs.Fields.{to_file_batches, to_file_records, from_file_records}
use Rattle.checker.specs.Totals.{record_count}
use Rattle.walk.specs.declared.Parts.{Parts}
use Rattle.checker.proofs.Checker.check_file_trailer.Goals as goal

pub returns : goal.returns
unfolding rules_of_type
returns c =
    let long = c.told-rec in
    let bound = c.requires in
    let many : c.and_one.result.0 ≡ record_count c.args.self.closed + 1 = c.and_one.ensures ∙ fits _ (omega (arith, c.records.ensures)) ∙ rw c.records.ensures in
    ahead c.and-4.ensures _ _ c.check_bank-bank.ensures
    (ahead c.and-3.ensures _ _ c.check_batch-batch.ensures
    (joined_three c.and-body.ensures _ _ _ c.and-2.ensures
    (to_file_batches _ _ long (ap (λ (x : Parts). x.front) c.check_parts-fields.ensures))
    (ahead c.and.ensures _ _ (rw c.batches.ensures at c.check_number-batches.ensures) (to_file_records _ _ long (ap (λ (x : Parts). x.middle) c.check_parts-fields.ensures)))
    (ahead c.and-behind.ensures _ _ (rw many at c.check_records-records.ensures) (from_file_records _ _ long (ap (λ (x : Parts). x.rest) c.check_parts-fields.ensures)))))
