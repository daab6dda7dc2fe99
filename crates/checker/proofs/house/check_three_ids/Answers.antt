-- `checker::house::check_three_ids` meets its contract: its rules, one after the other. Assumes nothing.
use Rattle.answer.proofs.laws.Order.{ahead}
use Rattle.checker.proofs.house.check_three_ids.Goals as goal

pub returns : goal.returns
returns c =
    ahead c.and-2.ensures _ _ c.check_id-payer.ensures
    (ahead c.and.ensures _ _ c.check_id-payee.ensures c.check_id-guarantor.ensures)
