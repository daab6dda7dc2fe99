-- `checker::house::check_house` meets its contract. Assumes nothing.
use Rattle.answer.proofs.laws.Order.{done}
use Rattle.checker.proofs.house.check_house.Goals as goal

pub returns-in-None : goal.returns-in-None
returns-in-None c = rw c.in-None.is done
