-- `checker::Checker::check_as` meets its contract. Assumes nothing.
use Rattle.answer.proofs.laws.Leaving.{leaves, goes_on}
use Rattle.checker.specs.Line.{rules_of_type, rules_as}
use Rattle.checker.proofs.Checker.check_as.Goals as goal

pub returns-in_err-check_type : goal.returns-in_err-check_type
unfolding rules_as
returns-in_err-check_type c =
    leaves (rules_of_type _ c.args.reading.which c.args.self _) _ c.check_type.ensures c.in_err-check_type.was c.from_residual.ensures

pub returns : goal.returns
unfolding rules_as
returns c =
    goes_on (rules_of_type _ c.args.reading.which c.args.self _) _ c.check_type.ensures c.in_ok-check_type.was (rw c.args.reading.row at c.check_house.ensures)
