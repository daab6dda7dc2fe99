-- `boleto::check_digits` meets its contract. Assumes nothing.
use Rattle.answer.proofs.laws.Leaving.{leaves, goes_on}
use Rattle.boleto.specs.Rules.{check_rules}
use Rattle.boleto.proofs.check_digits.Goals as goal

pub returns-in_err-check_part : goal.returns-in_err-check_part
unfolding check_rules
returns-in_err-check_part c =
    let first = rw (c.places.ensures.0, c.places.ensures.1) at c.check_part.ensures in
    leaves _ _ first c.in_err-check_part.was c.from_residual.ensures

pub returns-in_err-check_part-2 : goal.returns-in_err-check_part-2
unfolding check_rules
returns-in_err-check_part-2 c =
    let first = rw (c.places.ensures.0, c.places.ensures.1) at c.check_part.ensures in
    let second = rw (c.places-2.ensures.0, c.places-2.ensures.1) at c.check_part-2.ensures in
    goes_on _ _ first c.in_ok-check_part.was
    (leaves _ _ second c.in_err-check_part-2.was c.from_residual-in_err-check_part-2.ensures)

pub returns-in_err-check_part-3 : goal.returns-in_err-check_part-3
unfolding check_rules
returns-in_err-check_part-3 c =
    let first = rw (c.places.ensures.0, c.places.ensures.1) at c.check_part.ensures in
    let second = rw (c.places-2.ensures.0, c.places-2.ensures.1) at c.check_part-2.ensures in
    let third = rw (c.places-3.ensures.0, c.places-3.ensures.1) at c.check_part-3.ensures in
    goes_on _ _ first c.in_ok-check_part.was
    (goes_on _ _ second c.in_ok-check_part-2.was
    (leaves _ _ third c.in_err-check_part-3.was c.from_residual-in_err-check_part-3.ensures))

pub returns : goal.returns
unfolding check_rules
returns c =
    let first = rw (c.places.ensures.0, c.places.ensures.1) at c.check_part.ensures in
    let second = rw (c.places-2.ensures.0, c.places-2.ensures.1) at c.check_part-2.ensures in
    let third = rw (c.places-3.ensures.0, c.places-3.ensures.1) at c.check_part-3.ensures in
    goes_on _ _ first c.in_ok-check_part.was
    (goes_on _ _ second c.in_ok-check_part-2.was
    (goes_on _ _ third c.in_ok-check_part-3.was (rw c.general_fits.ensures at c.test.ensures)))
