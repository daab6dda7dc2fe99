-- `boleto::collection::check_blocks` meets its contract. Assumes nothing.
use Rattle.answer.proofs.laws.Leaving.{leaves, goes_on}
use Rattle.boleto.specs.CollectionRules.{block_rules}
use Rattle.boleto.proofs.collection.check_blocks.Goals as goal

pub returns-in_err-check_part : goal.returns-in_err-check_part
unfolding block_rules
returns-in_err-check_part c =
    let first = rw (c.modulus_of-m.ensures, c.places.ensures.0, c.places.ensures.1) at c.check_part.ensures in
    leaves _ _ first c.in_err-check_part.was c.from_residual.ensures

pub returns-in_err-check_part-2 : goal.returns-in_err-check_part-2
unfolding block_rules
returns-in_err-check_part-2 c =
    let first = rw (c.modulus_of-m.ensures, c.places.ensures.0, c.places.ensures.1) at c.check_part.ensures in
    let second = rw (c.modulus_of-m.ensures, c.places-2.ensures.0, c.places-2.ensures.1) at c.check_part-2.ensures in
    goes_on _ _ first c.in_ok-check_part.was
    (leaves _ _ second c.in_err-check_part-2.was c.from_residual-in_err-check_part-2.ensures)

pub returns-in_err-check_part-3 : goal.returns-in_err-check_part-3
unfolding block_rules
returns-in_err-check_part-3 c =
    let first = rw (c.modulus_of-m.ensures, c.places.ensures.0, c.places.ensures.1) at c.check_part.ensures in
    let second = rw (c.modulus_of-m.ensures, c.places-2.ensures.0, c.places-2.ensures.1) at c.check_part-2.ensures in
    let third = rw (c.modulus_of-m.ensures, c.places-3.ensures.0, c.places-3.ensures.1) at c.check_part-3.ensures in
    goes_on _ _ first c.in_ok-check_part.was
    (goes_on _ _ second c.in_ok-check_part-2.was
    (leaves _ _ third c.in_err-check_part-3.was c.from_residual-in_err-check_part-3.ensures))

pub returns-in_err-check_part-4 : goal.returns-in_err-check_part-4
unfolding block_rules
returns-in_err-check_part-4 c =
    let first = rw (c.modulus_of-m.ensures, c.places.ensures.0, c.places.ensures.1) at c.check_part.ensures in
    let second = rw (c.modulus_of-m.ensures, c.places-2.ensures.0, c.places-2.ensures.1) at c.check_part-2.ensures in
    let third = rw (c.modulus_of-m.ensures, c.places-3.ensures.0, c.places-3.ensures.1) at c.check_part-3.ensures in
    let fourth = rw (c.modulus_of-m.ensures, c.places-4.ensures.0, c.places-4.ensures.1) at c.check_part-4.ensures in
    goes_on _ _ first c.in_ok-check_part.was
    (goes_on _ _ second c.in_ok-check_part-2.was
    (goes_on _ _ third c.in_ok-check_part-3.was
    (leaves _ _ fourth c.in_err-check_part-4.was c.from_residual-in_err-check_part-4.ensures)))

pub returns : goal.returns
unfolding block_rules
returns c =
    let first = rw (c.modulus_of-m.ensures, c.places.ensures.0, c.places.ensures.1) at c.check_part.ensures in
    let second = rw (c.modulus_of-m.ensures, c.places-2.ensures.0, c.places-2.ensures.1) at c.check_part-2.ensures in
    let third = rw (c.modulus_of-m.ensures, c.places-3.ensures.0, c.places-3.ensures.1) at c.check_part-3.ensures in
    let fourth = rw (c.modulus_of-m.ensures, c.places-4.ensures.0, c.places-4.ensures.1) at c.check_part-4.ensures in
    goes_on _ _ first c.in_ok-check_part.was
    (goes_on _ _ second c.in_ok-check_part-2.was
    (goes_on _ _ third c.in_ok-check_part-3.was
    (goes_on _ _ fourth c.in_ok-check_part-4.was (rw c.line_is_sealed.ensures at c.test.ensures))))
