-- `boleto::collection::write_code` meets its contract: what its four calls leave is the code. Assumes nothing.
use native.Mathlib.Omega.{arith}
use Rattle.boleto.proofs.Steps.{code_laid}
use Rattle.boleto.proofs.collection.write_code.Goals as goal

pub returns : goal.returns
returns c =
    let put1 = rw (c.places.ensures.0, c.places.ensures.1) at c.put.ensures in
    let put2 = rw (c.places-2.ensures.0, c.places-2.ensures.1) at c.put-2.ensures in
    let put3 = rw (c.places-3.ensures.0, c.places-3.ensures.1) at c.put-3.ensures in
    let put4 = rw (c.places-4.ensures.0, c.places-4.ensures.1) at c.put-4.ensures in
    rw (put4, put3, put2, put1) (code_laid c.args.line.now c.args.out.now (omega (arith, c.told-line)) c.requires)
