-- `boleto::writing::write_barcode` meets its contract: what its five calls leave is the barcode. Assumes nothing.
use Rattle.boleto.proofs.Steps.{barcode_laid}
use Rattle.boleto.proofs.writing.write_barcode.Goals as goal

pub returns : goal.returns
returns c =
    let put1 = rw (c.places.ensures.0, c.places.ensures.1) at c.put.ensures in
    let put2 = rw (c.places-2.ensures.0, c.places-2.ensures.1) at c.put-2.ensures in
    let put3 = rw (c.places-3.ensures.0, c.places-3.ensures.1) at c.put-3.ensures in
    let put4 = rw (c.places-4.ensures.0, c.places-4.ensures.1) at c.put-4.ensures in
    let put5 = rw (c.places-5.ensures.0, c.places-5.ensures.1) at c.put-5.ensures in
    rw (put5, put4, put3, put2, put1) (barcode_laid c.args.line.now c.args.out.now c.told-line c.requires)
