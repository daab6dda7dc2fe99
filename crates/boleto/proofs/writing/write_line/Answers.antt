-- `boleto::writing::write_line` meets its contract: what its calls leave is the line. Assumes nothing.
use Rattle.boleto.proofs.Steps.{line_laid}
use Rattle.boleto.proofs.writing.write_line.Goals as goal

pub returns : goal.returns
returns c =
    let put1 = rw (c.places.ensures.0, c.places.ensures.1) at c.put.ensures in
    let put2 = rw (c.places-2.ensures.0, c.places-2.ensures.1) at c.put-2.ensures in
    let seal1 = rw (c.places-3.ensures.0, c.places-3.ensures.1) at c.seal.ensures in
    let put3 = rw (c.places-4.ensures.0, c.places-4.ensures.1) at c.put-3.ensures in
    let seal2 = rw (c.places-5.ensures.0, c.places-5.ensures.1) at c.seal-2.ensures in
    let put4 = rw (c.places-6.ensures.0, c.places-6.ensures.1) at c.put-4.ensures in
    let seal3 = rw (c.places-7.ensures.0, c.places-7.ensures.1) at c.seal-3.ensures in
    let put5 = rw (c.places-8.ensures.0, c.places-8.ensures.1) at c.put-5.ensures in
    rw (put5, seal3, put4, seal2, put3, seal1, put2, put1) (line_laid c.args.bar.now c.args.out.now c.told-bar c.requires)
