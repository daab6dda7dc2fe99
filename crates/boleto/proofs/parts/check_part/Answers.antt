-- `boleto::parts::check_part` meets its contract. The check finds this alone; where it stands, another place of the refusal fails
-- here, before the computed examples. Assumes nothing.
use Rattle.boleto.proofs.parts.check_part.Goals as goal

pub returns : goal.returns
returns c = rw (c.test.ensures, c.is_sealed-sealed.ensures, c.of.ensures)
