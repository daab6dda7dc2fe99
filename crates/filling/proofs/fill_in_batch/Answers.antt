-- `filling::fill_in_batch` meets its contract. Assumes nothing.
use native.Mathlib.Omega.{arith}
use Rattle.filling.proofs.fill_in_batch.Goals as goal

pub overflow_add-batches : goal.overflow_add-batches
overflow_add-batches c = let b = c.requires in rw (c.batches.ensures, c.closed.ensures) (omega arith)

pub returns : goal.returns
returns c = rw (c.fill_line.ensures, c.batches.ensures, c.closed.ensures, c.bank.ensures)
