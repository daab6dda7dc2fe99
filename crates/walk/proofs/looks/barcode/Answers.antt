-- `walk::looks::barcode` meets its contract. Assumes nothing.
use mathlib.Core.Path.{◌∙◌}
use Rattle.answer.proofs.laws.Order.{one_then}
use Rattle.walk.proofs.looks.barcode.Goals as goal

pub returns : goal.returns
returns c =
    c.and.ensures
    ∙ rw (c.test-digits.ensures, c.all_digits.ensures)
    (one_then _ _ _ (c.test.ensures ∙ rw c.currency_fits-currency.ensures))
