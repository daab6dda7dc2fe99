-- `filling::fill_line` meets its contract. Assumes nothing.
use mathlib.Core.Path.{◌≡◌, refl, ◌∙◌}
use Rattle.fields.specs.Values.{set_nth}
use Rattle.fields.proofs.laws.Named.{by_name}
use Rattle.filling.specs.Filling.{bank_index, batch_index}
use Rattle.filling.proofs.fill_line.Goals as goal

pub returns : goal.returns
returns c =
    let a = c.args in
    let r = a.v.which in
    let one : c.with_number.result ≡ set_nth (bank_index r) a.bank a.v
    = c.with_number.ensures ∙ rw c.bank.ensures (by_name r a.v refl (bank_index r) a.bank) in
    c.with_number-2.ensures ∙ rw (c.batch_number.ensures, one) (by_name r (set_nth (bank_index r) a.bank a.v) refl (batch_index r) a.batch)
