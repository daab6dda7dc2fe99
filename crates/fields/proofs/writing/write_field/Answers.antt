-- `fields::writing::write_field` meets its contract. Assumes nothing.
use mathlib.Core.Path.{sym, ap, ◌∙◌}
use Rattle.layout.specs.Kinds.{Held}
use Rattle.layout.proofs.laws.Bytes.{over_all}
use Rattle.fields.specs.Values.{rendered}
use Rattle.fields.proofs.Fills.{as_number, as_text, as-fixed}
use Rattle.fields.proofs.writing.write_field.Goals as goal

pub returns-in-Number : goal.returns-in-Number
returns-in-Number c =
    rw ((as_number c.args.k c.fill_of.ensures c.in-Number.is).held, c.requires.0) c.write_given.ensures

pub returns-in-Text : goal.returns-in-Text
returns-in-Text c =
    rw (as_text c.args.k c.fill_of.ensures c.in-Text.is) (c.copy.ensures ∙ over_all _ _ c.requires.0)

pub returns-in-Fixed : goal.returns-in-Fixed
returns-in-Fixed c =
    let h = as-fixed c.args.k c.fill_of.ensures c.in-Fixed.is in
    c.write.ensures
    ∙ h.is _ c.requires.1
    ∙ ap h.content (sym c.requires.0)
    ∙ ap (λ (x : Held). rendered x c.args.m c.args.text.now) (sym h.held)
