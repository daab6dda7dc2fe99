-- `walk::walk::Checked::check_marks` meets its contract. Assumes nothing.
use mathlib.Core.Path.{◌≡◌, sym, ap, ◌∙◌}
use mathlib.Core.Bool.{true, false}
use lib.Seq.{slice}
use Rattle.layout.specs.Table.{fields_of, segment_fields}
use Rattle.layout.specs.Records.{is_detail, shape_of}
use Rattle.layout.specs.declared.shapes.Shape.{Shape}
use Rattle.walk.proofs.Rounds.{type_alone, type_then}
use Rattle.walk.proofs.walk.Checked.check_marks.Goals as goal

pub returns-then-not-is_detail : goal.returns-then-not-is_detail
unfolding fields_of
returns-then-not-is_detail c =
    let r = c.args.self.which in
    let no : is_detail (shape_of r).line ≡ false = sym (c.if-not-is_detail.ensures ∙ ap (λ (x : Shape). is_detail x.line) c.shape_of.ensures) in
    c.check_fields-type_fits.ensures ∙ type_alone r _ _ no

pub returns : goal.returns
unfolding fields_of
returns c =
    let r = c.args.self.which in
    let some : is_detail (shape_of r).line ≡ true = sym (c.if-not-is_detail.ensures ∙ ap (λ (x : Shape). is_detail x.line) c.shape_of.ensures) in
    let fifth : slice 4 5 (fields_of r) ≡ segment_fields r = rw some in
    c.and.ensures ∙ rw (c.check_fields-type_fits.ensures, c.check_fields.ensures, fifth) (type_then r _ _)
