-- `filling::fill` meets its contract. Assumes nothing.
use Rattle.filling.specs.Filling.{batch_index, filled_by, filled}
use mathlib.Core.Path.{◌≡◌, refl, sym, ap, ◌∙◌}
use borrow.Author.Rules.{rules}
use Rattle.layout.specs.Records.{shape_of}
use Rattle.layout.proofs.laws.Records.{the-only}
use Rattle.layout.specs.declared.Record.{Record}
use Rattle.layout.specs.declared.shapes.Shape.{Shape}
use Rattle.layout.specs.declared.shapes.LineType.{LineType}
use Rattle.layout.specs.declared.shapes.LineType.TheVariants.{BatchLast, FileLast}
use Rattle.fields.specs.declared.Fields.{Fields}
use Rattle.checker.specs.declared.Checker.{Checker}
use mathlib.Core.Bool.{true, cond}
use Rattle.checker.specs.Machine.{sound}
use Rattle.checker.proofs.laws.Bounds.{bounded}
use Rattle.fields.specs.Values.{set_nth}
use Rattle.fields.proofs.laws.Named.{by_name}
use Rattle.checker.specs.Line.{header_batch}
use Rattle.filling.proofs.fill.Goals as goal

line_told : (r : Record) {x : Shape} {t : LineType} → x ≡ shape_of r → x.line ≡ t → (shape_of r).line ≡ t
line_told r e q = sym (ap (λ (x : Shape). x.line) e) ∙ q

-- as the record's line is filled, in a sound state
as_type : (r : Record) (s : Checker) (v : Fields) {x : Shape} {t : LineType} → sound s ≡ true → x ≡ shape_of r → x.line ≡ t → filled_by t r s v ≡ cond (sound s) (filled r s v) v
unfolding filled
as_type r s v ok e q = rw ok (ap (λ (t : LineType). filled_by t r s v) (sym (line_told r e q)))

pub fill_in_batch-requires : goal.fill_in_batch-requires
fill_in_batch-requires c = bounded _ (search rules)

pub fill_detail-requires : goal.fill_detail-requires
fill_detail-requires c = bounded _ (search rules)

pub fill_batch_trailer-requires : goal.fill_batch_trailer-requires
fill_batch_trailer-requires c =
    record { bounded = bounded _ (search rules); which_value = sym (the-only c.args.v.which BatchLast (line_told c.args.v.which c.shape_of.ensures c.in-BatchLast.is) refl) }

pub fill_file_trailer-requires : goal.fill_file_trailer-requires
fill_file_trailer-requires c =
    record { bounded = bounded _ (search rules); which_value = sym (the-only c.args.v.which FileLast (line_told c.args.v.which c.shape_of.ensures c.in-FileLast.is) refl) }

pub returns-in-FileFirst : goal.returns-in-FileFirst
returns-in-FileFirst c =
    let a = c.args in
    let r = a.v.which in
    let one : c.with_number.result ≡ set_nth (batch_index r) header_batch a.v
    = c.with_number.ensures ∙ rw c.batch_number.ensures (by_name r a.v refl (batch_index r) header_batch) in
    one ∙ as_type r a.m a.v (search rules) c.shape_of.ensures c.in-FileFirst.is

pub returns-in-BatchFirst : goal.returns-in-BatchFirst
returns-in-BatchFirst c = c.fill_in_batch.ensures ∙ as_type c.args.v.which c.args.m c.args.v (search rules) c.shape_of.ensures c.in-BatchFirst.is

pub returns-in-Detail : goal.returns-in-Detail
returns-in-Detail c = c.fill_detail.ensures ∙ as_type c.args.v.which c.args.m c.args.v (search rules) c.shape_of.ensures c.in-Detail.is

pub returns-in-BatchLast : goal.returns-in-BatchLast
returns-in-BatchLast c = c.fill_batch_trailer.ensures ∙ as_type c.args.v.which c.args.m c.args.v (search rules) c.shape_of.ensures c.in-BatchLast.is

pub returns-in-FileLast : goal.returns-in-FileLast
returns-in-FileLast c = c.fill_file_trailer.ensures ∙ as_type c.args.v.which c.args.m c.args.v (search rules) c.shape_of.ensures c.in-FileLast.is
