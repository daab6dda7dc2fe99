-- `fields::writing::render` meets its contract: putting the rest from here gives what putting all gives. Assumes nothing.
use Rattle.std.specs.Prelude.{ℕ}
use mathlib.Core.Path.{sym, ◌∙◌}
use native.Mathlib.Omega.{arith}
use borrow.Author.Rules.{rules}
use Rattle.layout.proofs.laws.Columns.{fields_there, first_is, past_is, in_order, in_table}
use Rattle.fields.specs.Values.{nth, record_of}
use Rattle.fields.proofs.laws.Parts.{narrow}
use Rattle.fields.proofs.Put.{put_more, put_end, put_record}
use Rattle.fields.proofs.writing.render.Goals as goal

pub field_at-e-requires : goal.field_at-e-requires
field_at-e-requires c = omega (arith, c.loop-f-test.true, in_table _ c.span_of-s.ensures)

pub offset_bounds-v-f : goal.offset_bounds-v-f
offset_bounds-v-f c = omega (arith, c.loop-f-test.true, narrow _ c.span_of-s.ensures)

pub bounds-v-f : goal.bounds-v-f
bounds-v-f c = omega (arith, c.loop-f-test.true, narrow _ c.span_of-s.ensures)

pub loop-f-preserved : goal.loop-f-preserved
loop-f-preserved c =
    let l = c.loop-f in
    let v = c.args.v.now in
    put_more _ _ _ (λ (j : ℕ). nth j v) v.text l.out _ l.auto.f c.loop-f-test.true (in_table _ c.span_of-s.ensures) c.field_at-e.ensures c.write_field.ensures ∙ l.invariant

pub returns : goal.returns
unfolding record_of
returns c =
    let l = c.loop-f in
    let e = c.span_of-s.ensures in
    let v = c.args.v.now in
    let end = l.auto.f-end (in_order _ e) in
    sym (put_end _ _ _ _ _ l.out end c.loop-f-test.false) ∙ l.invariant ∙ put_record v (search rules) v.which _ _ (rw (first_is v.which e, past_is v.which e) (fields_there v.which)) c.requires
