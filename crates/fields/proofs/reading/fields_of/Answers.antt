-- `fields::reading::fields_of` meets its contract: storing the rest from here gives what storing all gives. Assumes nothing.
use mathlib.Core.Path.{◌≡◌, sym, ◌∙◌}
use native.Mathlib.Omega.{arith}
use lib.ListN.{length-set}
use lib.Seq.{slice}
use Rattle.std.specs.Prelude.{Some}
use Rattle.layout.specs.Table.{fields_of, all}
use Rattle.layout.proofs.laws.Columns.{fields_there, first_is, past_is, in_order, in_table}
use Rattle.fields.specs.Values.{fields_in}
use Rattle.fields.proofs.laws.Parts.{few, narrow}
use Rattle.fields.proofs.Store.{store_more, store_end, store_record}
use Rattle.fields.proofs.reading.fields_of.Goals as goal

pub field_at-e-requires : goal.field_at-e-requires
field_at-e-requires c = omega (arith, c.loop-f-test.true, in_table _ c.span_of-s.ensures)

pub offset_bounds-numbers-f : goal.offset_bounds-numbers-f
offset_bounds-numbers-f c = omega (arith, c.loop-f-test.true, narrow _ c.span_of-s.ensures)

pub bounds-numbers-f : goal.bounds-numbers-f
bounds-numbers-f c = omega (arith, c.loop-f-test.true, narrow _ c.span_of-s.ensures)

pub loop-f-preserved : goal.loop-f-preserved
loop-f-preserved c =
    let l = c.loop-f in (
      simp length-set l.invariant.0,
      store_more _ _ _ _ _ l.auto.f c.loop-f-test.true (in_table _ c.span_of-s.ensures) c.field_at-e.ensures c.number_in.ensures ∙ l.invariant.1,
    )

pub returns : goal.returns
unfolding fields_in
returns c =
    let l = c.loop-f in
    let e = c.span_of-s.ensures in
    let r = c.args.which in
    let s = c.span_of-s.result in
    let there : slice s.first s.past all ≡ fields_of r = rw (first_is r e, past_is r e) (fields_there r) in
    let end = l.auto.f-end (in_order _ e) in
    rw (
      sym (store_end _ _ _ _ l.numbers end c.loop-f-test.false) ∙ l.invariant.1 ∙ store_record _ r _ (Some 0) there (few r),
      c.copy_from_slice.ensures.after,
    )
