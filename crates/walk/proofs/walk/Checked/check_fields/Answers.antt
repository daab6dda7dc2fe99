-- `walk::walk::Checked::check_fields` meets its contract. Assumes nothing.
use mathlib.Core.Path.{◌≡◌, ◌∙◌}
use Prim.Native.Nat.{min}
use native.Mathlib.Omega.{arith}
use lib.ListN.{length}
use Rattle.answer.proofs.laws.Order.{done}
use Rattle.layout.specs.Table.{fields_of}
use Rattle.layout.specs.Record.{rules_of}
use Rattle.layout.proofs.laws.Columns.{first_is, in_order, in_table, many_is, some_fields, no_fields_left}
use Rattle.walk.proofs.walk.Checked.check_fields.Goals as goal

pub overflow_sub-s : goal.overflow_sub-s
overflow_sub-s c = in_order _ c.span_of-s.ensures

pub overflow_add-s : goal.overflow_add-s
overflow_add-s c =
    let s = c.span_of-s.ensures in
    let h = in_table _ s in
    let m = many_is _ s in
    let e = c.min-end.ensures in
    omega arith

pub overflow_add-s-2 : goal.overflow_add-s-2
overflow_add-s-2 c =
    let s = c.span_of-s.ensures in
    let h = in_table _ s in
    let e = c.min-end.ensures in
    omega arith

pub walk-requires : goal.walk-requires
walk-requires c =
    let a = c.args in
    let s = c.span_of-s.ensures in
    let h = in_table _ s in
    let o = in_order _ s in
    let n = first_is _ s in
    let m = many_is _ s in
    let e = c.min-end.ensures in
    record { in_order = omega arith; in_table = omega arith; known = record { each = λ t g l u. a.self.known.each t g (omega arith) (omega arith) } }

pub returns-then-end-first : goal.returns-then-end-first
unfolding rules_of
returns-then-end-first c =
    let e : c.min-end.result ≡ min c.args.past (length (fields_of c.args.self.which)) = c.min-end.ensures ∙ rw (many_is _ c.span_of-s.ensures) in
    rw (no_fields_left _ _ _ _ e c.if-end-first.true) done

pub returns : goal.returns
returns c =
    let e : c.min-end.result ≡ min c.args.past (length (fields_of c.args.self.which)) = c.min-end.ensures ∙ rw (many_is _ c.span_of-s.ensures) in
    c.walk.ensures ∙ rw (first_is _ c.span_of-s.ensures, some_fields c.args.self.which _ _ _ e)
