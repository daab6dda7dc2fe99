-- `walk::walk::walk` meets its contract. The fields' loop: the answer for the fields from f on is that for all. The digits' loop: the digits
-- are i and those that the rest begins with. The content's loop: the rest is the same just if all is. Assumes nothing.
use mathlib.Core.Path.{◌≡◌, sym, ◌∙◌}
use mathlib.Core.Bool.{true, not, ◌&&◌}
use native.Mathlib.Omega.{arith}
use borrow.Author.Rules.{rules}
use borrow.Author.Tests.{not-true}
use Rattle.layout.specs.inner.Lent.{is_whole}
use Rattle.layout.proofs.laws.Bytes.{and_left, and_right, length_places}
use Rattle.layout.proofs.laws.Columns.{entry_stands}
use Rattle.walk.proofs.Rows.{digits_looked, content_looked, was_tested}
use Rattle.walk.proofs.Rounds.{digit_more, digit_wrong, digits_end, byte_more, byte_wrong, content_end, only_kept, only_broken, here_at, skip_at, finished}
use Rattle.walk.proofs.walk.walk.Goals as goal
use Rattle.walk.proofs.walk.walk.Goals.{in-Digits+else-loop-b-test, in-Fixed+else-loop-i-test, in-Tested-Ok}

pub loop-f-preserved-then-masked-is_whole : goal.loop-f-preserved-then-masked-is_whole
loop-f-preserved-then-masked-is_whole c =
    let t : c.args.masked && not (is_whole c.field_at-e.result.kind) ≡ true = rw c.is_whole.ensures at c.if-masked-is_whole.true in
    let s = entry_stands c.field_at-e.result c.field_at-e.ensures.field (search rules) in
    let kept =
    skip_at _ _ _ _ c.requires.known (and_left c.args.masked _ t) (search rules) (search rules) s (not-true _ (and_right c.args.masked _ t)) in
    (here_at _ _ _ _ (search rules) c.requires.in_table s).good kept ∙ c.loop-f.invariant

pub overflow_sub-part : goal.overflow_sub-part
overflow_sub-part c = let s = entry_stands c.field_at-e.result c.field_at-e.ensures.field (search rules) in omega (arith, s.low)

pub slice_bounds-part-count : goal.slice_bounds-part-count
slice_bounds-part-count c = let s = entry_stands c.field_at-e.result c.field_at-e.ensures.field (search rules) in omega (arith, s.low, s.order, s.high)

pub slice_bounds-part-start : goal.slice_bounds-part-start
slice_bounds-part-start c = let s = entry_stands c.field_at-e.result c.field_at-e.ensures.field (search rules) in omega (arith, s.low, s.order, s.high)

pub slice_bounds-part-end : goal.slice_bounds-part-end
slice_bounds-part-end c = let s = entry_stands c.field_at-e.result c.field_at-e.ensures.field (search rules) in omega (arith, s.low, s.order, s.high)

pub look_at-requires-clause-holds : goal.look_at-requires-clause-holds
look_at-requires-clause-holds c =
    let s = entry_stands c.field_at-e.result c.field_at-e.ensures.field (search rules) in
    rw (length_places c.field_at-e.result.from c.field_at-e.result.to c.args.rec.now (omega (arith, s.high, c.type_inv.rec))) s.may

pub look_at-requires-clause-in_record : goal.look_at-requires-clause-in_record
look_at-requires-clause-in_record c = let s = entry_stands c.field_at-e.result c.field_at-e.ensures.field (search rules) in omega (arith, s.order, s.high)

pub loop-b-preserved : goal.loop-b-preserved
loop-b-preserved c = digit_more _ _ c.loop-b.invariant c.loop-b-test.true c.if-not-is_digit.false-raw

pub loop-i-preserved : goal.loop-i-preserved
loop-i-preserved c = byte_more c.loop-i.invariant c.byte_at.ensures c.loop-i-test.true c.if-b-byte_at.false

pub loop-f-preserved : goal.loop-f-preserved
loop-f-preserved c =
    let look = c.look_at.ensures in
    (here_at _ _ _ _ (search rules) c.requires.in_table (entry_stands c.field_at-e.result c.field_at-e.ensures.field (search rules))).good
    (elim c.match-look_at.branch [
      | in-Digits+else-loop-b-test w ↦ only_kept (digits_looked look w.in-Digits.is) (digits_end _ _ w.loop-b.invariant (search rules) w.loop-b-test.false)
      | in-Fixed+else-loop-i-test w ↦ only_kept (content_looked look w.in-Fixed.is) (content_end w.loop-i.invariant w.loop-i-test.false)
      | in-Tested-Ok w ↦ sym (was_tested look w.in-Tested-Ok.is) ∙ w.in-Tested-Ok.field-0-is
    ])
    ∙ c.loop-f.invariant

pub returns-then-not-is_digit : goal.returns-then-not-is_digit
returns-then-not-is_digit c =
    let wrong = digit_wrong _ _ c.loop-b.invariant c.loop-b-test.true c.if-not-is_digit.true-raw in
    c.refused.ensures ∙ (here_at _ _ _ _ (search rules) c.requires.in_table (entry_stands c.field_at-e.result c.field_at-e.ensures.field (search rules))).bad (only_broken (digits_looked c.look_at.ensures c.in-Digits.is) wrong) ∙ c.loop-f.invariant

pub returns-then-b-byte_at : goal.returns-then-b-byte_at
returns-then-b-byte_at c =
    let wrong = byte_wrong c.loop-i.invariant c.byte_at.ensures c.loop-i-test.true c.if-b-byte_at.true in
    c.refused-then-b-byte_at.ensures ∙ (here_at _ _ _ _ (search rules) c.requires.in_table (entry_stands c.field_at-e.result c.field_at-e.ensures.field (search rules))).bad (only_broken (content_looked c.look_at.ensures c.in-Fixed.is) wrong) ∙ c.loop-f.invariant

pub returns-in-Tested-Err : goal.returns-in-Tested-Err
returns-in-Tested-Err c =
    let t = c.in-Tested-Err in
    let told = sym t.field-0-is ∙ was_tested c.look_at.ensures t.is in
    rw t.refusal-is ((here_at _ _ _ _ (search rules) c.requires.in_table (entry_stands c.field_at-e.result c.field_at-e.ensures.field (search rules))).bad told ∙ c.loop-f.invariant)

pub returns-after-loop-f : goal.returns-after-loop-f
returns-after-loop-f c = finished _ _ _ _ (search rules) (search rules) ∙ c.loop-f.invariant
