-- `writer::Writer::write_payment` meets its contract: the turn, the records, the sum, the room. Assumes nothing.
use Prim.Native.Nat.{◌+◌}
use Prim.Native.Nat.{ℕ}
use Rattle.answer.proofs.laws.Order.{ahead, stopped}
use Rattle.writer.proofs.Answering.{refuses, accepts, has_room, behind_records}
use Rattle.writer.proofs.Held.{held_sound}
use Rattle.writer.proofs.Lent.{whole, lent}
use Rattle.writer.specs.Given.{records_in}
use Rattle.writer.specs.Refusals.{sum_rule, size}
use Rattle.writer.specs.inner.Steps.{lines_with}
use lib.ListN.{length, length-drop, length-take}
use lib.ListN.{take, drop}
use mathlib.Core.List.{List, ◌++◌, flatten}
use mathlib.Core.List.{[], ◌∷◌}
use mathlib.Core.Path.{◌≡◌, sym, ap₂, ◌∙◌}
use native.Mathlib.Omega.{arith}
use Rattle.writer.proofs.Writer.write_payment.Goals as goal

pub returns-in_err-tried : goal.returns-in_err-tried
returns-in_err-tried c =
    refuses _ _ _ (sym c.check_turn.ensures ∙ c.in_ok-check_turn.was) _ (stopped _ _ _ (sym c.in_err-tried.ensures.answered)) c.from_residual-in_err-tried.ensures

pub check_sum-requires : goal.check_sum-requires
check_sum-requires c = held_sound _ (c.requires (sym c.check_turn.ensures ∙ c.in_ok-check_turn.was)).is_held

pub slice_bounds-put_payment-count : goal.slice_bounds-put_payment-count
slice_bounds-put_payment-count c =
    let e = behind_records _ _ _ (held_sound _ (c.requires (sym c.check_turn.ensures ∙ c.in_ok-check_turn.was)).is_held) c.in_ok-tried.ensures.answered c.on_line.ensures c.next_line.ensures
    (ahead c.and-last.ensures _ _ c.check_sum.ensures (rw c.records-count.ensures.0 at c.room.ensures)) in
    omega (arith, has_room _ (sum_rule c.args.self.checker c.args.p ∷ []) _ _ _ (sym e ∙ c.in_ok-on_line.was))

pub slice_bounds-put_payment-start : goal.slice_bounds-put_payment-start
slice_bounds-put_payment-start c =
    let e = behind_records _ _ _ (held_sound _ (c.requires (sym c.check_turn.ensures ∙ c.in_ok-check_turn.was)).is_held) c.in_ok-tried.ensures.answered c.on_line.ensures c.next_line.ensures
    (ahead c.and-last.ensures _ _ c.check_sum.ensures (rw c.records-count.ensures.0 at c.room.ensures)) in
    omega (arith, has_room _ (sum_rule c.args.self.checker c.args.p ∷ []) _ _ _ (sym e ∙ c.in_ok-on_line.was))

pub put_payment-requires-clause-room : goal.put_payment-requires-clause-room
put_payment-requires-clause-room c =
    let a = c.args in
    let e = behind_records _ _ _ (held_sound _ (c.requires (sym c.check_turn.ensures ∙ c.in_ok-check_turn.was)).is_held) c.in_ok-tried.ensures.answered c.on_line.ensures c.next_line.ensures
    (ahead c.and-last.ensures _ _ c.check_sum.ensures (rw c.records-count.ensures.0 at c.room.ensures)) in
    let fits = has_room _ (sum_rule a.self.checker a.p ∷ []) _ _ _ (sym e ∙ c.in_ok-on_line.was) in
    let count = c.records-count.ensures in
    rw (whole a.self.cursor a.out.now (omega arith), length-drop) (omega (arith, length-take c.records-count.result c.in_ok-tried.tried.made))

pub overflow_add-result : goal.overflow_add-result
overflow_add-result c =
    let e = behind_records _ _ _ (held_sound _ (c.requires (sym c.check_turn.ensures ∙ c.in_ok-check_turn.was)).is_held) c.in_ok-tried.ensures.answered c.on_line.ensures c.next_line.ensures
    (ahead c.and-last.ensures _ _ c.check_sum.ensures (rw c.records-count.ensures.0 at c.room.ensures)) in
    rw c.records-count.ensures.0 (omega (arith, has_room _ (sum_rule c.args.self.checker c.args.p ∷ []) _ _ _ (sym e ∙ c.in_ok-on_line.was), c.well_formed.1.1.1.0.0))

pub returns-in_err-on_line : goal.returns-in_err-on_line
returns-in_err-on_line c =
    let e = behind_records _ _ _ (held_sound _ (c.requires (sym c.check_turn.ensures ∙ c.in_ok-check_turn.was)).is_held) c.in_ok-tried.ensures.answered c.on_line.ensures c.next_line.ensures
    (ahead c.and-last.ensures _ _ c.check_sum.ensures (rw c.records-count.ensures.0 at c.room.ensures)) in
    refuses _ _ _ (sym c.check_turn.ensures ∙ c.in_ok-check_turn.was) _ (sym c.in_err-on_line.was ∙ e) c.from_residual-in_err-on_line.ensures

pub returns : goal.returns
returns c =
    let a = c.args in
    let out = a.out.now in
    let n = length (records_in a.p) in
    let e = behind_records _ _ _ (held_sound _ (c.requires (sym c.check_turn.ensures ∙ c.in_ok-check_turn.was)).is_held) c.in_ok-tried.ensures.answered c.on_line.ensures c.next_line.ensures
    (ahead c.and-last.ensures _ _ c.check_sum.ensures (rw c.records-count.ensures.0 at c.room.ensures)) in
    let told = sym e ∙ c.in_ok-on_line.was in
    let fits = has_room _ (sum_rule c.args.self.checker c.args.p ∷ []) _ _ _ told in
    let count = c.records-count.ensures in
    let made = c.in_ok-tried.ensures.makes in
    let put = take n c.in_ok-tried.tried.made in
    let long : length put ≡ n = omega (arith, length-take n c.in_ok-tried.tried.made, made.places) in
    accepts _ _ _ (sym c.check_turn.ensures ∙ c.in_ok-check_turn.was) (sym c.in_ok-on_line.was ∙ e) made.moved (rw count.0)
    (lent a.self.cursor out (omega arith) (size (length put)) (flatten (lines_with put)) _ (rw count.0 at c.put_payment.ensures)
    ∙ ap₂ (λ (l : List (List ℕ)) (k : ℕ). take a.self.cursor out ++ (flatten l ++ drop (a.self.cursor + size k) out)) made.made long)
