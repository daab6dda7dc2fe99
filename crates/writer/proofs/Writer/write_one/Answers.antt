-- `writer::Writer::write_one` meets its contract: the turn, the record, the room. Assumes nothing.
use Prim.Native.Nat.{◌+◌}
use Prim.Native.Nat.{ℕ}
use Rattle.answer.proofs.laws.Order.{stopped}
use Rattle.writer.proofs.Answering.{refuses, accepts, has_room, behind_records}
use Rattle.writer.proofs.Lent.{whole, lent}
use Rattle.writer.proofs.Trying.{line_made}
use Rattle.writer.specs.Outcome.{behind_all, lines_for}
use Rattle.writer.specs.inner.Steps.{line_with}
use lib.ListN.{length-drop}
use lib.ListN.{take, drop}
use mathlib.Core.List.{List, ◌++◌, flatten}
use mathlib.Core.List.{[], append-nil}
use mathlib.Core.Path.{sym, ap, ◌∙◌}
use mathlib.Core.Path.{refl}
use native.Mathlib.Omega.{arith}
use Rattle.writer.proofs.Writer.write_one.Goals as goal

pub returns-in_err-tried : goal.returns-in_err-tried
returns-in_err-tried c =
    refuses _ _ _ (sym c.check_turn.ensures ∙ c.in_ok-check_turn.was) _ (stopped _ _ _ (sym c.in_err-tried.ensures.answered)) c.from_residual-in_err-tried.ensures

pub returns-in_err-on_line : goal.returns-in_err-on_line
returns-in_err-on_line c =
    let e = behind_records _ _ _ (c.requires (sym c.check_turn.ensures ∙ c.in_ok-check_turn.was)).is_sound c.in_ok-tried.ensures.answered c.on_line.ensures c.next_line.ensures c.room.ensures in
    refuses _ _ _ (sym c.check_turn.ensures ∙ c.in_ok-check_turn.was) _ (sym c.in_err-on_line.was ∙ e) c.from_residual-in_err-on_line.ensures

pub slice_bounds-put_line-count : goal.slice_bounds-put_line-count
slice_bounds-put_line-count c =
    let e = behind_records _ _ _ (c.requires (sym c.check_turn.ensures ∙ c.in_ok-check_turn.was)).is_sound c.in_ok-tried.ensures.answered c.on_line.ensures c.next_line.ensures c.room.ensures in
    omega (arith, has_room _ [] _ _ _ (sym e ∙ c.in_ok-on_line.was))

pub slice_bounds-put_line-start : goal.slice_bounds-put_line-start
slice_bounds-put_line-start c =
    let e = behind_records _ _ _ (c.requires (sym c.check_turn.ensures ∙ c.in_ok-check_turn.was)).is_sound c.in_ok-tried.ensures.answered c.on_line.ensures c.next_line.ensures c.room.ensures in
    omega (arith, has_room _ [] _ _ _ (sym e ∙ c.in_ok-on_line.was))

pub put_line-requires-clause-line_bytes_in_bounds : goal.put_line-requires-clause-line_bytes_in_bounds
put_line-requires-clause-line_bytes_in_bounds c =
    let a = c.args in
    let e = behind_records _ _ _ (c.requires (sym c.check_turn.ensures ∙ c.in_ok-check_turn.was)).is_sound c.in_ok-tried.ensures.answered c.on_line.ensures c.next_line.ensures c.room.ensures in
    let fits = has_room _ [] _ _ _ (sym e ∙ c.in_ok-on_line.was) in
    rw (whole a.self.cursor a.out.now (omega arith), length-drop) (omega arith)

pub overflow_add-result : goal.overflow_add-result
overflow_add-result c =
    let e = behind_records _ _ _ (c.requires (sym c.check_turn.ensures ∙ c.in_ok-check_turn.was)).is_sound c.in_ok-tried.ensures.answered c.on_line.ensures c.next_line.ensures c.room.ensures in
    omega (arith, has_room _ [] _ _ _ (sym e ∙ c.in_ok-on_line.was), c.well_formed.1.1.1.0.0)

pub returns : goal.returns
unfolding lines_for behind_all flatten
returns c =
    let a = c.args in
    let out = a.out.now in
    let tried = c.in_ok-tried.ensures in
    let e = behind_records _ _ _ (c.requires (sym c.check_turn.ensures ∙ c.in_ok-check_turn.was)).is_sound tried.answered c.on_line.ensures c.next_line.ensures c.room.ensures in
    let fits = has_room _ [] _ _ _ (sym e ∙ c.in_ok-on_line.was) in
    accepts _ _ _ (sym c.check_turn.ensures ∙ c.in_ok-check_turn.was) (sym c.in_ok-on_line.was ∙ e) tried.makes.moved refl
    (lent a.self.cursor out (omega arith) 242 (line_with c.in_ok-tried.tried.made) _ c.put_line.ensures
    ∙ ap (λ (l : List ℕ). take a.self.cursor out ++ (l ++ drop (a.self.cursor + 242) out)) (line_made a.self.checker a.v tried.makes.made ∙ sym (append-nil _)))
