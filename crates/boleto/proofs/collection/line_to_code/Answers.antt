-- `boleto::collection::line_to_code` meets its contract. Assumes nothing.
use Rattle.std.proofs.Common.{sym, ap, ◌∙◌}
use Rattle.answer.specs.Rules.{answer_alone}
use Rattle.answer.proofs.laws.Leaving.{room_found, leaves_input, leaves_room, has_written}
use Rattle.boleto.proofs.laws.CollectionAccepted.{code-line-of}
use Rattle.boleto.proofs.laws.CollectionConversions.{code_long}
use Rattle.boleto.proofs.collection.line_to_code.Goals as goal

pub returns-in_err-line : goal.returns-in_err-line
returns-in_err-line c = leaves_input c.right_line.ensures.answer (ap answer_alone c.in_err-line.was) c.from_residual.ensures

pub returns-in_err-room : goal.returns-in_err-room
returns-in_err-room c =
    leaves_room c.right_line.ensures.answer (ap answer_alone c.in_ok-line.was) c.room.ensures c.in_err-room.was c.from_residual-in_err-room.ensures

pub write_code-requires : goal.write_code-requires
write_code-requires c = room_found _ _ c.room.ensures c.in_ok-room.was

pub returns : goal.returns
returns c =
    let kept = ap answer_alone c.in_ok-line.was in
    has_written c.right_line.ensures.answer kept c.room.ensures c.in_ok-room.was
    (code_long _ (code-line-of _ (sym c.right_line.ensures.answer ∙ kept)).long) (rw c.in_ok-line.ensures.string at c.write_code.ensures)
