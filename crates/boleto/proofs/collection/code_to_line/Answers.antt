-- `boleto::collection::code_to_line` meets its contract. Assumes nothing.
use Rattle.std.proofs.Common.{sym, ap, ◌∙◌}
use Rattle.answer.specs.Rules.{answer_alone}
use Rattle.answer.proofs.laws.Leaving.{room_found, leaves_input, leaves_room, has_written}
use Rattle.boleto.proofs.laws.CollectionAccepted.{code-of}
use Rattle.boleto.proofs.laws.CollectionConversions.{code_line_long}
use Rattle.boleto.proofs.collection.code_to_line.Goals as goal

pub returns-in_err-code : goal.returns-in_err-code
returns-in_err-code c = leaves_input c.right_code.ensures.answer (ap answer_alone c.in_err-code.was) c.from_residual.ensures

pub returns-in_err-room : goal.returns-in_err-room
returns-in_err-room c =
    leaves_room c.right_code.ensures.answer (ap answer_alone c.in_ok-code.was) c.room.ensures c.in_err-room.was c.from_residual-in_err-room.ensures

pub write_line-requires : goal.write_line-requires
write_line-requires c = room_found _ _ c.room.ensures c.in_ok-room.was

pub returns : goal.returns
returns c =
    let kept = ap answer_alone c.in_ok-code.was in
    has_written c.right_code.ensures.answer kept c.room.ensures c.in_ok-room.was
    (code_line_long _ (code-of _ (sym c.right_code.ensures.answer ∙ kept)).long) (rw c.in_ok-code.ensures.string at c.write_line.ensures)
