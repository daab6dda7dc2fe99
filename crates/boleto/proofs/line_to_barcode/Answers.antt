-- `boleto::line_to_barcode` meets its contract. Assumes nothing.
use Rattle.std.proofs.Common.{sym, ap, ◌∙◌}
use Rattle.answer.specs.Rules.{answer_alone}
use Rattle.answer.proofs.laws.Leaving.{room_found, leaves_input, leaves_room, has_written}
use Rattle.boleto.proofs.laws.Accepted.{line_of}
use Rattle.boleto.proofs.laws.Conversions.{barcode_long}
use Rattle.boleto.proofs.line_to_barcode.Goals as goal

pub returns-in_err-line : goal.returns-in_err-line
returns-in_err-line c = leaves_input c.right_line.ensures.answer (ap answer_alone c.in_err-line.was) c.from_residual.ensures

pub returns-in_err-room : goal.returns-in_err-room
returns-in_err-room c =
    leaves_room c.right_line.ensures.answer (ap answer_alone c.in_ok-line.was) c.room.ensures c.in_err-room.was c.from_residual-in_err-room.ensures

pub write_barcode-requires : goal.write_barcode-requires
write_barcode-requires c = room_found _ _ c.room.ensures c.in_ok-room.was

pub returns : goal.returns
returns c =
    let kept = ap answer_alone c.in_ok-line.was in
    has_written c.right_line.ensures.answer kept c.room.ensures c.in_ok-room.was
    (barcode_long _ (line_of _ (sym c.right_line.ensures.answer ∙ kept)).long) (rw c.in_ok-line.ensures.string at c.write_barcode.ensures)
