-- `boleto::barcode_to_line` meets its contract. Assumes nothing.
use Rattle.std.proofs.Common.{sym, ap, ◌∙◌}
use Rattle.answer.specs.Rules.{answer_alone}
use Rattle.answer.proofs.laws.Leaving.{room_found, leaves_input, leaves_room, has_written}
use Rattle.boleto.proofs.laws.Accepted.{barcode-of}
use Rattle.boleto.proofs.laws.Conversions.{line_long}
use Rattle.boleto.proofs.barcode_to_line.Goals as goal

pub returns-in_err-bar : goal.returns-in_err-bar
returns-in_err-bar c = leaves_input c.right_barcode.ensures.answer (ap answer_alone c.in_err-bar.was) c.from_residual.ensures

pub returns-in_err-room : goal.returns-in_err-room
returns-in_err-room c =
    leaves_room c.right_barcode.ensures.answer (ap answer_alone c.in_ok-bar.was) c.room.ensures c.in_err-room.was c.from_residual-in_err-room.ensures

pub write_line-requires : goal.write_line-requires
write_line-requires c = room_found _ _ c.room.ensures c.in_ok-room.was

pub returns : goal.returns
returns c =
    let kept = ap answer_alone c.in_ok-bar.was in
    has_written c.right_barcode.ensures.answer kept c.room.ensures c.in_ok-room.was
    (line_long _ (barcode-of _ (sym c.right_barcode.ensures.answer ∙ kept)).long) (rw c.in_ok-bar.ensures.string at c.write_line.ensures)
