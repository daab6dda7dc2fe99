-- `checker::Checker::behind` meets its contract. Assumes nothing.
use Rattle.std.proofs.Common.{sym, ◌∙◌}
use Rattle.checker.proofs.Front.{front_refused, type_refused, record_refused, accepted}
use Rattle.checker.proofs.Checker.behind.Goals as goal

pub returns-in_err-rec : goal.returns-in_err-rec
returns-in_err-rec c = front_refused _ _ _ c.check_front.ensures.answer c.in_err-rec.was c.from_residual.ensures

pub returns-in_err-which : goal.returns-in_err-which
returns-in_err-which c =
    let none = c.in_err-which.ensures.ok_part in
    type_refused _ _ c.check_front.ensures.answer c.in_ok-rec.was _ (rw c.in_ok-rec.ensures.record at (sym c.line_is.ensures ∙ none)) (let given = rw none at c.in_err-which.ensures.value in cc (given, c.at.ensures)) c.from_residual-in_err-which.ensures

pub returns-in_err-check_as : goal.returns-in_err-check_as
returns-in_err-check_as c =
    let read = c.of-reading.ensures in
    record_refused _ _ c.check_front.ensures.answer c.in_ok-rec.was (rw c.in_ok-rec.ensures.record at (sym c.line_is.ensures ∙ c.in_ok-which.ensures.ok_part)) _
    (rw (read.record, read.bytes, c.in_ok-rec.ensures.record) at c.check_as.ensures) c.in_err-check_as.was c.from_residual-in_err-check_as.ensures

pub returns : goal.returns
returns c =
    let read = c.of-reading.ensures in
    rw (c.after.ensures, read.record, read.bytes, c.in_ok-rec.ensures.record)
    (accepted _ _ c.check_front.ensures.answer c.in_ok-rec.was (rw c.in_ok-rec.ensures.record at (sym c.line_is.ensures ∙ c.in_ok-which.ensures.ok_part))
    (rw (read.record, read.bytes, c.in_ok-rec.ensures.record) at c.check_as.ensures) c.in_ok-check_as.was)
