-- `writer::records::try_record` meets its contract: its own check, then the checker's step. Assumes nothing.
use mathlib.Core.Path.{◌≡◌, ◌∙◌, sym}
use borrow.Author.Rules.{rules}
use Rattle.std.specs.Prelude.{Ok}
use Rattle.checker.proofs.laws.Meaning.{off_line_accepted}
use Rattle.filling.specs.Filling.{filled}
use Rattle.fields.specs.Values.{Whole}
use Rattle.writer.proofs.Trying.{made_filled, checked_filled, tried_refused, step_refused, step_accepted}
use Rattle.writer.proofs.records.try_record.Goals as goal

pub returns-in_err-on_line : goal.returns-in_err-on_line
returns-in_err-on_line c =
    let a = c.args in
    let full : Whole a.v = record { numbers = search rules; text = search rules } in
    let fields : c.fill-fields.result ≡ filled a.v.which a.m a.v = c.fill-fields.ensures ∙ rw c.requires.is_sound in
    let made = made_filled a.m a.v fields c.direction.ensures c.make_record-made.ensures in
    let right = checked_filled a.expected a.m a.v c.make_record-made.result fields c.check.ensures in
    tried_refused a.expected a.m a.v full made right c.requires.is_sound c.next_line.ensures c.on_line.ensures c.in_err-on_line.was c.from_residual.ensures

pub returns-in_err-stepped : goal.returns-in_err-stepped
returns-in_err-stepped c =
    let a = c.args in
    let full : Whole a.v = record { numbers = search rules; text = search rules } in
    let fields : c.fill-fields.result ≡ filled a.v.which a.m a.v = c.fill-fields.ensures ∙ rw c.requires.is_sound in
    let made = made_filled a.m a.v fields c.direction.ensures c.make_record-made.ensures in
    let right = checked_filled a.expected a.m a.v c.make_record-made.result fields c.check.ensures in
    let kept : c.check.result ≡ Ok tt = off_line_accepted c.next_line.result c.check.result (sym c.on_line.ensures ∙ c.in_ok-on_line.was) in
    step_refused a.expected a.m a.v full made right c.requires kept c.step-stepped.ensures c.line_of.ensures c.in_err-stepped.was c.from_residual-in_err-stepped.ensures

pub returns : goal.returns
returns c =
    let a = c.args in
    let full : Whole a.v = record { numbers = search rules; text = search rules } in
    let fields : c.fill-fields.result ≡ filled a.v.which a.m a.v = c.fill-fields.ensures ∙ rw c.requires.is_sound in
    let made = made_filled a.m a.v fields c.direction.ensures c.make_record-made.ensures in
    let right = checked_filled a.expected a.m a.v c.make_record-made.result fields c.check.ensures in
    let kept : c.check.result ≡ Ok tt = off_line_accepted c.next_line.result c.check.result (sym c.on_line.ensures ∙ c.in_ok-on_line.was) in
    step_accepted a.expected a.m a.v full made right c.requires kept c.step-stepped.ensures c.line_of.ensures c.in_ok-stepped.was
