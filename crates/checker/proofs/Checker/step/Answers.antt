-- `checker::Checker::step` meets its contract. Assumes nothing.
use Rattle.std.proofs.Common.{◌≡◌, List, ℕ, Ok, Err, sym, ◌∙◌}
use Rattle.answer.specs.Rules.{Answer, on_line}
use Rattle.answer.specs.declared.Refusal.{Refusal}
use Rattle.checker.specs.Machine.{line_of, moved, stepped, answer_to, step_of}
use Rattle.checker.specs.Line.{line_is}
use Rattle.checker.specs.inner.Steps.{behind_by}
use Rattle.checker.specs.declared.Checker.{Checker}
use Rattle.checker.proofs.laws.Bounds.{bounded}
use Rattle.checker.proofs.Checker.step.Goals as goal

module _ (s : Checker) (rec : List ℕ) where
  taken : (a : Answer) {t : Checker} → behind_by a s rec ≡ Ok t → stepped t (Ok tt) ≡ answer_to a s rec
  taken (Ok tt) {t} e = let q : moved (line_is s rec) s rec ≡ t = cc in rw (← q)
  taken (Err r) e = cc

  turned_away : (a : Answer) {r : Refusal} → behind_by a s rec ≡ Err r → stepped s (on_line (line_of s) (Err r)) ≡ answer_to a s rec
  turned_away (Ok tt) e = cc
  turned_away (Err q) {r} e = let same : q ≡ r = cc in rw (← same)

pub returns-then-not-is_sound : goal.returns-then-not-is_sound
unfolding step_of
returns-then-not-is_sound c = rw (sym c.is_sound.ensures ∙ c.if-not-is_sound.true, c.refused.ensures)

pub behind-requires : goal.behind-requires
behind-requires c = bounded _ (sym c.is_sound.ensures ∙ c.if-not-is_sound.false)

pub line_no-requires : goal.line_no-requires
line_no-requires c = bounded _ (sym c.is_sound.ensures ∙ c.if-not-is_sound.false)

pub returns-in-Ok : goal.returns-in-Ok
unfolding step_of
returns-in-Ok c = rw (sym c.is_sound.ensures ∙ c.if-not-is_sound.false) (taken _ _ _ (sym c.behind.ensures ∙ c.in-Ok.is))

pub returns-in-Err : goal.returns-in-Err
unfolding step_of
returns-in-Err c =
    rw (sym c.is_sound.ensures ∙ c.if-not-is_sound.false, c.on_line.ensures, c.line_no.ensures) (turned_away _ _ _ (sym c.behind.ensures ∙ c.in-Err.is))
