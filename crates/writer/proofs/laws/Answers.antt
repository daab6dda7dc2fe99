-- What the answer to a call says, what a refused and an accepted call leave, and that a call has one outcome. Assumes nothing.
use Rattle.std.specs.Prelude.{◌≡◌, ◌↔◌, ℕ, length, Err, Ok}
use Rattle.std.proofs.Common.{sym, ap, ◌∙◌}
use mathlib.Core.List.{List, flatten}
use Rattle.answer.specs.Rules.{AllKept, Broken}
use Rattle.answer.proofs.laws.Order.{kept_accepted, accepted_kept, broken_refused, refused_broken}
use Rattle.answer.specs.declared.Refusal.{Refusal}
use Rattle.answer.specs.Rules.{Answer}
use Rattle.writer.specs.Given.{Call, records_of}
use Rattle.writer.specs.Refusals.{size, call_rules}
use Rattle.writer.specs.Outcome.{lines_for, state_after, output_after, answer_of, Wrote}
use Rattle.writer.specs.Calls.{AllWhole, lent, memory_behind}
use Rattle.writer.specs.declared.Writer.{Writer}
use Rattle.writer.specs.declared.Written.{Written}
use Rattle.writer.proofs.laws.Accepted.{kept}
use Rattle.writer.proofs.laws.Lines.{lines_size}
use Rattle.writer.proofs.laws.Laid.{Laid, Puts, laid}

-- ---- the answer

module _ (w : Writer) (c : Call) (out : List ℕ) where
  -- accepted exactly if every rule is kept
  pub call_accepted : answer_of w c out ≡ (Ok tt) ↔ AllKept (call_rules w c out)
  unfolding answer_of
  call_accepted = (accepted_kept (call_rules w c out), kept_accepted (call_rules w c out))

  -- refused exactly if that rule is broken and every earlier one is kept
  pub call_refused : (r : Refusal) → answer_of w c out ≡ Err r ↔ Broken (call_rules w c out) r
  unfolding answer_of
  call_refused r = (refused_broken (call_rules w c out) r, broken_refused (call_rules w c out) r)

-- ---- the outcome

module _ {w : Writer} {c : Call} {out after : List ℕ} {r : Written} (a : Wrote w c out after r) where
  -- a refused call leaves the state and the output
  pub refused_leaves : (x : Refusal) → r.answer ≡ Err x → (r.state ≡ w) × (after ≡ out)
  refused_leaves x e = (a.moved ∙ rw e, a.memory ∙ rw e)

  -- the result and the output afterwards are determined
  pub one_outcome : {after' : List ℕ} {r' : Written} → Wrote w c out after' r' → (r ≡ r') × (after ≡ after')
  one_outcome b =
      let same = a.answered ∙ sym b.answered in
      let states = a.moved ∙ ap (λ (x : Answer). state_after x w (records_of c)) same ∙ sym b.moved in
      (λ i. record { state = states i; answer = same i }, a.memory ∙ ap (λ (x : Answer). output_after x w (records_of c) out) same ∙ sym b.memory)

-- ---- the output of an accepted call: the lines of its records, from the cursor on

module _ (w : Writer) (c : Call) (out : List ℕ) (whole : AllWhole (records_of c)) (e : answer_of w c out ≡ Ok tt) where
  pub wrote : Puts w.cursor (flatten (lines_for w.checker (records_of c))) out (memory_behind w (lent c out))
  wrote = let long = lines_size w.checker whole in record { fits = rw long (kept w c out e).room; is = rw (e, long) }

  pub wrote_length : Laid w.cursor (size (length (records_of c))) (flatten (lines_for w.checker (records_of c))) out (memory_behind w (lent c out))
  wrote_length = rw (lines_size w.checker whole) at (laid wrote)

-- the same of what such a call leaves
pub accepted_leaves : {w : Writer} {c : Call} {out after : List ℕ} {r : Written} → Wrote w c out after r → AllWhole (records_of c) → r.answer ≡ Ok tt
    → Laid w.cursor (size (length (records_of c))) (flatten (lines_for w.checker (records_of c))) out after
accepted_leaves {w} {c} {out} a whole e = rw (a.memory, a.answered) (wrote_length w c out whole (sym a.answered ∙ e))
