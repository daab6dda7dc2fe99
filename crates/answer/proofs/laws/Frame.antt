-- Laws of calls that write to lent memory: the ways a call ends, and that its outcome is one. Assumes nothing.
use Rattle.std.specs.Prelude.{◌≡◌, List, [], ◌∷◌, ◌++◌, ℕ, ◌≤◌, length, take, drop, Err, Ok}
use Rattle.std.proofs.Math.Path.{sym}
use Rattle.std.proofs.Common.{ap, ◌∙◌, take_at}
use borrow.Author.Tests.{le-leb, leb-true}
use Rattle.answer.specs.Rules.{Rule, first_broken, AllKept, and_then}
use Rattle.answer.specs.Output.{Writes, written, room}
use Rattle.answer.proofs.laws.Order.{past, done, gone_on, accepted_kept, first_append, front_accepted}
use Rattle.answer.specs.declared.Refusal.{Refusal}
use Rattle.answer.specs.Rules.{Answer}

-- an answer by a call's rules and by the room of its output
pub record Answers (rules : List Rule) (n : ℕ) (out : List ℕ) (a : Answer) : Type 0 where
  pub is : a ≡ first_broken (rules ++ room n out ∷ [])

pub answers : {rules : List Rule} {n : ℕ} {out : List ℕ} {a : Answer} (x y : Answer) →
    x ≡ first_broken rules → y ≡ first_broken (room n out ∷ []) → a ≡ and_then x y → Answers rules n out a
answers {rules} {n} {out} x y p q e = record { is = e ∙ rw (p, q) (sym (first_append rules (room n out ∷ []))) }

-- refused, the call leaves the output; accepted, its input keeps the rules, the output has room, and the call writes
module _ {rules : List Rule} {n : ℕ} {out : List ℕ} {a : Answer} (e : Answers rules n out a) where
  pub keeps : {new : List ℕ} (r : Refusal) → a ≡ Err r → Writes rules n new out a out
  keeps r q = record { answered = e.is; memory = rw q }

  pub input_kept : a ≡ Ok tt → first_broken rules ≡ Ok tt
  input_kept q = front_accepted rules _ (sym e.is ∙ q)

  pub has_room : a ≡ Ok tt → n ≤ length out
  unfolding AllKept
  has_room q = leb-true _ _ (accepted_kept (room n out ∷ []) (gone_on rules _ (input_kept q) ∙ sym e.is ∙ q)).0

  pub writes : {new after : List ℕ} → a ≡ Ok tt → length new ≡ n → after ≡ new ++ drop n out → Writes rules n new out a after
  writes q l w = record { answered = e.is; memory = rw (q, l) w }

-- what an accepted call was given, and what it left
pub was_accepted : {rules : List Rule} {n : ℕ} {new out after : List ℕ} → Writes rules n new out (Ok tt) after → first_broken rules ≡ Ok tt
was_accepted {rules} w = front_accepted rules _ (sym w.answered)

pub left_new : {rules : List Rule} {n : ℕ} {new out after : List ℕ} → Writes rules n new out (Ok tt) after → length new ≡ n → take n after ≡ new
left_new {n} {new} {out} w e = rw (w.memory, take_at new (drop (length new) out) n e)

-- with no rule broken and room, a call accepts
pub is-accepted : {rules : List Rule} {n : ℕ} {new out after : List ℕ} {a : Answer} → first_broken rules ≡ Ok tt → n ≤ length out →
    Writes rules n new out a after → a ≡ Ok tt
is-accepted {rules} {n} {new} {out} e h w = w.answered ∙ sym (past _ _ _ _ _ (le-leb n (length out) h) done ∙ gone_on rules _ e)

-- a call whose input is what an accepted call wrote
pub handed_on : {rules : List Rule} {n n' : ℕ} {new out after out' after' : List ℕ} {a : Answer} (rules' : List ℕ → List Rule) (new' : List ℕ → List ℕ) →
    length new ≡ n → first_broken (rules' new) ≡ Ok tt → length (new' new) ≡ n' → n' ≤ length out' →
    Writes rules n new out (Ok tt) after → Writes (rules' (take n after)) n' (new' (take n after)) out' a after' →
    (a ≡ Ok tt) × (take n' after' ≡ new' new)
handed_on rules' new' long kept long' room w w' =
    let next = rw (left_new w long) at w' in
    let ok = is-accepted kept room next in
    (ok, left_new (rw ok at next) long')

-- a call's answer and the output afterwards are determined
pub one_outcome : {rules : List Rule} {n : ℕ} {new out after after' : List ℕ} {a b : Answer} →
    Writes rules n new out a after → Writes rules n new out b after' → (a ≡ b) × (after ≡ after')
one_outcome {new} {out} p q =
    let same = p.answered ∙ sym q.answered in
    (same, p.memory ∙ ap (λ (x : Answer). written x new out) same ∙ sym q.memory)
