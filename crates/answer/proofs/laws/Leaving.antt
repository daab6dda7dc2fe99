-- Laws of a call that asks one thing behind the other, and leaves with the first refusal. Assumes nothing.
use Rattle.std.specs.Prelude.{◌≡◌, List, [], ◌∷◌, ◌++◌, ℕ, ◌≤◌, length, drop, Result, IsErr, IsErrAnd, Err, Ok}
use Rattle.std.proofs.Math.Path.{refl}
use Rattle.std.proofs.Common.{sym, ◌∙◌}
use Rattle.std.proofs.lemmas.Result.{err_from_is_err_and}
use borrow.Author.Tests.{leb-true}
use Rattle.answer.specs.Rules.{Rule, Answer, first_broken, answer_alone, AllKept}
use Rattle.answer.specs.Output.{Writes, room}
use Rattle.answer.specs.declared.Refusal.{Refusal}
use Rattle.answer.proofs.laws.Order.{gone_on, stopped, accepted_kept}
use Rattle.answer.proofs.laws.Frame.{Answers, keeps, writes}

-- a call left with a refusal, of whatever else it gives
pub left_with : {A : Type 0} {b : Result A Refusal} {e : Refusal} → IsErr b × IsErrAnd b (λ y. y ≡ e) → b ≡ Err e
left_with {b} out =
    let p = err_from_is_err_and b out.1 in
    rw (p.1, p.2)

-- a call was given the answer a: its own answer b, where it left with the refusal
pub left : {a b : Answer} {e : Refusal} → a ≡ Err e → IsErr b × IsErrAnd b (λ y. y ≡ e) → b ≡ a
left was out = left_with out ∙ sym was

-- the same of a call that hands a value on
pub turned : {a : Answer} {A : Type 0} (b : Result A Refusal) {e : Refusal} → a ≡ Err e → IsErr b × IsErrAnd b (λ y. y ≡ e) → answer_alone b ≡ a
turned b was out = rw (left_with {b = b} out) (sym was)

-- the same of rules and others behind them, where a is the answer of the first: of a call that hands a value on
pub turns_back : (xs ys : List Rule) {a : Answer} → a ≡ first_broken xs → {A : Type 0} (b : Result A Refusal) {e : Refusal} → a ≡ Err e → IsErr b × IsErrAnd b (λ y. y ≡ e)
    → answer_alone b ≡ first_broken (xs ++ ys)
turns_back xs ys asked b {e} was out = turned b was out ∙ was ∙ stopped xs ys e (sym asked ∙ was)

-- of one that gives an answer; and where the call went on
module _ (xs ys : List Rule) {a b : Answer} (asked : a ≡ first_broken xs) where
  pub leaves : {e : Refusal} → a ≡ Err e → IsErr b × IsErrAnd b (λ y. y ≡ e) → b ≡ first_broken (xs ++ ys)
  leaves {e} was out = left was out ∙ was ∙ stopped xs ys e (sym asked ∙ was)

  pub goes_on : a ≡ Ok tt → b ≡ first_broken ys → b ≡ first_broken (xs ++ ys)
  goes_on was later = later ∙ gone_on xs ys (sym asked ∙ was)

-- ---- a call that checks its input, then the room of its output, and then writes

pub room_found : (n : ℕ) (out : List ℕ) {a : Answer} → a ≡ first_broken (room n out ∷ []) → a ≡ Ok tt → n ≤ length out
unfolding AllKept
room_found n out asked was = leb-true _ _ (accepted_kept (room n out ∷ []) (sym asked ∙ was)).0

module _ {rules : List Rule} {n : ℕ} {out new : List ℕ} {a : Answer} (asked : a ≡ first_broken rules) where
  pub leaves_input : {b : Answer} {e : Refusal} → a ≡ Err e → IsErr b × IsErrAnd b (λ y. y ≡ e) → Writes rules n new out b out
  leaves_input {e} was to =
      keeps (let h : Answers rules n out _ = record { is = leaves rules (room n out ∷ []) asked was to } in h) e (left was to ∙ was)

  module _ (was : a ≡ Ok tt) {r : Answer} (roomed : r ≡ first_broken (room n out ∷ [])) where
    pub leaves_room : {b : Answer} {e : Refusal} → r ≡ Err e → IsErr b × IsErrAnd b (λ y. y ≡ e) → Writes rules n new out b out
    leaves_room {e} full to =
        keeps (let h : Answers rules n out _ = record { is = goes_on rules _ asked was (left full to ∙ roomed) } in h) e (left full to ∙ full)

    pub has_written : {after : List ℕ} → r ≡ Ok tt → length new ≡ n → after ≡ new ++ drop n out → Writes rules n new out (Ok tt) after
    has_written free long now =
        writes (let h : Answers rules n out (Ok tt) = record { is = goes_on rules _ asked was (sym free ∙ roomed) } in h) refl long now
