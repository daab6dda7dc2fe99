-- A call's answer, state and output, on plain values. Assumes nothing.
use Rattle.std.specs.Prelude.{Result, IsErr, IsErrAnd, Err, Ok}
use Rattle.std.proofs.Common.{subst}
use Rattle.answer.proofs.laws.Leaving.{left_with}
use mathlib.Core.Path.{◌≡◌, refl, sym, ap, ◌∙◌}
use mathlib.Core.Bool.{true, cond}
use mathlib.Core.List.{List, [], ◌∷◌, ◌++◌, append-nil}
use Prim.Native.Nat.{ℕ, ◌≤◌}
use borrow.Author.Tests.{leb-true}
use lib.ListN.{length}
use Rattle.answer.specs.Rules.{no_line, Rule, rules_on_line, first_broken, AllKept, and_then, on_line, refused_as}
use Rattle.answer.specs.Output.{room}
use Rattle.answer.specs.declared.LineNo.{LineNo}
use Rattle.answer.specs.declared.Refusal.{Refusal}
use Rattle.answer.specs.Rules.{Answer}
use Rattle.answer.proofs.laws.Order.{accepted_kept, kept_behind, first_append, first_on_line, gone_on}
use Rattle.layout.specs.Records.{is_one_of}
use Rattle.layout.specs.declared.Record.{Record}
use Rattle.fields.specs.declared.Fields.{Fields}
use Rattle.checker.specs.Machine.{line_of, sound}
use Rattle.checker.specs.declared.Checker.{Checker}
use Rattle.writer.specs.Given.{Call, records_of}
use Rattle.writer.specs.Refusals.{turn_rule, held, turn_limits, turn_rules, expected_in, expected_now, given_on_line, all_given, last_rules, call_rules}
use Rattle.writer.specs.Outcome.{writer, behind_all, cursor_behind, output_after, answer_of, Wrote}
use Rattle.writer.proofs.laws.Accepted.{off_line}
use Rattle.writer.specs.inner.Steps.{turn_of, handed_back, WroteIn}
use Rattle.writer.specs.declared.Writer.{Writer}
use Rattle.writer.specs.declared.Written.{Written}

module _ {turn : Answer} {rules : List Rule} (w : Writer) (gs : List Fields) (out : List ℕ) where
  stays : {e : Refusal} (r : Result Writer Refusal) → IsErr r × IsErrAnd r (λ y. y ≡ e) → Err e ≡ and_then turn (first_broken rules)
      → WroteIn turn rules w gs out out (handed_back w r)
  stays {e} r left is =
      subst (λ (r : Result Writer Refusal). WroteIn turn rules w gs out out (handed_back w r)) (sym (left_with left)) (record { answered = is; moved = refl; memory = refl })

  -- the call is out of turn
  pub turned_away : {e : Refusal} (r : Result Writer Refusal) → turn ≡ Err e → IsErr r × IsErrAnd r (λ y. y ≡ e) → WroteIn turn rules w gs out out (handed_back w r)
  turned_away r t left = stays r left (rw t)

  module _ (t : turn ≡ Ok tt) where
    -- a rule is broken
    pub refuses : {e : Refusal} (r : Result Writer Refusal) → Err e ≡ first_broken rules → IsErr r × IsErrAnd r (λ y. y ≡ e)
        → WroteIn turn rules w gs out out (handed_back w r)
    refuses r is left = stays r left (rw t is)

    -- all are kept
    pub accepts : {m : Checker} {at : ℕ} {after : List ℕ} → Ok tt ≡ first_broken rules → m ≡ behind_all w.checker gs → at ≡ cursor_behind w gs
        → after ≡ output_after (Ok tt) w gs out → WroteIn turn rules w gs out after (handed_back w (Ok (writer m at)))
    accepts is p q o = record { answered = rw t is; moved = rw (p, q); memory = o }

-- the last rule of an accepted call is kept
pub has_room : (xs rs : List Rule) (line : LineNo) (n : ℕ) (out : List ℕ) → first_broken (xs ++ (rules_on_line line rs ++ rules_on_line line (room n out ∷ []))) ≡ Ok tt → n ≤ length out
unfolding AllKept
has_room xs rs line n out e =
    let all = kept_behind xs (rules_on_line line rs ++ rules_on_line line (room n out ∷ [])) (accepted_kept _ e) in
    leb-true n (length out) (kept_behind (rules_on_line line rs) (rules_on_line line (room n out ∷ [])) all).0

-- behind records that are accepted: the answer by the last rules, on the line that is next
pub behind_records : (m : Checker) (xs last : List Rule) {late lined : Answer} {line : LineNo} → sound m ≡ true → Ok tt ≡ first_broken xs
    → lined ≡ on_line line late → line ≡ cond (sound m) (line_of m) no_line → late ≡ first_broken last
    → lined ≡ first_broken (xs ++ rules_on_line (line_of m) last)
behind_records m xs last ok t l n e = l ∙ rw (n, ok, e) (sym (first_on_line (line_of m) last)) ∙ gone_on xs (rules_on_line (line_of m) last) (sym t)

-- ---- the turn

pub turn_is : (s : Checker) {asked : Answer} (rs : List Rule) → asked ≡ first_broken rs → turn_of s asked ≡ first_broken (turn_rule (held s) ∷ rules_on_line (line_of s) rs)
unfolding first_broken
turn_is s rs e = ap (λ (a : Answer). cond (held s) a (refused_as 51 0)) (ap (on_line (line_of s)) e ∙ sym (first_on_line (line_of s) rs))

-- a call in turn has a state that is held, within the limits
pub turned : {turn : Answer} (c : Call) (s : Checker) → turn ≡ first_broken (turn_rules c s) → turn ≡ Ok tt → (held s ≡ true) × AllKept (turn_limits c s)
unfolding AllKept
turned c s e t = let all = accepted_kept (turn_rules c s) (sym e ∙ t) in (all.0, off_line (line_of s) (turn_limits c s) all.1)

-- ---- all of a call's rules

module _ {w : Writer} {out after : List ℕ} {r : Written} {turn : Answer} where
  pub whole_call : (c : Call) → turn ≡ first_broken (turn_rules c w.checker)
      → WroteIn turn (all_given (expected_in c w.checker) w.checker (records_of c) ++ rules_on_line (line_of w.checker) (last_rules c w out)) w (records_of c) out after r
      → Wrote w c out after r
  unfolding answer_of call_rules
  whole_call c e h = record { answered = h.answered ∙ rw e (sym (first_append (turn_rules c w.checker) _)); moved = h.moved; memory = h.memory }

  -- of one record, which is the one that is expected
  pub one_expected : (g : Fields) (expected : List (List Record)) (ys : List Rule) → is_one_of g.which (expected_now expected) ≡ true
      → WroteIn turn (given_on_line true w.checker g ++ ys) w (g ∷ []) out after r → WroteIn turn (all_given expected w.checker (g ∷ []) ++ ys) w (g ∷ []) out after r
  unfolding all_given
  one_expected g expected ys e h =
      let here = given_on_line true w.checker g in
      record {
        answered = h.answered ∙ rw e (ap (λ (xs : List Rule). and_then turn (first_broken (xs ++ ys))) (sym (append-nil here)));
        moved = h.moved;
        memory = h.memory;
      }
