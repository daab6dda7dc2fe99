-- The rules of a line up to its type, and those from its type on. Assumes nothing.
use Rattle.std.specs.Prelude.{◌≡◌, refl, false, List, [], ◌∷◌, ℕ, Option, None, Some, Result, Err, Ok, IsErr, IsErrAnd}
use Rattle.std.proofs.Common.{sym, ◌∙◌, ap}
use Rattle.std.proofs.lemmas.Result.{err_from_is_err_and}
use Rattle.answer.specs.Rules.{Answer, rule, first_broken, answer_alone, refusal, no_line}
use Rattle.answer.specs.declared.Refusal.{Refusal}
use Rattle.answer.proofs.laws.Order.{past, here, gone_on, stopped}
use Rattle.layout.specs.Table.{type_place}
use Rattle.layout.specs.declared.Record.{Record}
use Rattle.checker.specs.Line.{record_in, line_is, found, rules_as, reading_rules, type_rules, line_rules, rules_of_line}
use Rattle.checker.specs.Machine.{next}
use Rattle.checker.specs.inner.Steps.{behind_by, front_rules}
use Rattle.checker.specs.declared.Checker.{Checker}

-- the state behind a line, or its first refusal: of its front, of its type, or of the record that it is read as
module _ (s : Checker) (line : List ℕ) where
  abbrev pub Behind : Result Checker Refusal → Type 0
  Behind b = b ≡ behind_by (first_broken (rules_of_line s line)) s (record_in line)

  refused : (b : Result Checker Refusal) {e : Refusal} → Err e ≡ first_broken (rules_of_line s line) → IsErr b × IsErrAnd b (λ y. y ≡ e) → Behind b
  refused b {e} is out = let p = err_from_is_err_and b out.1 in rw (p.1, p.2, ← is)

  pub front_refused : {A : Type 0} {f : Result A Refusal} (b : Result Checker Refusal) {e : Refusal} → answer_alone f ≡ first_broken (front_rules s line) → f ≡ Err e
      → IsErr b × IsErrAnd b (λ y. y ≡ e) → Behind b
  unfolding rules_of_line line_rules
  front_refused {A} {f} b {e} asked was = refused b (stopped (front_rules s line) (type_rules s (record_in line)) e (sym asked ∙ ap answer_alone was))

  module _ {A : Type 0} {f : Result A Refusal} {a : A} (asked : answer_alone f ≡ first_broken (front_rules s line)) (was : f ≡ Ok a) where
    from_type : first_broken (type_rules s (record_in line)) ≡ first_broken (rules_of_line s line)
    unfolding rules_of_line line_rules
    from_type = gone_on (front_rules s line) (type_rules s (record_in line)) (sym asked ∙ ap answer_alone was)

    pub type_refused : (b : Result Checker Refusal) {e : Refusal} → line_is s (record_in line) ≡ None → e ≡ refusal 6 no_line type_place → IsErr b × IsErrAnd b (λ y. y ≡ e) → Behind b
    unfolding type_rules
    type_refused b none is =
        let none_read : first_broken (rule 6 type_place false ∷ []) ≡ first_broken (type_rules s (record_in line)) = rw none in
        refused b (rw is (here 6 type_place false [] refl ∙ none_read ∙ from_type))

    module _ {r : Record} (read : line_is s (record_in line) ≡ Some r) where
      as_read : first_broken (rules_as r s (record_in line)) ≡ first_broken (rules_of_line s line)
      unfolding type_rules
      as_read = past 6 type_place _ _ _ (ap found read) (ap (λ (d : Option Record). first_broken (reading_rules d s (record_in line))) (sym read)) ∙ from_type

      pub record_refused : (b : Result Checker Refusal) {a : Answer} {e : Refusal} → a ≡ first_broken (rules_as r s (record_in line)) → a ≡ Err e
          → IsErr b × IsErrAnd b (λ y. y ≡ e) → Behind b
      record_refused b asked was = refused b (sym was ∙ asked ∙ as_read)

      pub accepted : {a : Answer} → a ≡ first_broken (rules_as r s (record_in line)) → a ≡ Ok tt → Behind (Ok (next r s (record_in line)))
      accepted asked was = rw (← as_read, ← asked, was, read)
