-- `boleto::check_string` meets its contract. Assumes nothing.
use Rattle.std.proofs.Common.{◌≡◌, sym, ◌∙◌, refl, arith, eq-eqb, ne_eqb}
use Rattle.std.specs.Prelude.{[], ◌∷◌, ◌+◌}
use Rattle.std.proofs.lemmas.Option.{MatchOption-at_none}
use Rattle.answer.specs.Rules.{refusal, no_line, rule, first_broken}
use Rattle.answer.proofs.laws.Order.{past, here}
use Rattle.answer.proofs.laws.Leaving.{left_with, turned}
use Rattle.digits.specs.Digits.{leading, all_digits}
use Rattle.digits.proofs.laws.Strings.{leading_le}
use Rattle.boleto.proofs.check_string.Goals as goal

pub returns-in_err-string-clause-answer : goal.returns-in_err-string-clause-answer
returns-in_err-string-clause-answer g c =
    let none = c.in_err-string.ensures.ok_part in
    let given = rw none at c.in_err-string.ensures.value in
    let is : c.in_err-string.field-0.0 ≡ refusal 40 no_line 0 = cc (given, c.at.ensures) in
    rw (left_with c.from_residual.ensures, is)
    (here _ _ _ _ (ne_eqb _ _ (MatchOption-at_none _ _ none c.as_array.ensures.cases)))

pub overflow_add-leading : goal.overflow_add-leading
overflow_add-leading g c =
    let whole = rw c.in_ok-string.ensures.ok_part at c.as_array.ensures.cases in
    let n = rw whole.same at c.leading-leading.ensures in
    omega (arith, n, leading_le c.args.s.now)

pub returns-in_err-test-clause-answer : goal.returns-in_err-test-clause-answer
returns-in_err-test-clause-answer g c =
    let s = c.args.s.now in
    let whole = rw c.in_ok-string.ensures.ok_part at c.as_array.ensures.cases in
    let asked : c.test.result ≡ first_broken (rule 41 (leading s + 1) (all_digits s) ∷ []) = c.test.ensures ∙ rw (c.leading-leading.ensures, whole.same, whole.long) refl in
    past _ _ _ _ _ (eq-eqb _ _ whole.long) (turned _ c.in_err-test.was c.from_residual-in_err-test.ensures ∙ asked)

pub returns-clause-answer : goal.returns-clause-answer
returns-clause-answer g c =
    let s = c.args.s.now in
    let whole = rw c.in_ok-string.ensures.ok_part at c.as_array.ensures.cases in
    let asked : c.test.result ≡ first_broken (rule 41 (leading s + 1) (all_digits s) ∷ []) = c.test.ensures ∙ rw (c.leading-leading.ensures, whole.same, whole.long) refl in
    past _ _ _ _ _ (eq-eqb _ _ whole.long) (sym c.in_ok-test.was ∙ asked)
