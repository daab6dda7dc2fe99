-- The line that a refusal names. Assumes nothing.
use Rattle.std.specs.Prelude.{◌≡◌, refl, Bool, true, false, ℕ, ◌+◌, ◌≤◌, ◌<◌, length, drop, Err}
use Rattle.std.proofs.Common.{◌∙◌, zero-le, suc-le-suc, arith}
use mathlib.Core.List.{List, [], ◌∷◌}
use Rattle.answer.specs.Rules.{Rule, no_line, refusal, refused_as, rules_on_line}
use Rattle.answer.proofs.laws.Order.{here}
use Rattle.answer.proofs.laws.Only.{Only, none, more, past, join, broken_so}
use Rattle.answer.specs.declared.LineNo.{LineNo}
use Rattle.answer.specs.declared.Refusal.{Refusal}
use Rattle.layout.specs.Records.{is_one_of}
use Rattle.layout.specs.declared.Record.{Record}
use Rattle.fields.specs.declared.Fields.{Fields}
use Rattle.checker.specs.Machine.{line_of}
use Rattle.files.proofs.laws.Verdict.{next_line_no}
use Rattle.checker.specs.declared.Checker.{Checker}
use Rattle.writer.specs.Given.{Call, open_file, open_batch, pay, close_batch, close_file, records_of}
use Rattle.filling.specs.Filling.{bytes_of}
use Rattle.writer.specs.Refusals.{turn_limits, expected_in, expected_now, given_rules, next_by, all_given, last_rules, held, call_rules}
use Rattle.writer.specs.Outcome.{answer_of}
use Rattle.writer.proofs.laws.Given.{some_few}
use Rattle.writer.specs.declared.Writer.{Writer}
use Rattle.writer.proofs.laws.Answers.{call_refused}

-- each rule is on a line from one on and before another, or is kept
record Within (low end : ℕ) (n : LineNo) : Type 0 where
  from : low ≤ n.0
  before : n.0 < end

abbrev InLines : ℕ → ℕ → List Rule → Type 0
InLines low end rs = Only (λ x. Within low end x.line) rs

module _ (low end : ℕ) where
  all_on : (n : LineNo) → Within low end n → (rs : List Rule) → InLines low end (rules_on_line n rs)
  all_on n h [] = none
  all_on n h (r ∷ rs) = more h (all_on n h rs)

  each_on : (expected : List (List Record)) (s : Checker) (gs : List Fields) → low ≤ (line_of s).0 → (line_of s).0 + length gs ≤ end
      → InLines low end (all_given expected s gs)
  unfolding all_given
  each_on expected s [] l h = none
  each_on expected s (g ∷ gs) l h =
      let n = next_line_no g.which s (bytes_of s g) in
      let rules = given_rules (is_one_of g.which (expected_now expected)) g.which s.dir (bytes_of s g) in
      join (all_on (line_of s) (omega arith) rules) (each_on (drop 1 expected) (next_by s g) gs (omega arith) (omega arith))

some : (c : Call) → 0 < length (records_of c)
some (open_file v) = suc-le-suc zero-le
some (open_batch v) = suc-le-suc zero-le
some (pay p) = omega (arith, some_few p)
some (close_batch v) = suc-le-suc zero-le
some (close_file v) = suc-le-suc zero-le

-- the line of one of the call's records, of which the first has the line that is next; no line, if the state is none that calls leave
pub data LineNamed (w : Writer) (c : Call) (r : Refusal) : Type 0 where
  on_no_line : held w.checker ≡ false → r ≡ refusal 51 no_line 0 → LineNamed w c r
  on_a_line : held w.checker ≡ true
      → (line_of w.checker).0 ≤ r.line.0 → r.line.0 < (line_of w.checker).0 + length (records_of c) → LineNamed w c r

pub refused_line : (w : Writer) (c : Call) (out : List ℕ) (r : Refusal) → answer_of w c out ≡ Err r → LineNamed w c r
unfolding call_rules answer_of
refused_line w c out r e = go (held s) refl
  where
    s : Checker
    s = w.checker

    low : ℕ
    low = (line_of s).0

    end : ℕ
    end = (line_of s).0 + length (records_of c)

    go : (b : Bool) → held s ≡ b → LineNamed w c r
    go true q =
        let first : Within low end (line_of s) = omega (arith, some c) in
        let each = each_on low end (expected_in c s) s (records_of c) (omega arith) (omega arith) in
        let h : Within low end r.line =
        broken_so
        (join (past q (all_on low end (line_of s) first (turn_limits c s)))
        (join each (all_on low end (line_of s) first (last_rules c w out))))
        ((call_refused w c out r).0 e) in
        on_a_line q h.from h.before
    go false q = let h : refused_as 51 0 ≡ Err r = here 51 0 (held s) _ q ∙ e in on_no_line q (cc)
