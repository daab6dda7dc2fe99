-- Every state that calls produce is sound: none is answered by 51, and no sum of a line leaves 64 bits. Assumes nothing.
use Rattle.std.specs.Prelude.{◌≡◌, true, List, [], ◌∷◌, ℕ, ◌≤◌, T, Err}
use Rattle.answer.specs.Rules.{first_broken}
use Rattle.answer.specs.declared.Refusal.{Refusal}
use Rattle.layout.specs.declared.Record.{Record}
use Rattle.checker.specs.Totals.{counts}
use Rattle.checker.specs.Line.{record_in, rules_of_line}
use Rattle.checker.specs.Machine.{sound, answer_to, step_of}
use Rattle.checker.specs.Calls.{Reached, at_start, after_line, left}
use Rattle.checker.specs.declared.Checker.{Checker}
use Rattle.checker.proofs.laws.Listed.{numbered, line_listed, broken_listed}
use Rattle.checker.proofs.laws.Meaning.{by_rules, line_refused}
use Rattle.checker.proofs.laws.Bounds.{bounded_sound, room}
use Rattle.checker.specs.inner.Steps.{Room}
use Rattle.checker.proofs.laws.Kept.{Kept, kept_start, kept_bounded, step_keeps}

pub reached_kept : {s : Checker} → Reached s → Kept s
reached_kept at_start = kept_start
reached_kept (after_line {s} line c) = step_keeps s line (reached_kept c)

-- all calls lead to such a state
pub left_reached : {s : Checker} (ls : List (List ℕ)) → Reached s → Reached (left s ls)
unfolding left
left_reached {s = s} [] c = c
left_reached {s = s} (l ∷ ls) c = left_reached {s = (step_of s l).state} ls (after_line l c)

pub reached : {s : Checker} → Reached s → sound s ≡ true
reached c = bounded_sound (kept_bounded (reached_kept c))

-- no call on one is answered by 51: the line's rules answer
module _ {s : Checker} (c : Reached s) where
  pub never_guarded : (line : List ℕ) → step_of s line ≡ answer_to (first_broken (rules_of_line s line)) s (record_in line)
  never_guarded line = by_rules s line (reached c)

  -- and so a refusal's number is one of the table: 1 to 23, 26, 52, 53 or 55
  pub line_number : (line : List ℕ) (r : Refusal) → (step_of s line).answer ≡ Err r → (1 ≤ r.number) × T (numbered r.number)
  line_number line r e =
      let t = broken_listed (line_listed s line) ((line_refused s line (reached c) r).0 e).broken in
      (t.low, t.is_among)

-- ---- no sum of a line leaves 64 bits

pub no_wrap : {s : Checker} → Reached s → (r : Record) (rec : List ℕ) → Room s (counts r rec)
no_wrap c = room (kept_bounded (reached_kept c))
