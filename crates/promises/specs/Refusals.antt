-- Which files are refused, and with what. Assumes nothing.
use Rattle.std.specs.Prelude.{◌≡◌, false, List, ◌∷◌, ◌++◌, ℕ, ◌+◌, length}
use Rattle.answer.specs.Rules.{Broken, no_line, refusal}
use Rattle.answer.specs.declared.LineNo.{LineNo}
use Rattle.answer.specs.declared.Refusal.{Refusal}
use Rattle.checker.specs.Order.{ended}
use Rattle.checker.specs.Line.{rules_of_line}
use Rattle.checker.specs.Machine.{start}
use Rattle.files.specs.File.{lines_of}
use Rattle.checker.specs.Calls.{Through}
use Rattle.checker.specs.declared.Checker.{Checker}

-- the line named: that many accepted lines plus one
abbrev pub behind_lines : List (List ℕ) → LineNo
behind_lines accepted = record { 0 = length accepted + 1 }

-- the lines before are accepted one after the other, and this line breaks that rule and none before it in its order;
-- or all lines are accepted, and the input ends before a type 9 line
pub data RefusedWith (file : List ℕ) (r : Refusal) : Type 0 where
  at_line : {s : Checker} (earlier later : List (List ℕ)) (l : List ℕ) → lines_of file ≡ earlier ++ l ∷ later → Through start earlier s
      → Broken (rules_of_line s l) (refusal r.number no_line r.place) → r.line ≡ behind_lines earlier → RefusedWith file r
  too_early : {s : Checker} → Through start (lines_of file) s → ended s.phase ≡ false → r ≡ refusal 2 (behind_lines (lines_of file)) 0 → RefusedWith file r
