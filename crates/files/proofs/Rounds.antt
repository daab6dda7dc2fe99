-- One turn over many lines. Assumes nothing.
use Rattle.std.specs.Prelude.{◌≡◌, true, false, List, [], ◌∷◌, ◌++◌, ℕ, ◌≤◌, ◌<◌, min, length, take, drop, Err, Ok, is_err}
use Rattle.std.proofs.Common.{refl, sym, ap, ◌∙◌, arith, length-append, drop_of_length-le, take_all, append-nil}
use Rattle.std.proofs.lemmas.List.{take-append-le, drop-append-le}
use Rattle.answer.specs.Rules.{Answer}
use Rattle.checker.specs.Line.{line_bytes}
use Rattle.checker.specs.Machine.{stepped, step_of}
use Rattle.checker.specs.declared.Checker.{Checker}
use Rattle.checker.specs.declared.Stepped.{Stepped}
use Rattle.files.specs.File.{lines_of, unless, steps}
use Rattle.files.proofs.laws.Runs.{no_lines, next_line}

-- ---- a line off the front of what is left: whole, or the last

record Cut (rest line later : List ℕ) : Type 0 where
  front : line ≡ take line_bytes rest
  behind : later ≡ drop line_bytes rest

cut : (rest line later : List ℕ) → rest ≡ line ++ later → length line ≡ min line_bytes (length rest) → Cut rest line later
cut rest line [] are many =
    let whole : rest ≡ line = are ∙ append-nil line in
    let within : length line ≤ line_bytes = omega arith in
    record { front = rw whole (sym (take_all line_bytes line within)); behind = rw whole (sym (drop_of_length-le line {i = line_bytes} within)) }
cut rest line (b ∷ later) are many =
    let long : length line ≡ line_bytes = omega (arith, length-append line (b ∷ later), ap length are) in
    let none : drop line_bytes line ≡ [] = drop_of_length-le line {i = line_bytes} (omega arith) in
    record {
      front = rw are (sym (take-append-le line_bytes line (b ∷ later) (omega arith) ∙ take_all line_bytes line (omega arith)));
      behind = rw are (sym (drop-append-le line_bytes line (b ∷ later) (omega arith) ∙ rw none));
    }

pub turn : (rest line later : List ℕ) → rest ≡ line ++ later → length line ≡ min line_bytes (length rest) → 0 < length rest → (s : Checker)
    → steps s (lines_of rest) ≡ unless (step_of s line).answer (steps (step_of s line).state (lines_of later)) (step_of s line)
unfolding steps
turn rest line later are many more s =
    let c = cut rest line later are many in
    rw (c.front, c.behind) (ap (steps s) (next_line rest more))

pub no_more : (rest : List ℕ) (s : Checker) → length rest ≡ 0 → steps s (lines_of rest) ≡ stepped s (Ok tt)
unfolding steps
no_more [] s h = rw no_lines
no_more (b ∷ rest) s h = absurd (omega arith)

-- ---- a refusal ends the steps

pub goes_on : (a : Answer) (on stop : Stepped) → is_err a ≡ false → unless a on stop ≡ on
goes_on (Ok tt) on stop e = refl
goes_on (Err r) on stop e = cc

pub stops : (a : Answer) (on stop : Stepped) → is_err a ≡ true → unless a on stop ≡ stop
stops (Ok tt) on stop e = cc
stops (Err r) on stop e = refl
