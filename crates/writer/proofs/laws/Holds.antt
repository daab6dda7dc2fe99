-- A record that is written holds at each place what its field gives: a filled number, what the caller gives, or what is fixed. Assumes nothing.
use Rattle.std.specs.Prelude.{◌≡◌, false, length, get_or, take}
use Rattle.std.proofs.Math.Path.{refl}
use Rattle.std.proofs.Common.{ap, ◌∙◌, not-suc-le-zero, le_of_suc-le-suc, arith}
use mathlib.Core.List.{List, [], ◌∷◌}
use Prim.Native.Nat.{ℕ, zero, suc, ◌-◌, ◌≤◌, ◌<◌}
use Rattle.std.proofs.Math.ListN.{get_or-append}
use Rattle.digits.specs.Digits.{place}
use Rattle.layout.specs.Field.{part, none}
use Rattle.layout.specs.Table.{fields_of, record_bytes}
use Rattle.layout.proofs.laws.Tiling.{covered}
use Rattle.layout.specs.declared.Record.{Record}
use Rattle.fields.specs.Values.{held_as, nth, rendered}
use Rattle.fields.proofs.laws.Parts.{holds_at}
use Rattle.fields.specs.declared.Fields.{Fields}
use Rattle.checker.specs.Line.{line_from}
use Rattle.checker.specs.declared.Checker.{Checker}
use Rattle.filling.specs.Filling.{filled, bytes_of}
use Rattle.writer.specs.Refusals.{next_by}
use Rattle.writer.specs.Outcome.{lines_for, behind_all}
use Rattle.fields.specs.Values.{Whole}
use Rattle.writer.specs.Calls.{AllWhole, no_more, and_then}
use Rattle.filling.proofs.laws.Filled.{fills_in, fills_at, filled_text, not_filled}
use Rattle.writer.proofs.laws.Lines.{full_text, bytes_length}

-- ---- at each place of a record

-- the byte at a place, from the number and the text of the field that holds it
abbrev pub byte_from : (r : Record) (v : Fields) (text : List ℕ) (q : ℕ) → 1 ≤ q → q ≤ record_bytes → ℕ
byte_from r v text q l u =
    let j = (covered r q l u).index in
    let f = get_or (fields_of r) j none in
    place (q - (f.from - 1)) (rendered (held_as f) (nth j v) (part f text))

module _ (s : Checker) (g : Fields) (whole : Whole g) (q : ℕ) (l : 1 ≤ q) (u : q ≤ record_bytes) where
  -- the caller's text, and the numbers as the writer fills them
  pub record_holds : place q (bytes_of s g) ≡ byte_from g.which (filled g.which s g) g.text q l u
  record_holds =
      let v = filled g.which s g in
      holds_at g.which v (full_text s g whole) q l u
      ∙ ap (λ (text : List ℕ). byte_from g.which v text q l u) (filled_text g.which s g)

  -- the caller's number, where the writer fills none
  pub given_holds : fills_at (fills_in g.which s) (covered g.which q l u).index ≡ false
      → place q (bytes_of s g) ≡ byte_from g.which g g.text q l u
  given_holds e = record_holds ∙ rw (not_filled g.which s g _ e)

-- ---- at each place of a line

module _ (d : Fields) where
  whole_at : {gs : List Fields} → AllWhole gs → (i : ℕ) → i < length gs → Whole (get_or gs i d)
  whole_at no_more i h = absurd (not-suc-le-zero h)
  whole_at (and_then w a) zero h = w
  whole_at (and_then w a) (suc i) h = whole_at a i (le_of_suc-le-suc h)

  -- a call's lines are those of its records, each in the state that the records before it leave
  pub line-is : (s : Checker) (gs : List Fields) (i : ℕ) → i < length gs
      → get_or (lines_for s gs) i [] ≡ line_from (bytes_of (behind_all s (take i gs)) (get_or gs i d))
  unfolding lines_for behind_all
  line-is s [] i h = absurd (not-suc-le-zero h)
  line-is s (g ∷ gs) zero h = refl
  line-is s (g ∷ gs) (suc i) h = line-is (next_by s g) gs i (le_of_suc-le-suc h)

  pub line_holds : (s : Checker) {gs : List Fields} → AllWhole gs → (i : ℕ) → i < length gs → (q : ℕ) (l : 1 ≤ q) (u : q ≤ record_bytes)
      → let g = get_or gs i d in
      place q (get_or (lines_for s gs) i []) ≡ byte_from g.which (filled g.which (behind_all s (take i gs)) g) g.text q l u
  line_holds s {gs} a i h q l u =
      let t = behind_all s (take i gs) in
      let g = get_or gs i d in
      let w = whole_at a i h in
      rw (line-is s gs i h) (get_or-append (bytes_of t g) _ 0 (q - 1) (omega (arith, bytes_length t g w)) ∙ record_holds t g w q l u)
