-- The line of a file that has n lines before it, what stands before it and what behind it; and a file that differs only inside a field of that line.
-- Assumes nothing.
use Rattle.std.specs.Prelude.{◌≡◌, ℕ, zero, suc, ◌+◌, ◌*◌, ◌-◌, ◌≤◌, ◌<◌, length, get_or, take, drop}
use Rattle.std.proofs.Common.{sym, ap, ◌∙◌, arith, length-take, length-drop, take-append-drop, length-take-le, take_at, take-take, drop-drop, get_or-take, get_or-drop, ext_get_or}
use mathlib.Core.List.{List, [], ◌∷◌, ◌++◌, flatten}
use Rattle.std.proofs.Math.Decide.{dec_le}
use Rattle.std.proofs.Math.ListN.{get_or-eq_default}
use Rattle.std.proofs.lemmas.List.{get_or_at}
use Rattle.digits.specs.Digits.{place}
use Rattle.layout.specs.Field.{Field, part}
use Rattle.layout.specs.Table.{record_bytes}
use Rattle.checker.specs.Line.{line_bytes, record_in}
use Rattle.files.specs.File.{lines_of}
use Rattle.files.proofs.laws.Runs.{no_lines, next_line, lines_append, lines_joined}
use Rattle.promises.specs.Guarded.{In, line_at}
use Rattle.swaps.specs.Guarded.{DifferIn, in_line}
use Rattle.swaps.proofs.laws.Differ.{slice_same, rest_same}

-- whole lines are as many
lines_count : (k : ℕ) (a : List ℕ) → length a ≡ k * line_bytes → length (lines_of a) ≡ k
lines_count zero [] e = ap length no_lines
lines_count zero (x ∷ a) e = absurd (omega arith)
lines_count (suc k) a e = ap length (next_line a (omega arith)) ∙ ap suc (lines_count k (drop line_bytes a) (simp length-drop (omega arith)))

-- those before line n, and those behind it
abbrev pub earlier : ℕ → List ℕ → List (List ℕ)
earlier n file = lines_of (take (n * line_bytes) file)

abbrev pub rest : ℕ → List ℕ → List (List ℕ)
rest n file = lines_of (drop line_bytes (drop (n * line_bytes) file))

module _ (n : ℕ) (file : List ℕ) (h : n * line_bytes < length file) where
  front_long : length (take (n * line_bytes) file) ≡ n * line_bytes
  front_long = length-take-le (n * line_bytes) file (omega arith)

  pub split : lines_of file ≡ earlier n file ++ line_at n file ∷ rest n file
  split =
      let back = drop (n * line_bytes) file in
      ap lines_of (sym (take-append-drop (n * line_bytes) file))
      ∙ (lines_append n (take (n * line_bytes) file) back front_long
      ∙ ap (λ (ls : List (List ℕ)). earlier n file ++ ls) (next_line back (simp length-drop (omega arith))))

  -- n lines come before
  pub take_earlier : take n (lines_of file) ≡ earlier n file
  take_earlier = ap (take n) split ∙ take_at (earlier n file) _ n (lines_count n (take (n * line_bytes) file) front_long)

  -- line n is the one behind them
  pub line_there : get_or (lines_of file) n [] ≡ line_at n file
  line_there = ap (λ (ls : List (List ℕ)). get_or ls n []) split ∙ get_or_at (earlier n file) _ _ [] n (lines_count n (take (n * line_bytes) file) front_long)

  -- their bytes are the first ones of the file
  pub joined_earlier : flatten (take n (lines_of file)) ≡ take (n * line_bytes) file
  joined_earlier = ap flatten take_earlier ∙ lines_joined (take (n * line_bytes) file)

  -- the first line has the file's first record
  pub first_record : record_in (get_or (earlier n file ++ line_at n file ∷ rest n file) 0 []) ≡ record_in file
  first_record =
      ap (λ (ls : List (List ℕ)). record_in (get_or ls 0 [])) (sym split ∙ next_line file (omega arith)) ∙ take-take record_bytes line_bytes file (omega arith)

-- a place of the line, in the file
pub place_there : (n p : ℕ) (file : List ℕ) → 1 ≤ p → p ≤ line_bytes → place p (line_at n file) ≡ place (n * line_bytes + p) file
place_there n p file h k =
    let e : n * line_bytes + (p - 1) ≡ n * line_bytes + p - 1 = omega arith in
    rw (get_or-take line_bytes (drop (n * line_bytes) file) (p - 1) 0 (omega arith), get_or-drop, e)

-- a field of its record, in the file
pub part_there : (n : ℕ) (f : Field) (file : List ℕ) → 1 ≤ f.from → f.from ≤ f.to → f.to ≤ record_bytes → part f (record_in (line_at n file)) ≡ part (in_line n f) file
part_there n f file low order high =
    let m = n * line_bytes in
    let at = f.from - 1 in
    let begin : m + f.from - 1 ≡ m + at = omega arith in
    let wide : m + f.to - (m + at) ≡ f.to - at = omega arith in
    rw (begin, wide, take-take record_bytes line_bytes (drop m file) (omega arith), inner at (f.to - at) record_bytes (drop m file) (omega arith), drop-drop at m file)
  where
    -- bytes among the first k
    inner : (a w k : ℕ) (xs : List ℕ) → a + w ≤ k → take w (drop a (take k xs)) ≡ take w (drop a xs)
    inner a w k xs h = ext_get_or 0 (take w (drop a (take k xs))) (take w (drop a xs)) (simp (length-take, length-drop) (omega arith)) each
      where
        each : (i : ℕ) → i < length (take w (drop a (take k xs))) → get_or (take w (drop a (take k xs))) i 0 ≡ get_or (take w (drop a xs)) i 0
        each i l =
            let few : i < w = omega (arith, length-take w (drop a (take k xs))) in
            rw (get_or-take w (drop a (take k xs)) i 0 few, get_or-take w (drop a xs) i 0 few, get_or-drop, get_or-drop, get_or-take k xs (a + i) 0 (omega arith))

-- ---- another file

module _ (n : ℕ) (f : Field) (file other : List ℕ) (d : DifferIn (in_line n f) file other) (first : 1 ≤ f.from) (last : f.to ≤ line_bytes) where
  before : take (n * line_bytes) file ≡ take (n * line_bytes) other
  before = slice_same d 0 (n * line_bytes) (λ q h k i. omega arith)

  behind : drop line_bytes (drop (n * line_bytes) file) ≡ drop line_bytes (drop (n * line_bytes) other)
  behind = rw (drop-drop, drop-drop) (rest_same d (n * line_bytes + line_bytes) (λ q h i. omega arith))

  -- its lines are those of the file, but for line n
  pub split_other : n * line_bytes < length file → lines_of other ≡ earlier n file ++ line_at n other ∷ rest n file
  split_other h = rw (before, behind) (split n other (omega (arith, d.long)))

  -- which differs from the file's only inside the field
  pub line_differs : DifferIn f (line_at n file) (line_at n other)
  line_differs = record {
    long = simp (length-take, length-drop) (rw d.long);
    unlike = λ e. d.unlike (sym (whole file) ∙ rw (before, behind, e) (whole other));
    elsewhere = λ q h out. go q h out (dec_le q line_bytes);
  }
    where
      whole : (xs : List ℕ) → take (n * line_bytes) xs ++ (line_at n xs ++ drop line_bytes (drop (n * line_bytes) xs)) ≡ xs
      whole xs = rw take-append-drop (take-append-drop (n * line_bytes) xs)

      -- a place behind the line is none
      past : (q : ℕ) (xs : List ℕ) → line_bytes < q → place q (line_at n xs) ≡ 0
      past q xs h = get_or-eq_default (line_at n xs) 0 (omega (arith, length-take line_bytes (drop (n * line_bytes) xs)))

      go : (q : ℕ) → 1 ≤ q → (In f q → ⊥) → Dec (q ≤ line_bytes) → place q (line_at n file) ≡ place q (line_at n other)
      go q h out (yes k) =
          place_there n q file h k ∙ d.elsewhere (n * line_bytes + q) (omega arith) (λ i. out (omega arith)) ∙ sym (place_there n q other h k)
      go q h out (no k) = past q file (omega arith) ∙ sym (past q other (omega arith))
