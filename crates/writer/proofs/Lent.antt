-- Bytes over a part of the output that is lent from a place on, and a record's line end. Assumes nothing.
use mathlib.Core.Path.{◌≡◌, refl, sym, ap, ◌∙◌}
use mathlib.Core.List.{List, [], ◌∷◌, ◌++◌, flatten, append_assoc, append-nil}
use Prim.Native.Nat.{ℕ, ◌+◌, ◌-◌, ◌*◌, ◌≤◌, ◌<◌}
use native.Mathlib.Numerals.{add-one}
use native.Mathlib.Omega.{arith}
use lib.ListN.{length, get_or, take, drop, set, length-append, length-drop, drop_of_length-le}
use lib.Seq.{take-suc, drop-cons, set_at, drop-drop, take_all, take_at, drop_at}
use Rattle.checker.specs.Line.{line_from}
use Rattle.writer.specs.Refusals.{size}
use Rattle.writer.specs.inner.Steps.{line_with, lines_with}
use Rattle.fields.specs.declared.writing.Made.{Made}

module _ (rec out last : List ℕ) (over : last ≡ rec ++ drop 240 out) (k : length last ≡ length out) (h : 242 ≤ length out) where
  rec_length : length rec ≡ 240
  rec_length =
      let n : length last ≡ length rec + (length out - 240) = rw (over, length-append, length-drop) in
      omega arith

  pub line-end : set (set last 240 13) 241 10 ≡ line_from rec ++ drop 242 out
  line-end =
      let n : length (rec ++ 13 ∷ []) ≡ 241 = rw (length-append, rec_length) in
      let y = get_or out 241 0 in
      rw (over, drop-cons out 240 0 (omega arith), drop-cons out 241 0 (omega arith), set_at rec _ _ 13 240 rec_length)
      (ap (λ (l : List ℕ). set l 241 10) (sym (append_assoc rec (13 ∷ []) (y ∷ drop 242 out)))
      ∙ set_at (rec ++ 13 ∷ []) y (drop 242 out) 10 241 n
      ∙ simp append_assoc)

-- in memory that is made for one line
pub line_over : (rec last : List ℕ) → length rec ≡ 240 → last ≡ rec → set (set (last ++ 0 ∷ 0 ∷ []) 240 13) 241 10 ≡ line_from rec
line_over rec last long e =
    let n : length (rec ++ 13 ∷ []) ≡ 241 = rw (length-append, long) in
    rw (e, set_at rec 0 (0 ∷ []) 13 240 long)
    (ap (λ (l : List ℕ). set l 241 10) (sym (append_assoc rec (13 ∷ []) (0 ∷ []))) ∙ set_at (rec ++ 13 ∷ []) 0 [] 10 241 n ∙ simp append_assoc)

-- the part from a place to the end
module _ (at : ℕ) (out : List ℕ) (b : at ≤ length out) where
  pub whole : take (length out - at) (drop at out) ≡ drop at out
  whole = take_all (length out - at) (drop at out) (rw length-drop (omega arith))

  pub lent : (n : ℕ) (l new : List ℕ) → new ≡ l ++ drop n (take (length out - at) (drop at out))
      → take at out ++ (new ++ drop (length out - at) (drop at out)) ≡ take at out ++ (l ++ drop (at + n) out)
  lent n l new q =
      let none : drop (length out - at) (drop at out) ≡ [] = drop_of_length-le (drop at out) {i = length out - at} (rw length-drop (omega arith)) in
      rw (q, none, whole, append-nil, drop-drop n at out)

-- bytes over the first of a part that keeps its length
pub line_long : (l out last : List ℕ) → last ≡ l ++ drop 242 out → length last ≡ length out → 242 ≤ length out → length l ≡ 242
line_long l out last e k h =
    let n : length last ≡ length l + (length out - 242) = rw (e, length-append, length-drop) in
    omega arith

-- ---- the lines of records that are made, one behind the other

pub lines_and : (ms : List Made) (m : Made) → lines_with (ms ++ m ∷ []) ≡ lines_with ms ++ line_with m ∷ []
lines_and [] m = refl
lines_and (x ∷ ms) m = ap (λ (ls : List (List ℕ)). line_with x ∷ ls) (lines_and ms m)

-- the first k of them over the first bytes
pub record Over (made : List Made) (k : ℕ) (out part : List ℕ) : Type 0 where
  pub is : part ≡ flatten (lines_with (take k made)) ++ drop (size k) out
  pub long : length (flatten (lines_with (take k made))) ≡ size k
  pub same : length part ≡ length out

pub over_first : (made : List Made) (out : List ℕ) → Over made 0 out out
unfolding flatten
over_first made out = record { is = refl; long = refl; same = refl }

flatten_and : (ls : List (List ℕ)) (l : List ℕ) → flatten (ls ++ l ∷ []) ≡ flatten ls ++ l
unfolding flatten
flatten_and [] l = append-nil l
flatten_and (x ∷ ls) l = rw (flatten_and ls l, append_assoc)

-- one more
module _ (made : List Made) (k : ℕ) (m : Made) {out part : List ℕ} (o : Over made k out part) (there : k < length made) (room : size (k + 1) ≤ length out) where
  abbrev front : List ℕ
  front = flatten (lines_with (take k made))

  abbrev line : List ℕ
  line = line_with (get_or made k m)

  pub at_most : k * 242 ≤ length part
  at_most = omega (arith, o.same)

  line_room : 242 ≤ length (take (length part - k * 242) (drop (k * 242) part))
  line_room = rw (whole (k * 242) part at_most, length-drop) (omega (arith, o.same))

  pub over_next : (new : List ℕ) → new ≡ line ++ drop 242 (take (length part - k * 242) (drop (k * 242) part))
      → length new ≡ length (take (length part - k * 242) (drop (k * 242) part))
      → Over made (k + 1) out (take (k * 242) part ++ (new ++ drop (length part - k * 242) (drop (k * 242) part)))
  over_next new q same =
      let at = k * 242 in
      let part-is = lent at part at_most 242 line new q in
      let here : length line ≡ 242 = line_long line (take (length part - at) (drop at part)) new q same line_room in
      let early : take at part ≡ front = rw o.is (take_at front (drop (size k) out) at (omega (arith, o.long))) in
      let rest : drop at part ≡ drop (size k) out = rw o.is (drop_at front (drop (size k) out) at (omega (arith, o.long))) in
      let n : size k + 242 ≡ size (k + 1) = omega arith in
      let late : drop (at + 242) part ≡ drop (size (k + 1)) out = sym (drop-drop 242 at part) ∙ rw rest (drop-drop 242 (size k) out ∙ rw n) in
      let lines : flatten (lines_with (take (k + 1) made)) ≡ front ++ line = rw (add-one k, take-suc made k m there, lines_and (take k made) (get_or made k m)) (flatten_and (lines_with (take k made)) line) in
      let is : take at part ++ (new ++ drop (length part - at) (drop at part)) ≡ flatten (lines_with (take (k + 1) made)) ++ drop (size (k + 1)) out =
      part-is ∙ rw (early, late, lines) (sym (append_assoc front line (drop (size (k + 1)) out))) in
      let long : length (flatten (lines_with (take (k + 1) made))) ≡ size (k + 1) = rw (lines, length-append) (omega (arith, o.long)) in
      record { is = is; long = long; same = ap length is ∙ rw (length-append, long, length-drop) (omega arith) }
