-- Where the blocks of a collection's line stand, and their digits in the code. Assumes nothing.
use Rattle.std.specs.Prelude.{◌≡◌, refl, List, ◌++◌, ℕ, ◌+◌, ◌-◌, ◌*◌, ◌/◌, ◌<◌, ◌≤◌, length, get_or, take, drop, set}
use Rattle.std.proofs.Common.{sym, ap, ◌∙◌, length-take, length-drop, length-append, get_or-set_same}
use native.Mathlib.Omega.{arith}
use Rattle.std.proofs.Math.Decide.{dec_lt}
use Rattle.std.proofs.lemmas.List.{set-append_left, set-get_or}
use Rattle.std.proofs.Math.Seq.{drop-set-lt}
use Rattle.digits.proofs.laws.Strings.{part_set, part_kept, set_append_right, spelled_out}
use Rattle.digits.proofs.laws.Seals.{Sealed}
use Rattle.boleto.specs.Collection.{code_line_digits, modulus_of, code_of}
use Rattle.boleto.specs.CollectionGuarded.{block_places, block_end, block_of}
use Rattle.boleto.proofs.laws.CollectionAccepted.{CodeLine}
use Rattle.boleto.proofs.laws.CollectionConversions.{code_long}

-- four parts of eleven bytes, and a byte stored in one of them
module _ (xs ys zs ws : List ℕ) (hx : length xs ≡ 11) (hy : length ys ≡ 11) (hz : length zs ≡ 11) (i v : ℕ) where
  set_first : i < 11 → set (xs ++ ys ++ zs ++ ws) i v ≡ set xs i v ++ ys ++ zs ++ ws
  set_first h =
      rw (
        set-append_left (xs ++ ys ++ zs) ws i v (simp length-append (omega arith)),
        set-append_left (xs ++ ys) zs i v (simp length-append (omega arith)),
        set-append_left xs ys i v (omega arith),
      )

  set_second : 11 ≤ i → i < 22 → set (xs ++ ys ++ zs ++ ws) i v ≡ xs ++ set ys (i - 11) v ++ zs ++ ws
  set_second lo h =
      rw (
        set-append_left (xs ++ ys ++ zs) ws i v (simp length-append (omega arith)),
        set-append_left (xs ++ ys) zs i v (simp length-append (omega arith)),
        set_append_right xs ys i v (omega arith),
        hx,
      )

  set_third : 22 ≤ i → i < 33 → set (xs ++ ys ++ zs ++ ws) i v ≡ xs ++ ys ++ set zs (i - 22) v ++ ws
  set_third lo h =
      let two : length (xs ++ ys) ≡ 22 = simp length-append (omega arith) in
      rw (set-append_left (xs ++ ys ++ zs) ws i v (simp length-append (omega arith)), set_append_right (xs ++ ys) zs i v (omega arith), two)

  set_fourth : 33 ≤ i → set (xs ++ ys ++ zs ++ ws) i v ≡ xs ++ ys ++ zs ++ set ws (i - 33) v
  set_fourth lo =
      let three : length (xs ++ ys ++ zs) ≡ 33 = simp length-append (omega arith) in
      rw (set_append_right (xs ++ ys ++ zs) ws i v (omega arith), three)

-- the block in which index i of a line stands: where it begins, how many are before it, that it is sealed in every
-- accepted line, and that its digits are digits of the code
pub record Block (i : ℕ) : Type 0 where
  pub before : ℕ
  pub counted : before ≡ i / 12
  pub start : ℕ
  pub begins : start ≡ 12 * before
  pub sealed : (l : List ℕ) → CodeLine l → Sealed (modulus_of l) 11 (take 12 (drop start l))
  pub stored : (l : List ℕ) (v : ℕ) → length l ≡ code_line_digits → i < start + 11 → code_of (set l i v) ≡ set (code_of l) (i - before) v

module _ (l : List ℕ) (i v : ℕ) (h : length l ≡ code_line_digits) where
  eleven_long : (a : ℕ) → a + 12 ≤ 48 → length (take 11 (drop a l)) ≡ 11
  eleven_long a f = simp (length-take, length-drop) (omega arith)

  -- the four parts of a line that make its code, and the code with a byte stored
  abbrev part : ℕ → List ℕ
  part a = take 11 (drop a l)

  pub stored_first : i < 11 → code_of (set l i v) ≡ set (code_of l) (i - 0) v
  unfolding code_of
  stored_first up =
      let at : i - 0 ≡ i = omega arith in
      rw (part_set l 0 11 i v (omega arith) up, drop-set-lt 12 l i v (omega arith), drop-set-lt 24 l i v (omega arith), drop-set-lt 36 l i v (omega arith), at)
      (sym (set_first (part 0) (part 12) (part 24) (part 36) (eleven_long 0 (omega arith)) (eleven_long 12 (omega arith)) (eleven_long 24 (omega arith)) i v up))

  stored_second : 12 ≤ i → i < 23 → code_of (set l i v) ≡ set (code_of l) (i - 1) v
  unfolding code_of
  stored_second lo up =
      let at : i - 12 ≡ i - 1 - 11 = omega arith in
      rw (part_kept l 0 11 i v (omega arith), part_set l 12 11 i v lo up, drop-set-lt 24 l i v (omega arith), drop-set-lt 36 l i v (omega arith), at)
      (sym (set_second (part 0) (part 12) (part 24) (part 36) (eleven_long 0 (omega arith)) (eleven_long 12 (omega arith)) (eleven_long 24 (omega arith)) (i - 1) v (omega arith) (omega arith)))

  stored_third : 24 ≤ i → i < 35 → code_of (set l i v) ≡ set (code_of l) (i - 2) v
  unfolding code_of
  stored_third lo up =
      let at : i - 24 ≡ i - 2 - 22 = omega arith in
      rw (part_kept l 0 11 i v (omega arith), part_kept l 12 11 i v (omega arith), part_set l 24 11 i v lo up, drop-set-lt 36 l i v (omega arith), at)
      (sym (set_third (part 0) (part 12) (part 24) (part 36) (eleven_long 0 (omega arith)) (eleven_long 12 (omega arith)) (eleven_long 24 (omega arith)) (i - 2) v (omega arith) (omega arith)))

  stored_fourth : 36 ≤ i → i < 47 → code_of (set l i v) ≡ set (code_of l) (i - 3) v
  unfolding code_of
  stored_fourth lo up =
      let at : i - 36 ≡ i - 3 - 33 = omega arith in
      rw (part_kept l 0 11 i v (omega arith), part_kept l 12 11 i v (omega arith), part_kept l 24 11 i v (omega arith), part_set l 36 11 i v lo up, at)
      (sym (set_fourth (part 0) (part 12) (part 24) (part 36) (eleven_long 0 (omega arith)) (eleven_long 12 (omega arith)) (eleven_long 24 (omega arith)) (i - 3) v (omega arith)))

pub block_at : (i : ℕ) → i < code_line_digits → Block i
block_at i h = go (dec_lt i 12) (dec_lt i 24) (dec_lt i 36)
  where
    go : Dec (i < 12) → Dec (i < 24) → Dec (i < 36) → Block i
    go (yes p) q r = record { before = 0; counted = omega arith; start = 0; begins = refl; sealed = λ l a. a.first; stored = λ l v long up. stored_first l i v long up }
    go (no p) (yes q) r = record { before = 1; counted = omega arith; start = 12; begins = refl; sealed = λ l a. a.second; stored = λ l v long up. stored_second l i v long (omega arith) up }
    go (no p) (no q) (yes r) = record { before = 2; counted = omega arith; start = 24; begins = refl; sealed = λ l a. a.third; stored = λ l v long up. stored_third l i v long (omega arith) up }
    go (no p) (no q) (no r) = record { before = 3; counted = omega arith; start = 36; begins = refl; sealed = λ l a. a.fourth; stored = λ l v long up. stored_fourth l i v long (omega arith) up }

-- identifier and general check of a line in its code
pub identifier_in_code : (l : List ℕ) → length l ≡ code_line_digits → get_or (code_of l) 2 0 ≡ get_or l 2 0
unfolding code_of
identifier_in_code l h = rw (spelled_out code_line_digits l h)

pub check_in_code : (l : List ℕ) → length l ≡ code_line_digits → get_or (code_of l) 3 0 ≡ get_or l 3 0
unfolding code_of
check_in_code l h = rw (spelled_out code_line_digits l h)

module _ (l : List ℕ) (i : ℕ) (a : CodeLine l) (h : i < code_line_digits) (b : Block i) where
  pub starts : (b.start ≤ i) × (i < b.start + 12) × (b.start + 12 ≤ 48)
  starts = let c = b.counted in let s = b.begins in (omega arith, omega arith, omega arith)

  -- a digit of the line in its code
  pub in_code : i < b.start + 11 → get_or (code_of l) (i - b.before) 0 ≡ get_or l i 0
  in_code up =
      ap (λ (x : List ℕ). get_or x (i - b.before) 0) (ap code_of (sym (set-get_or l i 0)) ∙ b.stored l (get_or l i 0) a.long up)
      ∙ get_or-set_same (code_of l) (i - b.before) (get_or l i 0) 0 (omega (arith, code_long l a.long, starts, b.begins))

-- the block by its places
pub block_is : (p : ℕ) (b : Block (p - 1)) (l : List ℕ) → block_of p l ≡ take 12 (drop b.start l)
block_is p b l =
    let from : block_end p - block_places + 1 - 1 ≡ b.start = omega (arith, b.counted, b.begins) in
    let many : block_end p - b.start ≡ 12 = omega (arith, b.counted, b.begins) in
    rw (from, many)
