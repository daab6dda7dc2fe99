-- Demand 3 for digit strings: another byte at a guarded place of an accepted barcode or line, and two neighbours of a barcode swapped, are refused.
-- Assumes nothing.
use Rattle.std.specs.Prelude.{◌≡◌, ◌≢◌, ◌⊎◌, not, List, ◌∷◌, ◌++◌, ℕ, suc, ◌+◌, ◌-◌, ◌<◌, ◌≤◌, length, get_or, take, drop, set, T, Ok}
use Rattle.std.proofs.Common.{sym, ap, ◌∙◌, inl, inr, ⊎_elim, append_assoc, arith, length-take, length-drop, length-append, get_or-set_same, get_or-append-add}
use Rattle.std.proofs.Math.Decide.{dec_lt}
use Rattle.std.proofs.lemmas.List.{set-append_left, set-get_or}
use Rattle.answer.specs.Rules.{first_broken}
use Rattle.digits.specs.Digits.{digit_byte, place, swapped}
use Rattle.digits.proofs.laws.Strings.{Digits, part_set, part_kept, set_append_right}
use Rattle.digits.proofs.laws.Moduli.{blind, ten_tells_digits, eleven_tells_digits}
use Rattle.digits.proofs.laws.Seals.{Sealed, one_change, neighbours, neighbours_swapped}
use Rattle.digits.specs.declared.sealing.Modulus.TheVariants.{Ten, Eleven}
use Rattle.std.proofs.Math.Seq.{get_or-append_seam}
use Rattle.boleto.specs.Strings.{barcode_digits, line_digits, barcode_check, line_check, barcode_of}
use Rattle.boleto.specs.Rules.{barcode_rules, digit_line_rules}
use Rattle.boleto.specs.Guarded.{GuardedInBarcode, GuardedPairInBarcode, GuardedInLine, all, currency, check, checked, rest}
use Rattle.boleto.proofs.laws.Parts.{stored_digit, other_than, part_same}
use Rattle.boleto.proofs.laws.Accepted.{Barcode, Line, barcode-of, line_of}
use Rattle.boleto.proofs.laws.Conversions.{barcode_long}

-- ---- the barcode

module _ (bar : List ℕ) (i v : ℕ) (b : Barcode bar) (b' : Barcode (set bar i v)) (h : i < barcode_digits) where
  barcode_same : (i ≢ 4 → T (not (blind Eleven (get_or bar 4 0 - 48)))) → v ≡ get_or bar i 0
  barcode_same f =
      let hi : i < length bar = omega arith in
      one_change Eleven bar 4 i v (omega arith) hi b.seal b'.seal eleven_tells_digits (b.digits.each i hi) (stored_digit bar i v hi b'.digits) f

-- one byte of an accepted barcode changed at a guarded place is refused
pub barcode_change : (bar : List ℕ) (p v : ℕ) → first_broken (barcode_rules bar) ≡ Ok tt → GuardedInBarcode bar p → v ≢ place p bar →
    first_broken (barcode_rules (set bar (p - 1) v)) ≢ (Ok tt)
barcode_change bar p v e (all f lo up) ne e' =
    let b = barcode-of bar e in
    ne (barcode_same bar (p - 1) v b (barcode-of (set bar (p - 1) v) e') (omega arith) (λ _. other_than 1 _ (b.digits.each 4 (omega arith)).0 f))
barcode_change bar p v e currency ne e' =
    let b = barcode-of bar e in
    let b' = barcode-of (set bar 3 v) e' in
    ne (sym (get_or-set_same bar 3 v 0 (omega arith)) ∙ b'.currency ∙ sym b.currency)
barcode_change bar p v e check ne e' =
    ne (barcode_same bar 4 v (barcode-of bar e) (barcode-of (set bar 4 v) e') (omega arith) (λ n. absurd (n (omega arith))))

-- two unequal neighbours swapped, neither of them the check digit, are refused when it isn't 1
pub barcode_neighbours : (xs zs : List ℕ) (a b : ℕ) → first_broken (barcode_rules (xs ++ a ∷ b ∷ zs)) ≡ Ok tt → place barcode_check (xs ++ a ∷ b ∷ zs) ≢ digit_byte 1 →
    (length xs < 3) ⊎ (4 < length xs) → a ≢ b → first_broken (barcode_rules (xs ++ b ∷ a ∷ zs)) ≢ (Ok tt)
barcode_neighbours xs zs a b e f w ne e' =
    let c = barcode-of (xs ++ a ∷ b ∷ zs) e in
    let c' = barcode-of (xs ++ b ∷ a ∷ zs) e' in
    let long = length-append xs (a ∷ b ∷ zs) in
    let da = rw (get_or-append_seam xs a (b ∷ zs) 0) at (c.digits.each (length xs) (omega arith)) in
    let db = rw (get_or-append-add xs (a ∷ b ∷ zs) 1 0) at (c.digits.each (length xs + 1) (omega arith)) in
    ne (neighbours xs zs a b 4 c.seal c'.seal da db (⊎_elim (λ l. inr (omega arith)) (λ g. inl g) w) (other_than 1 _ (c.digits.each 4 (omega arith)).0 f))

-- two unequal neighbours of an accepted barcode swapped are refused where swaps are guarded
pub barcode_swap : (bar : List ℕ) (p : ℕ) → first_broken (barcode_rules bar) ≡ Ok tt → GuardedPairInBarcode bar p → place p bar ≢ place (suc p) bar →
    first_broken (barcode_rules (swapped p bar)) ≢ (Ok tt)
barcode_swap bar p e g ne e' =
    let i = p - 1 in
    let b = barcode-of bar e in
    let next : suc p - 1 ≡ p = omega arith in
    let at : p ≡ suc i = omega (arith, g.from_first) in
    let by_index : swapped p bar ≡ set (set bar i (get_or bar (suc i) 0)) (suc i) (get_or bar i 0) =
    rw next (ap (λ (k : ℕ). set (set bar i (get_or bar k 0)) k (get_or bar i 0)) at) in
    let b' = barcode-of _ (rw by_index at e') in
    let few : suc i < length bar = omega (arith, g.to_last, b.long) in
    let same = neighbours_swapped bar 4 i few b.seal b'.seal (b.digits.each i (omega arith)) (b.digits.each (suc i) few)
    (λ q. g.left_not_check (omega arith)) (λ q. g.right_not_check (omega arith)) (other_than 1 _ (b.digits.each 4 (omega arith)).0 g.not_one) in
    ne (same ∙ ap (λ (k : ℕ). get_or bar k 0) (sym at ∙ sym next))

-- ---- the line

-- a field: n digits from index a on, and their check digit
field_same : (l : List ℕ) (a n i v : ℕ) → a + suc n ≤ length l → a ≤ i → i < a + suc n → Digits l → Digits (set l i v) →
    Sealed Ten n (take (suc n) (drop a l)) → Sealed Ten n (take (suc n) (drop a (set l i v))) → v ≡ get_or l i 0
field_same l a n i v fits lo up ds ds' s s' = part_same Ten ten_tells_digits l a n i v fits lo up ds ds' s s' (λ _. tt)

-- the last fifteen of a line, in its barcode
tail : (l : List ℕ) (i v : ℕ) → length l ≡ line_digits → 32 ≤ i → i < line_digits → barcode_of (set l i v) ≡ set (barcode_of l) (i - 28) v
unfolding barcode_of
tail l i v h lo up =
    let four : length (take 4 l) ≡ 4 = simp length-take (omega arith) in
    let place : i - 28 - length (take 4 l) ≡ i - 32 = omega arith in
    rw (part_kept l 0 4 i v (omega arith), part_set l 32 15 i v lo up, part_kept l 4 5 i v (omega arith), part_kept l 10 10 i v (omega arith), part_kept l 21 10 i v (omega arith))
    (simp append_assoc
    (rw (set_append_right (take 4 l) _ (i - 28) v (omega arith), place, set-append_left (take 15 (drop 32 l)) _ (i - 32) v (simp (length-take, length-drop) (omega arith)))))

tail_get_or : (l : List ℕ) (i : ℕ) → length l ≡ line_digits → 32 ≤ i → i < line_digits → get_or (barcode_of l) (i - 28) 0 ≡ get_or l i 0
tail_get_or l i h lo up =
    let b = barcode_long l h in
    ap (λ (x : List ℕ). get_or x (i - 28) 0) (ap barcode_of (sym (set-get_or l i 0)) ∙ tail l i (get_or l i 0) h lo up)
    ∙ get_or-set_same (barcode_of l) (i - 28) (get_or l i 0) 0 (omega arith)

module _ (l : List ℕ) (i v : ℕ) (a : Line l) (a' : Line (set l i v)) (h : i < line_digits) (f : line_check ≤ i → place line_check l ≢ digit_byte 1) where
  general_same : 32 ≤ i → v ≡ get_or l i 0
  general_same lo =
      let b = barcode_long l a.long in
      let same = tail_get_or l i a.long lo h in
      one_change Eleven (barcode_of l) 4 (i - 28) v (omega arith) (omega arith) a.seal (rw (tail l i v a.long lo h) at a'.seal) eleven_tells_digits (rw same (a.digits.each i (omega arith)))
      (stored_digit l i v (omega arith) a'.digits)
      (λ ne. rw (tail_get_or l 32 a.long (omega arith) (omega arith)) (other_than 1 _ (a.digits.each 32 (omega arith)).0 (f (omega arith))))
      ∙ same

  line_same : Dec (i < 10) → Dec (i < 21) → Dec (i < 32) → v ≡ get_or l i 0
  line_same (yes p) q r = field_same l 0 9 i v (omega arith) (omega arith) (omega arith) a.digits a'.digits a.first a'.first
  line_same (no p) (yes q) r = field_same l 10 10 i v (omega arith) (omega arith) (omega arith) a.digits a'.digits a.second a'.second
  line_same (no p) (no q) (yes r) = field_same l 21 10 i v (omega arith) (omega arith) (omega arith) a.digits a'.digits a.third a'.third
  line_same (no p) (no q) (no r) = general_same (omega arith)

sharp_rest : (l : List ℕ) (p : ℕ) → GuardedInLine l p → (1 ≤ p) × (p ≤ line_digits) × (line_check ≤ p - 1 → place line_check l ≢ digit_byte 1)
sharp_rest l p (checked lo up) = (lo, omega arith, λ h. absurd (omega arith))
sharp_rest l p (rest f lo up) = (omega arith, up, λ h. f)

-- one byte of an accepted line changed at a guarded place is refused
pub line_change : (l : List ℕ) (p v : ℕ) → first_broken (digit_line_rules l) ≡ Ok tt → GuardedInLine l p → v ≢ place p l →
    first_broken (digit_line_rules (set l (p - 1) v)) ≢ (Ok tt)
line_change l p v e g ne e' =
    let s = sharp_rest l p g in
    ne (line_same l (p - 1) v (line_of l e) (line_of (set l (p - 1) v) e') (omega arith) s.2 (dec_lt (p - 1) 10) (dec_lt (p - 1) 21) (dec_lt (p - 1) 32))
