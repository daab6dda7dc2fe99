-- One byte of an accepted collection code or line changed: what is refused. Assumes nothing.
use Rattle.std.specs.Prelude.{◌≡◌, refl, ◌≢◌, ◌⊎◌, not, List, ℕ, suc, ◌+◌, ◌-◌, ◌<◌, ◌≤◌, length, get_or, take, drop, set, T, Ok}
use Rattle.std.proofs.Common.{sym, ap, ◌∙◌, subst, inl, inr, arith, length-take, length-drop, get_or-set_same}
use Rattle.std.proofs.Math.Decide.{dec_lt, ℕ_discrete}
use Rattle.answer.specs.Rules.{first_broken}
use Rattle.answer.proofs.laws.Order.{never}
use Rattle.digits.specs.Digits.{digit_byte, place}
use Rattle.digits.specs.Checks.{base, value_of, weight, counts}
use Rattle.digits.specs.declared.sealing.Modulus.{Modulus}
use Rattle.digits.specs.declared.sealing.Modulus.TheVariants.{Ten, PlainEleven}
use Rattle.digits.proofs.laws.Strings.{Digit, digit_value, part_set, part_get_or}
use Rattle.digits.proofs.laws.Moduli.{TellsDigits, Near, blind, value_digit, ten_tells_digits, plain_tells_digits, near_tells}
use Rattle.digits.proofs.laws.Seals.{one_change, among_before, among_behind}
use Rattle.digits.proofs.laws.Plain.{plain_eleven, sealed_near}
use Rattle.boleto.specs.Collection.{code_digits, code_line_digits, identifier_place, code_check, modulus_of, code_of}
use Rattle.boleto.specs.CollectionRules.{code_rules, code_line_rules}
use Rattle.boleto.specs.CollectionGuarded.{GuardedInCode, GuardedInCodeLine, SeenIdentifier, ten, general, product, check, as_code, block_check, block, weights, same_modulus, unknown, block_end, place_in_code, weight_in_block, weight_in_code}
use Rattle.boleto.proofs.laws.Parts.{stored_digit, other_than, part_same}
use Rattle.boleto.proofs.laws.CollectionAccepted.{Code, CodeLine, code-of, code-line-of}
use Rattle.boleto.proofs.laws.CollectionConversions.{code_long, code_modulus, code_of_line}
use Rattle.boleto.proofs.laws.Identifiers.{modulus_either, modulus_kept, eight_nine}
use Rattle.boleto.proofs.laws.Blocks.{Block, block_at, starts, in_code, identifier_in_code, check_in_code, stored_first}

-- what a digit counts by itself
value_is : (b : ℕ) → Digit b → value_of PlainEleven b ≡ b - 48
value_is b d = value_digit PlainEleven b d ∙ digit_value b d

-- 8 and 9 there move the sum by 2
one_of_two : (b v : ℕ) → (56 ≤ b) × (b ≤ 57) → (56 ≤ v) × (v ≤ 57) → Near 2 (b - 48) (v - 48) → v ≡ b
one_of_two b v was is near = go (ℕ_discrete b 56) (ℕ_discrete v 56)
  where
    go : Dec (b ≡ 56) → Dec (v ≡ 56) → v ≡ b
    go (yes p) (yes q) = omega arith
    go (yes p) (no q) = let r : v ≡ 57 = omega arith in absurd (let z = rw (p, r) at near in omega arith)
    go (no p) (yes q) = let r : b ≡ 57 = omega arith in absurd (let z = rw (r, q) at near in omega arith)
    go (no p) (no q) = omega arith

-- ---- the code

module _ (code : List ℕ) (i v : ℕ) (c : Code code) (c' : Code (set code i v)) (h : i < code_digits) (kept : modulus_of (set code i v) ≡ modulus_of code) where
  code_same : (m : Modulus) → modulus_of code ≡ m → TellsDigits (base m) (counts m) → (i ≢ 3 → T (not (blind m (get_or code 3 0 - 48)))) → v ≡ get_or code i 0
  code_same m e t f =
      let hi : i < length code = omega arith in
      one_change m code 3 i v (omega arith) hi (rw e at c.seal) (rw (kept, e) at c'.seal) t (c.digits.each i hi) (stored_digit code i v hi c'.digits) f

  -- the check digit itself, or any byte where it isn't 0
  code_told : (i ≢ 3 → get_or code 3 0 ≢ digit_byte 0) → v ≡ get_or code i 0
  code_told f = go (modulus_either code)
    where
      go : (modulus_of code ≡ Ten) ⊎ (modulus_of code ≡ PlainEleven) → v ≡ get_or code i 0
      go (inl e) = code_same Ten e ten_tells_digits (λ _. tt)
      go (inr e) = code_same PlainEleven e plain_tells_digits (λ ne. other_than 0 _ (c.digits.each 3 (omega arith)).0 (f ne))

code_seen : (code : List ℕ) (p v : ℕ) → Code code → Code (set code (p - 1) v) → GuardedInCode code p → v ≡ place p code
code_seen code p v c c' (ten e lo up other) = code_same code (p - 1) v c c' (omega arith) (modulus_kept code (p - 1) v (λ q. other (omega arith))) Ten e ten_tells_digits (λ _. tt)
code_seen code p v c c' (general f lo up other) = code_told code (p - 1) v c c' (omega arith) (modulus_kept code (p - 1) v (λ q. other (omega arith))) (λ _. f)
code_seen code p v c c' product = sym (get_or-set_same code 0 v 0 (omega arith)) ∙ c'.product ∙ sym c.product
code_seen code p v c c' check = code_told code 3 v c c' (omega arith) (modulus_kept code 3 v (λ q. omega arith)) (λ n. absurd (n refl))

-- one byte of an accepted code changed at a guarded place is refused
pub code_change : (code : List ℕ) (p v : ℕ) → first_broken (code_rules code) ≡ Ok tt → GuardedInCode code p → v ≢ place p code →
    first_broken (code_rules (set code (p - 1) v)) ≢ (Ok tt)
code_change code p v e g ne e' = ne (code_seen code p v (code-of code e) (code-of (set code (p - 1) v) e') g)

identifier_seen : (code : List ℕ) (v : ℕ) → Code code → Code (set code 2 v) → SeenIdentifier code v → v ≡ place identifier_place code
identifier_seen code v c c' (unknown f) = never (sym f ∙ c'.identifier)
identifier_seen code v c c' (same_modulus kept) = go (modulus_either code)
  where
    go : (modulus_of code ≡ Ten) ⊎ (modulus_of code ≡ PlainEleven) → v ≡ get_or code 2 0
    go (inl e) = code_same code 2 v c c' (omega arith) kept Ten e ten_tells_digits (λ _. tt)
    go (inr e) =
        let was = eight_nine code c.identifier e in
        let is = rw (get_or-set_same code 2 v 0 (omega arith)) at (eight_nine (set code 2 v) c'.identifier (kept ∙ e)) in
        let near = sealed_near plain_eleven code 3 2 v (omega arith) (omega arith) (λ q. omega arith) (rw e at c.seal) (rw (kept, e) at c'.seal) in
        one_of_two (get_or code 2 0) v was is (rw (c.long, value_is (get_or code 2 0) (omega arith), value_is v (omega arith)) at near)

-- another identifier is refused, unless it is one of the other modulus
pub identifier_change : (code : List ℕ) (v : ℕ) → first_broken (code_rules code) ≡ Ok tt → SeenIdentifier code v → v ≢ place identifier_place code →
    first_broken (code_rules (set code (identifier_place - 1) v)) ≢ (Ok tt)
identifier_change code v e g ne e' = ne (identifier_seen code v (code-of code e) (code-of (set code 2 v) e') g)

-- ---- the line

module _ (l : List ℕ) (i v : ℕ) (a : CodeLine l) (a' : CodeLine (set l i v)) (h : i < code_line_digits) (b : Block i) (kept : modulus_of (set l i v) ≡ modulus_of l) where
  -- the check digit of the block itself, or any byte of it by a modulus that tells digits apart
  block_same : (m : Modulus) → modulus_of l ≡ m → TellsDigits (base m) (counts m) → (i ≢ b.start + 11 → T (not (blind m (get_or l (b.start + 11) 0 - 48)))) → v ≡ get_or l i 0
  block_same m e t f =
      let s = starts l i a h b in
      part_same m t l b.start 11 i v (omega arith) s.0 (omega arith) a.digits a'.digits (rw e at (b.sealed l a)) (rw (kept, e) at (b.sealed (set l i v) a')) f

  block_told : (i ≢ b.start + 11 → get_or l (b.start + 11) 0 ≢ digit_byte 0) → v ≡ get_or l i 0
  block_told f = go (modulus_either l)
    where
      go : (modulus_of l ≡ Ten) ⊎ (modulus_of l ≡ PlainEleven) → v ≡ get_or l i 0
      go (inl e) = block_same Ten e ten_tells_digits (λ _. tt)
      go (inr e) = block_same PlainEleven e plain_tells_digits (λ ne. other_than 0 _ (a.digits.each (b.start + 11) (omega (arith, (starts l i a h b).2))).0 (f ne))

  -- the two codes, of a digit that is no block's check
  code_after : i < b.start + 11 → Code (set (code_of l) (i - b.before) v)
  code_after up = subst Code (b.stored l v a.long up) (code_of_line (set l i v) a')

  code_kept : i < b.start + 11 → modulus_of (set (code_of l) (i - b.before) v) ≡ modulus_of (code_of l)
  code_kept up =
      ap modulus_of (sym (b.stored l v a.long up))
      ∙ code_modulus (set l i v) a'.long
      ∙ kept
      ∙ sym (code_modulus l a.long)

  general_told : i < b.start + 11 → (i ≢ 3 → get_or l 3 0 ≢ digit_byte 0) → v ≡ get_or l i 0
  general_told up f =
      let s = starts l i a h b in
      code_told (code_of l) (i - b.before) v (code_of_line l a) (code_after up) (omega (arith, b.begins)) (code_kept up)
      (λ ne. rw (check_in_code l a.long) (f (λ e. ne (omega (arith, b.begins)))))
      ∙ in_code l i a h b up

  -- the block's check digit, and any other byte of a line
  either : (i < b.start + 11 → v ≡ get_or l i 0) → v ≡ get_or l i 0
  either f = go (dec_lt i (b.start + 11))
    where
      go : Dec (i < b.start + 11) → v ≡ get_or l i 0
      go (yes up) = f up
      go (no up) = block_told (λ n. absurd (n (omega (arith, starts l i a h b))))

  -- a digit behind the general check that moves neither sum by more than 1
  near_block : modulus_of l ≡ PlainEleven → i < b.start + 11 → Near (weight PlainEleven (11 - suc (i - b.start))) (value_of PlainEleven (get_or l i 0)) (value_of PlainEleven v)
  near_block e up =
      let s = starts l i a h b in
      let part = take 12 (drop b.start l) in
      let long : length part ≡ 12 = simp (length-take, length-drop) (omega arith) in
      let sealed' = rw (part_set l b.start 12 i v s.0 s.1) at (rw (kept, e) at (b.sealed (set l i v) a')) in
      let near = sealed_near plain_eleven part 11 (i - b.start) v (omega arith) (omega arith) (λ q. omega arith) (rw e at (b.sealed l a)) sealed' in
      rw (long, among_before 11 (i - b.start) (omega arith), part_get_or l b.start 12 i v s.0 s.1) at near

  near_code : modulus_of l ≡ PlainEleven → i < b.start + 11 → 3 < i → Near (weight PlainEleven (43 - (i - b.before))) (value_of PlainEleven (get_or l i 0)) (value_of PlainEleven v)
  near_code e up behind =
      let s = starts l i a h b in
      let j = i - b.before in
      let long = code_long l a.long in
      let small : j < 44 = omega (arith, b.begins) in
      let more : 3 < j = omega (arith, b.begins) in
      let same = code_modulus l a.long ∙ e in
      let near = sealed_near plain_eleven (code_of l) 3 j v (omega arith) (omega arith) (λ q. omega arith) (rw same at (code_of_line l a).seal) (rw (code_kept up, same) at (code_after up).seal) in
      let at : 44 - 1 - suc (j - 1) ≡ 43 - j = omega arith in
      rw (long, among_behind 3 j more, at, in_code l i a h b up) at near

  weights_told : 3 < i → weight PlainEleven (11 - suc (i - b.start)) ≢ weight PlainEleven (43 - (i - b.before)) →
      weight PlainEleven (11 - suc (i - b.start)) + weight PlainEleven (43 - (i - b.before)) ≢ 11 → v ≡ get_or l i 0
  weights_told behind ne op = either (λ up. go (modulus_either l) up)
    where
      go : (modulus_of l ≡ Ten) ⊎ (modulus_of l ≡ PlainEleven) → i < b.start + 11 → v ≡ get_or l i 0
      go (inl e) d = block_same Ten e ten_tells_digits (λ _. tt)
      go (inr e) d =
          let was = a.digits.each i (omega (arith, a.long)) in
          let is = stored_digit l i v (omega (arith, a.long)) a'.digits in
          let x = value_is (get_or l i 0) was in
          let y = value_is v is in
          let same = near_tells _ _ _ _ (λ z. omega arith) (λ z. omega arith) (λ z. ne (omega arith)) (λ z. op (omega arith)) (omega arith) (omega arith) (near_block e d) (near_code e d behind) in
          omega arith

-- how many digits stand behind a digit, in its block and in the code
behind_in_block : (p : ℕ) (b : Block (p - 1)) → 1 ≤ p → 11 - suc (p - 1 - b.start) ≡ block_end p - 1 - p
behind_in_block p b lo = omega (arith, b.counted, b.begins)

behind_in_code : (p : ℕ) (b : Block (p - 1)) → 1 ≤ p → 43 - (p - 1 - b.before) ≡ code_digits - place_in_code p
behind_in_code p b lo = omega (arith, b.counted)

weights_seen : (l : List ℕ) (p v : ℕ) → CodeLine l → CodeLine (set l (p - 1) v) → code_check < p → p ≤ code_line_digits →
    weight_in_block p ≢ weight_in_code p → weight_in_block p + weight_in_code p ≢ 11 → v ≡ place p l
weights_seen l p v a a' lo up =
    let h : p - 1 < code_line_digits = omega arith in
    let some : 1 ≤ p = omega arith in
    let past : 3 < p - 1 = omega arith in
    let kept = modulus_kept l (p - 1) v (λ q. omega arith) in
    let b = block_at (p - 1) h in
    let w = ap (weight PlainEleven) (behind_in_block p b some) in
    let u = ap (weight PlainEleven) (behind_in_code p b some) in
    λ ne op. weights_told l (p - 1) v a a' h b kept past (λ q. ne (sym w ∙ q ∙ u)) (λ q. op (rw (← w, ← u) q))

line_seen : (l : List ℕ) (p v : ℕ) → CodeLine l → CodeLine (set l (p - 1) v) → GuardedInCodeLine l p → v ≡ place p l
line_seen l p v a a' (as_code (ten e lo up other)) =
    let i = p - 1 in
    let kept = modulus_kept l i v (λ q. other (omega arith)) in
    block_same l i v a a' (omega arith) (block_at i (omega arith)) kept Ten e ten_tells_digits (λ _. tt)
line_seen l p v a a' (as_code (general f lo up other)) =
    let i = p - 1 in
    let h : i < code_line_digits = omega arith in
    let b = block_at i h in
    let kept = modulus_kept l i v (λ q. other (omega arith)) in
    either l i v a a' h b kept (λ up. general_told l i v a a' h b kept up (λ _. f))
line_seen l p v a a' (as_code product) = sym (get_or-set_same l 0 v 0 (omega (arith, a.long))) ∙ a'.product ∙ sym a.product
line_seen l p v a a' (as_code check) =
    let h : 3 < code_line_digits = omega arith in
    let b = block_at 3 h in
    general_told l 3 v a a' h b (modulus_kept l 3 v (λ q. omega arith)) (omega (arith, b.counted, b.begins)) (λ n. absurd (n refl))
line_seen l p v a a' (block_check lo up end) =
    let i = p - 1 in
    let h : i < code_line_digits = omega arith in
    let b = block_at i h in
    block_told l i v a a' h b (modulus_kept l i v (λ q. omega arith)) (λ n. absurd (n (omega (arith, b.counted, b.begins))))
line_seen l p v a a' (block f lo up other) =
    let i = p - 1 in
    let h : i < code_line_digits = omega arith in
    let b = block_at i h in
    let last : block_end p - 1 ≡ b.start + 11 = omega (arith, b.counted, b.begins) in
    block_told l i v a a' h b (modulus_kept l i v (λ q. other (omega arith))) (λ _. rw last at f)
line_seen l p v a a' (weights ne op lo up inner) = weights_seen l p v a a' lo up ne op

-- one byte of an accepted line changed at a guarded place is refused
pub code_line_change : (l : List ℕ) (p v : ℕ) → first_broken (code_line_rules l) ≡ Ok tt → GuardedInCodeLine l p → v ≢ place p l →
    first_broken (code_line_rules (set l (p - 1) v)) ≢ (Ok tt)
code_line_change l p v e g ne e' = ne (line_seen l p v (code-line-of l e) (code-line-of (set l (p - 1) v) e') g)

line_identifier_seen : (l : List ℕ) (v : ℕ) → CodeLine l → CodeLine (set l 2 v) → SeenIdentifier l v → v ≡ place identifier_place l
line_identifier_seen l v a a' (unknown f) = never (sym f ∙ a'.identifier)
line_identifier_seen l v a a' (same_modulus kept) =
    let stored = stored_first l 2 v a.long (omega arith) in
    let same = ap modulus_of (sym stored) ∙ code_modulus (set l 2 v) a'.long ∙ kept ∙ sym (code_modulus l a.long) in
    identifier_seen (code_of l) v (code_of_line l a) (subst Code stored (code_of_line (set l 2 v) a')) (same_modulus same) ∙ identifier_in_code l a.long

-- another identifier is refused, unless it is one of the other modulus
pub line_identifier_change : (l : List ℕ) (v : ℕ) → first_broken (code_line_rules l) ≡ Ok tt → SeenIdentifier l v → v ≢ place identifier_place l →
    first_broken (code_line_rules (set l (identifier_place - 1) v)) ≢ (Ok tt)
line_identifier_change l v e g ne e' = ne (line_identifier_seen l v (code-line-of l e) (code-line-of (set l 2 v) e') g)
