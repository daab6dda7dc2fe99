-- One digit of an accepted collection code or line changed, by modulus 11: exactly when it is accepted again. Assumes nothing.
use Rattle.std.specs.Prelude.{◌≡◌, refl, ◌≢◌, ◌↔◌, List, ℕ, ◌+◌, ◌-◌, ◌%◌, ◌<◌, ◌≤◌, length, take, drop, set, Ok}
use Rattle.std.proofs.Common.{sym, ◌∙◌, arith, length-set, length-take, length-drop, get_or-set_other, drop-set-lt}
use Rattle.std.proofs.Math.Decide.{dec_lt}
use Rattle.answer.specs.Rules.{first_broken}
use Rattle.digits.specs.Digits.{without}
use Rattle.digits.specs.Checks.{remainder}
use Rattle.digits.specs.declared.sealing.Modulus.TheVariants.{PlainEleven}
use Rattle.digits.proofs.laws.Strings.{Digit, digits_set, part_set, part_kept}
use Rattle.digits.proofs.laws.Seals.{Sealed, out}
use Rattle.digits.proofs.laws.Plain.{Stays, plain_eleven, sealed_again}
use Rattle.boleto.specs.Collection.{code_digits, code_line_digits, product_place, identifier_place, code_check, modulus_of, code_of}
use Rattle.boleto.specs.CollectionRules.{code_rules, code_line_rules}
use Rattle.boleto.specs.CollectionGuarded.{block_places, block_end, block_of}
use Rattle.boleto.proofs.laws.CollectionAccepted.{CodeLine, code-of, of_code, code-line-of, of_code_line}
use Rattle.boleto.proofs.laws.CollectionConversions.{code_long, code_modulus}
use Rattle.boleto.proofs.laws.Identifiers.{modulus_kept, identifier_kept}
use Rattle.boleto.proofs.laws.Blocks.{Block, block_at, starts, block_is}

-- the remainder of a code stays, or passes between 0 and 1, when it becomes another; and that of the block of a line in
-- which place p stands
abbrev pub CodeStays : List ℕ → List ℕ → Type 0
CodeStays code code' = Stays (remainder PlainEleven (without code_check code)) (remainder PlainEleven (without code_check code'))

abbrev pub BlockStays : ℕ → List ℕ → List ℕ → Type 0
BlockStays p line line' = Stays (remainder PlainEleven (without block_places (block_of p line))) (remainder PlainEleven (without block_places (block_of p line')))

-- ---- the code

-- by modulus 11 another digit is accepted exactly if the remainder stays
module _ (code : List ℕ) (p v : ℕ) (e : first_broken (code_rules code) ≡ Ok tt) (eleven : modulus_of code ≡ PlainEleven)
    (lo : product_place < p) (up : p ≤ code_digits) (other : p ≢ identifier_place) (beside : p ≢ code_check) (d : Digit v) where
  pub code_again : first_broken (code_rules (set code (p - 1) v)) ≡ (Ok tt) ↔ CodeStays code (set code (p - 1) v)
  code_again =
      let c = code-of code e in
      let ne : p - 1 ≢ 2 = λ q. other (omega arith) in
      let same = modulus_kept code (p - 1) v ne ∙ eleven in
      let again = sealed_again plain_eleven code 3 (p - 1) v (omega (arith, c.long)) (omega (arith, c.long)) (λ q. beside (omega arith)) (rw eleven at c.seal) in (
        λ e'. again.0 (rw same at (code-of (set code (p - 1) v) e').seal),
        λ t. of_code (set code (p - 1) v)
            (record {
              long = length-set code (p - 1) v ∙ c.long;
              digits = digits_set (p - 1) v c.digits d;
              product = get_or-set_other code (p - 1) 0 v 0 (λ q. omega arith) ∙ c.product;
              identifier = identifier_kept code (p - 1) v ne ∙ c.identifier;
              seal = rw same (again.1 t);
            }),
      )

-- ---- the line

module _ (l : List ℕ) (i v : ℕ) (a : CodeLine l) (h : i < code_line_digits) (b : Block i) (eleven : modulus_of l ≡ PlainEleven) (ne : i ≢ 2) (up : i < b.start + 11) where
  -- the block and the code, sealed before and after
  block_again : Sealed PlainEleven 11 (take 12 (drop b.start (set l i v))) ↔
      Stays (remainder PlainEleven (out 11 (take 12 (drop b.start l)))) (remainder PlainEleven (out 11 (take 12 (drop b.start (set l i v)))))
  block_again =
      let s = starts l i a h b in
      let part = take 12 (drop b.start l) in
      let long : length part ≡ 12 = simp (length-take, length-drop) (omega arith) in
      rw (part_set l b.start 12 i v s.0 s.1)
      (sealed_again plain_eleven part 11 (i - b.start) v (omega arith) (omega arith) (λ q. omega arith) (rw eleven at (b.sealed l a)))

  general_again : i ≢ 3 → Sealed PlainEleven 3 (code_of (set l i v)) ↔
      Stays (remainder PlainEleven (out 3 (code_of l))) (remainder PlainEleven (out 3 (code_of (set l i v))))
  general_again beside =
      let s = starts l i a h b in
      let long = code_long l a.long in
      let at : i - b.before < 44 = omega (arith, b.begins) in
      rw (b.stored l v a.long up)
      (sealed_again plain_eleven (code_of l) 3 (i - b.before) v (omega arith) (omega arith) (λ q. beside (omega (arith, b.begins))) (rw (code_modulus l a.long, eleven) at a.seal))

  -- a block of the line afterwards: the one changed, or another
  seal_after : (s : ℕ) → s % 12 ≡ 0 → Sealed (modulus_of l) 11 (take 12 (drop s l)) → Sealed PlainEleven 11 (take 12 (drop b.start (set l i v))) →
      Sealed (modulus_of (set l i v)) 11 (take 12 (drop s (set l i v)))
  seal_after s whole was now = rw (modulus_kept l i v ne) (go (dec_lt i s) (dec_lt i (s + 12)))
    where
      go : Dec (i < s) → Dec (i < s + 12) → Sealed (modulus_of l) 11 (take 12 (drop s (set l i v)))
      go (yes p) q = rw (drop-set-lt s l i v p) was
      go (no p) (no q) = rw (part_kept l s 12 i v (omega arith)) was
      go (no p) (yes q) = let here : s ≡ b.start = omega (arith, b.counted, b.begins) in rw (here, eleven) now

  rebuilt : i ≢ 0 → Digit v → Sealed PlainEleven 11 (take 12 (drop b.start (set l i v))) → Sealed PlainEleven 3 (code_of (set l i v)) → CodeLine (set l i v)
  rebuilt behind d now seal =
      let long = length-set l i v ∙ a.long in
      record {
        long = long;
        digits = digits_set i v a.digits d;
        product = get_or-set_other l i 0 v 0 (λ q. behind (sym q)) ∙ a.product;
        identifier = identifier_kept l i v ne ∙ a.identifier;
        first = seal_after 0 refl a.first now;
        second = seal_after 12 refl a.second now;
        third = seal_after 24 refl a.third now;
        fourth = seal_after 36 refl a.fourth now;
        seal = rw (code_modulus (set l i v) long, modulus_kept l i v ne, eleven) seal;
      }

-- by modulus 11 another digit is accepted exactly if both remainders stay, of its block and of the code
module _ (l : List ℕ) (p v : ℕ) (e : first_broken (code_line_rules l) ≡ Ok tt) (eleven : modulus_of l ≡ PlainEleven)
    (lo : product_place < p) (up : p ≤ code_line_digits) (other : p ≢ identifier_place) (beside : p ≢ code_check) (digit : p ≢ block_end p) (d : Digit v) where
  pub code_line_again : first_broken (code_line_rules (set l (p - 1) v)) ≡ (Ok tt) ↔
      (BlockStays p l (set l (p - 1) v) × CodeStays (code_of l) (code_of (set l (p - 1) v)))
  code_line_again = go (block_at (p - 1) (omega arith))
    where
      go : Block (p - 1) → first_broken (code_line_rules (set l (p - 1) v)) ≡ (Ok tt) ↔
          (BlockStays p l (set l (p - 1) v) × CodeStays (code_of l) (code_of (set l (p - 1) v)))
      go b =
          let a = code-line-of l e in
          let l' = set l (p - 1) v in
          let h : p - 1 < code_line_digits = omega arith in
          let ne : p - 1 ≢ 2 = λ q. other (omega arith) in
          let inside : p - 1 < b.start + 11 = omega (arith, b.counted, b.begins) in
          let same = modulus_kept l (p - 1) v ne ∙ eleven in
          let one = block_again l (p - 1) v a h b eleven ne inside in
          let two = general_again l (p - 1) v a h b eleven ne inside (λ q. beside (omega arith)) in
          rw (block_is p b l, block_is p b l') (
            λ e'. let a' = code-line-of l' e' in (one.0 (rw same at (b.sealed l' a')), two.0 (rw (code_modulus l' a'.long, same) at a'.seal)),
            λ t. of_code_line l' (rebuilt l (p - 1) v a h b eleven ne inside (λ q. omega arith) d (one.1 t.0) (two.1 t.1)),
          )
