-- How the walk looks at a field, by the number of its kind. Assumes nothing.
use Rattle.std.specs.Prelude.{Ok}
use mathlib.Core.Path.{◌≡◌, refl, ap, ◌∙◌, subst, subst⁻¹}
use mathlib.Core.Bool.{Bool, true, false, cond}
use mathlib.Core.List.{List, [], ◌∷◌}
use Prim.Native.Nat.{ℕ}
use native.Mathlib.Omega.{arith}
use borrow.Author.Tests.{eqb-true}
use lib.Dec.{T as Holds, ltb, eqb}
use lib.ListN.{length, get_or}
use Rattle.answer.specs.Rules.{rule, first_broken}
use Rattle.answer.proofs.laws.Order.{past, done}
use Rattle.answer.specs.Rules.{Answer}
use Rattle.digits.specs.Digits.{all_digits}
use Rattle.layout.specs.inner.Lent.{n_or_blank, first_letter, is_mark, kind_of, content_of, may_be}
use Rattle.layout.specs.Field.{Kind, NOrBlank, T as Txt, RecordType, Segment}
use Rattle.layout.specs.Kinds.{Part, means, wrong, is_fixed, same, blank}
use Rattle.walk.specs.inner.Steps.{Looked, for_digits, for_content, tested, mark_look, text_look, number_or_blank_look}
use Rattle.layout.proofs.laws.Bytes.{blanks_asked, digits_asked}
use Rattle.layout.proofs.laws.Contents.{run_is, exact_is}
use Rattle.layout.specs.declared.fixed.Content.{Content}
use Rattle.layout.specs.declared.fixed.Content.TheVariants.{Run}
use Rattle.walk.specs.declared.looks.Look.{Look}
use Rattle.walk.specs.declared.looks.Look.TheVariants.{Digits, Fixed, Tested}

pub of_kind : {k j : Kind} {p : Part} {x : Look} → k ≡ j → Looked j p x → Looked k p x
of_kind {p} {x} e l = subst⁻¹ (λ (i : Kind). Looked i p x) e l

-- a kind is that of its number
pub at_key : {k n : ℕ} {p : Part} {x : Look} → k ≡ n → Looked (kind_of n) p x → Looked (kind_of k) p x
at_key e l = of_kind (ap kind_of e) l

-- one rule, that the fixed content stands there
pub for_fixed : (n : ℕ) {k number : ℕ} {c : Content} {p : Part} {x : Look} (content : ℕ → List ℕ) → k ≡ n → x ≡ Fixed number c
    → Holds (may_be (kind_of k) (length p.bytes)) → (means (kind_of n)).rules p ≡ wrong number (is_fixed content) p
    → ((w : ℕ) → Holds (may_be (kind_of n) w) → content_of c w ≡ content w) → Looked (kind_of k) p x
for_fixed n {p} content e q m r is =
    let t = is (length p.bytes) (subst (λ (j : ℕ). Holds (may_be (kind_of j) (length p.bytes))) e m) in
    at_key e (subst⁻¹ (λ (y : Look). Looked (kind_of n) p y) q (for_content (rw t r)))

-- a type or a segment
pub for_mark : (k : ℕ) {p : Part} {x : Look} → x ≡ mark_look k → is_mark k ≡ true → Holds (may_be (kind_of k) (length p.bytes)) → Looked (kind_of k) p x
for_mark k {p} q e m = rw (q, e) (go (ltb k first_letter) (rw e at m))
  where
    go : (b : Bool) → Holds (may_be (cond b (RecordType k) (Segment k)) (length p.bytes))
        → Looked (cond b (RecordType k) (Segment k)) p (cond b (Fixed 6 (Run k)) (Fixed 11 (Run k)))
    go true m = let t = exact_is (Run k) (k ∷ []) refl (length p.bytes) m in for_content {number = 6} {c = Run k} (rw t)
    go false m = let t = exact_is (Run k) (k ∷ []) refl (length p.bytes) m in for_content {number = 11} {c = Run k} (rw t)

-- text, which is right unless its first byte is blank; and then all have to be
pub for_blank : {k : ℕ} {p : Part} {x : Look} → k ≡ 6 → x ≡ text_look p.bytes → Looked (kind_of k) p x
for_blank {k} {p} e q = at_key e (subst⁻¹ (λ (y : Look). Looked Txt p y) q (go (eqb (get_or p.bytes 0 0) blank) refl))
  where
    go : (b : Bool) → eqb (get_or p.bytes 0 0) blank ≡ b → Looked Txt p (cond b (Fixed 13 (Run blank)) (Tested (Ok tt)))
    go true q = for_content {number = 13} {c = Run blank} (rw (run_is blank (length p.bytes), q))
    go false q = tested (past _ _ _ _ _ (rw q) done)

-- a number that may be not given: its first byte tells whether digits or blanks are asked
pub for_number_or_blank : {k : ℕ} {p : Part} {x : Look} → k ≡ n_or_blank → x ≡ number_or_blank_look p.bytes → Looked (kind_of k) p x
for_number_or_blank {k} {p} e q = at_key e (subst⁻¹ (λ (y : Look). Looked NOrBlank p y) q (go (eqb (get_or p.bytes 0 0) blank) refl))
  where
    go : (b : Bool) → eqb (get_or p.bytes 0 0) blank ≡ b → Looked NOrBlank p (cond b (Fixed 8 (Run blank)) Digits)
    go true q = for_content {number = 8} {c = Run blank} (rw (run_is blank (length p.bytes), blanks_asked p.bytes (eqb-true _ _ q)))
    go false q = for_digits (rw (digits_asked p.bytes q))

-- ---- what a look says, by its case

module _ {k : Kind} {p : Part} where
  pub digits_looked : {x : Look} → Looked k p x → x ≡ Digits → (means k).rules p ≡ rule 8 p.place (all_digits p.bytes) ∷ []
  digits_looked (for_digits r) e = r
  digits_looked (for_content r) e = absurd (let z : ◌≡◌ {A = ℕ} 0 1 = cc in omega arith)
  digits_looked (tested q) e = absurd (let z : ◌≡◌ {A = ℕ} 0 1 = cc in omega arith)

  pub content_looked : {x : Look} {number : ℕ} {c : Content} → Looked k p x → x ≡ Fixed number c
      → (means k).rules p ≡ rule number p.place (same (content_of c (length p.bytes)) p.bytes) ∷ []
  content_looked (for_digits r) e = absurd (let z : ◌≡◌ {A = ℕ} 0 1 = cc in omega arith)
  content_looked {number} {c} (for_content {number = number'} {c = c'} r) e =
      let same-content : c' ≡ c = cc in
      let same_number : number' ≡ number = cc in
      rw (← same-content, ← same_number) r
  content_looked (tested q) e = absurd (let z : ◌≡◌ {A = ℕ} 0 1 = cc in omega arith)

  pub was_tested : {x : Look} {a : Answer} → Looked k p x → x ≡ Tested a → a ≡ first_broken ((means k).rules p)
  was_tested (for_digits r) e = absurd (let z : ◌≡◌ {A = ℕ} 0 1 = cc in omega arith)
  was_tested (for_content r) e = absurd (let z : ◌≡◌ {A = ℕ} 0 1 = cc in omega arith)
  was_tested {a} (tested {a = a'} q) e = let same_answer : a ≡ a' = cc in same_answer ∙ q
