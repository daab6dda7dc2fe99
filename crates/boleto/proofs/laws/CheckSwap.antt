-- The general check of an accepted barcode swapped with the digit behind it, when it isn't 1: exactly when that is accepted. Assumes nothing.
use Rattle.std.specs.Prelude.{◌≡◌, refl, ◌≢◌, ◌↔◌, ◌⊎◌, Bool, true, false, cond, not, ◌&&◌, ◌||◌, ℕ, ◌-◌, suc, ◌+◌, ◌*◌, ◌%◌, ◌≤◌, ◌<◌, T, eqb, length, get_or, take, drop, set, Ok}
use Rattle.std.proofs.Common.{sym, ◌∙◌, subst, inl, inr, mod-lt, arith, eq-eqb, eqb→eq, lit<, length-set, length-drop, drop-cons, drop-set-lt, get_or-set_same, get_or-set_other}
use Rattle.std.proofs.Math.Path.{ap}
use mathlib.Core.List.{List, ◌∷◌, ◌++◌}
use Rattle.std.proofs.lemmas.List.{take-set-le, drop-set-add}
use Rattle.answer.specs.Rules.{first_broken}
use Rattle.digits.specs.Digits.{digit_of, digit_byte, place, swapped}
use Rattle.digits.specs.Checks.{weight, counts, lift, check_digit, remainder}
use Rattle.digits.proofs.laws.Tests.{every, every_at, both, or_left}
use Rattle.digits.proofs.laws.Strings.{digit_value, digit_small, digits_set}
use Rattle.digits.proofs.laws.Sums.{others, with_byte}
use Rattle.digits.proofs.laws.Seals.{Sealed, out}
use Rattle.digits.specs.declared.sealing.Modulus.TheVariants.{Eleven}
use Rattle.boleto.specs.Strings.{barcode_digits, barcode_check}
use Rattle.boleto.specs.Rules.{barcode_rules}
use Rattle.boleto.specs.Guarded.{SwapUnseen, equal, six, nine}
use Rattle.boleto.proofs.laws.Parts.{other_than}
use Rattle.boleto.proofs.laws.Accepted.{Barcode, barcode-of, of_barcode}

-- ---- the digits, by one computed test: all remainders of the other digits, and all first digits of the factor

-- so many digits stand behind the first of the factor, which has this weight
abbrev behind_first : ℕ
behind_first = barcode_digits - suc barcode_check

abbrev first_weight : ℕ
first_weight = weight Eleven behind_first

-- the check digit where the other digits leave r
abbrev check_of : ℕ → ℕ → ℕ
check_of r f = lift Eleven ((r + first_weight * f) % 11)

abbrev unseen : ℕ → ℕ → Bool
unseen c f = eqb c f || (eqb f 1 && (eqb c 6 || eqb c 9))

abbrev agree : Bool → Bool → Bool
agree a b = cond a b (not b)

swap_test : T (every 11 (λ r. every 10 (λ f. eqb (check_of r f) 1 || agree (eqb f (check_of r (check_of r f))) (unseen (check_of r f) f))))
unfolding every lift
swap_test = tt

agree_right : (a b : Bool) → T (agree a b) → a ≡ b
agree_right true true t = refl
agree_right true false t = absurd t
agree_right false true t = absurd t
agree_right false false t = refl

digits_swapped : (r f c : ℕ) → r < 11 → f ≤ 9 → c ≡ check_of r f → T (not (eqb c 1)) → eqb f (check_of r c) ≡ unseen c f
digits_swapped r f c hr hf e ne =
    let t = every_at 10 _ (every_at 11 _ swap_test r hr) f (omega arith) in
    rw e (agree_right _ _ (or_left (eqb (check_of r f) 1) _ (rw e at ne) t))

-- ---- the string

abbrev check_in : List ℕ → ℕ
check_in bar = get_or bar 4 0

abbrev first_of_factor : List ℕ → ℕ
first_of_factor bar = get_or bar 5 0

with_digit : (xs zs : List ℕ) (y : ℕ) → length zs ≡ behind_first → remainder Eleven (xs ++ y ∷ zs) ≡ (others digit_of (counts Eleven) 11 xs zs + first_weight * digit_of y) % 11
unfolding counts
with_digit xs zs y h = with_byte digit_of (counts Eleven) 11 xs zs y ∙ ap (λ (k : ℕ). (others digit_of (counts Eleven) 11 xs zs + weight Eleven k * digit_of y) % 11) h

module _ (bar : List ℕ) (b : Barcode bar) where
  abbrev rest : ℕ
  rest = others digit_of (counts Eleven) 11 (take 4 bar) (drop 6 bar)

  long : length (drop 6 bar) ≡ behind_first
  long = rw length-drop (omega (arith, b.long))

  check_is : check_in bar ≡ digit_byte (check_of rest (digit_of (first_of_factor bar)))
  unfolding check_digit
  check_is =
      b.seal
      ∙ ap (λ (l : List ℕ). digit_byte (check_digit Eleven (take 4 bar ++ l))) (drop-cons bar 5 0 (omega (arith, b.long)))
      ∙ ap (λ (n : ℕ). digit_byte (lift Eleven n)) (with_digit (take 4 bar) (drop 6 bar) (first_of_factor bar) long)

  -- of the other string
  now_first : check_in (swapped barcode_check bar) ≡ first_of_factor bar
  now_first =
      get_or-set_other (set bar 4 (first_of_factor bar)) 5 4 (check_in bar) 0 (λ e. omega arith)
      ∙ get_or-set_same bar 4 (first_of_factor bar) 0 (omega (arith, b.long))

  now_others : out 4 (swapped barcode_check bar) ≡ take 4 bar ++ check_in bar ∷ drop 6 bar
  now_others =
      let once = set bar 4 (first_of_factor bar) in
      rw (
        take-set-le 4 once 5 (check_in bar) (omega arith),
        take-set-le 4 bar 4 (first_of_factor bar) (omega arith),
        drop-set-add 5 once 0 (check_in bar),
        drop-set-lt 5 bar 4 (first_of_factor bar) (omega arith),
        drop-cons bar 5 0 (omega (arith, b.long)),
      )

  now_check : digit_byte (check_digit Eleven (out 4 (swapped barcode_check bar))) ≡ digit_byte (check_of rest (digit_of (check_in bar)))
  unfolding check_digit
  now_check =
      ap (λ (l : List ℕ). digit_byte (check_digit Eleven l)) now_others
      ∙ ap (λ (n : ℕ). digit_byte (lift Eleven n)) (with_digit (take 4 bar) (drop 6 bar) (check_in bar) long)

  -- both are digits
  check-digit : digit_byte (digit_of (check_in bar)) ≡ check_in bar
  check-digit = let d = b.digits.each 4 (omega (arith, b.long)) in omega (arith, digit_value (check_in bar) d)

  first_digit : digit_byte (digit_of (first_of_factor bar)) ≡ first_of_factor bar
  first_digit = let d = b.digits.each 5 (omega (arith, b.long)) in omega (arith, digit_value (first_of_factor bar) d)

  seen_by : check_in bar ≢ digit_byte 1 → eqb (digit_of (first_of_factor bar)) (check_of rest (digit_of (check_in bar))) ≡ unseen (digit_of (check_in bar)) (digit_of (first_of_factor bar))
  seen_by ne =
      let d = b.digits.each 4 (omega (arith, b.long)) in
      digits_swapped rest (digit_of (first_of_factor bar)) (digit_of (check_in bar)) (mod-lt _ (lit< tt)) (digit_small (first_of_factor bar))
      (omega (arith, check_is, check-digit)) (rw (← (digit_value (check_in bar) d)) at (other_than 1 (check_in bar) d.0 ne))

  again : Sealed Eleven 4 (swapped barcode_check bar) → Barcode (swapped barcode_check bar)
  again s =
      let once = set bar 4 (first_of_factor bar) in
      let few = b.long in
      record {
        long = length-set once 5 (check_in bar) ∙ length-set bar 4 (first_of_factor bar) ∙ b.long;
        digits = digits_set 5 (check_in bar) (digits_set 4 (first_of_factor bar) b.digits (b.digits.each 5 (omega arith))) (b.digits.each 4 (omega arith));
        currency = get_or-set_other once 5 3 (check_in bar) 0 (λ e. omega arith) ∙ get_or-set_other bar 4 3 (first_of_factor bar) 0 (λ e. omega arith) ∙ b.currency;
        seal = s;
      }

  -- ---- the test's cases

  one_of : (x y : Bool) → T (x || y) → T x ⊎ T y
  one_of true y t = inl t
  one_of false y t = inr t

  told : T (unseen (digit_of (check_in bar)) (digit_of (first_of_factor bar))) → SwapUnseen bar
  told t = go (one_of (eqb c f) _ t)
    where
      c : ℕ
      c = digit_of (check_in bar)

      f : ℕ
      f = digit_of (first_of_factor bar)

      last : T (eqb f 1) → T (eqb c 6) ⊎ T (eqb c 9) → SwapUnseen bar
      last u (inl t) = six (sym check-digit ∙ ap digit_byte (eqb→eq c 6 t)) (sym first_digit ∙ ap digit_byte (eqb→eq f 1 u))
      last u (inr t) = nine (sym check-digit ∙ ap digit_byte (eqb→eq c 9 t)) (sym first_digit ∙ ap digit_byte (eqb→eq f 1 u))

      go : T (eqb c f) ⊎ T (eqb f 1 && (eqb c 6 || eqb c 9)) → SwapUnseen bar
      go (inl t) = equal (sym check-digit ∙ ap digit_byte (eqb→eq c f t) ∙ first_digit)
      go (inr t) = let u = both (eqb f 1) _ t in last u.0 (one_of (eqb c 6) (eqb c 9) u.1)

  tested : SwapUnseen bar → T (unseen (digit_of (check_in bar)) (digit_of (first_of_factor bar)))
  tested (equal e) = rw (eq-eqb (digit_of (check_in bar)) (digit_of (first_of_factor bar)) (ap digit_of e)) tt
  tested (six e u) = rw (e, u) tt
  tested (nine e u) = rw (e, u) tt

-- swapped it is accepted exactly if the swap is unseen
pub check_swap : (bar : List ℕ) → first_broken (barcode_rules bar) ≡ Ok tt → place barcode_check bar ≢ digit_byte 1 →
    first_broken (barcode_rules (swapped barcode_check bar)) ≡ (Ok tt) ↔ SwapUnseen bar
check_swap bar e ne = (there, back)
  where
    b : Barcode bar
    b = barcode-of bar e

    there : first_broken (barcode_rules (swapped barcode_check bar)) ≡ Ok tt → SwapUnseen bar
    there e' =
        let s = (barcode-of (swapped barcode_check bar) e').seal in
        let is : first_of_factor bar ≡ digit_byte (check_of (rest bar b) (digit_of (check_in bar))) = sym (now_first bar b) ∙ s ∙ now_check bar b in
        let same : digit_of (first_of_factor bar) ≡ check_of (rest bar b) (digit_of (check_in bar)) = omega (arith, is, first_digit bar b) in
        told bar b (subst T (seen_by bar b ne) (rw (eq-eqb _ _ same) tt))

    back : SwapUnseen bar → first_broken (barcode_rules (swapped barcode_check bar)) ≡ Ok tt
    back u =
        let t = subst T (sym (seen_by bar b ne)) (tested bar b u) in
        let is = eqb→eq (digit_of (first_of_factor bar)) (check_of (rest bar b) (digit_of (check_in bar))) t in
        of_barcode (swapped barcode_check bar) (again bar b (now_first bar b ∙ sym (first_digit bar b) ∙ ap digit_byte is ∙ sym (now_check bar b)))
