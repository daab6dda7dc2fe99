-- What the moduli tell apart: facts of finitely many numbers, each one test that antt computes. Assumes nothing.
use Rattle.std.specs.Prelude.{◌≡◌, ℕ, suc, ◌+◌, ◌*◌, ◌/◌, ◌%◌, ◌<◌, ◌≤◌, Bool, true, false, not, ◌&&◌, ◌||◌, T, leb, ◌≢◌, ◌⊎◌, List, [], ◌∷◌, ◌++◌, length, ◌==◌, nat_le, refl}
use Rattle.std.proofs.Common.{sym, ap, ◌∙◌, subst, inl, inr, mod-lt, add-mul, mul_comm, mul_right_comm, mul-add, mul_left_comm, div-add-mod', arith, eqb→eq, leb→le, le→leb, T_not, lit<, eq-eqb}
use Rattle.std.proofs.Math.Nat.{mod-mod, suc-mod, add-mod, mul-add-mod_self_right}
use Rattle.std.proofs.Math.Dec.{not_T}
use Rattle.digits.specs.Digits.{digit_of, weighed}
use Rattle.digits.specs.Checks.{base, value_of, weight, counts, lift}
use Rattle.digits.specs.declared.sealing.Modulus.{Modulus}
use Rattle.digits.specs.declared.sealing.Modulus.TheVariants.{Ten, Eleven, PlainEleven, LongEleven}
use Rattle.digits.proofs.laws.Tests.{every, every_at, apart, apart_at, or_left}
use Rattle.digits.proofs.laws.Strings.{Digit, is-digit, digit_small, same_digit}
use Rattle.digits.proofs.laws.Sums.{replaced, one, two}

-- ---- what weights must do, and what follows for a string of any length

-- two digits count differently at every place
pub record TellsDigits (M : ℕ) (f : ℕ → ℕ → ℕ) : Type 0 where
  pub tells : (k d e : ℕ) → d ≤ 9 → e ≤ 9 → f k d % M ≡ f k e % M → d ≡ e

-- and so do two neighbours and the same two swapped
pub record TellsNeighbours (M : ℕ) (f : ℕ → ℕ → ℕ) : Type 0 where
  pub tells : (k d e : ℕ) → d ≤ 9 → e ≤ 9 → (f (suc k) d + f k e) % M ≡ (f (suc k) e + f k d) % M → d ≡ e

module _ (M : ℕ) (f : ℕ → ℕ → ℕ) (xs zs : List ℕ) (a b : ℕ) (da : Digit a) (db : Digit b) (ne : a ≢ b) where
  -- one digit changed changes the sum
  pub digit_changed : TellsDigits M f → weighed digit_of f (xs ++ ((a ∷ []) ++ zs)) % M ≢ weighed digit_of f (xs ++ ((b ∷ []) ++ zs)) % M
  digit_changed t e =
      ne (same_digit a b da db
      (t.tells (length zs) (digit_of a) (digit_of b) (digit_small a) (digit_small b) (simp one at (replaced digit_of f M xs (a ∷ []) (b ∷ []) zs refl e))))

  -- two unequal neighbours swapped change the sum
  pub neighbours_swapped : TellsNeighbours M f → weighed digit_of f (xs ++ ((a ∷ b ∷ []) ++ zs)) % M ≢ weighed digit_of f (xs ++ ((b ∷ a ∷ []) ++ zs)) % M
  neighbours_swapped t e =
      ne (same_digit a b da db
      (t.tells (length zs) (digit_of a) (digit_of b) (digit_small a) (digit_small b) (simp two at (replaced digit_of f M xs (a ∷ b ∷ []) (b ∷ a ∷ []) zs refl e))))

-- ---- modulus 11, over any weights

times_mod : (M w d : ℕ) → w * d % M ≡ w % M * d % M
times_mod M w d =
    ap (λ (n : ℕ). n * d % M) (sym (div-add-mod' w M))
    ∙ rw (add-mul, mul_right_comm) (mul-add-mod_self_right (w / M * d) M (w % M * d))

eleven_test : T (every 11 (λ r. (r == 0) || every 11 (λ d. every 11 (λ e. apart d e (r * d % 11) (r * e % 11)))))
unfolding every
eleven_test = tt

-- both factors as their remainders
product_mod : (w d : ℕ) → w * d % 11 ≡ w % 11 * (d % 11) % 11
product_mod w d = times_mod 11 w d ∙ ap (λ (n : ℕ). n % 11) (mul_comm (w % 11) d) ∙ times_mod 11 d (w % 11) ∙ ap (λ (n : ℕ). n % 11) (mul_comm (d % 11) (w % 11))

pub eleven_tells : (w d e : ℕ) → w % 11 ≢ 0 → w * d % 11 ≡ w * e % 11 → d % 11 ≡ e % 11
eleven_tells w d e nz q =
    let r = w % 11 in
    let some : T (not (r == 0)) = not_T (r == 0) (λ t. nz (eqb→eq r 0 t)) in
    let here = or_left (r == 0) _ some (every_at 11 _ eleven_test r (mod-lt w (lit< tt))) in
    apart_at (d % 11) (e % 11) _ _ (every_at 11 _ (every_at 11 _ here (d % 11) (mod-lt d (lit< tt))) (e % 11) (mod-lt e (lit< tt))) (sym (product_mod w d) ∙ q ∙ product_mod w e)

-- a value d that becomes e, weighed w, moves a sum by 1 at most modulo 11, up or down
abbrev pub Near : ℕ → ℕ → ℕ → Type 0
Near w d e = (w * (e + 10 * d) + 1) % 11 ≤ 2

-- two sums that differ by that, and of which the remainders are equal or both at most 1
pub near_moved : (w d e a b : ℕ) → a + w * e ≡ b + w * d → (a % 11 ≡ b % 11) ⊎ ((a % 11 ≤ 1) × (b % 11 ≤ 1)) → Near w d e
near_moved w d e a b q r =
    let times : w * (e + 10 * d) ≡ w * e + 10 * (w * d) = mul-add w e (10 * d) ∙ ap (λ (n : ℕ). w * e + n) (mul_left_comm w 10 d) in
    rw times (go r)
  where
    go : (a % 11 ≡ b % 11) ⊎ ((a % 11 ≤ 1) × (b % 11 ≤ 1)) → (w * e + 10 * (w * d) + 1) % 11 ≤ 2
    go (inl r) = omega arith
    go (inr r) = omega arith

-- a weight by itself, or two together: multiples of 11, equal or opposite
abbrev is_alike : ℕ → ℕ → Bool
is_alike r s = r == 0 || s == 0 || r == s || (r + s) % 11 == 0

-- a difference of x, weighed r
abbrev is_near : ℕ → ℕ → Bool
is_near r x = nat_le ((r * x + 1) % 11) 2

near_test : T (every 11 (λ r. every 11 (λ s. is_alike r s || every 11 (λ x. (x == 0) || not (is_near r x && is_near s x)))))
unfolding every
near_test = tt

-- two weights that are not, and a digit that moves neither sum by more than 1, stays
pub near_tells : (w u d e : ℕ) → w % 11 ≢ 0 → u % 11 ≢ 0 → w % 11 ≢ u % 11 → (w + u) % 11 ≢ 0 → d ≤ 9 → e ≤ 9 → Near w d e → Near u d e → d ≡ e
near_tells w u d e nw nu ne op hd he a b =
    let r = w % 11 in
    let s = u % 11 in
    let x = (e + 10 * d) % 11 in
    let opposite : (r + s) % 11 ≢ 0 = λ q. op (omega arith) in
    let apart_from : T (not (is_alike r s)) = none (r == 0) (s == 0) (r == s) ((r + s) % 11 == 0) (λ t. nw (eqb→eq r 0 t)) (λ t. nu (eqb→eq s 0 t)) (λ t. ne (eqb→eq r s t)) (λ t. opposite (eqb→eq _ 0 t)) in
    let here = or_left (is_alike r s) _ apart_from (every_at 11 _ (every_at 11 _ near_test r (mod-lt w (lit< tt))) s (mod-lt u (lit< tt))) in
    let a' : T (is_near r x) = le→leb ((r * x + 1) % 11) 2 (omega (arith, product_mod w (e + 10 * d))) in
    let b' : T (is_near s x) = le→leb ((s * x + 1) % 11) 2 (omega (arith, product_mod u (e + 10 * d))) in
    let z : x ≡ 0 = eqb→eq x 0 (stays_zero (x == 0) (is_near r x) (is_near s x) (every_at 11 _ here x (mod-lt (e + 10 * d) (lit< tt))) a' b') in
    omega arith
  where
    none : (a b c d : Bool) → (T a → ⊥) → (T b → ⊥) → (T c → ⊥) → (T d → ⊥) → T (not (a || b || c || d))
    none true b c d f g h k = absurd (f tt)
    none false true c d f g h k = absurd (g tt)
    none false false true d f g h k = absurd (h tt)
    none false false false true f g h k = absurd (k tt)
    none false false false false f g h k = tt

    stays_zero : (z a b : Bool) → T (z || not (a && b)) → T a → T b → T z
    stays_zero true a b t p q = tt
    stays_zero false true true t p q = t
    stays_zero false true false t p q = q
    stays_zero false false b t p q = p

-- weights of which none is a multiple of 11 tell digits apart
pub weights_tell : (w : ℕ → ℕ) → ((k : ℕ) → w k % 11 ≢ 0) → TellsDigits 11 (λ k d. w k * d)
weights_tell w nz = record { tells = λ k d e hd he q. let r = eleven_tells (w k) d e (nz k) q in omega arith }

swap_test : T (every 11 (λ r. every 11 (λ s. (r == s) || every 10 (λ d. every 10 (λ e. apart d e ((r * d + s * e) % 11) ((r * e + s * d) % 11))))))
unfolding every
swap_test = tt

pair_mod : (v w d e : ℕ) → (v * d + w * e) % 11 ≡ (v % 11 * d + w % 11 * e) % 11
pair_mod v w d e = rw (add-mod, times_mod 11 v d, times_mod 11 w e, ← (add-mod (v % 11 * d) (w % 11 * e) 11))

swap_tells : (v w d e : ℕ) → v % 11 ≢ w % 11 → d ≤ 9 → e ≤ 9 → (v * d + w * e) % 11 ≡ (v * e + w * d) % 11 → d ≡ e
swap_tells v w d e ne hd he q =
    let apart_from : T (not (v % 11 == w % 11)) = not_T (v % 11 == w % 11) (λ t. ne (eqb→eq (v % 11) (w % 11) t)) in
    let here = or_left (v % 11 == w % 11) _ apart_from (every_at 11 _ (every_at 11 _ swap_test (v % 11) (mod-lt v (lit< tt))) (w % 11) (mod-lt w (lit< tt))) in
    apart_at d e _ _ (every_at 10 _ (every_at 10 _ here d (omega arith)) e (omega arith)) (sym (pair_mod v w d e) ∙ q ∙ pair_mod v w e d)

-- weights of which no two neighbours are equal modulo 11 tell swapped neighbours apart
pub weights_tell_neighbours : (w : ℕ → ℕ) → ((k : ℕ) → w (suc k) % 11 ≢ w k % 11) → TellsNeighbours 11 (λ k d. w k * d)
weights_tell_neighbours w ne = record { tells = λ k d e hd he q. swap_tells (w (suc k)) (w k) d e (ne k) hd he q }

-- ---- the moduli

pub base_pos : (m : Modulus) → 0 < base m
base_pos Ten = lit< tt
base_pos Eleven = lit< tt
base_pos PlainEleven = lit< tt
base_pos LongEleven = lit< tt

-- a digit counts itself by itself
pub value_digit : (m : Modulus) (b : ℕ) → Digit b → value_of m b ≡ digit_of b
value_digit Ten b d = refl
value_digit Eleven b d = refl
value_digit PlainEleven b d = rw (is-digit b d)
value_digit LongEleven b d = refl

-- the weights of modulus 10 repeat after two places
ten_again : (k d : ℕ) → counts Ten k d ≡ counts Ten (k % 2) d
unfolding counts
ten_again k d = rw (mod-mod k 2)

ten_test : T (every 2 (λ k. every 10 (λ d. every 10 (λ e. apart d e (counts Ten k d % 10) (counts Ten k e % 10)))))
unfolding every counts
ten_test = tt

ten_tells : (k d e : ℕ) → d ≤ 9 → e ≤ 9 → counts Ten k d % 10 ≡ counts Ten k e % 10 → d ≡ e
ten_tells k d e hd he q =
    apart_at d e _ _ (every_at 10 _ (every_at 10 _ (every_at 2 _ ten_test (k % 2) (mod-lt k (lit< tt))) d (omega arith)) e (omega arith)) (simp (ten_again k) at q)

pub ten_tells_digits : TellsDigits 10 (counts Ten)
ten_tells_digits = record { tells = ten_tells }

pub eleven_tells_digits : TellsDigits 11 (counts Eleven)
unfolding counts
eleven_tells_digits = weights_tell (weight Eleven) (λ k. omega arith)

pub plain_tells_digits : TellsDigits 11 (counts PlainEleven)
unfolding counts
plain_tells_digits = weights_tell (weight PlainEleven) (λ k. omega arith)

differ_test : T (every 8 (λ k. not (weight Eleven (suc k) % 11 == weight Eleven k % 11)))
unfolding every
differ_test = tt

neighbours_differ : (k : ℕ) → weight Eleven (suc k) % 11 ≢ weight Eleven k % 11
neighbours_differ k e =
    let same : weight Eleven (suc (k % 8)) % 11 ≡ weight Eleven (k % 8) % 11 = rw (← (suc-mod k 8), mod-mod) e in
    T_not (weight Eleven (suc (k % 8)) % 11 == weight Eleven (k % 8) % 11) (every_at 8 _ differ_test (k % 8) (mod-lt k (lit< tt))) (subst T (sym (eq-eqb _ _ same)) tt)

pub eleven_tells_neighbours : TellsNeighbours 11 (counts Eleven)
unfolding counts
eleven_tells_neighbours = weights_tell_neighbours (weight Eleven) neighbours_differ

-- ---- what a check digit says of the remainder

-- it gives the remainder back, except 1 by modulus 11, and 0 by the plain ones
abbrev pub blind : Modulus → ℕ → Bool
blind Ten x = false
blind Eleven x = x == 1
blind PlainEleven x = x == 0
blind LongEleven x = x == 0

firm_test : (m : Modulus) → T (every (base m) (λ r. every (base m) (λ s. blind m (lift m r) || apart r s (lift m r) (lift m s))))
unfolding every lift
firm_test Ten = tt
firm_test Eleven = tt
firm_test PlainEleven = tt
firm_test LongEleven = tt

pub firm : (m : Modulus) (r s : ℕ) → r < base m → s < base m → T (not (blind m (lift m r))) → lift m r ≡ lift m s → r ≡ s
firm m r s hr hs f q =
    apart_at r s _ _ (or_left (blind m (lift m r)) _ f (every_at (base m) _ (every_at (base m) _ (firm_test m) r hr) s hs)) q

-- it is a digit
lift_test : (m : Modulus) → T (every (base m) (λ r. leb (lift m r) 9))
unfolding every lift
lift_test Ten = tt
lift_test Eleven = tt
lift_test PlainEleven = tt
lift_test LongEleven = tt

pub lift_small : (m : Modulus) (r : ℕ) → r < base m → lift m r ≤ 9
lift_small m r h = leb→le (lift m r) 9 (every_at (base m) _ (lift_test m) r h)
