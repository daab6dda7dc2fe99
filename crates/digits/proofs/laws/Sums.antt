-- Weighted sums of strings, over any values of the bytes, any weights, any modulus and any length. Assumes nothing.
use Rattle.std.specs.Prelude.{◌≡◌, ℕ, zero, suc, ◌+◌, ◌-◌, ◌/◌, ◌%◌, ◌<◌, ◌≤◌, List, [], ◌∷◌, ◌++◌, length, drop, slice_index, slice_set}
use Rattle.std.proofs.Common.{sym, ap, ◌∙◌, zero-add, add-zero, add_comm, div-add-mod', le_of_suc-le-suc, not-suc-le-zero, one-add, arith, length-append, length-drop, length-set, drop-cons}
use Rattle.std.proofs.Math.Nat.{add-mod, mod-mod, mul-add-mod_self_right, sub-zero, suc-sub-suc}
use Rattle.digits.specs.Digits.{weighed}
use Rattle.digits.specs.inner.Steps.{behind}

-- equal remainders, and the rest of two equal sums
pub cancel : (M a b x y : ℕ) → a + y ≡ b + x → a % M ≡ b % M → x % M ≡ y % M
cancel M a b x y e h =
    sym (mul-add-mod_self_right (b / M) M x)
    ∙ ap (λ (n : ℕ). n % M) (omega (arith, div-add-mod' a M, div-add-mod' b M))
    ∙ mul-add-mod_self_right (a / M) M y

pub weighed_append : (v : ℕ → ℕ) (f : ℕ → ℕ → ℕ) (xs ys : List ℕ) → weighed v f (xs ++ ys) ≡ weighed v (behind (length ys) f) xs + weighed v f ys
unfolding weighed
weighed_append v f [] ys = omega arith
weighed_append v f (x ∷ xs) ys = rw (length-append xs ys) (omega (arith, weighed_append v f xs ys))

pub behind_none : (f : ℕ → ℕ → ℕ) → behind 0 f ≡ f
behind_none f = λ i k d. f (add-zero k i) d

-- the remainder of a whole, from those of its two parts
pub weighed_split : (v : ℕ → ℕ) (f : ℕ → ℕ → ℕ) (M : ℕ) (xs ys : List ℕ) →
    (weighed v (behind 0 f) ys % M + weighed v (behind (length ys) f) xs % M) % M ≡ weighed v f (xs ++ ys) % M
weighed_split v f M xs ys =
    rw (behind_none f)
    (sym (add-mod (weighed v f ys) (weighed v (behind (length ys) f) xs) M) ∙ ap (λ (n : ℕ). n % M) (add_comm _ _ ∙ sym (weighed_append v f xs ys)))

-- one byte more on the left, and on the right of what is left
pub weighed_drop : (v : ℕ → ℕ) (f : ℕ → ℕ → ℕ) (s : List ℕ) (i : ℕ) → i < length s →
    weighed v f (drop i s) ≡ f (length s - suc i) (v (slice_index s i)) + weighed v f (drop (suc i) s)
unfolding weighed
weighed_drop v f s i h = rw (drop-cons s i 0 h, length-drop)

-- a turn of a loop that goes from right to left
pub turn : (v : ℕ → ℕ) (f : ℕ → ℕ → ℕ) (M : ℕ) (s : List ℕ) (i sum : ℕ) → 0 < i → i ≤ length s → sum % M ≡ weighed v f (drop i s) % M →
    (sum + f (length s - i) (v (slice_index s (i - 1)))) % M ≡ weighed v f (drop (i - 1) s) % M
turn v f M s i sum pos h e =
    let back : suc (i - 1) ≡ i = omega arith in
    let d = rw back at (weighed_drop v f s (i - 1) (omega arith)) in
    rw (add-mod, e, ← (add-mod (weighed v f (drop i s)) (f (length s - i) (v (slice_index s (i - 1)))) M), d) (ap (λ (n : ℕ). n % M) (add_comm _ _))

-- a part of a string, and another of the same length in its place: where the sums' remainders agree, the parts' do
pub replaced : (v : ℕ → ℕ) (f : ℕ → ℕ → ℕ) (M : ℕ) (xs ys ys' zs : List ℕ) → length ys ≡ length ys' → weighed v f (xs ++ (ys ++ zs)) % M ≡ weighed v f (xs ++ (ys' ++ zs)) % M →
    weighed v (behind (length zs) f) ys % M ≡ weighed v (behind (length zs) f) ys' % M
replaced v f M xs ys ys' zs e h = cancel M _ _ _ _ (simp (weighed_append, length-append, e) (omega arith)) h

-- a part of one byte, and of two
pub one : (v : ℕ → ℕ) (f : ℕ → ℕ → ℕ) (n b : ℕ) → weighed v (behind n f) (b ∷ []) ≡ f n (v b)
unfolding weighed
one v f n b = simp (zero-add, add-zero)

pub two : (v : ℕ → ℕ) (f : ℕ → ℕ → ℕ) (n a b : ℕ) → weighed v (behind n f) (a ∷ b ∷ []) ≡ f (suc n) (v a) + f n (v b)
unfolding weighed
two v f n a b = simp (zero-add, add-zero, one-add)

-- what all bytes of a string but one leave, those before it and those behind it; and what all leave with it
abbrev pub others : (ℕ → ℕ) → (ℕ → ℕ → ℕ) → ℕ → List ℕ → List ℕ → ℕ
others v f M xs zs = (weighed v (behind (suc (length zs)) f) xs + weighed v f zs) % M

pub with_byte : (v : ℕ → ℕ) (f : ℕ → ℕ → ℕ) (M : ℕ) (xs zs : List ℕ) (b : ℕ) → weighed v f (xs ++ b ∷ zs) % M ≡ (others v f M xs zs + f (length zs) (v b)) % M
unfolding weighed
with_byte v f M xs zs b =
    let c = f (length zs) (v b) in
    let rest = weighed v (behind (suc (length zs)) f) xs + weighed v f zs in
    ap (λ (n : ℕ). n % M) (weighed_append v f xs (b ∷ zs) ∙ omega arith) ∙ add-mod rest c M ∙ ap (λ (n : ℕ). (n + c % M) % M) (sym (mod-mod rest M)) ∙ sym (add-mod (rest % M) c M)

-- one byte stored: its count and that of the byte that stood there, exchanged
pub weighed_set : (v : ℕ → ℕ) (f : ℕ → ℕ → ℕ) (bs : List ℕ) (i b : ℕ) → i < length bs →
    weighed v f bs + f (length bs - suc i) (v b) ≡ weighed v f (slice_set bs i b) + f (length bs - suc i) (v (slice_index bs i))
unfolding weighed
weighed_set v f [] i b h = absurd (not-suc-le-zero h)
weighed_set v f (x ∷ xs) zero b h = rw (suc-sub-suc, sub-zero) (omega arith)
weighed_set v f (x ∷ xs) (suc i) b h = rw (suc-sub-suc, length-set xs i b) (omega (arith, weighed_set v f xs i b (le_of_suc-le-suc h)))
