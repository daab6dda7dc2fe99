-- Tests that antt computes, and the facts that they give. Assumes nothing.
use Rattle.std.specs.Prelude.{◌≡◌, ℕ, zero, suc, ◌<◌, Bool, true, false, not, ◌&&◌, ◌||◌, T, ◌≢◌, ◌==◌, refl}
use Rattle.std.proofs.Common.{le_of_suc-le-suc, not-suc-le-zero, eqb→eq, eq-eqb}

-- a test at every number below n
unfoldable pub every : ℕ → (ℕ → Bool) → Bool
every zero p = true
every (suc n) p = p 0 && every n (λ k. p (suc k))

-- a test that holds is true, and one that isn't true is false
pub so : (b : Bool) → T b → b ≡ true
so true t = refl
so false t = absurd t

pub not_so : (b : Bool) → b ≢ true → b ≡ false
not_so true f = absurd (f refl)
not_so false f = refl

pub both : (a b : Bool) → T (a && b) → T a × T b
both true b t = (tt, t)
both false b t = absurd t

pub every_at : (n : ℕ) (p : ℕ → Bool) → T (every n p) → (k : ℕ) → k < n → T (p k)
unfolding every
every_at zero p t k h = absurd (not-suc-le-zero h)
every_at (suc n) p t zero h = (both (p 0) (every n (λ k. p (suc k))) t).0
every_at (suc n) p t (suc k) h = every_at n (λ k. p (suc k)) (both (p 0) (every n (λ k. p (suc k))) t).1 k (le_of_suc-le-suc h)

-- x and y differ, unless d and e are one
abbrev pub apart : ℕ → ℕ → ℕ → ℕ → Bool
apart d e x y = d == e || not (x == y)

or_false : (a : Bool) → T (a || false) → T a
or_false true t = tt
or_false false t = t

pub apart_at : (d e x y : ℕ) → T (apart d e x y) → x ≡ y → d ≡ e
apart_at d e x y t q = eqb→eq d e (or_false (d == e) (rw (eq-eqb x y q) at t))

pub or_left : (a b : Bool) → T (not a) → T (a || b) → T b
or_left true b f t = absurd f
or_left false b f t = t

pub and_regroup : (a b c d : Bool) → ((a && b) && c) && d ≡ a && ((b && c) && d)
and_regroup true b c d = refl
and_regroup false b c d = refl
