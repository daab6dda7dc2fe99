-- Small numbers of the moduli. Assumes nothing.
use Rattle.std.proofs.Common.{◌≡◌, ℕ, ◌-◌, ◌*◌, ◌%◌, ◌<◌, ◌≤◌, false, cond, T, eqb, ltb, List, [], ◌∷◌, length, refl, mul-le-mul, arith, eqb→eq, ne_eqb}
use Rattle.digits.specs.Digits.{digit_byte}
use Rattle.digits.specs.Checks.{base, weight, counts, lift, check_digit, ends_right, ends_right_twice}
use Rattle.digits.specs.inner.Steps.{most_value, most_count}
use Rattle.digits.specs.declared.sealing.Modulus.{Modulus}
use Rattle.digits.specs.declared.sealing.Modulus.TheVariants.{Ten, Eleven, PlainEleven, LongEleven}
use Rattle.digits.proofs.laws.Tests.{every, every_at}

-- an empty string does not end right
pub ends_wrong : (m : Modulus) (bs : List ℕ) → length bs ≡ 0 → ends_right m bs ≡ false
ends_wrong m [] e = ne_eqb 0 (digit_byte (check_digit m [])) (λ z. omega arith)
ends_wrong m (b ∷ bs) e = absurd (omega arith)

pub ends_wrong_twice : (m : Modulus) (bs : List ℕ) → length bs ≡ 0 → ends_right_twice m bs ≡ false
ends_wrong_twice m [] e = rw (ends_wrong m [] refl)
ends_wrong_twice m (b ∷ bs) e = absurd (omega arith)

pub rest_small : (m : Modulus) (r n : ℕ) → r ≡ n % base m → r ≤ 10
rest_small Ten r n e = omega arith
rest_small Eleven r n e = omega arith
rest_small PlainEleven r n e = omega arith
rest_small LongEleven r n e = omega arith

-- a weight is at most 11, and so a value counts 11 times itself at most
weight_small : (m : Modulus) (k : ℕ) → weight m k ≤ 11
weight_small Ten k = omega arith
weight_small Eleven k = omega arith
weight_small PlainEleven k = omega arith
weight_small LongEleven k = omega arith

pub product_small : (w d : ℕ) → w ≤ 11 → d ≤ most_value → w * d ≤ most_count
product_small w d hw hd = mul-le-mul {n₂ = 11} {m₂ = most_value} hw hd

pub counts_small : (m : Modulus) (k d : ℕ) → d ≤ most_value → counts m k d ≤ most_count
unfolding counts
counts_small Ten k d h = omega (arith, product_small (weight Ten k) d (weight_small Ten k) h)
counts_small Eleven k d h = product_small _ d (weight_small Eleven k) h
counts_small PlainEleven k d h = product_small _ d (weight_small PlainEleven k) h
counts_small LongEleven k d h = product_small _ d (weight_small LongEleven k) h

-- 11 less the remainder is 1 for 10 too
eleven_test : T (every 11 (λ r. eqb (lift Eleven r) (cond (ltb r 2) 1 (11 - r))))
unfolding every lift
eleven_test = tt

pub lift_eleven : (r : ℕ) → r < 11 → lift Eleven r ≡ cond (ltb r 2) 1 (11 - r)
lift_eleven r h = eqb→eq _ _ (every_at 11 _ eleven_test r h)
