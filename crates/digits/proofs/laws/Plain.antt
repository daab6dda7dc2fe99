-- Check digits by modulus 11 that are 0 for remainder 0 or 1: when they stay though a byte changes. Over any length. Assumes nothing.
use Rattle.std.specs.Prelude.{◌≡◌, ℕ, suc, ◌+◌, ◌-◌, ◌*◌, ◌%◌, ◌<◌, ◌≤◌, ◌≢◌, ◌⊎◌, ◌↔◌, List, length, slice_index, slice_set, refl}
use Rattle.std.proofs.Common.{sym, ap, ◌∙◌, inl, inr, mod-lt, arith, get_or-set_other, lt-ltb, le-ltb}
use Rattle.std.proofs.Math.Decide.{dec_lt}
use Rattle.digits.specs.Digits.{digit_byte, weighed}
use Rattle.digits.specs.Checks.{base, value_of, weight, counts, plain_lift, lift, remainder, check_digit}
use Rattle.digits.specs.declared.sealing.Modulus.{Modulus}
use Rattle.digits.specs.declared.sealing.Modulus.TheVariants.{PlainEleven, LongEleven}
use Rattle.digits.proofs.laws.Sums.{cancel, weighed_set}
use Rattle.digits.proofs.laws.Moduli.{Near, base_pos, eleven_tells, near_moved}
use Rattle.digits.proofs.laws.Seals.{Sealed, out, out_long, out_set, out_get_or, among, among_lt}

-- a remainder stays, or passes between 0 and 1: those two have one check digit
pub data Stays (r s : ℕ) : Type 0 where
  same : r ≡ s → Stays r s
  low : r ≤ 1 → s ≤ 1 → Stays r s

-- a modulus 11 over products, whose check digit is 0 for remainder 0 or 1: those of a CNPJ, a CPF and a collection code
pub record LiftsPlainly (m : Modulus) : Type 0 where
  pub eleven : base m ≡ 11
  pub lifts : (r : ℕ) → lift m r ≡ plain_lift r
  pub products : (k d : ℕ) → counts m k d ≡ weight m k * d

pub plain_eleven : LiftsPlainly PlainEleven
unfolding lift counts
plain_eleven = record { eleven = refl; lifts = λ r. refl; products = λ k d. refl }

pub long_eleven : LiftsPlainly LongEleven
unfolding lift counts
long_eleven = record { eleven = refl; lifts = λ r. refl; products = λ k d. refl }

-- ---- the plain check digit

lift_low : (r : ℕ) → r ≤ 1 → plain_lift r ≡ 0
lift_low r h = rw (lt-ltb r 2 (omega arith))

lift_high : (r : ℕ) → 1 < r → plain_lift r ≡ 11 - r
lift_high r h = rw (le-ltb r 2 (omega arith))

stays : (r s : ℕ) → r < 11 → s < 11 → plain_lift r ≡ plain_lift s → Stays r s
stays r s hr hs e = go (dec_lt 1 r) (dec_lt 1 s)
  where
    go : Dec (1 < r) → Dec (1 < s) → Stays r s
    go (yes p) (yes q) = same (omega (arith, lift_high r p, lift_high s q))
    go (yes p) (no q) = absurd (omega (arith, lift_high r p, lift_low s (omega arith)))
    go (no p) (yes q) = absurd (omega (arith, lift_low r (omega arith), lift_high s q))
    go (no p) (no q) = low (omega arith) (omega arith)

stayed : (r s : ℕ) → Stays r s → plain_lift r ≡ plain_lift s
stayed r s (same e) = ap plain_lift e
stayed r s (low p q) = lift_low r p ∙ sym (lift_low s q)

small : {m : Modulus} → LiftsPlainly m → (bs : List ℕ) → remainder m bs < 11
small {m} p bs = rw (← p.eleven) (mod-lt _ (base_pos m))

-- a check digit is that of another string too exactly if the remainder stays
pub stays_exactly : {m : Modulus} → LiftsPlainly m → (bs bs' : List ℕ) (x : ℕ) → x ≡ digit_byte (check_digit m bs) → x ≡ digit_byte (check_digit m bs') ↔ Stays (remainder m bs) (remainder m bs')
unfolding check_digit
stays_exactly {m} p bs bs' x s =
    let r = remainder m bs in
    let r' = remainder m bs' in
    (λ s'. stays r r' (small p bs) (small p bs') (omega (arith, p.lifts r, p.lifts r')), λ t. omega (arith, stayed r r' t, p.lifts r, p.lifts r'))

-- for remainder 0 or 1 it is 0
pub zero_for_low : {m : Modulus} → LiftsPlainly m → (bs : List ℕ) → remainder m bs ≤ 1 → check_digit m bs ≡ 0
unfolding check_digit
zero_for_low {m} p bs h = p.lifts (remainder m bs) ∙ lift_low (remainder m bs) h

-- ---- one byte changed

module _ {m : Modulus} (p : LiftsPlainly m) (bs : List ℕ) (i v : ℕ) (h : i < length bs) where
  -- its weight
  abbrev w : ℕ
  w = weight m (length bs - suc i)

  -- both sums, with what the byte counts and counted exchanged
  sums : weighed (value_of m) (counts m) bs + w * value_of m v ≡ weighed (value_of m) (counts m) (slice_set bs i v) + w * value_of m (slice_index bs i)
  sums = rw (← (p.products (length bs - suc i) (value_of m v)), ← (p.products (length bs - suc i) (value_of m (slice_index bs i)))) (weighed_set (value_of m) (counts m) bs i v h)

  -- one remainder before and after: the byte's values leave one remainder, if its weight is no multiple of 11
  pub byte_told : w % 11 ≢ 0 → remainder m bs ≡ remainder m (slice_set bs i v) → value_of m (slice_index bs i) % 11 ≡ value_of m v % 11
  byte_told nz q = eleven_tells w (value_of m (slice_index bs i)) (value_of m v) nz (cancel 11 _ _ _ _ sums (rw p.eleven at q))

  -- a remainder that stays: the sum moved by 1 at most
  pub byte_near : Stays (remainder m bs) (remainder m (slice_set bs i v)) → Near w (value_of m (slice_index bs i)) (value_of m v)
  byte_near t = near_moved w _ _ _ _ sums (go (rw p.eleven at t))
    where
      go : {r s : ℕ} → Stays r s → (r ≡ s) ⊎ ((r ≤ 1) × (s ≤ 1))
      go (same e) = inl e
      go (low a b) = inr (a, b)

-- ---- one byte beside the check digit of a sealed string changed

module _ {m : Modulus} (q : LiftsPlainly m) (bs : List ℕ) (p i v : ℕ) (hp : p < length bs) (hi : i < length bs) (ne : i ≢ p) (s : Sealed m p bs) where
  -- the string is sealed again exactly if the remainder of the others stays
  pub sealed_again : Sealed m p (slice_set bs i v) ↔ Stays (remainder m (out p bs)) (remainder m (out p (slice_set bs i v)))
  sealed_again = rw (get_or-set_other bs i p v 0 (λ e. ne (sym e))) (stays_exactly q (out p bs) (out p (slice_set bs i v)) (slice_index bs p) s)

  -- and then the byte moved their sum by 1 at most
  pub sealed_near : Sealed m p (slice_set bs i v) → Near (weight m (length bs - 1 - suc (among p i))) (value_of m (slice_index bs i)) (value_of m v)
  sealed_near s' =
      let long = out_long p bs hp in
      let t = rw (out_set p bs i v hp ne) at (sealed_again.0 s') in
      rw (out_get_or p bs i hp ne hi, long) at (byte_near q (out p bs) (among p i) v (rw long (among_lt p i (length bs) ne hp hi)) t)
