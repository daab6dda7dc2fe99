-- Parsing and printing undo each other, over the width. Assumes nothing.
use Rattle.std.specs.Prelude.{◌≡◌, ℕ, zero, suc, ◌+◌, ◌-◌, ◌*◌, ◌/◌, ◌%◌, ◌^◌, ◌<◌, ◌≤◌, Bool, true, false, cond, ◌&&◌, List, [], ◌∷◌, ◌++◌, length, drop, replicate, ◌==◌, nat_le, slice_index, refl, None, Some}
use Rattle.std.proofs.Common.{sym, ap, ap₂, ◌∙◌, pow-suc, add-mul, mul_assoc, div-lt_iff_lt-mul, add-one, arith, lt-ltb, le-ltb, le-leb, leb-true, eq-eqb, eqb-true, ne_eqb, length-append}
use Rattle.std.proofs.Math.Nat.{pow-succ', pow-le-pow_right, one-le-pow}
use Rattle.std.proofs.Math.Decide.{dec_lt}
use Rattle.std.proofs.lemmas.Bool.{eqb-false}
use Rattle.std.proofs.Math.Arith.{digits_lt, digits_div, digits_mod}
use Rattle.std.proofs.lemmas.List.{length-replicate}
use Rattle.digits.specs.Digits.{digit_of, digit_byte, leading, weighed}
use Rattle.digits.specs.Numbers.{number, most_digits, number_of, value, last_digits, star, numeral}
use Rattle.digits.proofs.laws.Strings.{Digit, Digits, digit_small, digit_value, same_digit, digits_nil, digits_cons, digits_append, head, rest, leading_all, all_leading}
use Rattle.digits.proofs.laws.Sums.{weighed_drop}

-- ---- the number that a string spells

pub number_lt : (bs : List ℕ) → number bs < 10 ^ length bs
unfolding weighed
number_lt [] = omega arith
number_lt (b ∷ bs) = rw (pow-succ' 10 (length bs)) (digits_lt (omega (arith, digit_small b)) (number_lt bs))

number_snoc : (bs : List ℕ) (b : ℕ) → number (bs ++ b ∷ []) ≡ number bs * 10 + digit_of b
unfolding weighed
number_snoc [] b = omega arith
number_snoc (x ∷ bs) b = rw (number_snoc bs b, length-append bs (b ∷ []), add-one, pow-suc, ← (mul_assoc (digit_of x) (10 ^ length bs) 10)) (omega arith)

-- strings of digits of one length that spell one number are one
pub number_inj : (bs cs : List ℕ) → length bs ≡ length cs → Digits bs → Digits cs → number bs ≡ number cs → bs ≡ cs
unfolding weighed
number_inj [] [] e db dc q = refl
number_inj [] (c ∷ cs) e db dc q = absurd (omega arith)
number_inj (b ∷ bs) [] e db dc q = absurd (omega arith)
number_inj (b ∷ bs) (c ∷ cs) e db dc q =
    let l : length bs ≡ length cs = omega arith in
    let small = number_lt bs in
    let small' = rw (← l) at (number_lt cs) in
    let same : digit_of b * 10 ^ length bs + number bs ≡ digit_of c * 10 ^ length bs + number cs = rw (← l) at q in
    let first = sym (digits_div (digit_of b) small) ∙ ap (λ (n : ℕ). n / 10 ^ length bs) same ∙ digits_div (digit_of c) small' in
    let others = sym (digits_mod (digit_of b) small) ∙ ap (λ (n : ℕ). n % 10 ^ length bs) same ∙ digits_mod (digit_of c) small' in
    ap₂ ◌∷◌ (same_digit b c (head db) (head dc) first) (number_inj bs cs l (rest db) (rest dc) others)

-- ---- the digits of a number

pub length_digits : (w n : ℕ) → length (last_digits w n) ≡ w
unfolding last_digits
length_digits zero n = refl
length_digits (suc w) n = rw (length-append, length_digits w (n / 10), add-one)

one_digit : (n : ℕ) → Digit (digit_byte (n % 10))
one_digit n = (omega arith, omega arith)

pub digits_digits : (w n : ℕ) → Digits (last_digits w n)
unfolding last_digits
digits_digits zero n = digits_nil
digits_digits (suc w) n = digits_append (digits_digits w (n / 10)) (digits_cons (one_digit n) digits_nil)

-- printed and parsed: a number that has no more digits than the width
pub number_digits : (w n : ℕ) → n < 10 ^ w → number (last_digits w n) ≡ n
unfolding last_digits weighed
number_digits zero n h = omega arith
number_digits (suc w) n h =
    let m : n / 10 < 10 ^ w = (div-lt_iff_lt-mul {k = 10} (omega arith)).1 (rw pow-suc at h) in
    rw (number_snoc (last_digits w (n / 10)) (digit_byte (n % 10)), number_digits w (n / 10) m, digit_value (digit_byte (n % 10)) (one_digit n)) (omega arith)

-- parsed and printed
pub digits_number : (bs : List ℕ) → Digits bs → last_digits (length bs) (number bs) ≡ bs
digits_number bs ds =
    number_inj _ bs (length_digits (length bs) (number bs)) (digits_digits (length bs) (number bs)) ds (number_digits (length bs) (number bs) (number_lt bs))

-- ---- printing at a width, and parsing

pub numeral_fits : (w n : ℕ) → n < 10 ^ w → numeral w n ≡ last_digits w n
unfolding numeral
numeral_fits w n h = rw (lt-ltb n (10 ^ w) h)

pub numeral_wide : (w n : ℕ) → 10 ^ w ≤ n → numeral w n ≡ replicate w star
unfolding numeral
numeral_wide w n h = rw (le-ltb n (10 ^ w) h)

pub length_numeral : (w n : ℕ) → length (numeral w n) ≡ w
length_numeral w n = go (dec_lt n (10 ^ w))
  where
    go : Dec (n < 10 ^ w) → length (numeral w n) ≡ w
    go (yes h) = rw (numeral_fits w n h) (length_digits w n)
    go (no h) = rw (numeral_wide w n (omega arith)) (length-replicate w star)

-- a string of digits, not too many, gives the number that it spells; nothing else gives one
pub digits_give : (bs : List ℕ) → Digits bs → length bs ≤ most_digits → number_of bs ≡ Some (number bs)
unfolding number_of
digits_give bs ds h = rw (eq-eqb (leading bs) (length bs) (all_leading bs ds), le-leb (length bs) most_digits h)

pub record Given (bs : List ℕ) (n : ℕ) : Type 0 where
  pub digits : Digits bs
  pub few : length bs ≤ most_digits
  pub is : n ≡ number bs

pub given : (bs : List ℕ) (n : ℕ) → number_of bs ≡ Some n → Given bs n
unfolding number_of
given bs n e = go (leading bs == length bs) (nat_le (length bs) most_digits) refl refl e
  where
    go : (a b : Bool) → (leading bs == length bs) ≡ a → nat_le (length bs) most_digits ≡ b → cond (a && b) (Some (number bs)) None ≡ Some n → Given bs n
    go true true p q e = record { digits = leading_all bs (eqb-true _ _ p); few = leb-true _ _ q; is = cc }
    go true false p q e = absurd (let z : ◌≡◌ {A = ℕ} 0 1 = cc in omega arith)
    go false b p q e = absurd (let z : ◌≡◌ {A = ℕ} 0 1 = cc in omega arith)

pub given_lt : (bs : List ℕ) (n : ℕ) → number_of bs ≡ Some n → n < 10 ^ length bs
given_lt bs n e = rw (given bs n e).is (number_lt bs)

-- one byte gives its digit: a test of the number is one of the byte
pub digit_told : (b n k : ℕ) → number_of (b ∷ []) ≡ Some n → (b == digit_byte k) ≡ (n == k)
unfolding weighed
digit_told b n k e = go (n == k) refl
  where
    is : b ≡ digit_byte n
    is = let g = given (b ∷ []) n e in let d = head g.digits in omega (arith, g.is, digit_value b d)

    go : (t : Bool) → (n == k) ≡ t → (b == digit_byte k) ≡ t
    go true q = eq-eqb b (digit_byte k) (is ∙ ap digit_byte (eqb-true n k q))
    go false q = ne_eqb b (digit_byte k) (λ z. eqb-false n k q (omega (arith, is)))

-- what is printed is parsed to the same number
pub printed_parsed : (w n : ℕ) → n < 10 ^ w → w ≤ most_digits → number_of (numeral w n) ≡ Some n
printed_parsed w n h few =
    let long : length (last_digits w n) ≤ most_digits = omega (arith, length_digits w n) in
    rw (numeral_fits w n h, digits_give (last_digits w n) (digits_digits w n) long, number_digits w n h)

-- what is parsed is printed to the same bytes
pub parsed_printed : (bs : List ℕ) (n : ℕ) → number_of bs ≡ Some n → numeral (length bs) n ≡ bs
parsed_printed bs n e =
    let g = given bs n e in
    rw (g.is, numeral_fits (length bs) (number bs) (number_lt bs)) (digits_number bs g.digits)

-- a number of more digits than its width is printed as no number
pub wide_not_parsed : (w n : ℕ) → 0 < w → 10 ^ w ≤ n → number_of (numeral w n) ≡ None
unfolding number_of leading
wide_not_parsed w n p h = rw (numeral_wide w n h) (none w p)
  where
    none : (w : ℕ) → 0 < w → number_of (replicate w star) ≡ None
    none zero p = absurd (omega arith)
    none (suc w) p = rw (ne_eqb 0 (suc (length (replicate w star))) (λ e. omega arith))

-- ---- for the code that reads, from the left

-- a digit more behind n
pub below_more : (i n d : ℕ) → n < 10 ^ i → d ≤ 9 → n * 10 + d < 10 ^ suc i
below_more i n d h k = rw pow-suc (omega arith)

-- as many digits as are read give a number that fits
pub below_limit : (i n : ℕ) → i < most_digits → n < 10 ^ i → n * 10 + 9 < 2 ^ 64
below_limit i n l h = omega (arith, pow-le-pow_right {n = 10} (omega arith) {i = i} {j = 18} (omega arith))

-- n behind i digits, with as many zeros as digits are left, and what these spell
pub number_turn : (n i : ℕ) (s : List ℕ) → i < length s →
    n * 10 ^ (length s - i) + number (drop i s) ≡ (n * 10 + digit_of (slice_index s i)) * 10 ^ (length s - suc i) + number (drop (suc i) s)
number_turn n i s h =
    let left : length s - i ≡ suc (length s - suc i) = omega arith in
    rw (weighed_drop digit_of (λ k d. d * 10 ^ k) s i h, left, pow-succ', add-mul, mul_assoc) (omega arith)

-- bytes of a width spell a number of no more digits
pub value_lt : (w : ℕ) (bs : List ℕ) → length bs ≤ w → value bs < 10 ^ w
value_lt w bs h = go (nat_le (length bs) most_digits)
  where
    go : (b : Bool) → cond b (number bs) 0 < 10 ^ w
    go true = omega (arith, number_lt bs, pow-le-pow_right {n = 10} (omega arith) {i = length bs} {j = w} h)
    go false = one-le-pow w 10 (omega arith)
