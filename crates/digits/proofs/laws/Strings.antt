-- Digit strings: all digits, their parts, and a string written out. Assumes nothing.
use Rattle.std.specs.Prelude.{◌≡◌, ℕ, zero, suc, ◌+◌, ◌-◌, ◌<◌, ◌≤◌, Bool, true, false, cond, ◌&&◌, ◌||◌, T, List, [], ◌∷◌, ◌++◌, length, take, drop, set, ◌==◌, nat_le, slice_index, slice_set, refl}
use Rattle.std.proofs.Common.{sym, ap, ◌∙◌, subst, zero-le, suc-le-suc, le_of_suc-le-suc, not-suc-le-zero, arith, get_or-take, get_or-drop, drop-cons, leb→le, le-leb, ne_eqb}
use Rattle.std.specs.List.{fold, take_while}
use Rattle.std.proofs.lemmas.List.Sums.{take_while-cons}
use Rattle.std.proofs.Math.Bool.{and-eq-true_iff, and-true, and_assoc}
use Rattle.std.proofs.Math.Nat.{sub-zero, suc-sub-suc}
use Rattle.std.proofs.lemmas.List.{drop-set-add, take-set-le, set-get_or}
use Rattle.std.proofs.Math.Seq.{take-set-lt}
use Rattle.std.proofs.Math.Dec.{eqb-suc-suc}
use Rattle.digits.specs.Digits.{is_digit, is_letter, is_character, digit_of, leading, all_digits, every_byte, all_characters}
use Rattle.digits.proofs.laws.Tests.{both}
use Rattle.digits.specs.inner.Rows.{tab}

-- ---- one byte

-- the byte at one place
pub one_place : (i : ℕ) (xs : List ℕ) → i < length xs → take 1 (drop i xs) ≡ slice_index xs i ∷ []
one_place i [] h = absurd (not-suc-le-zero h)
one_place zero (x ∷ xs) h = refl
one_place (suc i) (x ∷ xs) h = one_place i xs (le_of_suc-le-suc h)

-- ---- one digit

-- a byte is a digit; every byte of a string is one
abbrev pub Digit : ℕ → Type 0
Digit b = (48 ≤ b) × (b ≤ 57)

pub record Digits (bs : List ℕ) : Type 0 where
  pub each : (i : ℕ) → i < length bs → Digit (slice_index bs i)

pub digit_is : (b : ℕ) → is_digit b ≡ true → Digit b
digit_is b q = let t = both (nat_le 48 b) (nat_le b 57) (subst T (sym q) tt) in (leb→le 48 b t.0, leb→le b 57 t.1)

pub is-digit : (b : ℕ) → Digit b → is_digit b ≡ true
is-digit b d = rw (le-leb 48 b d.0, le-leb b 57 d.1)

pub digit_value : (b : ℕ) → Digit b → digit_of b ≡ b - 48
digit_value b d = rw (is-digit b d)

pub same_digit : (a b : ℕ) → Digit a → Digit b → digit_of a ≡ digit_of b → a ≡ b
same_digit a b da db e = omega (arith, digit_value a da, digit_value b db)

pub digit_small : (b : ℕ) → digit_of b ≤ 9
digit_small b = go (is_digit b) refl
  where
    go : (t : Bool) → is_digit b ≡ t → cond t (b - 48) 0 ≤ 9
    go true q = let d = digit_is b q in omega arith
    go false q = zero-le

-- ---- all digits

-- no digits; one digit before others, and what is left without it
pub digits_nil : Digits []
digits_nil = record { each = λ i h. absurd (not-suc-le-zero h) }

pub digits_cons : {b : ℕ} {bs : List ℕ} → Digit b → Digits bs → Digits (b ∷ bs)
digits_cons {b} {bs} d ds = record { each = go }
  where
    go : (i : ℕ) → i < suc (length bs) → Digit (slice_index (b ∷ bs) i)
    go zero h = d
    go (suc i) h = ds.each i (le_of_suc-le-suc h)

pub head : {b : ℕ} {bs : List ℕ} → Digits (b ∷ bs) → Digit b
head ds = ds.each 0 (suc-le-suc zero-le)

pub rest : {b : ℕ} {bs : List ℕ} → Digits (b ∷ bs) → Digits bs
rest ds = record { each = λ i h. ds.each (suc i) (suc-le-suc h) }

pub leading_all : (bs : List ℕ) → leading bs ≡ length bs → Digits bs
unfolding leading
leading_all [] e = digits_nil
leading_all (b ∷ bs) e = go (is_digit b) refl (leading_all bs) e
  where
    go : (t : Bool) → is_digit b ≡ t → (leading bs ≡ length bs → Digits bs) → cond t (suc (leading bs)) 0 ≡ suc (length bs) → Digits (b ∷ bs)
    go true q others e = digits_cons (digit_is b q) (others (omega arith))
    go false q others e = absurd (omega arith)

pub all_leading : (bs : List ℕ) → Digits bs → leading bs ≡ length bs
unfolding leading
all_leading [] ds = refl
all_leading (b ∷ bs) ds = rw (is-digit b (head ds)) (ap suc (all_leading bs (rest ds)))

pub leading_le : (bs : List ℕ) → leading bs ≤ length bs
unfolding leading
leading_le [] = zero-le
leading_le (b ∷ bs) = go (is_digit b) (leading_le bs)
  where
    go : (t : Bool) → leading bs ≤ length bs → cond t (suc (leading bs)) 0 ≤ suc (length bs)
    go true h = suc-le-suc h
    go false h = zero-le

-- a turn of a loop that looks for the first non-digit
pub leading_drop : (s : List ℕ) (i : ℕ) → i < length s → leading (drop i s) ≡ cond (is_digit (slice_index s i)) (suc (leading (drop (suc i) s))) 0
unfolding leading
leading_drop s i h = rw (drop-cons s i 0 h)

-- a turn of one that only tests
all_cons : (b : ℕ) (bs : List ℕ) → all_digits (b ∷ bs) ≡ is_digit b && all_digits bs
unfolding leading
all_cons b bs = go (is_digit b)
  where
    go : (t : Bool) → (cond t (suc (leading bs)) 0 == suc (length bs)) ≡ t && all_digits bs
    go true = eqb-suc-suc (leading bs) (length bs)
    go false = rw (ne_eqb 0 (suc (length bs)) (λ e. omega arith))

pub all_drop : (s : List ℕ) (i : ℕ) → i < length s → all_digits (drop i s) ≡ is_digit (slice_index s i) && all_digits (drop (suc i) s)
all_drop s i h = rw (drop-cons s i 0 h) (all_cons (slice_index s i) (drop (suc i) s))

-- all digits, as a test of every byte
pub every_digit : (bs : List ℕ) → every_byte is_digit bs ≡ all_digits bs
unfolding every_byte leading
every_digit [] = refl
every_digit (b ∷ bs) = ap (λ (t : Bool). is_digit b && t) (every_digit bs) ∙ sym (all_cons b bs)

-- the digits that a string begins with
pub first_digits : (bs : List ℕ) → length (take_while is_digit bs) ≡ leading bs
unfolding leading
first_digits [] = refl
first_digits (b ∷ bs) = rw take_while-cons (go (is_digit b) (first_digits bs))
  where
    go : (t : Bool) → length (take_while is_digit bs) ≡ leading bs → length (cond t (b ∷ take_while is_digit bs) []) ≡ cond t (suc (leading bs)) 0
    go true e = ap suc e
    go false e = refl

pub digits_append : {xs ys : List ℕ} → Digits xs → Digits ys → Digits (xs ++ ys)
digits_append {xs = []} dx dy = dy
digits_append {xs = x ∷ xs} dx dy = digits_cons (head dx) (digits_append (rest dx) dy)

pub digits_drop : (n : ℕ) {bs : List ℕ} → Digits bs → Digits (drop n bs)
digits_drop zero ds = ds
digits_drop (suc n) {bs = []} ds = ds
digits_drop (suc n) {bs = b ∷ bs} ds = digits_drop n (rest ds)

pub digits_take : (n : ℕ) {bs : List ℕ} → Digits bs → Digits (take n bs)
digits_take zero ds = digits_nil
digits_take (suc n) {bs = []} ds = ds
digits_take (suc n) {bs = b ∷ bs} ds = digits_cons (head ds) (digits_take n (rest ds))

-- one byte stored
pub digits_set : {bs : List ℕ} (i v : ℕ) → Digits bs → Digit v → Digits (slice_set bs i v)
digits_set {bs = []} i v ds d = ds
digits_set {bs = b ∷ bs} zero v ds d = digits_cons d (rest ds)
digits_set {bs = b ∷ bs} (suc i) v ds d = digits_cons (head ds) (digits_set i v (rest ds) d)

-- ---- digits and capital letters

pub character_is : (b : ℕ) → is_character b ≡ true → (48 ≤ b) × (b ≤ 90)
character_is b q = go (is_digit b) (is_letter b) refl refl q
  where
    go : (d l : Bool) → is_digit b ≡ d → is_letter b ≡ l → (d || l) ≡ true → (48 ≤ b) × (b ≤ 90)
    go true l p q e = let d = digit_is b p in (d.0, omega arith)
    go false true p q e = let t = both (nat_le 65 b) (nat_le b 90) (subst T (sym q) tt) in (omega (arith, leb→le 65 b t.0), leb→le b 90 t.1)
    go false false p q e = absurd (subst T (sym e) tt)

-- a turn of a loop that only tests
pub every_turn : (test : ℕ → Bool) (s : List ℕ) (i : ℕ) → i < length s → every_byte test (drop i s) ≡ test (slice_index s i) && every_byte test (drop (suc i) s)
unfolding every_byte
every_turn test s i h = rw (drop-cons s i 0 h)

-- all bytes looked at, one behind the other
fold_from : (test : ℕ → Bool) (so_far : Bool) (bs : List ℕ) → fold (λ all b. all && test b) so_far bs ≡ so_far && every_byte test bs
unfolding every_byte
fold_from test so_far [] = sym (and-true so_far)
fold_from test so_far (b ∷ bs) = fold_from test (so_far && test b) bs ∙ and_assoc so_far (test b) (every_byte test bs)

pub fold_every : (test : ℕ → Bool) (bs : List ℕ) → fold (λ all b. all && test b) true bs ≡ every_byte test bs
fold_every test bs = fold_from test true bs

-- a byte stored that passes
pub every_set : (test : ℕ → Bool) (bs : List ℕ) (i v : ℕ) → every_byte test bs ≡ true → test v ≡ true → every_byte test (slice_set bs i v) ≡ true
unfolding every_byte
every_set test [] i v e c = refl
every_set test (b ∷ bs) zero v e c = rw (c, ((and-eq-true_iff (test b) (every_byte test bs)).0 e).1)
every_set test (b ∷ bs) (suc i) v e c =
    let t = (and-eq-true_iff (test b) (every_byte test bs)).0 e in
    rw (t.0, every_set test bs i v t.1 c)

-- digits are characters
pub digits_characters : (bs : List ℕ) → all_digits bs ≡ true → all_characters bs ≡ true
unfolding leading every_byte
digits_characters [] e = refl
digits_characters (b ∷ bs) e = go (is_digit b) refl (digits_characters bs) (rw (all_cons b bs) at e)
  where
    go : (t : Bool) → is_digit b ≡ t → (all_digits bs ≡ true → all_characters bs ≡ true) → t && all_digits bs ≡ true → is_character b && all_characters bs ≡ true
    go true q others e = rw (q, others e)
    go false q others e = absurd (subst T (sym e) tt)

-- ---- a string written out: taking parts of it then computes

-- the first n bytes of a string, written out
pub front : (n : ℕ) (bs : List ℕ) → n ≤ length bs → bs ≡ tab n (λ i. slice_index bs i) ++ drop n bs
front zero bs h = refl
front (suc n) [] h = absurd (not-suc-le-zero h)
front (suc n) (b ∷ bs) h = ap (λ (l : List ℕ). b ∷ l) (front n bs (le_of_suc-le-suc h))

pub spelled_out : (n : ℕ) (bs : List ℕ) → length bs ≡ n → bs ≡ tab n (λ i. slice_index bs i)
spelled_out zero [] e = refl
spelled_out zero (b ∷ bs) e = absurd (omega arith)
spelled_out (suc n) [] e = absurd (omega arith)
spelled_out (suc n) (b ∷ bs) e = ap (λ (l : List ℕ). b ∷ l) (spelled_out n bs (omega arith))

-- ---- a byte stored in a part of a string, behind a part, and in the second of two strings

module _ (l : List ℕ) (a n i v : ℕ) where
  pub part_set : a ≤ i → i < a + n → take n (drop a (slice_set l i v)) ≡ slice_set (take n (drop a l)) (i - a) v
  part_set lo up = let e : i ≡ a + (i - a) = omega arith in
      ap (λ (k : ℕ). take n (drop a (slice_set l k v))) e ∙ rw (drop-set-add, take-set-lt n (drop a l) (i - a) v (omega arith))

  pub part_kept : a + n ≤ i → take n (drop a (slice_set l i v)) ≡ take n (drop a l)
  part_kept h = let e : i ≡ a + (i - a) = omega arith in
      ap (λ (k : ℕ). take n (drop a (slice_set l k v))) e ∙ rw (drop-set-add, take-set-le n (drop a l) (i - a) v (omega arith))

  pub part_get_or : a ≤ i → i < a + n → slice_index (take n (drop a l)) (i - a) ≡ slice_index l i
  part_get_or lo up = let e : a + (i - a) ≡ i = omega arith in rw (get_or-take n (drop a l) (i - a) 0 (omega arith), get_or-drop, e)

pub set_append_right : (xs ys : List ℕ) (i v : ℕ) → length xs ≤ i → slice_set (xs ++ ys) i v ≡ xs ++ slice_set ys (i - length xs) v
set_append_right [] ys i v h = rw sub-zero
set_append_right (x ∷ xs) ys zero v h = absurd (not-suc-le-zero h)
set_append_right (x ∷ xs) ys (suc i) v h = rw suc-sub-suc (ap (λ (l : List ℕ). x ∷ l) (set_append_right xs ys i v (le_of_suc-le-suc h)))

-- ---- two neighbours stored

pub two_stored : (bs : List ℕ) (i v w : ℕ) → suc i < length bs → slice_set (slice_set bs i v) (suc i) w ≡ take i bs ++ v ∷ w ∷ drop (suc (suc i)) bs
two_stored [] i v w h = absurd (not-suc-le-zero h)
two_stored (x ∷ []) i v w h = absurd (not-suc-le-zero (le_of_suc-le-suc h))
two_stored (x ∷ y ∷ bs) zero v w h = refl
two_stored (x ∷ y ∷ bs) (suc i) v w h = ap (λ (l : List ℕ). x ∷ l) (two_stored (y ∷ bs) i v w (le_of_suc-le-suc h))

-- as they stand
pub two_split : (bs : List ℕ) (i : ℕ) → suc i < length bs → bs ≡ take i bs ++ slice_index bs i ∷ slice_index bs (suc i) ∷ drop (suc (suc i)) bs
two_split bs i h =
    sym (set-get_or bs (suc i) 0)
    ∙ ap (λ (l : List ℕ). set l (suc i) (slice_index bs (suc i))) (sym (set-get_or bs i 0))
    ∙ two_stored bs i (slice_index bs i) (slice_index bs (suc i)) h
