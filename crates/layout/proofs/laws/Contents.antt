-- The fixed content of each kind, by the kind's number. Assumes nothing.
use Rattle.std.specs.Prelude.{◌≡◌, refl, Bool, true, false, cond, List, [], ◌∷◌, ℕ, zero, suc, ◌≤◌, ◌<◌, T, leb, ltb, eqb, length, get_or}
use Rattle.std.proofs.Common.{ap, le_of_suc-le-suc, not-suc-le-zero, arith, leb-true, ne_eqb, eqb→eq}
use Rattle.std.proofs.Math.Decide.{dec_lt}
use Rattle.std.proofs.Math.ListN.{get_or-eq_default}
use Rattle.digits.specs.inner.Rows.{tab}
use Rattle.layout.proofs.laws.Bytes.{and_left}
use Rattle.layout.specs.inner.Lent.{kinds, kind_count, n_or_blank, first_mark, first_letter, is_mark, kind_of, content_of, fill_as, fill_of, may_be}
use Rattle.layout.specs.Field.{Kind, F, RecordType, Segment}
use Rattle.layout.specs.Kinds.{Presence, a_number, as_bytes, as_fixed, may_be_absent, means, run, text}
use Rattle.layout.specs.declared.fixed.Content.{Content}
use Rattle.layout.specs.declared.fixed.Content.TheVariants.{Run, LetterC, Code09, Code52}
use Rattle.layout.specs.declared.kinds.Fill.{Fill}
use Rattle.layout.specs.declared.kinds.Fill.TheVariants.{Number, Text, Fixed}

-- ---- bytes given by their places

-- there are as many
pub length_tab : (n : ℕ) (f : ℕ → ℕ) → length (tab n f) ≡ n
length_tab zero f = refl
length_tab (suc n) f = ap suc (length_tab n (λ k. f (suc k)))

-- each stands at its place
pub get_or_tab : (n : ℕ) (f : ℕ → ℕ) (i : ℕ) → i < n → get_or (tab n f) i 0 ≡ f i
get_or_tab zero f i h = absurd (not-suc-le-zero h)
get_or_tab (suc n) f zero h = refl
get_or_tab (suc n) f (suc i) h = get_or_tab n (λ k. f (suc k)) i (le_of_suc-le-suc h)

-- ---- at a field's width

-- a run has any width
pub run_is : (b w : ℕ) → content_of (Run b) w ≡ run b w
run_is b zero = refl
run_is b (suc w) = ap (λ (l : List ℕ). b ∷ l) (run_is b w)

-- a byte string has its own
pub exact_is : (c : Content) (bs : List ℕ) → content_of c (length bs) ≡ bs → (w : ℕ) → T (eqb w (length bs)) → content_of c w ≡ text bs w
exact_is c bs e w t = rw (eqb→eq w (length bs) t) e

-- ---- what a field is filled with whose kind has this number

-- fixed content has the width that the kind may have
pub data Filled (k : Kind) : Fill → Type 0 where
  a-number : {p : Presence} → (means k).held ≡ a_number p → Filled k Number
  its_text : (means k).held ≡ as_bytes → Filled k Text
  fixed : {content : ℕ → List ℕ} {c : Content} → (means k).held ≡ as_fixed content → ((w : ℕ) → T (may_be k w) → content_of c w ≡ content w) → Filled k (Fixed c)

-- a fact of each number below n
abbrev pub Below : (ℕ → Type 0) → ℕ → Type 0
Below P zero = Unit {0}
Below P (suc n) = P 0 × Below (λ k. P (suc k)) n

pub below_at : (P : ℕ → Type 0) (n : ℕ) → Below P n → (k : ℕ) → k < n → P k
below_at P zero b k h = absurd (not-suc-le-zero h)
below_at P (suc n) b zero h = b.0
below_at P (suc n) b (suc k) h = below_at (λ k. P (suc k)) n b.1 k (le_of_suc-le-suc h)

-- what is none of the numbers below n
pub none_below : (k n : ℕ) → Below (λ m. k ≡ m → ⊥) n → n ≤ k
none_below k n b = go (dec_lt k n)
  where
    go : Dec (k < n) → n ≤ k
    go (yes h) = absurd (below_at (λ m. k ≡ m → ⊥) n b k h refl)
    go (no h) = omega arith

kinds_filled : Below (λ n. Filled (kind_of n) (fill_of n)) kind_count
kinds_filled = (a-number refl, (a-number refl, (a-number refl, (a-number refl, (a-number refl, (its_text refl, (its_text refl, (a-number refl, (a-number refl, (a-number refl, (its_text refl, (its_text refl, (fixed refl (λ w t. run_is 32 w), (fixed refl (λ w t. run_is 48 w), (fixed refl (exact_is LetterC (67 ∷ []) refl), (fixed refl (exact_is Code09 (48 ∷ 57 ∷ []) refl), (fixed refl (exact_is Code52 (53 ∷ 50 ∷ []) refl), (a-number refl, (its_text refl, tt)))))))))))))))))))

-- any other number is F
pub other_kind : (n : ℕ) → is_mark n ≡ false → kind_count ≤ n → kind_of n ≡ F
other_kind n e h = rw e (get_or-eq_default kinds F {n = n} h)

-- a type and a segment are a run of their byte
pub mark_fill : (n : ℕ) → is_mark n ≡ true → fill_of n ≡ Fixed (Run n)
mark_fill n e = rw e (go (ltb n first_letter))
  where
    go : (b : Bool) → fill_as (means (cond b (RecordType n) (Segment n))).held (Run n) ≡ Fixed (Run n)
    go true = refl
    go false = refl

mark_filled : (n : ℕ) → is_mark n ≡ true → Filled (kind_of n) (fill_of n)
mark_filled n e = rw e (go (ltb n first_letter))
  where
    go : (b : Bool) → Filled (cond b (RecordType n) (Segment n)) (fill_as (means (cond b (RecordType n) (Segment n))).held (Run n))
    go true = fixed refl (exact_is (Run n) (n ∷ []) refl)
    go false = fixed refl (exact_is (Run n) (n ∷ []) refl)

-- the kind of each number is filled as the code fills it
pub filled : (n : ℕ) → Filled (kind_of n) (fill_of n)
filled n = go (is_mark n) refl (dec_lt n kind_count)
  where
    go : (b : Bool) → is_mark n ≡ b → Dec (n < kind_count) → Filled (kind_of n) (fill_of n)
    go true e d = mark_filled n e
    go false e (yes h) = below_at (λ n. Filled (kind_of n) (fill_of n)) kind_count kinds_filled n h
    go false e (no h) = rw (other_kind n e (omega arith)) (its_text refl)

-- ---- the kind of a number that may be not given

kinds_absent : Below (λ n. may_be_absent (means (kind_of n)).held ≡ eqb n n_or_blank) kind_count
kinds_absent = (refl, (refl, (refl, (refl, (refl, (refl, (refl, (refl, (refl, (refl, (refl, (refl, (refl, (refl, (refl, (refl, (refl, (refl, (refl, tt)))))))))))))))))))

pub absent_is : (n : ℕ) → may_be_absent (means (kind_of n)).held ≡ eqb n n_or_blank
absent_is n = go (is_mark n) refl (dec_lt n kind_count)
  where
    mark : (b : Bool) → may_be_absent (means (cond b (RecordType n) (Segment n))).held ≡ false
    mark true = refl
    mark false = refl

    go : (b : Bool) → is_mark n ≡ b → Dec (n < kind_count) → may_be_absent (means (kind_of n)).held ≡ eqb n n_or_blank
    go true e d = let l = leb-true first_mark n (and_left (leb first_mark n) _ e) in rw (e, mark (ltb n first_letter), ne_eqb n n_or_blank (λ z. omega arith))
    go false e (yes h) = below_at (λ n. may_be_absent (means (kind_of n)).held ≡ eqb n n_or_blank) kind_count kinds_absent n h
    go false e (no h) = rw (other_kind n e (omega arith), ne_eqb n n_or_blank (λ z. omega arith))
