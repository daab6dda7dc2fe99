-- Bytes compared, looked through and copied, one at a time. Assumes nothing.
use Rattle.std.specs.Prelude.{◌≡◌, refl, Bool, true, false, cond, ◌&&◌, ◌||◌, List, [], ◌∷◌, ◌++◌, ℕ, zero, suc, ◌-◌, ◌≤◌, ◌<◌, min, eqb, length, get_or, take, drop, set, replicate, None, Option}
use Rattle.std.proofs.Common.{sym, ap, ap₂, append_assoc, zero-le, suc-le-suc, arith, eqb-true, eq-eqb, ne_eqb, drop_of_length-le, take-append-drop, length-take, length-drop, drop-cons, take-suc-set, drop-set-lt}
use Rattle.std.proofs.Math.Bool.{and-false, or-false}
use Rattle.std.proofs.Math.Nat.{min-eq_left, sub-zero, zero-sub, suc-sub-suc}
use Rattle.std.proofs.lemmas.Bool.{eqb-false}
use Rattle.std.proofs.Math.Dec.{eqb-suc-suc}
use Rattle.digits.specs.Digits.{places, leading, all_digits}
use Rattle.digits.specs.Numbers.{number_of}
use Rattle.calendar.specs.Calendar.{number_fits}
use Rattle.answer.specs.Output.{over}
use Rattle.layout.specs.Pairs.{Pairs, pairs, among, batch_among, batch_of}
use Rattle.layout.specs.Kinds.{same, run, blank, is_fixed, number_or_blank}
use Rattle.layout.specs.Record.{printable, clean, all_printable}
use Rattle.layout.specs.declared.Direction.{Direction}

-- ---- the same bytes

pub and_left : (a b : Bool) → (a && b) ≡ true → a ≡ true
and_left true b h = refl
and_left false b h = h

pub and_right : (a b : Bool) → (a && b) ≡ true → b ≡ true
and_right true b h = h
and_right false b h = cc

pub same_self : (xs : List ℕ) → same xs xs ≡ true
unfolding same
same_self [] = refl
same_self (x ∷ xs) = rw (eq-eqb x x refl) (same_self xs)

pub same_true : (xs ys : List ℕ) → same xs ys ≡ true → xs ≡ ys
unfolding same
same_true [] [] e = refl
same_true [] (y ∷ ys) e = cc
same_true (x ∷ xs) [] e = cc
same_true (x ∷ xs) (y ∷ ys) e =
    ap₂ ◌∷◌ (eqb-true x y (and_left (eqb x y) (same xs ys) e)) (same_true xs ys (and_right (eqb x y) (same xs ys) e))

-- a turn of a loop that compares
pub same_turn : (xs ys : List ℕ) (i : ℕ) → i < length xs → i < length ys
    → same (drop i xs) (drop i ys) ≡ eqb (get_or xs i 0) (get_or ys i 0) && same (drop (suc i) xs) (drop (suc i) ys)
unfolding same
same_turn xs ys i h k = rw (drop-cons xs i 0 h, drop-cons ys i 0 k)

pub same_end : (xs ys : List ℕ) (i : ℕ) → length xs ≤ i → length ys ≤ i → same (drop i xs) (drop i ys) ≡ true
unfolding same
same_end xs ys i h k = rw (drop_of_length-le xs {i = i} h, drop_of_length-le ys {i = i} k)

-- ---- digits or blanks: the first byte tells which

pub blank_first : (bs : List ℕ) → get_or bs 0 0 ≡ blank → all_digits bs ≡ false
unfolding leading
blank_first [] e = absurd (omega arith)
blank_first (b ∷ bs) e = rw (e, ne_eqb 0 (suc (length bs)) (λ z. omega arith))

pub blanks_asked : (bs : List ℕ) → get_or bs 0 0 ≡ blank → number_or_blank bs ≡ is_fixed (run blank) bs
blanks_asked bs e = rw (blank_first bs e)

pub digits_asked : (bs : List ℕ) → eqb (get_or bs 0 0) blank ≡ false → number_or_blank bs ≡ all_digits bs
unfolding leading same
digits_asked [] e = refl
digits_asked (b ∷ bs) e = rw (ne_eqb blank b (λ z. eqb-false b blank e (sym z))) (or-false (all_digits (b ∷ bs)))

-- ---- one of these bytes

pub among_turn : (b : ℕ) (ds : List ℕ) (i : ℕ) → i < length ds → among b (drop i ds) ≡ eqb b (get_or ds i 0) || among b (drop (suc i) ds)
among_turn b ds i h = rw (drop-cons ds i 0 h)

-- without a number for the service or the form there is no batch
pub no_service : (ps : List Pairs) (form : Option ℕ) → batch_among ps None form ≡ None
no_service [] form = refl
no_service (p ∷ ps) form = no_service ps form

pub no_form : (ps : List Pairs) (service : Option ℕ) → batch_among ps service None ≡ None
no_form [] service = refl
no_form (p ∷ ps) service = rw (and-false (number_fits (λ n. eqb n p.service) service)) (no_form ps service)

pub batch_is : (d : Direction) (service form : List ℕ) {s f : Option ℕ} → s ≡ number_of service → f ≡ number_of form → batch_among (pairs d) s f ≡ batch_of d service form
unfolding batch_of
batch_is d service form p q = rw (p, q)

-- ---- printable bytes

pub clean_le : (bs : List ℕ) → clean bs ≤ length bs
unfolding clean
clean_le [] = zero-le
clean_le (b ∷ bs) = go (printable b) (clean_le bs)
  where
    go : (t : Bool) → clean bs ≤ length bs → cond t (suc (clean bs)) 0 ≤ suc (length bs)
    go true h = suc-le-suc h
    go false h = zero-le

-- a turn of a loop that looks for the first byte that is not printable, and of one that only tests
pub clean_turn : (s : List ℕ) (i : ℕ) → i < length s → clean (drop i s) ≡ cond (printable (get_or s i 0)) (suc (clean (drop (suc i) s))) 0
unfolding clean
clean_turn s i h = rw (drop-cons s i 0 h)

printable_cons : (b : ℕ) (bs : List ℕ) → all_printable (b ∷ bs) ≡ printable b && all_printable bs
unfolding clean
printable_cons b bs = go (printable b)
  where
    go : (t : Bool) → eqb (cond t (suc (clean bs)) 0) (suc (length bs)) ≡ t && all_printable bs
    go true = eqb-suc-suc (clean bs) (length bs)
    go false = rw (ne_eqb 0 (suc (length bs)) (λ e. omega arith))

pub printable_turn : (s : List ℕ) (i : ℕ) → i < length s → all_printable (drop i s) ≡ printable (get_or s i 0) && all_printable (drop (suc i) s)
printable_turn s i h = rw (drop-cons s i 0 h) (printable_cons (get_or s i 0) (drop (suc i) s))

-- ---- bytes at places

pub length_places : (a b : ℕ) (bs : List ℕ) → b ≤ length bs → length (places a b bs) ≡ b - (a - 1)
length_places a b bs h = rw (length-take, length-drop) (min-eq_left (omega arith))

-- ---- bytes copied over others

pub over_turn : (text out : List ℕ) (i : ℕ) → i < length text → i < length out
    → let out' = set out i (get_or text i 0) in take (suc i) out' ++ over (drop (suc i) text) (drop (suc i) out') ≡ take i out ++ over (drop i text) (drop i out)
unfolding over
over_turn text out i h k =
    rw (drop-cons text i 0 h, drop-cons out i 0 k, take-suc-set out i (get_or text i 0) k, drop-set-lt (suc i) out i (get_or text i 0) (omega arith), append_assoc)

pub over_end_text : (text out : List ℕ) (i : ℕ) → length text ≤ i → take i out ++ over (drop i text) (drop i out) ≡ out
unfolding over
over_end_text text out i h = rw (drop_of_length-le text {i = i} h) (take-append-drop i out)

over_none : (text : List ℕ) → over text [] ≡ []
unfolding over
over_none [] = refl
over_none (b ∷ bs) = refl

pub over_end_out : (text out : List ℕ) (i : ℕ) → length out ≤ i → take i out ++ over (drop i text) (drop i out) ≡ out
over_end_out text out i h = rw (drop_of_length-le out {i = i} h, over_none (drop i text), ← (drop_of_length-le out {i = i} h)) (take-append-drop i out)

-- those that both have, and behind them what stood there
pub over_is : (text out : List ℕ) (n : ℕ) → n ≡ min (length text) (length out) → take n text ++ drop n out ≡ over text out
unfolding over
over_is [] out n e = let z : n ≡ 0 = omega (arith, e) in rw z
over_is (b ∷ bs) [] n e = let z : n ≡ 0 = omega (arith, e) in rw z
over_is (b ∷ bs) (x ∷ out) zero e = absurd (omega (arith, e))
over_is (b ∷ bs) (x ∷ out) (suc n) e = ap (λ (l : List ℕ). b ∷ l) (over_is bs out n (omega (arith, e)))

-- as many bytes as there are
pub over_all : (text out : List ℕ) → length text ≡ length out → over text out ≡ text
unfolding over
over_all [] [] e = refl
over_all [] (x ∷ out) e = absurd (omega arith)
over_all (b ∷ text) [] e = absurd (omega arith)
over_all (b ∷ text) (x ∷ out) e = ap (λ (l : List ℕ). b ∷ l) (over_all text out (omega arith))

-- ---- one byte many times

pub drop_replicate : {A : Type 0} (k n : ℕ) (x : A) → drop k (replicate n x) ≡ replicate (n - k) x
drop_replicate zero n x = rw sub-zero
drop_replicate (suc k) zero x = rw zero-sub
drop_replicate (suc k) (suc n) x = rw suc-sub-suc (drop_replicate k n x)
