-- What both families' laws need: a check digit is a digit, a part with its check digit, and calls whose conversions undo each other.
-- Assumes nothing.
use Rattle.std.specs.Prelude.{◌≡◌, ◌≢◌, not, List, [], ◌∷◌, ℕ, suc, ◌+◌, ◌-◌, ◌<◌, ◌≤◌, length, get_or, take, drop, set, T, eqb, Ok}
use Rattle.std.proofs.Common.{◌∙◌, arith, length-set, length-take, length-drop, get_or-set_same, eqb→eq}
use Rattle.std.proofs.Math.Nat.{add-sub_cancel_left}
use Rattle.std.proofs.Math.Dec.{not_T}
use Rattle.answer.specs.Rules.{Rule, first_broken}
use Rattle.answer.specs.Output.{Writes}
use Rattle.answer.proofs.laws.Frame.{is-accepted, left_new, handed_on}
use Rattle.answer.specs.Rules.{Answer}
use Rattle.digits.specs.Digits.{digit_byte}
use Rattle.digits.specs.Checks.{base, counts, check_digit}
use Rattle.digits.proofs.laws.Strings.{Digit, Digits, digits_nil, digits_cons, part_set, part_get_or}
use Rattle.digits.proofs.laws.Moduli.{TellsDigits, blind}
use Rattle.digits.proofs.laws.Seals.{Sealed, check_small, one_change}
use Rattle.digits.specs.declared.sealing.Modulus.{Modulus}

pub check_digits : (m : Modulus) (bs : List ℕ) → Digits (digit_byte (check_digit m bs) ∷ [])
check_digits m bs = let s = check_small m bs in digits_cons (omega arith) digits_nil

-- a string whose rules are kept is converted; what it left is the other string, which is accepted by its rules and converted back to that string
pub calls : (rules rules' : List ℕ → List Rule) (there back : List ℕ → List ℕ) {n n' : ℕ} (bs : List ℕ) {out out' after after' : List ℕ} {a b : Answer} →
    length (there bs) ≡ n → length (back (there bs)) ≡ n' →
    (first_broken (rules' (there bs)) ≡ Ok tt) × (back (there bs) ≡ bs) →
    first_broken (rules bs) ≡ Ok tt → n ≤ length out → n' ≤ length out' →
    let new = take n after in
    Writes (rules bs) n (there bs) out a after → Writes (rules' new) n' (back new) out' b after' →
    (a ≡ Ok tt) × (new ≡ there bs) × (b ≡ Ok tt) × (take n' after' ≡ bs)
calls rules rules' there back bs long long' t e room room' w w' =
    let ok = is-accepted e room w in
    let r = handed_on rules' back long t.0 long' room' (rw ok at w) w' in
    (ok, left_new (rw ok at w) long, r.0, r.1 ∙ t.1)

-- ---- one byte of a string changed

-- a byte stored among digits is a digit
pub stored_digit : (bs : List ℕ) (i v : ℕ) → i < length bs → Digits (set bs i v) → Digit v
stored_digit bs i v h ds = let d = ds.each i (omega (arith, length-set bs i v)) in omega (arith, get_or-set_same bs i v 0 h)

-- a check digit other than x
pub other_than : (x b : ℕ) → 48 ≤ b → b ≢ digit_byte x → T (not (eqb (b - 48) x))
other_than x b lo ne = not_T (eqb (b - 48) x) (λ t. ne (omega (arith, eqb→eq (b - 48) x t)))

-- a part sealed before and after: n digits from index a on, and their check digit, by a modulus that tells digits apart
pub part_same : (m : Modulus) → TellsDigits (base m) (counts m) → (l : List ℕ) (a n i v : ℕ) → a + suc n ≤ length l → a ≤ i → i < a + suc n → Digits l → Digits (set l i v) →
    Sealed m n (take (suc n) (drop a l)) → Sealed m n (take (suc n) (drop a (set l i v))) → (i ≢ a + n → T (not (blind m (get_or l (a + n) 0 - 48)))) → v ≡ get_or l i 0
part_same m t l a n i v fits lo up ds ds' s s' f =
    let part = take (suc n) (drop a l) in
    let long : length part ≡ suc n = simp (length-take, length-drop) (omega arith) in
    let same = part_get_or l a (suc n) i v lo up in
    let last = rw (add-sub_cancel_left) at (part_get_or l a (suc n) (a + n) v (omega arith) (omega arith)) in
    one_change m part n (i - a) v (omega arith) (omega arith) s (rw (part_set l a (suc n) i v lo up) at s') t (rw same (ds.each i (omega arith)))
    (stored_digit l i v (omega arith) ds') (λ ne. rw last (f (λ e. ne (omega arith))))
    ∙ same
