-- What the identifier of a code or a line says: its modulus. Assumes nothing.
use Rattle.std.specs.Prelude.{◌≡◌, refl, ◌≢◌, ◌⊎◌, Bool, true, false, cond, ◌||◌, List, ℕ, ◌≤◌, get_or, set, T, eqb, leb}
use Rattle.std.proofs.Common.{sym, ap, subst, inl, inr, arith, get_or-set_other, leb→le, eq-eqb, ne_eqb}
use Rattle.digits.specs.Digits.{digit_byte, place}
use Rattle.digits.specs.Checks.{base}
use Rattle.digits.specs.declared.sealing.Modulus.TheVariants.{Ten, PlainEleven}
use Rattle.digits.proofs.laws.Tests.{both}
use Rattle.boleto.specs.Collection.{identifier_place, modulus_of}
use Rattle.boleto.specs.CollectionRules.{identifier_fits}

pub modulus_either : (bs : List ℕ) → (modulus_of bs ≡ Ten) ⊎ (modulus_of bs ≡ PlainEleven)
unfolding modulus_of
modulus_either bs = go (eqb (place identifier_place bs) (digit_byte 6) || eqb (place identifier_place bs) (digit_byte 7))
  where
    go : (b : Bool) → (cond b Ten PlainEleven ≡ Ten) ⊎ (cond b Ten PlainEleven ≡ PlainEleven)
    go true = inl refl
    go false = inr refl

pub modulus_kept : (bs : List ℕ) (i v : ℕ) → i ≢ 2 → modulus_of (set bs i v) ≡ modulus_of bs
unfolding modulus_of
modulus_kept bs i v ne = rw (get_or-set_other bs i 2 v 0 (λ e. ne (sym e)))

pub identifier_kept : (bs : List ℕ) (i v : ℕ) → i ≢ 2 → identifier_fits (set bs i v) ≡ identifier_fits bs
identifier_kept bs i v ne = rw (get_or-set_other bs i 2 v 0 (λ e. ne (sym e)))

not_ten : {A : Type 0} → Ten ≡ PlainEleven → A
not_ten e = absurd (let z : ◌≡◌ {A = ℕ} 10 11 = ap base e in omega arith)

-- by modulus 11 the identifier is 8 or 9
pub eight_nine : (bs : List ℕ) → identifier_fits bs ≡ true → modulus_of bs ≡ PlainEleven → (56 ≤ get_or bs 2 0) × (get_or bs 2 0 ≤ 57)
unfolding modulus_of
eight_nine bs f e =
    let b = get_or bs 2 0 in
    let t = both (leb 54 b) (leb b 57) (subst T (sym f) tt) in
    let six : b ≢ 54 = λ q. not_ten (rw (eq-eqb b 54 q) at e) in
    let seven : b ≢ 55 = λ q. not_ten (rw (ne_eqb b 54 six, eq-eqb b 55 q) at e) in
    (omega (arith, leb→le 54 b t.0), leb→le b 57 t.1)
