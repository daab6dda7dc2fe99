-- The table's rule: a test that antt computes over the fields of each record, and what follows from it. At each field, that its places are
-- within a record; at each place of a record, that one field holds it and no other. Assumes nothing.
use Rattle.std.specs.Prelude.{◌≡◌, refl, ◌&&◌, T, eqb, leb, length, get_or}
use Rattle.std.proofs.Common.{sym, ap, not-suc-le-zero, le_of_suc-le-suc, arith, eqb→eq, leb→le}
use Rattle.std.proofs.Math.Path.{subst}
use mathlib.Core.List.{List, [], ◌∷◌, ◌++◌, Memᴰ}
use Prim.Native.Nat.{ℕ, zero, suc, ◌≤◌, ◌<◌}
use Rattle.std.proofs.Math.Decide.{dec_le}
use Rattle.digits.proofs.laws.Tests.{both}
use Rattle.layout.specs.Field.{Field, none}
use Rattle.layout.specs.Table.{fields_of, record_bytes, tiles}
use Rattle.layout.specs.declared.Record.{Record}
use Rattle.layout.proofs.laws.Records.{each}

-- one field of the list holds the place q, and no other does
pub record HeldOnce (fs : List Field) (q : ℕ) : Type 0 where
  pub index : ℕ
  pub below : index < length fs
  pub holds : ((get_or fs index none).from ≤ q) × (q ≤ (get_or fs index none).to)
  pub only : (j : ℕ) → j < length fs → (get_or fs j none).from ≤ q → q ≤ (get_or fs j none).to → j ≡ index

pub tiled : (r : Record) → T (tiles 1 (fields_of r))
unfolding tiles fields_of
tiled r = each (λ r. tiles 1 (fields_of r)) tt r

-- the test of a list that begins with g, taken apart
pub record Head (p : ℕ) (g : Field) (gs : List Field) : Type 0 where
  pub starts : g.from ≡ p
  pub order : p ≤ g.to
  pub rest : T (tiles (suc g.to) gs)

pub head : (p : ℕ) (g : Field) (gs : List Field) → T (tiles p (g ∷ gs)) → Head p g gs
unfolding tiles
head p g gs t =
    let a = both (eqb g.from p) (leb p g.to && tiles (suc g.to) gs) t in
    let b = both (leb p g.to) (tiles (suc g.to) gs) a.1 in
    record { starts = eqb→eq g.from p a.0; order = leb→le p g.to b.0; rest = b.1 }

pub ends : (p : ℕ) (gs : List Field) → T (tiles p gs) → p ≤ suc record_bytes
unfolding tiles
ends p [] t = omega (arith, eqb→eq p (suc record_bytes) t)
ends p (g ∷ gs) t =
    let h = head p g gs t in
    omega (arith, ends (suc g.to) gs h.rest)

-- a field that stands at index j of a tiled list starts at p or behind
later : (p : ℕ) (gs : List Field) → T (tiles p gs) → (j : ℕ) → j < length gs → p ≤ (get_or gs j none).from
later p [] t j l = absurd (not-suc-le-zero l)
later p (g ∷ gs) t zero l =
    let h = head p g gs t in
    omega arith
later p (g ∷ gs) t (suc j) l =
    let h = head p g gs t in
    omega (arith, later (suc g.to) gs h.rest j (le_of_suc-le-suc l))

-- the place q is in g, or behind it
module _ (p : ℕ) (g : Field) (gs : List Field) (h : Head p g gs) (q : ℕ) (l : p ≤ q) where
  first : q ≤ g.to → (j : ℕ) → j < length (g ∷ gs) → (get_or (g ∷ gs) j none).from ≤ q → j ≡ 0
  first u zero k a = refl
  first u (suc j) k a = absurd (omega (arith, later (suc g.to) gs h.rest j (le_of_suc-le-suc k)))

  behind : (g.to < q) → (r : HeldOnce gs q) → (j : ℕ) → j < length (g ∷ gs) → (get_or (g ∷ gs) j none).from ≤ q → q ≤ (get_or (g ∷ gs) j none).to → j ≡ suc r.index
  behind n r zero k a b = absurd (omega arith)
  behind n r (suc j) k a b = ap suc (r.only j (le_of_suc-le-suc k) a b)

  held_cons : (g.to < q → HeldOnce gs q) → Dec (q ≤ g.to) → HeldOnce (g ∷ gs) q
  held_cons r (yes u) = record { index = 0; below = omega arith; holds = omega arith; only = λ j k a b. first u j k a }
  held_cons r (no n) =
      let n' : g.to < q = omega arith in
      let r' = r n' in
      record { index = suc r'.index; below = omega arith; holds = r'.holds; only = behind n' r' }

held : (p : ℕ) (gs : List Field) → T (tiles p gs) → (q : ℕ) → p ≤ q → q ≤ record_bytes → HeldOnce gs q
unfolding tiles
held p [] t q l u = absurd (omega (arith, eqb→eq p (suc record_bytes) t))
held p (g ∷ gs) t q l u =
    let h = head p g gs t in
    held_cons p g gs h q l (λ n. held (suc g.to) gs h.rest q n u) (dec_le q g.to)

-- each place of a record belongs to one of its fields, and to no other
pub covered : (r : Record) (q : ℕ) → 1 ≤ q → q ≤ record_bytes → HeldOnce (fields_of r) q
covered r = held 1 (fields_of r) (tiled r)

-- ---- at each field

pub record Inside (g : Field) : Type 0 where
  pub low : 1 ≤ g.from
  pub order : g.from ≤ g.to
  pub high : g.to ≤ record_bytes

-- a fact at each field of a list
unfoldable pub All : (Field → Type 0) → List Field → Type 0
All P [] = Unit {0}
All P (g ∷ gs) = P g × All P gs

module _ (P : Field → Type 0) where
  pub join : (gs hs : List Field) → All P gs → All P hs → All P (gs ++ hs)
  unfolding All
  join [] hs a b = b
  join (g ∷ gs) hs a b = (a.0, join gs hs a.1 b)

  pub at : (gs : List Field) → All P gs → (j : ℕ) → j < length gs → P (get_or gs j none)
  unfolding All
  at [] a j l = absurd (not-suc-le-zero l)
  at (g ∷ gs) a zero l = a.0
  at (g ∷ gs) a (suc j) l = at gs a.1 j (le_of_suc-le-suc l)

  pub of_member : {g : Field} {gs : List Field} → Memᴰ g gs → All P gs → P g
  unfolding All
  of_member (Memᴰ.head e) a = subst P (sym e) a.0
  of_member (Memᴰ.tail m) a = of_member m a.1

pub inside : (p : ℕ) (gs : List Field) → 1 ≤ p → T (tiles p gs) → All Inside gs
unfolding All
inside p [] l t = tt
inside p (g ∷ gs) l t =
    let h = head p g gs t in
    let e = ends (suc g.to) gs h.rest in
    (record { low = omega arith; order = omega arith; high = omega arith }, inside (suc g.to) gs (omega arith) h.rest)

pub insides : (r : Record) → All Inside (fields_of r)
insides r = inside 1 (fields_of r) (omega arith) (tiled r)
