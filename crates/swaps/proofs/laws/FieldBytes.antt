-- The bytes of a field: where a byte of the list stands among them, a byte stored, and two neighbours swapped. Assumes nothing.
use Rattle.std.specs.Prelude.{◌≡◌, List, ℕ, suc, ◌-◌, ◌≤◌, set}
use Rattle.std.proofs.Common.{ap, ◌∙◌, arith}
use Rattle.digits.specs.Digits.{place, swapped}
use Rattle.digits.proofs.laws.Strings.{part_set, part_get_or}
use Rattle.layout.specs.Field.{Field, part}
use Rattle.promises.specs.Guarded.{In}

-- a place among those of the field, counted from 1 too
abbrev pub among : Field → ℕ → ℕ
among f p = p - (f.from - 1)

module _ (f : Field) (p : ℕ) (xs : List ℕ) (low : 1 ≤ f.from) (i : In f p) where
  pub byte_among : place (among f p) (part f xs) ≡ place p xs
  byte_among =
      let at = f.from - 1 in
      let e : p - at - 1 ≡ p - 1 - at = omega arith in
      rw e (part_get_or xs at (f.to - at) (p - 1) 0 (omega arith) (omega arith))

  pub part_stored : (b : ℕ) → part f (set xs (p - 1) b) ≡ set (part f xs) (among f p - 1) b
  part_stored b =
      let at = f.from - 1 in
      let e : p - 1 - at ≡ p - at - 1 = omega arith in
      part_set xs at (f.to - at) (p - 1) b (omega arith) (omega arith) ∙ ap (λ (k : ℕ). set (part f xs) k b) e

pub part_swapped : (f : Field) (p : ℕ) (xs : List ℕ) → 1 ≤ f.from → In f p → In f (suc p) → part f (swapped p xs) ≡ swapped (among f p) (part f xs)
part_swapped f p xs low i k =
    let at = f.from - 1 in
    let next : suc p - at ≡ suc (p - at) = omega arith in
    let left = byte_among f p xs low i in
    let right : place (suc (among f p)) (part f xs) ≡ place (suc p) xs = rw next at (byte_among f (suc p) xs low k) in
    part_set (set xs (p - 1) (place (suc p) xs)) at (f.to - at) p (place p xs) (omega arith) (omega arith)
    ∙ ap (λ (ys : List ℕ). set ys (p - at) (place p xs)) (part_stored f p xs low i (place (suc p) xs))
    ∙ rw (left, right)
