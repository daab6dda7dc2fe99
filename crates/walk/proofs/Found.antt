-- Tests of bytes. Assumes nothing.
use Rattle.std.specs.List.{list_any}
use mathlib.Core.Path.{◌≡◌, refl, sym, ap, ◌∙◌}
use mathlib.Core.Bool.{◌||◌, ◌&&◌}
use mathlib.Core.List.{List, [], ◌∷◌}
use Prim.Native.Nat.{ℕ}
use native.Mathlib.Omega.{arith}
use lib.Dec.{eqb}
use Rattle.digits.specs.Digits.{every_byte}
use Rattle.layout.specs.Pairs.{among}
use Rattle.layout.specs.Record.{printable, clean, all_printable}
use Rattle.layout.proofs.laws.Bytes.{printable_turn}

pub among_any : (b : ℕ) (ds : List ℕ) → list_any (λ d. eqb b d) ds ≡ among b ds
among_any b [] = refl
among_any b (d ∷ ds) = ap (λ t. eqb b d || t) (among_any b ds)

pub every_printable : (bs : List ℕ) → every_byte printable bs ≡ all_printable bs
unfolding every_byte clean
every_printable [] = refl
every_printable (b ∷ bs) = ap (λ t. printable b && t) (every_printable bs) ∙ sym (printable_turn (b ∷ bs) 0 (omega arith))
