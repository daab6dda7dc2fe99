-- What a line is read as, case by case as the code goes. Assumes nothing.
use Rattle.std.specs.Prelude.{None, Option}
use mathlib.Core.Path.{◌≡◌, refl, sym, ap, ◌∙◌}
use mathlib.Core.Bool.{false, and-false}
use mathlib.Core.List.{List, [], ◌∷◌, ◌++◌, append-nil}
use Prim.Native.Nat.{ℕ}
use lib.Dec.{eqb}
use lib.ListN.{take, drop}
use Rattle.layout.specs.declared.Direction.{Direction}
use Rattle.layout.specs.declared.Direction.TheVariants.{Remittance, Return}
use Rattle.layout.specs.declared.Record.{Record}
use Rattle.layout.specs.declared.pairs.Batch.{Batch}
use Rattle.checker.specs.Order.{payment, record_at, reading_of, follows, read_as}
use Rattle.checker.specs.inner.Steps.{end_as}
use Rattle.layout.specs.declared.shapes.Phase.{Phase}
use Rattle.checker.proofs.laws.Payments.{row}
use Rattle.checker.proofs.laws.Edges.{passed_by}
use Rattle.layout.specs.declared.shapes.Phase.TheVariants.{Start, Headed, Opened, Within, Paid, BehindZ, Closed, Ended}

-- a detail is the one that is expected, of a payment's records
module _ (segment : ℕ) where
  at_reading : (n : ℕ) (b : Option Batch) (later : List Record) → read_as 51 segment later ≡ None → reading_of (record_at n b) ≡ read_as 51 segment (record_at n b ++ later)
  at_reading n b later none = go (drop n (payment b)) refl
    where
      go : (rs : List Record) → drop n (payment b) ≡ rs → reading_of (take 1 rs) ≡ read_as 51 segment (take 1 rs ++ later)
      go [] e = sym none
      go (r ∷ rs) e = let k = row {b = b} {n = n} {r = r} (record { is = ap (take 1) e }) in rw (k.needed, k.type)

  pub alone_reading : (n : ℕ) (b : Option Batch) → reading_of (record_at n b) ≡ read_as 51 segment (record_at n b)
  alone_reading n b = at_reading n b [] refl ∙ rw append-nil

-- any other line is no detail
none_of : (b : Option Batch) (n type segment : ℕ) → eqb type 51 ≡ false → None ≡ read_as type segment (record_at n b)
none_of b n type segment e = sym (passed_by type segment b n [] e) ∙ rw append-nil

pub no_detail : (p : Phase) (d : Direction) (b : Option Batch) (type segment : ℕ) → eqb type 51 ≡ false → end_as p type ≡ read_as type segment (follows p d b)
no_detail Start d b type segment e = refl
no_detail Headed d b type segment e = refl
no_detail Opened d b type segment e = none_of b 0 type segment e
no_detail (Within n) d b type segment e = none_of b n type segment e
no_detail Paid Remittance b type segment e = sym (passed_by type segment b 0 _ e)
no_detail Paid Return b type segment e = rw (e, and-false) (sym (passed_by type segment b 0 _ e))
no_detail BehindZ d b type segment e = sym (passed_by type segment b 0 _ e)
no_detail Closed d b type segment e = refl
no_detail Ended d b type segment e = refl
