-- Request 11 in its own words: an accepted file, any line of it, two neighbouring places that hold unequal bytes, swapped. Assumes nothing.
use Rattle.std.specs.Prelude.{◌≢◌, List, ◌≡◌, ℕ, suc, ◌≤◌, ◌<◌, length, Err, Ok}
use Rattle.std.proofs.Common.{arith}
use Rattle.answer.specs.declared.Refusal.{Refusal}
use Rattle.digits.specs.Digits.{digit_byte, place}
use Rattle.layout.specs.declared.Record.{Record}
use Rattle.layout.specs.declared.Record.TheVariants.{SegmentA, SegmentJ, SegmentO}
use Rattle.checker.specs.Line.{line_bytes, record_in}
use Rattle.checker.specs.Machine.{direction_of}
use Rattle.files.specs.File.{lines_of, check_file}
use Rattle.checker.specs.declared.totals.Totals.{Totals}
use Rattle.promises.specs.Guarded.{On, line_at, state_at, ReadAt}
use Rattle.swaps.specs.Guarded.{GuardedPair, swapped_at}
use Rattle.swaps.proofs.laws.Listed.{PairsListed, pairs_listed}
use Rattle.swaps.proofs.laws.Change.{swap_refused}
use Rattle.swaps.proofs.laws.EveryLine.{file_long}

module _ (file : List ℕ) (t : Totals) (n p : ℕ) (e : check_file file ≡ Ok t) (h : n < length (lines_of file))
    (unequal : place p (line_at n file) ≢ place (suc p) (line_at n file)) where
  -- refused with the two swapped
  abbrev pub Refusing : Type 0
  Refusing = (r : Refusal) × (check_file (swapped_at file n p) ≡ Err r)

  -- by what is listed of a line that is read as this record
  refused : {r : Record} → ReadAt n file r → GuardedPair (direction_of (record_in file)) (state_at n file).batch r (line_at n file) p → suc p ≤ line_bytes → Refusing
  refused read pair last =
      swap_refused file t n p e (record { which = _; read = read; inside = omega (arith, file_long file t e); so = pair }) unequal

  listed : PairsListed (direction_of (record_in file)) (state_at n file).batch (line_at n file) p
  listed = pairs_listed _ _ (line_at n file) p

  pub amount_of_a : ReadAt n file SegmentA → On 120 133 p → Refusing
  amount_of_a read i = refused read (listed.amount_of_a i) (omega arith)

  pub amount_of_j : ReadAt n file SegmentJ → On 153 166 p → Refusing
  amount_of_j read i = refused read (listed.amount_of_j i) (omega arith)

  pub nominal_of_j : ReadAt n file SegmentJ → On 100 113 p → Refusing
  nominal_of_j read i = refused read (listed.nominal_of_j i) (omega arith)

  pub discount_of_j : ReadAt n file SegmentJ → On 115 128 p → Refusing
  discount_of_j read i = refused read (listed.discount_of_j i) (omega arith)

  pub fine_of_j : ReadAt n file SegmentJ → On 130 143 p → Refusing
  fine_of_j read i = refused read (listed.fine_of_j i) (omega arith)

  pub amount_of_o : ReadAt n file SegmentO → On 108 121 p → Refusing
  amount_of_o read i = refused read (listed.amount_of_o i) (omega arith)

  pub barcode_of_j : ReadAt n file SegmentJ → place 22 (record_in (line_at n file)) ≢ digit_byte 1 → On 18 60 p → p ≢ 22 → suc p ≢ 22 → Refusing
  barcode_of_j read one i left right = refused read (listed.barcode_of_j one i left right) (omega arith)
