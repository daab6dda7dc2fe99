-- Demand 3: an accepted file with another byte at a guarded place, or with two unequal neighbours swapped that are guarded, is refused. Each is a
-- file that differs from it only inside a field. Assumes nothing.
use Rattle.std.specs.Prelude.{◌≡◌, ◌≢◌, List, ℕ, suc, ◌+◌, ◌*◌, ◌-◌, ◌≤◌, length, set, Err, Ok}
use Rattle.std.proofs.Common.{sym, ◌∙◌, subst, arith, lit≤}
use Rattle.answer.specs.declared.Refusal.{Refusal}
use Rattle.digits.specs.Digits.{place, swapped}
use Rattle.boleto.specs.Guarded.{GuardedInBarcode, all, currency, check}
use Rattle.boleto.specs.Strings.{barcode_digits}
use Rattle.boleto.proofs.laws.Changes.{barcode_change, barcode_swap}
use Rattle.layout.specs.Field.{Field, part}
use Rattle.layout.specs.Table.{barcode_field}
use Rattle.layout.specs.declared.Record.{Record}
use Rattle.layout.specs.declared.Record.TheVariants.{SegmentJ}
use Rattle.checker.specs.Line.{line_bytes, record_in}
use Rattle.checker.specs.Machine.{start, direction_of}
use Rattle.checker.specs.Calls.{left}
use Rattle.files.specs.File.{check_file}
use Rattle.checker.specs.declared.totals.Totals.{Totals}
use Rattle.promises.specs.Grammar.{RightLine}
use Rattle.promises.specs.Guarded.{In, place_of, line_at, state_at, ReadAt, changed}
use Rattle.swaps.specs.Guarded.{Seen, guarded, no_barcode, Guarded, in_field, in_barcode, GuardedPair, both_in_field, both_in_barcode, GuardedIn, GuardedPairIn, swapped_at, DifferIn, in_line}
use Rattle.swaps.specs.Demands.{Demand3, SwapDemand3}
use Rattle.swaps.proofs.laws.Differ.{byte_differs, pair_differs}
use Rattle.swaps.proofs.laws.SameBoleto.{barcode_accepted}
use Rattle.swaps.proofs.laws.FieldBytes.{among, byte_among, part_stored, part_swapped}
use Rattle.swaps.proofs.laws.LinesAt.{earlier, place_there, part_there}
use Rattle.swaps.proofs.laws.OtherBytes.{field_placed, goes_there, bytes_refused}

-- ---- the barcode of line n

abbrev pub barcode_at : ℕ → List ℕ → List ℕ
barcode_at n file = part barcode_field (record_in (line_at n file))

module _ (n p q : ℕ) (file : List ℕ) (at : p ≡ place_of q barcode_field) (first : 1 ≤ q) (last : q ≤ barcode_digits) where
  -- it is a part of the file, and place p of the line is its place q
  in_file : (other : List ℕ) → barcode_at n other ≡ part (in_line n barcode_field) other
  in_file other = part_there n barcode_field other (lit≤ tt) (lit≤ tt) (lit≤ tt)

  there : In (in_line n barcode_field) (n * line_bytes + p)
  there = omega arith

  counted : among (in_line n barcode_field) (n * line_bytes + p) ≡ q
  counted = omega arith

  pub byte_of : place q (barcode_at n file) ≡ place p (line_at n file)
  byte_of = rw (in_file file, ← counted) (byte_among (in_line n barcode_field) (n * line_bytes + p) file (omega arith) there) ∙ sym (place_there n p file (omega arith) (omega arith))

  -- with another byte, and with two neighbours swapped
  changed_barcode : (b : ℕ) → barcode_at n (changed file n p b) ≡ set (barcode_at n file) (q - 1) b
  changed_barcode b =
      let e : n * line_bytes + (p - 1) ≡ n * line_bytes + p - 1 = omega arith in
      rw (in_file (changed file n p b), in_file file, e, part_stored (in_line n barcode_field) (n * line_bytes + p) file (omega arith) there b, counted)

  pub swapped_barcode : suc q ≤ barcode_digits → barcode_at n (swapped_at file n p) ≡ swapped q (barcode_at n file)
  swapped_barcode h =
      rw (in_file (swapped_at file n p), in_file file, part_swapped (in_line n barcode_field) (n * line_bytes + p) file (omega arith) there (omega arith), counted)

-- a guarded place of a barcode is one of its places
of_barcode : {bar : List ℕ} {q : ℕ} → GuardedInBarcode bar q → (1 ≤ q) × (q ≤ barcode_digits)
of_barcode (all ne h k) = (h, k)
of_barcode currency = (lit≤ tt, lit≤ tt)
of_barcode check = (lit≤ tt, lit≤ tt)

-- ---- in an accepted file

module _ (file : List ℕ) (t : Totals) (n p : ℕ) (e : check_file file ≡ Ok t) where
  -- place p of the file is one of this field of line n, in which the other file is seen
  pub refused_by : {f : Field} {r : Record} (other : List ℕ) → ReadAt n file r → n * line_bytes + p ≤ length file → In f p
      → Seen (direction_of (record_in file)) (state_at n file).batch r (line_at n other) f → DifferIn (in_line n f) file other → (x : Refusal) × (check_file other ≡ Err x)
  refused_by {f} other read inside i seen d = bytes_refused file other t n f e (record { seen = record { which = _; read = read; inside = omega arith; so = seen }; differ = d })

  -- the line is a right J
  pub right-line : {r : Record} → ReadAt n file r → 1 ≤ p → n * line_bytes + p ≤ length file → r ≡ SegmentJ → RightLine SegmentJ (left start (earlier n file)).dir (line_at n file)
  right-line read low inside j = (goes_there file t n e (omega arith) (subst (λ (x : Record). ReadAt n file x) j read)).fitting.right

  changed_refused : (b : ℕ) → GuardedIn file n p → b ≢ place p (line_at n file) → (r : Refusal) × (check_file (changed file n p b) ≡ Err r)
  changed_refused b g ne = go g.so
    where
      other : List ℕ
      other = changed file n p b

      differ : (f : Field) → In f p → 1 ≤ f.from → f.to ≤ line_bytes → DifferIn (in_line n f) file other
      differ f i low high =
          let k : n * line_bytes + (p - 1) ≡ n * line_bytes + p - 1 = omega arith in
          rw k (byte_differs (in_line n f) (n * line_bytes + p) b file (omega arith) (omega arith) g.inside (rw (place_there n p file (omega arith) (omega arith)) at ne))

      go : Guarded (direction_of (record_in file)) (state_at n file).batch g.which (line_at n file) p → (r : Refusal) × (check_file other ≡ Err r)
      go (in_field {f} h i) = let s = field_placed h in refused_by other g.read g.inside i (guarded h) (differ f i s.first s.last)
      go (in_barcode {q} j h at) =
          let c = of_barcode h in
          let right = barcode_accepted (line_at n file) (right-line g.read (omega arith) g.inside j) in
          let wrong = barcode_change (barcode_at n file) q b right h (rw (byte_of n p q file at c.0 c.1) ne) in
          refused_by other g.read g.inside (omega arith) (no_barcode j (λ a. wrong (rw (changed_barcode n p q file at c.0 c.1 b) at (barcode_accepted (line_at n other) a))))
          (differ barcode_field (omega arith) (lit≤ tt) (lit≤ tt))

  -- the file with two unequal neighbours of a field swapped differs inside it
  pub swap_differs : (f : Field) → In f p → In f (suc p) → 1 ≤ f.from → f.to ≤ line_bytes → n * line_bytes + suc p ≤ length file
      → place p (line_at n file) ≢ place (suc p) (line_at n file) → DifferIn (in_line n f) file (swapped_at file n p)
  swap_differs f i k low high inside ne =
      let m = n * line_bytes in
      let next : m + suc p ≡ suc (m + p) = omega arith in
      let here = place_there n p file (omega arith) (omega arith) in
      let there = place_there n (suc p) file (omega arith) (omega arith) in
      pair_differs (in_line n f) (m + p) file (omega arith) (omega arith) (omega arith) (omega arith) (rw (here, there, next) at ne)

  swapped_refused : GuardedPairIn file n p → place p (line_at n file) ≢ place (suc p) (line_at n file) → (r : Refusal) × (check_file (swapped_at file n p) ≡ Err r)
  swapped_refused g ne = go g.so
    where
      other : List ℕ
      other = swapped_at file n p

      go : GuardedPair (direction_of (record_in file)) (state_at n file).batch g.which (line_at n file) p → (r : Refusal) × (check_file other ≡ Err r)
      go (both_in_field {f} h i k) =
          let s = field_placed h in
          refused_by other g.read (omega (arith, g.inside)) i (guarded h) (swap_differs f i k s.first s.last g.inside ne)
      go (both_in_barcode {q} j h at) =
          let first = h.from_first in
          let last = h.to_last in
          let right = barcode_accepted (line_at n file) (right-line g.read (omega arith) (omega (arith, g.inside)) j) in
          let unequal : place q (barcode_at n file) ≢ place (suc q) (barcode_at n file) =
          rw (byte_of n p q file at first (omega arith), byte_of n (suc p) (suc q) file (omega arith) (omega arith) last) ne in
          let wrong = barcode_swap (barcode_at n file) q right h unequal in
          refused_by other g.read (omega (arith, g.inside)) (omega arith)
          (no_barcode j (λ a. wrong (rw (swapped_barcode n p q file at first (omega arith) last) at (barcode_accepted (line_at n other) a))))
          (swap_differs barcode_field (omega arith) (omega arith) (lit≤ tt) (lit≤ tt) g.inside ne)

-- another byte at a guarded place is refused
pub change_refused : Demand3 check_file
change_refused file t n p b e g ne = changed_refused file t n p e b g ne

-- two unequal neighbours that are guarded, swapped, are refused
pub swap_refused : SwapDemand3 check_file
swap_refused file t n p e g ne = swapped_refused file t n p e g ne
