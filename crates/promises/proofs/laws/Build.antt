-- A file of the grammar passes through the checker, line by line, with its totals. Assumes nothing.
use Rattle.std.specs.Prelude.{◌≡◌, List, [], ◌∷◌, ℕ, ◌+◌, ◌≤◌, ◌<◌, None, Option}
use Rattle.std.proofs.Math.Path.{refl}
use Rattle.std.proofs.Common.{ap, ◌∙◌, zero-add, arith}
use Rattle.std.proofs.Math.ListN.{length, length-append}
use Rattle.answer.specs.Limits.{file_cents}
use Rattle.digits.specs.Numbers.{value}
use Rattle.layout.specs.Field.{part}
use Rattle.layout.specs.Table.{bank_field}
use Rattle.layout.specs.declared.Direction.{Direction}
use Rattle.layout.specs.declared.Record.{Record}
use Rattle.layout.specs.declared.Record.TheVariants.{FileHeader, BatchHeader, BatchTrailer, FileTrailer}
use Rattle.layout.specs.declared.pairs.Batch.{Batch}
use Rattle.layout.specs.Records.{after}
use Rattle.checker.specs.Totals.{totals, bare, none, add, payment_count, cent_sum, counts}
use Rattle.checker.specs.Line.{record_in, most_batches, most_payments}
use Rattle.checker.specs.Machine.{state, start, next}
use Rattle.checker.specs.Calls.{Reached, at_start}
use Rattle.checker.specs.Calls as calls
use Rattle.checker.proofs.laws.Details.{asked, AllRead, detail_of}
use Rattle.checker.proofs.laws.Asks.{read_right}
use Rattle.files.proofs.laws.Verdict.{Passed, through_reached}
use Rattle.layout.specs.declared.shapes.Phase.{Phase}
use Rattle.layout.specs.declared.shapes.Phase.TheVariants.{Headed, Paid, BehindZ, Closed}
use Rattle.checker.specs.declared.totals.Totals.{Totals}
use Rattle.checker.specs.declared.Checker.{Checker}
use Rattle.checker.proofs.laws.Sums.{together, same_totals, add_none, add_assoc}
use Rattle.promises.specs.Grammar.{Details, no_details, detail, live_among, withdrawn_among, kind_in, RightBatch, Batches, no_batches, batch, RightFile, records_in_batch, records_in_batches, records_in_file}
use Rattle.checker.specs.inner.Following.{Follows, heads, first_batch, closes_paid, closes_behind_z, next_batch, ends}
use Rattle.promises.proofs.laws.Facts.{Fits, takes, header_bank, either_direction}
use Rattle.promises.proofs.laws.ReadAs.{ThroughAs, here, PassedAs, one_as, as_append, accepted_as}
use Rattle.promises.proofs.laws.Together.{among, pair_known, batch_together}
use Rattle.promises.proofs.laws.Shape.{batches_long, Tail, stops_paid, stops_behind_z, steps, payments_tail}

-- ---- a line

-- a line that may follow, and fits, is taken, read as its record
one : {s : Checker} {r : Record} {l : List ℕ} → Reached s → Follows s.dir s.batch s.phase r → Fits r s l
    → ThroughAs s (l ∷ []) (r ∷ []) (next r s (record_in l))
one {s} {r} {l} c f k = let read = read_right s (record_in l) f k.right.fields in one_as read (takes c read k calls.here)

-- the state behind lines
reached_as : {s t : Checker} {ls : List (List ℕ)} {rs : List Record} → Reached s → ThroughAs s ls rs t → Reached t
reached_as c on = through_reached c (accepted_as on)

-- ---- the payments of a batch

-- from a phase up to where the batch may close: so many lines and payments more
record Detailed (p : Phase) (d : Direction) (b : Option Batch) (n : ℕ) (x y : Totals) (rs : List Record) (ls : List (List ℕ)) : Type 0 where
  to : Phase
  closes : Follows d b to BatchTrailer
  through : ThroughAs (state p d b n x y) ls rs (state to d b n x (add y (among (length ls) rs ls)))

-- the lines of payments, numbered from what the open batch counts
module _ {d : Direction} {b : Option Batch} {n : ℕ} {x : Totals} where
  details_through : {p : Phase} {m k c : ℕ} {rs : List Record} {ls : List (List ℕ)} (y : Totals) → Tail d b p k rs → Details d n (x.batches + 1) m rs ls c
      → y.records.0 ≡ m → payment_count y + k ≤ most_payments → Reached (state p d b n x y) → Detailed p d b n x y rs ls
  unfolding add AllRead live_among withdrawn_among
  details_through y stops_paid no_details e few at = record { to = Paid; closes = closes_paid; through = rw (add_none y) here }
  details_through y stops_behind_z no_details e few at = record { to = BehindZ; closes = closes_behind_z; through = rw (add_none y) here }
  details_through {p} y (steps {r = r} {rs = rs} f type t) (detail {l = l} {ls = ls} w number ds) e few at =
      let s = state p d b n x y in
      let rec = record_in l in
      let i = detail_of r type in
      let numbers : AllRead (asked r s) rec = rw (i.asks s, e) (w.bank_is, (w.batch_is, (number, tt))) in
      let fit : Fits r s l = record { right = w.right; numbers = numbers; limit = (i.limits s).0 (omega arith) } in
      let counted = counts r rec in
      let moved : next r s rec ≡ state (after r) d b n x (add y counted) = i.moves s rec in
      let first : ThroughAs s (l ∷ []) (r ∷ []) (state (after r) d b n x (add y counted)) = rw (← moved) (one at f fit) in
      let z = i.opens in
      let rest = details_through (add y counted) t ds (omega arith) (omega (arith, together r rec)) (reached_as at first) in
      let sum : add (add y counted) (among (length ls) rs ls) ≡ add y (among (length (l ∷ ls)) (r ∷ rs) (l ∷ ls)) = same_totals (omega arith) in
      record { to = rest.to; closes = rest.closes; through = rw (← sum) (as_append first rest.through) }

-- ---- a batch

-- a header, the payments and a trailer, behind batches that count x
module _ {d : Direction} {b : Option Batch} {n : ℕ} {x : Totals} where
  batch_through : {p : Phase} {m : ℕ} {ls : List (List ℕ)} {t : Totals} (w : RightBatch d n m ls t) → x.batches + 1 ≡ m → Follows d b p BatchHeader
      → x.batches + 1 ≤ most_batches → cent_sum x + cent_sum t < file_cents → Reached (state p d b n x none)
      → ThroughAs (state p d b n x none) ls (records_in_batch w) (state Closed d None n (add x t) none)
  unfolding add AllRead
  batch_through {p} {m} {ls} {t} w o f few below at =
      let h = w.header_right in
      let heading : Fits BatchHeader (state p d b n x none) w.header = record { right = h.right; numbers = (h.bank_is, (rw o h.batch_is, tt)); limit = few } in
      let first = one at f heading in
      let tail = payments_tail (pair_known h.right) w.payments_right w.some in
      let details : Details d n (x.batches + 1) 1 w.records w.details w.cents = rw o w.details_right in
      let paid = details_through (bare 1 1) tail details refl (omega (arith, w.most)) (reached_as at first) in
      let y = totals 1 (1 + length w.details) (live_among w.records w.details) (withdrawn_among w.records w.details) in
      let so_far : add (bare 1 1) (among (length w.details) w.records w.details) ≡ y = same_totals (omega arith) in
      let inside = rw so_far at (as_append first paid.through) in
      let long : length ls ≡ 1 + length w.details + 1 = rw (w.lines, length-append w.details (w.trailer ∷ [])) (omega arith) in
      let sums : cent_sum y ≡ w.cents = rw w.are at (batch_together w).cents_are in
      let e = w.trailer_right in
      let ending : Fits BatchTrailer (state paid.to d (kind_in d w.header) n x y) w.trailer =
      record { right = e.right; numbers = (e.bank_is, (rw o e.batch_is, (rw (← long) w.counted, (rw sums w.summed, tt)))); limit = rw w.are at below } in
      let last = one (reached_as at inside) paid.closes ending in
      let sum : add x (add y (bare 0 1)) ≡ add x t = rw w.are (same_totals (omega arith)) in
      rw (w.lines, ← sum) (as_append inside last)

-- ---- batches

-- from a phase where a batch may begin, and the file may end if there is none
batches_through : {d : Direction} {n : ℕ} {p : Phase} {b : Option Batch} {m : ℕ} {ls : List (List ℕ)} {t : Totals} (x : Totals) (w : Batches d n m ls t)
    → Follows d b p BatchHeader → (t.batches ≡ 0 → ThroughAs (state p d b n x none) [] [] (state Closed d None n x none))
    → x.batches ≡ m → x.batches + t.batches ≤ most_batches → cent_sum x + cent_sum t < file_cents → Reached (state p d b n x none)
    → ThroughAs (state p d b n x none) ls (records_in_batches w) (state Closed d None n (add x t) none)
unfolding add
batches_through {p = p} {b = b} x no_batches f stop e few below at = rw (add_none x) (stop refl)
batches_through {d = d} {n = n} {p = p} {b = b} x (batch {ls = ls} {t = t} {u = u} w ws) f stop e few below at =
    let z = ap (λ (t : Totals). t.batches) w.are in
    let first = batch_through w (ap (λ (k : ℕ). k + 1) e) f (omega arith) (omega arith) at in
    let later = batches_through {p = Closed} {b = None} (add x t) ws next_batch (λ z. here) (omega arith) (omega arith) (omega arith) (reached_as at first) in
    rw (← add_assoc x t u) (as_append first later)

-- ---- a file

-- the header, the batches and the trailer: each line is read as the grammar's record
pub built_as : {ls : List (List ℕ)} {t : Totals} (w : RightFile ls t) → PassedAs start ls (records_in_file w) t
unfolding add AllRead
built_as {ls} {t} w =
    let h = w.header_right in
    let heading : Fits FileHeader start w.header = record { right = either_direction h.right; numbers = (h.batch_is, tt); limit = tt } in
    let bank : w.bank ≡ value (part bank_field (record_in w.header)) = cc (header_bank h.right, h.bank_is) in
    let x = bare 0 1 in
    let first : ThroughAs start (w.header ∷ []) (FileHeader ∷ []) (state Headed w.direction None w.bank x none) =
    rw (w.direction_is, bank) (one at_start heads heading) in
    let batches =
    batches_through x w.batches_right first_batch (λ z. absurd (omega (arith, w.some))) refl (omega (arith, w.most)) (omega (arith, w.below))
    (reached_as at_start first) in
    let inside = as_append first batches in
    let long : length ls ≡ 1 + w.inside.records.0 + 1 =
    rw (w.lines, length-append w.middle (w.trailer ∷ [])) (omega (arith, batches_long w.batches_right)) in
    let s = state Closed w.direction None w.bank (add x w.inside) none in
    let e = w.trailer_right in
    let ending : Fits FileTrailer s w.trailer =
    record {
      right = e.right;
      numbers = (e.bank_is, (e.batch_is, (rw zero-add w.batches_counted, (rw (← long) w.records_counted, tt))));
      limit = tt;
    } in
    let last = one (reached_as at_start inside) ends ending in
    record {
      to = next FileTrailer s (record_in w.trailer);
      through = rw w.lines (as_append inside last);
      at_end = refl;
      counted = w.are ∙ same_totals (omega arith);
    }

pub built : {ls : List (List ℕ)} {t : Totals} → RightFile ls t → Passed start ls t
built w = let p = built_as w in record { to = p.to; through = accepted_as p.through; at_end = p.at_end; counted = p.counted }
