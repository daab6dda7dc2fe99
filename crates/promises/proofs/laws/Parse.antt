-- Lines that are accepted one after the other, up to the file's end, are a right file. Assumes nothing.
use Rattle.std.specs.Prelude.{◌≡◌, refl, true, ℕ, ◌+◌, ◌≤◌, ◌<◌}
use Rattle.std.proofs.Math.Path.{ap, subst}
use mathlib.Core.List.{List, [], ◌∷◌, ◌++◌, append_assoc}
use Rattle.std.proofs.Common.{add-zero}
use native.Mathlib.Omega.{arith}
use Rattle.std.proofs.Math.ListN.{length, length-append}
use Rattle.answer.specs.Limits.{file_cents}
use Rattle.answer.proofs.laws.Order.{never}
use Rattle.digits.specs.Digits.{digit_byte}
use Rattle.digits.specs.Numbers.{value}
use Rattle.layout.specs.Field.{part}
use Rattle.layout.specs.Records.{type_of}
use Rattle.layout.specs.Table.{bank_field, batch_records, batch_sum, file_batches, file_records}
use Rattle.layout.specs.declared.Direction.{Direction}
use Rattle.layout.specs.declared.Record.{Record}
use Rattle.layout.specs.declared.Record.TheVariants.{FileHeader, BatchHeader, BatchTrailer, FileTrailer}
use Rattle.layout.specs.Records.{after}
use Rattle.checker.specs.Order.{ended}
use Rattle.checker.specs.Totals.{bare, none, add, payments_of, cents_of, counts, batch_count, payment_count, cent_sum, record_count}
use Rattle.checker.specs.Line.{ordinal, most_batches, most_payments, trailer_batch, record_in}
use Rattle.checker.specs.Machine.{state, start, direction_of, next}
use Rattle.checker.specs.inner.Steps.{Bounded}
use Rattle.checker.specs.Calls.{Reached, at_start, after_line, Through, here, further}
use Rattle.layout.specs.declared.shapes.Phase.{Phase}
use Rattle.layout.specs.declared.shapes.Phase.TheVariants.{Start, Headed, Opened, Within, Paid, BehindZ, Closed, Ended}
use Rattle.checker.specs.declared.totals.Totals.{Totals}
use Rattle.checker.specs.declared.Checker.{Checker}
use Rattle.checker.proofs.laws.Kept.{kept_bounded}
use Rattle.checker.proofs.laws.Reached.{reached_kept}
use Rattle.files.proofs.laws.Verdict.{through_reached}
use Rattle.checker.proofs.laws.Sums.{Same, same_totals}
use Rattle.promises.specs.Grammar.{Reads, Numbered, Details, no_details, detail, live_among, withdrawn_among, RightBatch, Batches, no_batches, batch, RightFile}
use Rattle.checker.proofs.laws.Edges.{follows_by}
use Rattle.checker.specs.inner.Following.{first_payment, goes_on, pays_behind, pays_behind_z, Follows, heads, first_batch, pays, adds_z, closes_paid, closes_behind_z, next_batch, ends}
use Rattle.checker.proofs.laws.Payments.{row}
use Rattle.checker.specs.inner.Following.{Stands}
use Rattle.checker.proofs.laws.Details.{in_detail, AllRead, Open, at_within, at_paid, at_behind_z, detail_of}
use Rattle.promises.proofs.laws.Facts.{Fits, taken, header_bank, either_direction}
use Rattle.promises.proofs.laws.Together.{among, details_together}
use Rattle.promises.proofs.laws.Shape.{batches_long, Tail, stops_paid, stops_behind_z, steps, tail_payments}

-- ---- what is left of a file behind a state

-- behind closed batches: other batches, and the file trailer, where the file's lines count t in all
record Later (d : Direction) (bank : ℕ) (closed : Totals) (ls : List (List ℕ)) (t : Totals) : Type 0 where
  middle : List (List ℕ)
  trailer : List ℕ
  inside : Totals
  lines : ls ≡ middle ++ trailer ∷ []
  batches_right : Batches d bank closed.batches middle inside
  trailer_right : Numbered FileTrailer d bank trailer_batch trailer
  batches_counted : Reads file_batches t.batches trailer
  records_counted : Reads file_records t.records.0 trailer
  are : Same t (add (add closed inside) (bare 0 1))

-- in a batch, at a phase: its other details, its trailer, where its lines count the sum, and what is left behind it
record Inside (p : Phase) (s : Checker) (ls : List (List ℕ)) (t : Totals) : Type 0 where
  details : List (List ℕ)
  trailer : List ℕ
  rest : List (List ℕ)
  records : List Record
  payments : ℕ
  cents : ℕ
  sum : Totals
  lines : ls ≡ details ++ trailer ∷ rest
  shape : Tail s.dir s.batch p payments records
  details_right : Details s.dir s.bank (ordinal s) (record_count s.current) records details cents
  trailer_right : Numbered BatchTrailer s.dir s.bank (ordinal s) trailer
  counted : Reads batch_records sum.records.0 trailer
  summed : Reads batch_sum (cent_sum sum) trailer
  most : payment_count sum ≤ most_payments
  are : Same sum (add s.current (among (length details + 1) records details))
  later : Later s.dir s.bank (add s.closed sum) rest t

-- by phase; outside a batch no lines are counted as an open batch's
abbrev Left : Phase → Checker → List (List ℕ) → Totals → Type 0
Left Start s ls t = (t.batches ≤ most_batches) × (cent_sum t < file_cents) → Same s.closed none → Same s.current none → RightFile ls t
Left Headed s ls t = Same s.current none → (x : Later s.dir s.bank s.closed ls t) × (1 ≤ x.inside.batches)
Left Opened s ls t = Inside Opened s ls t
Left (Within n) s ls t = Inside (Within n) s ls t
Left Paid s ls t = Inside Paid s ls t
Left BehindZ s ls t = Inside BehindZ s ls t
Left Closed s ls t = Same s.current none → Later s.dir s.bank s.closed ls t
Left Ended s ls t = (ls ≡ []) × (t ≡ s.closed)

-- ---- one line

module _ (s : Checker) (l : List ℕ) (ls : List (List ℕ)) (t : Totals) where
  -- what is left behind the line, read as this record
  abbrev Behind : Record → Type 0
  Behind r = Left (next r s (record_in l)).phase (next r s (record_in l)) ls t

  -- the file trailer, with nothing behind it
  ended_by : Fits FileTrailer s l → Behind FileTrailer → Later s.dir s.bank s.closed (l ∷ ls) t
  unfolding add AllRead
  ended_by x (none_left, is) =
      rw (none_left, is) (record {
        middle = [];
        trailer = l;
        inside = none;
        lines = refl;
        batches_right = no_batches;
        trailer_right = record { right = x.right; bank_is = x.numbers.0; batch_is = x.numbers.1.0 };
        batches_counted = rw (add-zero (batch_count s.closed)) x.numbers.1.1.0;
        records_counted = x.numbers.1.1.1.0;
        are = omega arith;
      })

  -- a batch's trailer
  closed_by : {p : Phase} → Bounded s → Tail s.dir s.batch p 0 [] → Fits BatchTrailer s l → Behind BatchTrailer → Inside p s (l ∷ ls) t
  unfolding add AllRead live_among withdrawn_among
  closed_by h shape x on =
      record {
        details = [];
        trailer = l;
        rest = ls;
        records = [];
        payments = 0;
        cents = 0;
        sum = add s.current (counts BatchTrailer (record_in l));
        lines = refl;
        shape = shape;
        details_right = no_details;
        trailer_right = record { right = x.right; bank_is = x.numbers.0; batch_is = x.numbers.1.0 };
        counted = x.numbers.1.1.0;
        summed = subst (λ n. Reads batch_sum n l) (omega arith) x.numbers.1.1.1.0;
        most = omega arith;
        are = omega arith;
        later = on (omega arith);
      }

  -- the state behind a detail, part by part
  abbrev counting : Record → Checker
  counting r =
      state (after r) s.dir s.batch s.bank s.closed (add s.current (counts r (record_in l)))

  -- a detail
  detail_by : {p : Phase} {r : Record} → Follows s.dir s.batch p r → type_of r ≡ digit_byte 3 → Fits r s l → Inside (after r) (counting r) ls t
      → Inside p s (l ∷ ls) t
  unfolding add AllRead live_among withdrawn_among
  detail_by {p} {r} f type x y =
      let o = detail_of r type in
      let n : AllRead (in_detail s) (record_in l) = rw (o.asks s) at x.numbers in
      let opens = o.opens in
      record {
        details = l ∷ y.details;
        trailer = y.trailer;
        rest = y.rest;
        records = r ∷ y.records;
        payments = y.payments + payments_of r;
        cents = cents_of r (record_in l) + y.cents;
        sum = y.sum;
        lines = ap (λ (ls : List (List ℕ)). l ∷ ls) y.lines;
        shape = steps f type y.shape;
        details_right = detail (record { right = x.right; bank_is = n.0; batch_is = n.1.0 }) n.1.1.0 y.details_right;
        trailer_right = y.trailer_right;
        counted = y.counted;
        summed = y.summed;
        most = y.most;
        are = omega arith;
        later = y.later;
      }

  -- of a payment's records
  in-batch : {p : Phase} {u : Checker} → Open p → Left p u ls t → Inside p u ls t
  in-batch at_within on = on
  in-batch at_paid on = on
  in-batch at_behind_z on = on

  stands_by : {n : ℕ} {p : Phase} {r : Record} → Stands s.batch n r → Follows s.dir s.batch p r → Fits r s l → Behind r → Inside p s (l ∷ ls) t
  stands_by {r = r} g f x on =
      let o = detail_of r (row g).type in
      let to : next r s (record_in l) ≡ counting r = o.moves s (record_in l) in
      detail_by f (row g).type x (in-batch o.stays (subst (λ (u : Checker). Left u.phase u ls t) to on))

  -- a batch's header: with what is left of the batch it is a batch ..
  right_batch : Same s.current none → Fits BatchHeader s l → (y : Behind BatchHeader)
      → RightBatch s.dir s.bank (ordinal s) (l ∷ (y.details ++ y.trailer ∷ [])) y.sum
  unfolding add AllRead
  right_batch e x y =
      let long : y.sum.records.0 ≡ length (l ∷ (y.details ++ y.trailer ∷ [])) = omega (arith, length-append y.details (y.trailer ∷ [])) in
      let one : record_count s.current + 1 ≡ 1 = omega arith in
      let all = details_together y.shape y.details_right in
      let sum : cent_sum y.sum ≡ y.cents = omega arith in
      let paid = tail_payments y.shape in
      record {
        header = l;
        details = y.details;
        trailer = y.trailer;
        records = y.records;
        payments = y.payments;
        cents = y.cents;
        lines = refl;
        header_right = record { right = x.right; bank_is = x.numbers.0; batch_is = x.numbers.1.0 };
        payments_right = paid.0;
        details_right = subst (λ n. Details s.dir s.bank (ordinal s) n y.records y.details y.cents) one y.details_right;
        some = paid.1;
        most = omega arith;
        trailer_right = y.trailer_right;
        counted = subst (λ n. Reads batch_records n y.trailer) long y.counted;
        summed = subst (λ n. Reads batch_sum n y.trailer) sum y.summed;
        are = same_totals (omega arith);
      }

  -- .. before the later ones
  opened_by : Fits BatchHeader s l → Behind BatchHeader → Left Headed s (l ∷ ls) t
  unfolding add
  opened_by x y e =
      let b = right_batch e x y in
      let o = y.later in
      let one : batch_count s.closed + y.sum.batches ≡ batch_count s.closed + 1 = omega arith in
      let others = subst (λ n. Batches s.dir s.bank n o.middle o.inside) one o.batches_right in
      let opened : Later s.dir s.bank s.closed (l ∷ ls) t = record {
        middle = (l ∷ (y.details ++ y.trailer ∷ [])) ++ o.middle;
        trailer = o.trailer;
        inside = add y.sum o.inside;
        lines = rw (y.lines, o.lines) (simp append_assoc);
        batches_right = batch b others;
        trailer_right = o.trailer_right;
        batches_counted = o.batches_counted;
        records_counted = o.records_counted;
        are = omega arith;
      } in
      (opened, omega arith)

  -- the file's header
  headed_by : Fits FileHeader s l → Behind FileHeader → Left Start s (l ∷ ls) t
  unfolding add AllRead
  headed_by x on h c e =
      let (o, some) = on e in
      let long : t.records.0 ≡ length (l ∷ ls) =
      omega (arith, batches_long o.batches_right, length-append o.middle (o.trailer ∷ []), ap (λ (ls : List (List ℕ)). length ls) o.lines) in
      let counted : t.batches ≡ o.inside.batches = omega arith in
      let zero : batch_count s.closed + 0 ≡ 0 = omega arith in
      let d = direction_of (record_in l) in
      let bank = value (part bank_field (record_in l)) in
      record {
        header = l;
        middle = o.middle;
        trailer = o.trailer;
        direction = d;
        bank = bank;
        inside = o.inside;
        lines = ap (λ (ls : List (List ℕ)). l ∷ ls) o.lines;
        header_right = record { right = either_direction x.right; bank_is = header_bank x.right; batch_is = x.numbers.0 };
        direction_is = refl;
        batches_right = subst (λ n. Batches d bank n o.middle o.inside) zero o.batches_right;
        some = some;
        most = omega arith;
        below = omega arith;
        trailer_right = o.trailer_right;
        batches_counted = subst (λ n. Reads file_batches n o.trailer) counted o.batches_counted;
        records_counted = subst (λ n. Reads file_records n o.trailer) long o.records_counted;
        are = same_totals (omega arith);
      }

  -- a line, by its edge
  left_by : {p : Phase} {r : Record} → Bounded s → Follows s.dir s.batch p r → Fits r s l → Behind r → Left p s (l ∷ ls) t
  left_by h heads x on = headed_by x on
  left_by h first_batch x on = opened_by x on
  left_by h (pays first_payment g) x on = stands_by g (pays first_payment g) x on
  left_by h (pays goes_on g) x on = stands_by g (pays goes_on g) x on
  left_by h (adds_z e) x on = detail_by (adds_z e) refl x on
  left_by h (pays pays_behind g) x on = stands_by g (pays pays_behind g) x on
  left_by h (pays pays_behind_z g) x on = stands_by g (pays pays_behind_z g) x on
  left_by h closes_paid x on = closed_by h stops_paid x on
  left_by h closes_behind_z x on = closed_by h stops_behind_z x on
  left_by h next_batch x on = λ e. (opened_by x on e).0
  left_by h ends x on = λ e. ended_by x on

-- ---- all lines

-- behind the file trailer nothing is left
nothing_left : (p : Phase) (s : Checker) → ended p ≡ true → Left p s [] s.closed
nothing_left Start s e = never e
nothing_left Headed s e = never e
nothing_left Opened s e = never e
nothing_left (Within n) s e = never e
nothing_left Paid s e = never e
nothing_left BehindZ s e = never e
nothing_left Closed s e = never e
nothing_left Ended s e = (refl, refl)

-- from the last line to the first
left : {s t : Checker} {ls : List (List ℕ)} → Reached s → Through s ls t → ended t.phase ≡ true → Left s.phase s ls t.closed
left c (here {s}) e = nothing_left s.phase s e
left c (further {s} {l = l} k on) e =
    let x = taken c k in
    let y = left (after_line l c) on e in
    left_by s l _ _ (kept_bounded (reached_kept c)) (follows_by s (record_in l) x.read) x.fitting (rw x.moves at y)

-- the bounds on a whole file are the last state's
pub parsed : {t : Checker} {ls : List (List ℕ)} → Through start ls t → ended t.phase ≡ true → RightFile ls t.closed
parsed on e =
    let h = kept_bounded (reached_kept (through_reached at_start on)) in
    left at_start on e (h.batches, h.cents) (omega arith) (omega arith)
