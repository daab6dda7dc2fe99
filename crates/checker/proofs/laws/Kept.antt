-- What every line keeps, by phase: bounds on what is counted, from which the state is sound. Assumes nothing.
use Rattle.std.specs.Prelude.{◌≡◌, Bool, true, false, cond, List, ℕ, suc, ◌+◌, ◌-◌, ◌*◌, ◌^◌, ◌≤◌, ◌<◌, ltb, length, Err, Ok, Option}
use Rattle.std.proofs.Math.Path.{refl}
use native.Mathlib.Omega.{arith}
use Rattle.std.proofs.Common.{length-take}
use Rattle.answer.specs.Limits.{file_cents}
use Rattle.answer.specs.Rules.{Answer}
use Rattle.layout.specs.Table.{record_bytes}
use Rattle.layout.specs.declared.Direction.{Direction}
use Rattle.layout.specs.declared.Record.{Record}
use Rattle.layout.specs.declared.Record.TheVariants.{SegmentZ}
use Rattle.layout.specs.declared.pairs.Batch.{Batch}
use Rattle.checker.specs.Order.{payment}
use Rattle.layout.specs.Records.{after}
use Rattle.checker.specs.Totals.{add, amount_digits, payments_of, batch_count, cent_sum, payment_count, record_count}
use Rattle.checker.specs.Line.{most_batches, most_payments, record_in}
use Rattle.checker.specs.Machine.{start, next, most_details, batch_records_most, step_of}
use Rattle.checker.specs.inner.Steps.{Bounded}
use Rattle.layout.specs.declared.shapes.Phase.{Phase}
use Rattle.layout.specs.declared.shapes.Phase.TheVariants.{Start, Headed, Opened, Within, Paid, BehindZ, Closed, Ended}
use Rattle.checker.specs.declared.Checker.{Checker}
use Rattle.checker.proofs.laws.Bounds.{small}
use Rattle.checker.proofs.laws.Payments.{begun_at, phase_behind, brief, row, stands_in}
use Rattle.checker.specs.inner.Following.{Stands}
use Rattle.checker.proofs.laws.Edges.{follows_by, type_read}
use Rattle.checker.specs.inner.Following.{Follows, heads, first_batch, pays, first_payment, goes_on, adds_z, pays_behind, pays_behind_z, closes_paid, closes_behind_z, next_batch, ends}
use Rattle.checker.proofs.laws.Meaning.{refused_leaves, accepted_moves}
use Rattle.checker.proofs.laws.Details.{Open, at_within, at_paid, at_behind_z, DetailRow, detail_of}
use Rattle.checker.specs.inner.Following.{Limit}
use Rattle.checker.proofs.laws.Asks.{record_fits}

-- ---- what every line keeps

-- by phase: the file's own lines; the open batches; the records that the last payment may still have
pub record Stage : Type 0 where
  pub own : ℕ
  pub opened : ℕ
  pub spare : ℕ

abbrev pub at : ℕ → ℕ → ℕ → Stage
at a b c = record { own = a; opened = b; spare = c }

abbrev pub stage : Phase → Stage
stage Start = at 0 0 0
stage Headed = at 1 0 0
stage Opened = at 1 1 0
stage (Within n) = at 1 1 (most_details - n)
stage Paid = at 1 1 1
stage BehindZ = at 1 1 0
stage Closed = at 1 0 0
stage Ended = at 2 0 0

pub record KeptAt (p : Phase) (s : Checker) : Type 0 where
  pub batches : batch_count s.closed + (stage p).opened ≤ most_batches
  pub records : record_count s.closed ≤ (stage p).own + batch_count s.closed * (1 + batch_records_most)
  pub payments : payment_count s.closed ≤ batch_count s.closed * most_payments
  pub cents : cent_sum s.closed < file_cents
  pub batches_current : batch_count s.current ≡ (stage p).opened
  pub records_current : record_count s.current + (stage p).spare ≤ (stage p).opened + 3 * payment_count s.current
  pub payments_current : payment_count s.current ≤ (stage p).opened * most_payments
  pub cents_current : cent_sum s.current ≤ payment_count s.current * 10 ^ amount_digits

-- at the state's own phase
abbrev pub Kept : Checker → Type 0
Kept s = KeptAt s.phase s

pub kept_start : Kept start
kept_start = omega arith

stage_small : (p : Phase) → ((stage p).own ≤ 2) × ((stage p).opened ≤ 1)
stage_small Start = omega arith
stage_small Headed = omega arith
stage_small Opened = omega arith
stage_small (Within n) = omega arith
stage_small Paid = omega arith
stage_small BehindZ = omega arith
stage_small Closed = omega arith
stage_small Ended = omega arith

pub kept_bounded : {s : Checker} → Kept s → Bounded s
kept_bounded {s} k = omega (arith, stage_small s.phase)

-- ---- a line that may follow, within its limit, keeps it

-- in a batch
in-batch : {p : Phase} → Open p → ((stage p).own ≡ 1) × ((stage p).opened ≡ 1)
in-batch at_within = (refl, refl)
in-batch at_paid = (refl, refl)
in-batch at_behind_z = (refl, refl)

-- behind a record of a payment there may be so many records fewer; the first adds those of a payment
fewer : {b : Option Batch} {n : ℕ} {r : Record} → Stands b n r → suc (stage (phase_behind n b)).spare + n ≤ most_details
fewer {b} {n} g = go (ltb (suc n) (length (payment b)))
  where
    go : (more : Bool) → suc (stage (cond more (Within (suc n)) Paid)).spare + n ≤ most_details
    go true = omega (arith, stands_in g, brief b)
    go false = omega (arith, stands_in g, brief b)

module _ (s : Checker) (rec : List ℕ) where
  -- a detail, if the payment may have it
  detail_keeps : {p : Phase} (r : Record) → DetailRow r → (stage p).own ≡ 1 → (stage p).opened ≡ 1
      → suc (stage (after r)).spare ≤ (stage p).spare + most_details * payments_of r → Limit r s → KeptAt p s → Kept (next r s rec)
  unfolding add
  detail_keeps {p} r o own opened fits m h =
      let few = (o.limits s).1 m in
      let stays = in-batch o.stays in
      let opens = o.opens in
      rw (o.moves s rec) (omega (arith, small r rec))

  stands_keeps : {b : Option Batch} {p : Phase} {n : ℕ} {r : Record} → Stands b n r → (stage p).own ≡ 1 → (stage p).opened ≡ 1
      → most_details ≤ (stage p).spare + n + most_details * begun_at n → Limit r s → KeptAt p s → Kept (next r s rec)
  stands_keeps {n = n} {r} g own opened room =
      detail_keeps r (detail_of r (row g).type) own opened (rw ((row g).phase, (row g).begins) (omega (arith, fewer g)))

  kept_by : {d : Direction} {b : Option Batch} {p : Phase} {r : Record} → Follows d b p r → Limit r s → KeptAt p s → Kept (next r s rec)
  unfolding add
  kept_by heads m h = omega arith
  kept_by first_batch m h = omega arith
  kept_by (pays first_payment g) m h = stands_keeps g refl refl (omega arith) m h
  kept_by (pays goes_on g) m h = stands_keeps g refl refl (omega arith) m h
  kept_by (adds_z e) m h = detail_keeps SegmentZ (detail_of SegmentZ refl) refl refl (omega arith) m h
  kept_by (pays pays_behind g) m h = stands_keeps g refl refl (omega arith) m h
  kept_by (pays pays_behind_z g) m h = stands_keeps g refl refl (omega arith) m h
  kept_by closes_paid m h = omega arith
  kept_by closes_behind_z m h = omega arith
  kept_by next_batch m h = omega arith
  kept_by ends m h = omega arith

-- a line that is refused leaves the state, and keeps it too
pub step_keeps : (s : Checker) (line : List ℕ) → Kept s → Kept (step_of s line).state
step_keeps s line h = go (step_of s line).answer refl
  where
    go : (a : Answer) → (step_of s line).answer ≡ a → Kept (step_of s line).state
    go (Ok tt) e =
        let d = accepted_moves s line e in
        let rec = record_in line in
        let long : length rec ≡ record_bytes = rw length-take (omega (arith, d.long)) in
        let b = record_fits s rec d.by long (type_read s rec d.read) d.rules_kept in
        rw d.moves (kept_by s rec (follows_by s rec d.read) b.limit h)
    go (Err r) e = rw (refused_leaves s line r e) h
