-- The states behind the records of a payment are sound. Assumes nothing.
use Rattle.std.specs.Prelude.{◌≡◌, true, List, ℕ, suc, ◌+◌, ◌-◌, ◌*◌, ◌≤◌, ◌<◌, leb}
use Rattle.std.proofs.Common.{arith, leb-true, ltb-true}
use Rattle.answer.specs.Limits.{file_cents}
use Rattle.layout.proofs.laws.Bytes.{and_left, and_right}
use Rattle.layout.specs.declared.Record.{Record}
use Rattle.checker.specs.Totals.{add, payments_of, payment_count, record_count}
use Rattle.checker.specs.Line.{most_payments}
use Rattle.checker.specs.Machine.{next, sound, batch_records_most, most_details}
use Rattle.checker.specs.inner.Steps.{Bounded}
use Rattle.checker.proofs.laws.Bounds.{bounded, small}
use Rattle.checker.proofs.laws.Details.{DetailRow}
use Rattle.checker.specs.declared.Checker.{Checker}
use Rattle.writer.specs.Refusals.{cents_so_far, held}

-- `held`, as facts
pub record Held (s : Checker) : Type 0 where
  pub is_sound : sound s ≡ true
  pub records : record_count s.current ≤ 1 + most_details * payment_count s.current
  pub cents : cents_so_far s < file_cents

pub as_held : (s : Checker) → held s ≡ true → Held s
unfolding held
as_held s e =
    let more = and_right (sound s) _ e in
    let few = leb (record_count s.current) (1 + most_details * payment_count s.current) in
    record {
      is_sound = and_left (sound s) _ e;
      records = leb-true _ _ (and_left few _ more);
      cents = ltb-true _ _ (and_right few _ more);
    }

-- a sound state whose batch has room for n records more: three before a payment
pub record Spare (n : ℕ) (s : Checker) : Type 0 where
  pub bounds : Bounded s
  pub spare : record_count s.current + n ≤ batch_records_most

-- behind the first record of a payment, and behind a later one
module _ {r : Record} {s : Checker} (o : DetailRow r) (rec : List ℕ) where
  pub begun : Held s → payment_count s.current + 1 ≤ most_payments → payments_of r ≡ 1 → Spare (most_details - 1) (next r s rec)
  unfolding add
  begun h few one =
      let b = bounded s h.is_sound in
      let opens = o.opens in
      rw (o.moves s rec) (omega (arith, small r rec))

  pub gone_on : (n : ℕ) → Spare (suc n) s → payments_of r ≡ 0 → Spare n (next r s rec)
  unfolding add
  gone_on n k none =
      let opens = o.opens in
      rw (o.moves s rec) (omega (arith, small r rec))
