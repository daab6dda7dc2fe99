-- `checker::Checker::is_sound` meets its contract. Assumes nothing.
use Rattle.std.specs.Ordering.{is_le, is_lt, nat_cmp}
use Rattle.std.proofs.Common.{◌≡◌, ◌∙◌, ℕ, ◌+◌, ◌*◌, leb, ltb, arith}
use Rattle.std.proofs.lemmas.Bool.Decides.{nat_tests}
use Rattle.answer.specs.Limits.{file_cents}
use Rattle.answer.proofs.laws.Sums.{capped_most, capped_below}
use Rattle.checker.specs.Totals.{payment_count, cent_sum}
use Rattle.checker.specs.Line.{most_batches, most_payments}
use Rattle.checker.specs.Machine.{batch_records_most, batch_cents_most, sound}
use Rattle.checker.proofs.Checker.is_sound.Goals as goal

-- what the derived orders answer
le_is : (a b : ℕ) → is_le (nat_cmp a b) ≡ leb a b
le_is a b = grind (arith, nat_tests)

lt_is : (a b : ℕ) → is_lt (nat_cmp a b) ≡ ltb a b
lt_is a b = grind (arith, nat_tests)

pub returns : goal.returns
unfolding sound
returns c =
    let closed = c.args.self.closed in
    let current = c.args.self.current in
    rw (
      c.le.ensures ∙ le_is closed.records.0 (2 + most_batches * (1 + batch_records_most)),
      c.payments.ensures,
      capped_most (payment_count closed) (most_batches * most_payments) (omega arith),
      c.lt.ensures ∙ lt_is c.cents.result.0 file_cents,
      c.cents.ensures,
      capped_below (cent_sum closed) file_cents (omega arith),
      c.le-2.ensures ∙ le_is current.records.0 batch_records_most,
      c.payments-2.ensures,
      capped_most (payment_count current) most_payments (omega arith),
      c.le-3.ensures ∙ le_is c.cents-2.result.0 batch_cents_most,
      c.cents-2.ensures,
      capped_most (cent_sum current) batch_cents_most (omega arith),
    )
