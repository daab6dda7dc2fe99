-- What private steps leave, for their contracts. Assumes nothing.
use Rattle.std.specs.Prelude.{Bool, true, false, not, List, [], ◌∷◌, ◌++◌, leb, eqb, length, ℕ, suc, ◌+◌, ◌*◌, ◌≤◌, ◌<◌, ◌^◌, None, Option, Result, Ok, Err}
use Rattle.answer.specs.Limits.{file_cents}
use Rattle.answer.specs.Rules.{Rule, rule, Answer}
use Rattle.answer.specs.declared.Refusal.{Refusal}
use Rattle.digits.specs.Numbers.{number_of}
use Rattle.calendar.specs.Calendar.{number_fits}
use Rattle.layout.specs.Table.{number_field, segment_fields, segment_place, record_bytes}
use Rattle.layout.specs.Record.{rules_of, byte_rule}
use Rattle.layout.specs.declared.Direction.{Direction}
use Rattle.layout.specs.declared.Direction.TheVariants.{Remittance, Return}
use Rattle.layout.specs.declared.Record.{Record}
use Rattle.layout.specs.declared.Record.TheVariants.{FileHeader, BatchHeader, BatchTrailer, FileTrailer}
use Rattle.checker.specs.Order.{read_as, ended}
use Rattle.checker.specs.Totals.{batch_count, record_count, payment_count, cent_sum, payments_of, add}
use Rattle.checker.specs.Line.{reads, bank, batch_number, ordinal, most_batches, most_payments, line_bytes, carriage_return, line_feed, record_in, ends_with, line_is}
use Rattle.checker.specs.Machine.{batch_records_most, batch_cents_most, moved}
use Rattle.layout.specs.declared.shapes.Phase.{Phase}
use Rattle.layout.specs.declared.shapes.Phase.TheVariants.{Start, Headed, Opened, Within, Paid, BehindZ, Closed, Ended}
use Rattle.checker.specs.declared.totals.Tally.{Tally}
use Rattle.checker.specs.declared.totals.Totals.{Totals}
use Rattle.checker.specs.declared.Checker.{Checker}

abbrev pub is_return : Direction → Bool
is_return Remittance = false
is_return Return = true

-- what a line is read as that is no detail
abbrev pub end_as : Phase → ℕ → Option Record
end_as Start type = read_as type 0 (FileHeader ∷ [])
end_as Headed type = read_as type 0 (BatchHeader ∷ [])
end_as Opened type = None
end_as (Within n) type = None
end_as Paid type = read_as type 0 (BatchTrailer ∷ [])
end_as BehindZ type = read_as type 0 (BatchTrailer ∷ [])
end_as Closed type = read_as type 0 (BatchHeader ∷ FileTrailer ∷ [])
end_as Ended type = None

-- the rule that digits give the number k
abbrev pub digits_read : ℕ → ℕ → ℕ → List ℕ → Rule
digits_read number place k bytes = rule number place (number_fits (λ n. eqb n k) (number_of bytes))

-- the rules of a line up to its type
abbrev pub front_rules : Checker → List ℕ → List Rule
front_rules s line =
    rule 3 0 (not (ended s.phase))
    ∷ rule 1 0 (eqb (length line) line_bytes)
    ∷ byte_rule (record_in line)
    ∷ ends_with (suc record_bytes) carriage_return line
    ∷ ends_with line_bytes line_feed line
    ∷ []

-- the state behind a line that is read, or the refusal
abbrev pub behind_by : Answer → Checker → List ℕ → Result Checker Refusal
behind_by (Ok tt) s rec = Ok (moved (line_is s rec) s rec)
behind_by (Err r) s rec = Err r

-- the rules of a detail up to 20
abbrev pub detail_head : Record → Checker → List ℕ → List Rule
detail_head r s rec =
    bank s rec
    ∷ batch_number (ordinal s) rec
    ∷ reads 10 number_field (record_count s.current) rec
    ∷ (rules_of (segment_fields r) s.dir rec ++ rule 20 segment_place (leb (payment_count s.current + payments_of r) most_payments) ∷ [])

-- `sound`, as facts
pub record Bounded (s : Checker) : Type 0 where
  pub batches : batch_count s.closed ≤ most_batches
  pub records : record_count s.closed ≤ 2 + most_batches * (1 + batch_records_most)
  pub payments : payment_count s.closed ≤ most_batches * most_payments
  pub cents : cent_sum s.closed < file_cents
  pub batches_current : batch_count s.current ≤ 1
  pub records_current : record_count s.current ≤ batch_records_most
  pub payments_current : payment_count s.current ≤ most_payments
  pub cents_current : cent_sum s.current ≤ batch_cents_most

-- the sums fit 64 bits
pub record FitTally (a b : Tally) : Type 0 where
  pub payments : a.payments + b.payments < 2 ^ 64
  pub cents : a.cents.0 + b.cents.0 < 2 ^ 64

pub record FitSum (a b : Totals) : Type 0 where
  pub batches : batch_count a + batch_count b < 2 ^ 64
  pub records : record_count a + record_count b < 2 ^ 64
  pub payments : payment_count a + payment_count b < 2 ^ 64
  pub cents : cent_sum a + cent_sum b < 2 ^ 64

-- the sums that `next` makes: in the open batch, in the file, and at the end of a batch
pub record Room (s : Checker) (t : Totals) : Type 0 where
  pub in-batch : FitSum s.current t
  pub in_file : FitSum s.closed t
  pub at_end : FitSum s.closed (add s.current t)
