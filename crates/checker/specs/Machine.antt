-- The machine of the paper: a checker's state, and a step over one line. Assumes nothing.
use Rattle.std.specs.Prelude.{Bool, cond, ◌&&◌, List, ℕ, ◌+◌, ◌*◌, ◌^◌, leb, ltb, eqb, Err, None, Ok, Option, Some}
use Rattle.answer.specs.Limits.{file_cents}
use Rattle.answer.specs.Rules.{first_broken, on_line, refused_as}
use Rattle.answer.specs.declared.LineNo.{LineNo}
use Rattle.answer.specs.Rules.{Answer}
use Rattle.digits.specs.Digits.{digit_byte, place}
use Rattle.digits.specs.Numbers.{value}
use Rattle.layout.specs.Pairs.{batch_of}
use Rattle.layout.specs.Field.{part}
use Rattle.layout.specs.Table.{bank_field, direction_field, service_field, form_field}
use Rattle.layout.specs.declared.Direction.{Direction}
use Rattle.layout.specs.declared.Direction.TheVariants.{Remittance, Return}
use Rattle.layout.specs.declared.Record.{Record}
use Rattle.layout.specs.declared.shapes.Shape.{Shape}
use Rattle.layout.specs.declared.shapes.LineType.{LineType}
use Rattle.layout.specs.declared.shapes.LineType.TheVariants.{FileFirst, BatchFirst, Detail, BatchLast, FileLast}
use Rattle.layout.specs.declared.pairs.Batch.{Batch}
use Rattle.layout.specs.Records.{shape_of}
use Rattle.checker.specs.Totals.{none, add, counts_by, amount_digits, batch_count, record_count, payment_count, cent_sum}
use Rattle.checker.specs.Line.{record_in, line_is, rules_of_line, most_batches, most_payments}
use Rattle.layout.specs.declared.shapes.Phase.{Phase}
use Rattle.layout.specs.declared.shapes.Phase.TheVariants.{Start}
use Rattle.checker.specs.declared.totals.Totals.{Totals}
use Rattle.checker.specs.declared.Checker.{Checker}
use Rattle.checker.specs.declared.Stepped.{Stepped}

-- ---- the state

-- the phase, the direction, the kind of the open batch, the bank; what the closed batches and the file's own lines count; what the open batch counts
abbrev pub state : Phase → Direction → Option Batch → ℕ → Totals → Totals → Checker
state p d b n x y = record { phase = p; dir = d; batch = b; bank = n; closed = x; current = y }

abbrev pub start : Checker
start = state Start Remittance None 0 none none

-- the line that is next: accepted lines plus one
abbrev pub line_of : Checker → LineNo
line_of s = record { 0 = record_count s.closed + record_count s.current + 1 }

-- ---- behind an accepted line

abbrev pub direction_of : List ℕ → Direction
direction_of rec = cond (eqb (place direction_field.from rec) (digit_byte 2)) Return Remittance

-- a line of a batch counts in the open batch
abbrev pub in_batch : Shape → Option Batch → Checker → List ℕ → Checker
in_batch x b s rec = state x.after s.dir b s.bank s.closed (add s.current (counts_by x rec))

-- by the row: the file's own lines count in the file, and a batch trailer closes the open batch
abbrev pub next_of_type : LineType → Shape → Checker → List ℕ → Checker
next_of_type FileFirst x s rec = state x.after (direction_of rec) None (value (part bank_field rec)) (add s.closed (counts_by x rec)) s.current
next_of_type BatchFirst x s rec = in_batch x (batch_of s.dir (part service_field rec) (part form_field rec)) s rec
next_of_type Detail x s rec = in_batch x s.batch s rec
next_of_type BatchLast x s rec = state x.after s.dir None s.bank (add s.closed (add s.current (counts_by x rec))) none
next_of_type FileLast x s rec = state x.after s.dir None s.bank (add s.closed (counts_by x rec)) s.current

abbrev pub next_by_row : Shape → Checker → List ℕ → Checker
next_by_row x s rec = next_of_type x.line x s rec

abbrev pub next : Record → Checker → List ℕ → Checker
next r s rec = next_by_row (shape_of r) s rec

abbrev pub moved : Option Record → Checker → List ℕ → Checker
moved (Some r) s rec = next r s rec
moved None s rec = s

-- ---- states that no run produces

-- a payment has at most three records
abbrev pub most_details : ℕ
most_details = 3

abbrev pub batch_records_most : ℕ
batch_records_most = 1 + most_details * most_payments

abbrev pub batch_cents_most : ℕ
batch_cents_most = most_payments * 10 ^ amount_digits

-- no run counts more (the law `reached`)
unfoldable pub sound : Checker → Bool
sound s =
    leb (batch_count s.closed) most_batches
    && (leb (record_count s.closed) (2 + most_batches * (1 + batch_records_most))
    && (leb (payment_count s.closed) (most_batches * most_payments)
    && (ltb (cent_sum s.closed) file_cents
    && (leb (batch_count s.current) 1
    && (leb (record_count s.current) batch_records_most
    && (leb (payment_count s.current) most_payments
    && leb (cent_sum s.current) batch_cents_most))))))

-- ---- a step

abbrev pub stepped : Checker → Answer → Stepped
stepped s a = record { state = s; answer = a }

-- a refused line leaves the state
abbrev pub answer_to : Answer → Checker → List ℕ → Stepped
answer_to (Ok tt) s rec = stepped (moved (line_is s rec) s rec) (Ok tt)
answer_to (Err r) s rec = stepped s (on_line (line_of s) (Err r))

-- a state that no run produces is refused on no line
unfoldable pub step_of : Checker → List ℕ → Stepped
step_of s line = cond (sound s) (answer_to (first_broken (rules_of_line s line)) s (record_in line)) (stepped s (refused_as 51 0))
