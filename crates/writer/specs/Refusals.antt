-- The refusals of a call, in the paper's order. Assumes nothing.
use Rattle.std.specs.Prelude.{Bool, true, false, cond, ◌&&◌, List, [], ◌∷◌, ◌++◌, ℕ, ◌+◌, ◌*◌, leb, ltb, length, drop, Option, is_some}
use Rattle.answer.specs.Limits.{file_cents, most_records}
use Rattle.answer.specs.Rules.{Rule, rule, rules_on_line}
use Rattle.answer.specs.Output.{room}
use Rattle.layout.specs.Table.{type_place, segment_place, fields_of, service_field, form_field}
use Rattle.layout.specs.Records.{is_one_of}
use Rattle.layout.specs.Record.{rules_of, byte_rule}
use Rattle.layout.specs.declared.Direction.{Direction}
use Rattle.layout.specs.declared.Direction.TheVariants.{Remittance, Return}
use Rattle.layout.specs.declared.Record.{Record}
use Rattle.layout.specs.declared.Record.TheVariants.{FileHeader, BatchHeader, SegmentZ, BatchTrailer, FileTrailer}
use Rattle.layout.specs.Names.{name_of}
use Rattle.layout.specs.Pairs.{pairs, batch_among}
use Rattle.layout.specs.declared.pairs.Batch.{Batch}
use Rattle.fields.specs.Values.{taken_as, number_at}
use Rattle.fields.specs.declared.Fields.{Fields}
use Rattle.checker.specs.Order.{payment}
use Rattle.checker.specs.Line.{ordinal, most_batches, most_payments, house_rules, line_bytes}
use Rattle.checker.specs.Machine.{line_of, next, sound, most_details}
use Rattle.layout.specs.declared.shapes.Phase.{Phase}
use Rattle.layout.specs.declared.shapes.Phase.TheVariants.{Start, Headed, Opened, Within, Paid, BehindZ, Closed, Ended}
use Rattle.checker.specs.declared.Checker.{Checker}
use Rattle.writer.specs.Given.{Call, open_file, open_batch, pay, close_batch, close_file, records_in, records_of, amount_in}
use Rattle.filling.specs.Filling.{bytes_of}
use Rattle.writer.specs.declared.given.Payment.{Payment}
use Rattle.writer.specs.declared.turns.Turns.{Turns}
use Rattle.writer.specs.declared.Writer.{Writer}
use Rattle.checker.specs.Totals.{cent_sum, payment_count, record_count}

-- ---- 51

-- which calls are in turn: to open the file, to open a batch, to pay, to close the batch, to close the file
abbrev pub may : Bool → Bool → Bool → Bool → Bool → Turns
may a b c d e = record { header = a; batch = b; payment = c; trailer = d; end = e }

abbrev pub turn_rule : Bool → Rule
turn_rule kept = rule 51 0 kept

-- a batch is closed behind a payment, and a file behind a batch
abbrev pub turns : Phase → Turns
turns Start = may true false false false false
turns Headed = may false true false false false
turns Opened = may false false true false false
turns (Within n) = may false false false false false
turns Paid = may false false true true false
turns BehindZ = may false false true true false
turns Closed = may false true false false true
turns Ended = may false false false false false

-- ---- 20 and 25

-- the records written so far
abbrev pub records_so_far : Checker → ℕ
records_so_far s = record_count s.closed + record_count s.current

-- the kind of batch that a header's service and form name as they are given
abbrev pub kind_given : Direction → Fields → Option Batch
kind_given d v = batch_among (pairs d) (number_at (name_of BatchHeader service_field) v) (number_at (name_of BatchHeader form_field) v)

-- a payment has as many details at least as its kind of batch asks for; and so many where none is named
abbrev pub details_unnamed : ℕ
details_unnamed = 2

abbrev pub least_details : Option Batch → ℕ
least_details b = cond (is_some b) (length (payment b)) details_unnamed

-- behind it come the trailers of its batch and of the file
abbrev pub trailers : ℕ
trailers = 2

-- a file that has these records has room for more
abbrev pub fits_file : ℕ → ℕ → Bool
fits_file records more = leb (records + more) most_records

abbrev pub fits_batch : ℕ → Option Batch → Bool
fits_batch records b = fits_file records (1 + least_details b + trailers)

abbrev pub fits_payment : ℕ → ℕ → Bool
fits_payment records details = fits_file records (details + trailers)

abbrev pub batch_limits : Fields → Checker → List Rule
batch_limits v s =
    rule 20 type_place (leb (ordinal s) most_batches) ∷ rule 25 0 (fits_batch (records_so_far s) (kind_given s.dir v)) ∷ []

abbrev pub payment_limits : ℕ → Checker → List Rule
payment_limits details s =
    rule 20 segment_place (leb (payment_count s.current + 1) most_payments) ∷ rule 25 0 (fits_payment (records_so_far s) details) ∷ []

-- ---- 51, 20 and 25

abbrev pub turn_limits : Call → Checker → List Rule
turn_limits (open_file v) s = turn_rule (turns s.phase).header ∷ []
turn_limits (open_batch v) s = turn_rule (turns s.phase).batch ∷ batch_limits (taken_as BatchHeader v) s
turn_limits (pay p) s = turn_rule (turns s.phase).payment ∷ payment_limits (length (records_in p)) s
turn_limits (close_batch v) s = turn_rule (turns s.phase).trailer ∷ []
turn_limits (close_file v) s = turn_rule (turns s.phase).end ∷ []

-- ---- record by record the reader's 4, 11, fields and house rules: 26; 16 to 19; 52, 53 and 55

-- behind a payment, in a return
abbrev pub z_in : Direction → List Record
z_in Remittance = []
z_in Return = SegmentZ ∷ []

-- what is expected at each position: the records of a payment, and behind the last a Z
abbrev pub positions : Direction → List Record → List (List Record)
positions d [] = []
positions d (r ∷ []) = (r ∷ []) ∷ z_in d ∷ []
positions d (r ∷ q ∷ rs) = (r ∷ []) ∷ positions d (q ∷ rs)

abbrev pub expected_in_payment : Checker → List (List Record)
expected_in_payment s = positions s.dir (payment s.batch)

-- of a call
abbrev pub expected_in : Call → Checker → List (List Record)
expected_in (open_file v) s = (FileHeader ∷ []) ∷ []
expected_in (open_batch v) s = (BatchHeader ∷ []) ∷ []
expected_in (pay p) s = expected_in_payment s
expected_in (close_batch v) s = (BatchTrailer ∷ []) ∷ []
expected_in (close_file v) s = (FileTrailer ∷ []) ∷ []

-- at the next position; behind the last nothing is
abbrev pub expected_now : List (List Record) → List Record
expected_now [] = []
expected_now (rs ∷ later) = rs

-- a record that is given: its bytes, whether it is one that is expected, its fields, and what the house asks
unfoldable pub given_rules : Bool → Record → Direction → List ℕ → List Rule
given_rules expected r d rec = byte_rule rec ∷ rule 11 segment_place expected ∷ rules_of (fields_of r) d rec ++ house_rules r rec

-- as it is written in a state, on the line that is next there
abbrev pub given_on_line : Bool → Checker → Fields → List Rule
given_on_line expected s g = rules_on_line (line_of s) (given_rules expected g.which s.dir (bytes_of s g))

-- the checker behind it
abbrev pub next_by : Checker → Fields → Checker
next_by s g = next g.which s (bytes_of s g)

-- each record in its place and on its line, in the state that the records before it leave
unfoldable pub all_given : List (List Record) → Checker → List Fields → List Rule
all_given expected s [] = []
all_given expected s (g ∷ gs) = given_on_line (is_one_of g.which (expected_now expected)) s g ++ all_given (drop 1 expected) (next_by s g) gs

-- ---- 23 and 50

abbrev pub cents_so_far : Checker → ℕ
cents_so_far s = cent_sum s.closed + cent_sum s.current

abbrev pub sum_rule : Checker → Payment → Rule
sum_rule s p = rule 23 0 (ltb (cents_so_far s + amount_in p) file_cents)

abbrev pub sum_rules : Call → Checker → List Rule
sum_rules (open_file v) s = []
sum_rules (open_batch v) s = []
sum_rules (pay p) s = sum_rule s p ∷ []
sum_rules (close_batch v) s = []
sum_rules (close_file v) s = []

-- the bytes of so many lines
abbrev pub size : ℕ → ℕ
size lines = line_bytes * lines

abbrev pub last_rules : Call → Writer → List ℕ → List Rule
last_rules c w out = sum_rules c w.checker ++ room (w.cursor + size (length (records_of c))) out ∷ []

-- ---- a call

-- a state that no calls leave (the law `never-guarded`) is refused on no line: what is counted is bounded, a payment has at most three records, and the sum fits a file
unfoldable pub held : Checker → Bool
held s = sound s && (leb (record_count s.current) (1 + most_details * payment_count s.current) && ltb (cents_so_far s) file_cents)

abbrev pub turn_rules : Call → Checker → List Rule
turn_rules c s = turn_rule (held s) ∷ rules_on_line (line_of s) (turn_limits c s)

unfoldable pub call_rules : Writer → Call → List ℕ → List Rule
call_rules w c out =
    turn_rules c w.checker
    ++ (all_given (expected_in c w.checker) w.checker (records_of c) ++ rules_on_line (line_of w.checker) (last_rules c w out))
