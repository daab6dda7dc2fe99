-- What private steps leave, for their contracts. Assumes nothing.
use Rattle.std.specs.Prelude.{◌≡◌, Bool, true, cond, Result, IfOk, List, [], ◌∷◌, ◌++◌, ℕ, ◌+◌, ◌≤◌, length, get_or, take, drop, Ok, Err, Option}
use Rattle.answer.specs.Rules.{Rule, rules_on_line, refused_as, first_broken, answer_alone, and_then, on_line}
use Rattle.answer.specs.Output.{room}
use Rattle.answer.specs.declared.Refusal.{Refusal}
use Rattle.answer.specs.Rules.{Answer}
use Rattle.layout.specs.Records.{is_one_of}
use Rattle.layout.specs.Table.{segment_place}
use Rattle.layout.specs.Record.{byte_rule}
use Rattle.layout.specs.declared.Direction.{Direction}
use Rattle.layout.specs.declared.Record.{Record}
use Rattle.layout.specs.declared.Record.TheVariants.{SegmentZ}
use Rattle.layout.specs.declared.pairs.Batch.{Batch}
use Rattle.fields.specs.Values.{no_fields, record_of, made_of}
use Rattle.fields.specs.declared.Fields.{Fields}
use Rattle.fields.specs.declared.writing.Made.{Made}
use Rattle.checker.specs.Order.{payment}
use Rattle.checker.specs.Line.{most_payments, line_from}
use Rattle.checker.specs.Machine.{line_of, sound, most_details}
use Rattle.checker.specs.inner.Following.{Follows}
use Rattle.checker.specs.inner.Following.{Limit}
use Rattle.checker.specs.declared.Checker.{Checker}
use Rattle.writer.specs.Given.{records_in}
use Rattle.filling.specs.Filling.{filled}
use Rattle.writer.specs.Refusals.{turns, sum_rule, positions, expected_in_payment, expected_now, given_on_line, next_by, all_given, held}
use Rattle.writer.specs.Outcome.{lines_for, behind_all, cursor_behind, state_after, output_after}
use Rattle.writer.specs.declared.given.Given.{Given}
use Rattle.writer.specs.declared.given.Given.TheVariants.{One, Two, Three}
use Rattle.writer.specs.declared.given.Payment.{Payment}
use Rattle.writer.specs.declared.records.Tried.{Tried}
use Rattle.writer.specs.declared.Writer.{Writer}
use Rattle.writer.specs.declared.Written.{Written}
use Rattle.checker.specs.Totals.{payment_count}

-- what is asked of a call, its turn and its limits, on the line that is next; of a state that is not held 51
abbrev pub turn_of : Checker → Answer → Answer
turn_of s asked = cond (held s) (on_line (line_of s) asked) (refused_as 51 0)

-- 4, 11 and the fields: of a record that is expected as it is made; of another 4 and 11
abbrev pub kind_answer : Bool → Made → Fields → Record → Answer
kind_answer expected m v r = cond expected m.answer (and_then (first_broken (byte_rule (record_of r v) ∷ [])) (refused_as 11 segment_place))

-- a state in which a record may be tried: it is sound, and where the record is the one that is expected, its line may follow within its limit
pub record MayTry (expected : Bool) (r : Record) (s : Checker) : Type 0 where
  pub is_sound : sound s ≡ true
  pub follows : expected ≡ true → Follows s.dir s.batch s.phase r
  pub limit : expected ≡ true → Limit r s

-- a record that was accepted: the state behind it; the record from its fields with what the writer fills, which is right
pub record Makes (s : Checker) (g : Fields) (t : Tried Made) : Type 0 where
  pub moved : t.checker ≡ next_by s g
  pub right : t.made.answer ≡ Ok tt
  pub made : t.made ≡ made_of g.which s.dir (filled g.which s g)

-- a record that was tried: its answer, and what is behind it
pub record Tries (expected : Bool) (s : Checker) (g : Fields) (r : Result (Tried Made) Refusal) : Type 0 where
  pub answered : answer_alone r ≡ first_broken (given_on_line expected s g)
  pub makes : IfOk r (Makes s g)

-- the line of a record that is made
abbrev pub line_with : Made → List ℕ
line_with m = line_from (record_of m.fields.which m.fields)

-- the lines of records that are made
abbrev pub lines_with : List Made → List (List ℕ)
lines_with [] = []
lines_with (m ∷ ms) = line_with m ∷ lines_with ms

-- all of them are right
pub data AllRight : List Made → Type 0 where
  none_made : AllRight []
  one_more : {m : Made} {ms : List Made} → m.answer ≡ Ok tt → AllRight ms → AllRight (m ∷ ms)

-- the third of a payment's records; a place that is not used has none
abbrev pub third_of : Given → Fields
third_of (One a) = no_fields SegmentZ
third_of (Two a b) = no_fields SegmentZ
third_of (Three a b c) = c

abbrev pub third_in : Payment → Fields
third_in p = third_of p.given

-- the record of a payment at a position, from 0 on
abbrev pub nth_in : ℕ → Payment → Fields
nth_in k p = get_or (records_in p) k (third_in p)

-- and whether it is the one that is expected there
abbrev pub expected_at : ℕ → Direction → Option Batch → Record → Bool
expected_at k d b r = is_one_of r (expected_now (drop k (positions d (payment b))))

-- a payment's records that were accepted: what is behind them all
pub record MakesPayment (s : Checker) (p : Payment) (t : Tried (List Made)) : Type 0 where
  pub moved : t.checker ≡ behind_all s (records_in p)
  pub right : AllRight (take (length (records_in p)) t.made)
  pub made : lines_with (take (length (records_in p)) t.made) ≡ lines_for s (records_in p)
  pub places : length t.made ≡ most_details

-- a payment's records that were tried: their answer, and what is behind them
pub record TriesPayment (s : Checker) (p : Payment) (r : Result (Tried (List Made)) Refusal) : Type 0 where
  pub answered : answer_alone r ≡ first_broken (all_given (expected_in_payment s) s (records_in p))
  pub makes : IfOk r (MakesPayment s p)

-- what a call of the writer w hands back: the state that it reached, or where it is refused w
abbrev pub handed_back : Writer → Result Writer Refusal → Written
handed_back w (Ok behind) = record { state = behind; answer = Ok tt }
handed_back w (Err r) = record { state = w; answer = Err r }

-- a call's records, behind its turn
pub record WroteIn (turn : Answer) (rules : List Rule) (w : Writer) (gs : List Fields) (out after : List ℕ) (r : Written) : Type 0 where
  pub answered : r.answer ≡ and_then turn (first_broken rules)
  pub moved : r.state ≡ state_after r.answer w gs
  pub memory : after ≡ output_after r.answer w gs out

-- a header or a trailer, which is the record that is expected
abbrev pub one_rules : Writer → Fields → List ℕ → List Rule
one_rules w g out = given_on_line true w.checker g ++ rules_on_line (line_of w.checker) (room (cursor_behind w (g ∷ [])) out ∷ [])

-- a payment's records, and what is asked behind them
abbrev pub payment_rules : Writer → Payment → List ℕ → List Rule
payment_rules w p out =
    all_given (expected_in_payment w.checker) w.checker (records_in p)
    ++ rules_on_line (line_of w.checker) (sum_rule w.checker p ∷ room (cursor_behind w (records_in p)) out ∷ [])

-- what a payment in turn leaves room for
pub record MayPay (s : Checker) : Type 0 where
  pub is_held : held s ≡ true
  pub in_turn : (turns s.phase).payment ≡ true
  pub few : payment_count s.current + 1 ≤ most_payments
