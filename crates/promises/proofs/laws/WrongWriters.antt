-- This writer meets demand 2; the wrong writers that the paper names do not, whatever they are made of. Assumes nothing.
use Rattle.std.specs.Prelude.{◌≡◌, ℕ, ◌*◌, length, get_or, take, drop, Ok}
use Rattle.std.proofs.Math.Path.{refl}
use Rattle.std.proofs.Common.{sym, ap, ◌∙◌, subst, arith, lit<, get_or-take, get_or-drop}
use mathlib.Core.List.{List, [], ◌∷◌, ◌++◌, flatten}
use Rattle.answer.specs.Rules.{first_broken}
use Rattle.answer.specs.Rules.{Answer}
use Rattle.digits.specs.Digits.{digit_byte, leading, every_byte, weighed}
use Rattle.digits.specs.Checks.{counts, lift, check_digit}
use Rattle.ids.specs.Ids.{characters_fit, id_fits}
use Rattle.digits.specs.Numbers.{number_of, numeral, last_digits}
use Rattle.calendar.specs.Calendar.{exists, date_fits, time_fits}
use Rattle.layout.specs.Kinds.{run, same}
use Rattle.layout.specs.Pairs.{batch_of}
use Rattle.layout.specs.Record.{rules_of, clean}
use Rattle.layout.specs.Table.{fields_of, record_bytes}
use Rattle.layout.specs.Names.{before, index_of}
use Rattle.layout.specs.declared.Record.{Record}
use Rattle.layout.specs.declared.Record.TheVariants.{FileHeader, BatchHeader, SegmentA, SegmentB}
use Rattle.fields.specs.Values.{fields_in, joined, record_of, of_record}
use Rattle.fields.proofs.laws.RoundTrip.{whole_read}
use Rattle.fields.specs.declared.Fields.{Fields}
use Rattle.checker.specs.Totals.{add}
use Rattle.checker.specs.Line.{line_bytes, record_in, boleto_rules}
use Rattle.checker.specs.Machine.{sound}
use Rattle.writer.specs.Given.{Call, open_file, open_batch, pay, two, records_of}
use Rattle.filling.specs.Filling.{filled}
use Rattle.writer.specs.Refusals.{all_given, held, given_rules, call_rules}
use Rattle.writer.specs.Outcome.{new_writer, lines_for, behind_all, state_after, output_after, answer_of, Wrote}
use Rattle.fields.specs.Values.{Whole}
use Rattle.writer.specs.Calls.{AllWhole, no_more, and_then, WholeCalls, no_call, and_call, state_behind, written, file_of, lent, memory_behind, lent_on, memory}
use Rattle.writer.proofs.laws.Memory.{cursor_is, memory_is, memory-behind}
use Rattle.writer.proofs.laws.Sequences.{file_accepted}
use Rattle.writer.specs.declared.given.Payment.{Payment}
use Rattle.writer.specs.declared.Writer.{Writer}
use Rattle.writer.specs.declared.Written.{Written}
use Rattle.promises.specs.Guarded.{line_at}
use Rattle.promises.specs.Demands.{AnyWriter, answers_from, output_from, right_answers, lent_first, WriterDemand2}
use Rattle.promises.specs.WrongOnes.{AllRefused, AlwaysRefuses, DoesNothing, FirstPaymentOnly}
use Rattle.promises.proofs.laws.AcceptedFiles.{credit_file}

-- ---- the contract of this writer's calls meets the demand

-- calls as functions of this writer's state
abbrev pub by_calls : (Writer → Call → List ℕ → Written × List ℕ) → AnyWriter
by_calls call = record {
  State = Writer;
  new = new_writer;
  call = λ w c out. record { state = (call w c out).0.state; answer = (call w c out).0.answer; out = (call w c out).1 };
}

module _ (call : Writer → Call → List ℕ → Written × List ℕ)
    (wrote : (w : Writer) (c : Call) (out : List ℕ) → AllWhole (records_of c) → Wrote w c out (call w c out).1 (call w c out).0) where
  -- what a call leaves is what its answer says
  state_is : (w : Writer) (c : Call) (out : List ℕ) → AllWhole (records_of c) → (call w c out).0.state ≡ state_behind w (lent c out)
  state_is w c out h = let k = wrote w c out h in k.moved ∙ ap (λ (a : Answer). state_after a w (records_of c)) k.answered

  output_is : (w : Writer) (c : Call) (out : List ℕ) → AllWhole (records_of c) → (call w c out).1 ≡ memory_behind w (lent c out)
  output_is w c out h = let k = wrote w c out h in k.memory ∙ ap (λ (a : Answer). output_after a w (records_of c) out) k.answered

  its_answers : (w : Writer) (cs : List Call) (out : List ℕ) → WholeCalls (lent_on w cs out) → answers_from (by_calls call) w cs out ≡ right_answers w (lent_on w cs out)
  unfolding answers_from right_answers lent_on
  its_answers w [] out no_call = refl
  its_answers w (c ∷ cs) out (and_call h hs) =
      rw ((wrote w c out h).answered, state_is w c out h, output_is w c out h)
      (ap (λ (later : List Answer). answer_of w c out ∷ later) (its_answers (state_behind w (lent c out)) cs (memory_behind w (lent c out)) hs))

  its_output : (w : Writer) (cs : List Call) (out : List ℕ) → WholeCalls (lent_on w cs out) → output_from (by_calls call) w cs out ≡ memory w cs out
  unfolding output_from memory lent_on
  its_output w [] out no_call = refl
  its_output w (c ∷ cs) out (and_call h hs) =
      rw (state_is w c out h, output_is w c out h) (its_output (state_behind w (lent c out)) cs (memory_behind w (lent c out)) hs)

  -- the theorem: any functions that meet the contract
  pub meets_demand : WriterDemand2 (by_calls call)
  meets_demand cs out h =
      let ls = lent_first cs out in
      let behind = its_output new_writer cs out h in
      let first = rw (cursor_is ls h) at (memory_is cs out h) in
      record {
        answered = its_answers new_writer cs out h;
        written = rw behind first;
        kept = rw behind (rw (cursor_is ls h) at (memory-behind cs out h));
        accepted = λ e. rw (behind, first) (file_accepted ls h e);
      }

-- ---- calls, of the fields of the paper's small file

abbrev read : ℕ → Record → Fields
read n r = of_record r (fields_in r (record_in (line_at n credit_file)))

abbrev credit : Payment
credit = two (read 2 SegmentA) (read 3 SegmentB)

abbrev opened : List Call
opened = open_file (read 0 FileHeader) ∷ []

abbrev begun : List Call
begun = opened ++ open_batch (read 1 BatchHeader) ∷ []

abbrev paid : List Call
paid = begun ++ pay credit ∷ []

abbrev paid_twice : List Call
paid_twice = begun ++ pay credit ∷ pay credit ∷ []

-- memory of so many lines that nothing was written to
abbrev fresh : ℕ → List ℕ
fresh lines = run 0 (lines * line_bytes)

-- ---- their fields are whole

read_whole : (r : Record) (rec : List ℕ) → length rec ≡ record_bytes → Whole (of_record r (fields_in r rec))
unfolding fields_in
read_whole r rec long = let w = whole_read r rec long in record { numbers = w.numbers; text = w.text }

opened_whole : (out : List ℕ) → WholeCalls (lent_first opened out)
unfolding lent_on
opened_whole out = and_call (and_then (read_whole FileHeader _ refl) no_more) no_call

credit_whole : AllWhole (records_of (pay credit))
credit_whole = and_then (read_whole SegmentA _ refl) (and_then (read_whole SegmentB _ refl) no_more)

paid_whole : (out : List ℕ) → WholeCalls (lent_first paid out)
unfolding lent_on
paid_whole out =
    and_call (and_then (read_whole FileHeader _ refl) no_more)
    (and_call (and_then (read_whole BatchHeader _ refl) no_more) (and_call credit_whole no_call))

paid_twice_whole : (out : List ℕ) → WholeCalls (lent_first paid_twice out)
unfolding lent_on
paid_twice_whole out =
    and_call (and_then (read_whole FileHeader _ refl) no_more)
    (and_call (and_then (read_whole BatchHeader _ refl) no_more) (and_call credit_whole (and_call credit_whole no_call)))

-- ---- what they do, computed

-- the file is opened, and its first byte is of the header's bank; a file with one payment has four lines, one with two has six, and the fifth
-- begins with the bank
record Computed : Type 0 where
  answers : right_answers new_writer (lent_first opened (fresh 1)) ≡ (Ok tt) ∷ []
  opened_long : length (file_of (lent_first opened (fresh 1))) ≡ line_bytes
  opened_first : get_or (file_of (lent_first opened (fresh 1))) 0 0 ≡ digit_byte 0
  paid_long : length (file_of (lent_first paid (fresh 6))) ≡ 4 * line_bytes
  twice_long : length (file_of (lent_first paid_twice (fresh 6))) ≡ 6 * line_bytes
  twice_fifth : get_or (file_of (lent_first paid_twice (fresh 6))) (4 * line_bytes) 0 ≡ digit_byte 0

computed : Computed
unfolding flatten right_answers before index_of written lines_for behind_all lent_on answer_of call_rules held all_given given_rules fields_in joined record_of filled numeral last_digits first_broken leading every_byte weighed counts lift check_digit characters_fit id_fits number_of exists date_fits time_fits same batch_of rules_of clean fields_of boleto_rules sound add
computed = record { answers = refl; opened_long = refl; opened_first = refl; paid_long = refl; twice_long = refl; twice_fifth = refl }

-- ---- the wrong writers

-- one that always refuses: a new writer with room opens the file
pub always_refuses : (w : AnyWriter) → AlwaysRefuses w → WriterDemand2 w → ⊥
always_refuses w all d = go (subst AllRefused ((d opened (fresh 1) (opened_whole (fresh 1))).answered ∙ computed.answers) (all opened (fresh 1)))
  where
    go : AllRefused ((Ok tt) ∷ []) → ⊥
    go h = elim h [ ]

-- one that does nothing: the file header is not there
pub does_nothing : (w : AnyWriter) → DoesNothing w → WriterDemand2 w → ⊥
does_nothing w same d =
    let k = d opened (fresh 1) (opened_whole (fresh 1)) in
    let is : take line_bytes (fresh 1) ≡ file_of (lent_first opened (fresh 1)) = rw (same opened (fresh 1), computed.opened_long) at k.written in
    let z : 0 ≡ digit_byte 0 = ap (λ (l : List ℕ). get_or l 0 0) is ∙ computed.opened_first in
    omega arith

-- one that writes the first payment and only counts the later ones: the second payment's first byte is not there
pub first_payment_only : (w : AnyWriter) → FirstPaymentOnly w → WriterDemand2 w → ⊥
first_payment_only w same d =
    let out = fresh 6 in
    let n = 4 * line_bytes in
    let before = output_from w w.new paid out in
    let after = output_from w w.new paid_twice out in
    let all : take (6 * line_bytes) after ≡ file_of (lent_first paid_twice out) =
    rw computed.twice_long at (d paid_twice out (paid_twice_whole out)).written in
    let behind : drop n before ≡ drop n out = rw computed.paid_long at (d paid out (paid_whole out)).kept in
    let there : get_or after n 0 ≡ digit_byte 0 =
    sym (get_or-take (6 * line_bytes) after n 0 (lit< tt)) ∙ (ap (λ (l : List ℕ). get_or l n 0) all ∙ computed.twice_fifth) in
    let not_there : get_or before n 0 ≡ 0 = sym (get_or-drop n before 0 0) ∙ ap (λ (l : List ℕ). get_or l 0 0) behind in
    let z : digit_byte 0 ≡ 0 = sym there ∙ (ap (λ (l : List ℕ). get_or l n 0) (same begun credit credit out) ∙ not_there) in
    omega arith
