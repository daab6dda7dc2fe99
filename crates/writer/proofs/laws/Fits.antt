-- What 20, 23 and 25 are for: in every state that calls leave, the file has room for the records that close it, and the numbers that the writer fills
-- fit their fields. Assumes nothing.
use Rattle.std.specs.Prelude.{◌≡◌, refl, true, List, [], ◌∷◌, ℕ, ◌+◌, ◌-◌, ◌^◌, ◌≤◌, ◌<◌, length, Err, Ok, Option}
use Rattle.std.proofs.Common.{ap, ⊎_elim, arith, leb-true, lit<, lit≤, length-take}
use Rattle.answer.specs.Limits.{most_records}
use Rattle.answer.specs.Rules.{AllKept}
use Rattle.answer.specs.Rules.{Answer}
use Rattle.digits.proofs.laws.Numerals.{value_lt}
use Rattle.layout.specs.Field.{part}
use Rattle.layout.specs.Table.{bank_field}
use Rattle.layout.specs.declared.Direction.{Direction}
use Rattle.layout.specs.declared.pairs.Batch.{Batch}
use Rattle.layout.specs.declared.Record.{Record}
use Rattle.layout.specs.declared.Record.TheVariants.{FileHeader, BatchHeader, BatchTrailer, FileTrailer}
use Rattle.layout.specs.declared.shapes.LineType.{LineType}
use Rattle.layout.specs.declared.shapes.LineType.TheVariants.{FileFirst, BatchFirst, Detail, BatchLast, FileLast}
use Rattle.layout.specs.Records.{shape_of}
use Rattle.fields.specs.Values.{taken_as}
use Rattle.fields.specs.declared.Fields.{Fields}
use Rattle.checker.specs.Totals.{add, batch_count, cent_sum, record_count}
use Rattle.checker.specs.Line.{ordinal}
use Rattle.checker.specs.Machine.{next_of_type, next, most_details}
use Rattle.checker.proofs.laws.Payments.{row}
use Rattle.checker.specs.inner.Following.{Follows, heads, pays, closes_paid, closes_behind_z, ends}
use Rattle.checker.proofs.laws.Kept.{kept_bounded}
use Rattle.checker.proofs.laws.Reached.{reached_kept}
use Rattle.layout.specs.declared.shapes.Phase.{Phase}
use Rattle.layout.specs.declared.shapes.Phase.TheVariants.{Start, Headed, Opened, Within, Paid, BehindZ, Closed, Ended}
use Rattle.checker.specs.declared.totals.Totals.{Totals}
use Rattle.checker.specs.declared.Checker.{Checker}
use Rattle.writer.specs.Given.{Call, open_file, open_batch, pay, close_batch, close_file, records_in, records_of}
use Rattle.filling.specs.Filling.{bytes_of}
use Rattle.writer.specs.Refusals.{turns, records_so_far, kind_given, least_details, trailers, turn_limits, expected_in_payment, expected_in, next_by, all_given}
use Rattle.writer.specs.Outcome.{new_writer, behind_all, state_after, answer_of}
use Rattle.writer.specs.Calls.{AllWhole, Lent, WholeCalls, no_call, and_call, put_by, state_behind, left, lent}
use Rattle.writer.proofs.laws.Sound.{as_held}
use Rattle.writer.proofs.laws.Turn.{in_turn}
use Rattle.writer.proofs.laws.Accepted.{kept, Rights, none, more, rights}
use Rattle.writer.proofs.laws.KindGiven.{kind_is}
use Rattle.writer.proofs.laws.Counted.{call_counted}
use Rattle.writer.proofs.laws.Sequences.{checker_reached, never_guarded}
use Rattle.writer.proofs.laws.Ended.{phase_by, phase_after, paid_phase}
use Rattle.writer.specs.declared.given.Payment.{Payment}
use Rattle.writer.specs.declared.Writer.{Writer}

-- ---- room for the records that close the file

-- how many they are at least, by phase and kind of batch
abbrev pub reserve : Phase → Option Batch → ℕ
reserve Start b = 2
reserve Headed b = 1
reserve Opened b = least_details b + trailers
reserve (Within n) b = (least_details b - n) + trailers
reserve Paid b = trailers
reserve BehindZ b = trailers
reserve Closed b = 1
reserve Ended b = 0

abbrev Roomy : Checker → Type 0
Roomy s = records_so_far s + reserve s.phase s.batch ≤ most_records

-- where the file header, a batch trailer and the file trailer may follow
header_reserve : {d : Direction} {b : Option Batch} {p : Phase} → Follows d b p FileHeader → reserve p b ≡ 2
header_reserve heads = refl
header_reserve (pays x g) = absurd (omega (arith, (row g).type))

trailer_reserve : {d : Direction} {b : Option Batch} {p : Phase} → Follows d b p BatchTrailer → reserve p b ≡ trailers
trailer_reserve (pays x g) = absurd (omega (arith, (row g).type))
trailer_reserve closes_paid = refl
trailer_reserve closes_behind_z = refl

end_reserve : {d : Direction} {b : Option Batch} {p : Phase} → Follows d b p FileTrailer → reserve p b ≡ 1
end_reserve (pays x g) = absurd (omega (arith, (row g).type))
end_reserve ends = refl

paid_reserve : (s : Checker) (p : Payment) (b : Option Batch) → AllKept (all_given (expected_in_payment s) s (records_in p)) → reserve (phase_by s (pay p)) b ≡ trailers
paid_reserve s p b k = ⊎_elim (λ q. rw q) (λ q. rw q) (paid_phase s p k)

-- the kind of batch that a call leaves open: a header opens the one that it is given
abbrev Opens : Call → Checker → Option Batch → Type 0
Opens (open_file v) s b = Unit {0}
Opens (open_batch v) s b = b ≡ kind_given s.dir (taken_as BatchHeader v)
Opens (pay p) s b = Unit {0}
Opens (close_batch v) s b = Unit {0}
Opens (close_file v) s b = Unit {0}

opens : (s : Checker) (c : Call) → Rights (expected_in c s) s (records_of c) → Opens c s (behind_all s (records_of c)).batch
unfolding behind_all
opens s (open_file v) rs = tt
opens s (open_batch v) (more t none) = kind_is (taken_as BatchHeader v) t
opens s (pay p) rs = tt
opens s (close_batch v) rs = tt
opens s (close_file v) rs = tt

turn_room : (c : Call) (s : Checker) (b : Option Batch) → AllKept (turn_limits c s) → AllKept (all_given (expected_in c s) s (records_of c)) → Opens c s b → Roomy s
    → records_so_far s + (put_by c).records.0 + reserve (phase_by s c) b ≤ most_records
unfolding AllKept
turn_room (open_file v) s b k rs q h = omega (arith, header_reserve ((in_turn s.phase s.dir s.batch).header k.0))
turn_room (open_batch v) s b k rs q h = rw q (omega (arith, leb-true (records_so_far s + (1 + least_details (kind_given s.dir (taken_as BatchHeader v)) + trailers)) most_records k.1.1.0))
turn_room (pay p) s b k rs q h = omega (arith, leb-true (records_so_far s + (length (records_in p) + trailers)) most_records k.1.1.0, paid_reserve s p b rs)
turn_room (close_batch v) s b k rs q h = omega (arith, trailer_reserve ((in_turn s.phase s.dir s.batch).trailer k.0))
turn_room (close_file v) s b k rs q h = omega (arith, end_reserve ((in_turn s.phase s.dir s.batch).end k.0))

call_roomy : (w : Writer) (c : Call) (out : List ℕ) → AllWhole (records_of c) → Roomy w.checker → Roomy (state_behind w (lent c out)).checker
unfolding add
call_roomy w c out whole h = go (answer_of w c out) refl
  where
    go : (a : Answer) → answer_of w c out ≡ a → Roomy (state_after a w (records_of c)).checker
    go (Ok tt) e =
        let records = ap (λ (t : Totals). t.records.0) (call_counted w c out whole e) in
        let phase : (behind_all w.checker (records_of c)).phase ≡ phase_by w.checker c = rw e at (phase_after w c out e) in
        let k = kept w c out e in
        let open-now = opens w.checker c (rights (expected_in c w.checker) w.checker whole k.records) in
        rw phase (omega (arith, turn_room c w.checker (behind_all w.checker (records_of c)).batch k.first k.records open-now h))
    go (Err r) e = h

calls_roomy : (w : Writer) {ls : List Lent} → WholeCalls ls → Roomy w.checker → Roomy (left w ls).checker
unfolding left
calls_roomy w no_call h = h
calls_roomy w (and_call {l} whole hs) h = calls_roomy (state_behind w l) hs (call_roomy w l.call l.out whole h)

pub room_left : (ls : List Lent) → WholeCalls ls → records_so_far (left new_writer ls).checker + reserve (left new_writer ls).checker.phase (left new_writer ls).checker.batch ≤ most_records
room_left ls h = calls_roomy new_writer h (lit≤ tt)

-- ---- the bank has three digits

next_bank : (s : Checker) (r : Record) (rec : List ℕ) → s.bank < 10 ^ 3 → (next r s rec).bank < 10 ^ 3
next_bank s r rec h = go (shape_of r).line
  where
    go : (t : LineType) → (next_of_type t (shape_of r) s rec).bank < 10 ^ 3
    go FileFirst = value_lt 3 (part bank_field rec) (rw length-take (omega arith))
    go BatchFirst = h
    go Detail = h
    go BatchLast = h
    go FileLast = h

all_bank : (s : Checker) (gs : List Fields) → s.bank < 10 ^ 3 → (behind_all s gs).bank < 10 ^ 3
unfolding behind_all
all_bank s [] h = h
all_bank s (g ∷ gs) h = all_bank (next_by s g) gs (next_bank s g.which (bytes_of s g) h)

call_bank : (a : Answer) (w : Writer) (gs : List Fields) → w.checker.bank < 10 ^ 3 → (state_after a w gs).checker.bank < 10 ^ 3
call_bank (Ok tt) w gs h = all_bank w.checker gs h
call_bank (Err r) w gs h = h

calls_bank : (w : Writer) (ls : List Lent) → w.checker.bank < 10 ^ 3 → (left w ls).checker.bank < 10 ^ 3
unfolding left
calls_bank w [] h = h
calls_bank w (l ∷ ls) h = calls_bank (state_behind w l) ls (call_bank (answer_of w l.call l.out) w (records_of l.call) h)

-- ---- so what the writer fills fits its fields: 8 is never the writer's own fault

pub record OwnFits (s : Checker) : Type 0 where
  pub bank : s.bank < 10 ^ 3
  pub batch : ordinal s < 10 ^ 4
  pub number : record_count s.current + most_details < 10 ^ 5
  pub batch-records : record_count s.current + 1 < 10 ^ 6
  pub batch-sum : cent_sum s.current < 10 ^ 18
  pub file-batches : batch_count s.closed < 10 ^ 6
  pub file-records : (turns s.phase).end ≡ true → record_count s.closed + 1 < 10 ^ 6

pub own_fits : (ls : List Lent) → WholeCalls ls → OwnFits (left new_writer ls).checker
own_fits ls h =
    let s = (left new_writer ls).checker in
    let b = kept_bounded (reached_kept (checker_reached ls h)) in
    let c = (as_held s (never_guarded ls h)).cents in
    let r = room_left ls h in
    record {
      bank = calls_bank new_writer ls (lit< tt);
      batch = omega arith;
      number = omega arith;
      batch-records = omega arith;
      batch-sum = omega arith;
      file-batches = omega arith;
      file-records = λ e. let one = end_reserve ((in_turn s.phase s.dir s.batch).end e) in omega arith;
    }
