-- The writer can write every file that the reader accepts: its records, given back call by call, are all accepted, and give the same bytes. So the
-- files that the writer's calls close are exactly those that the reader accepts. Assumes nothing.
use Rattle.std.specs.Prelude.{◌≡◌, ◌↔◌, true, ℕ, suc, ◌+◌, ◌≤◌, ◌<◌, drop, Ok, Option}
use Rattle.std.proofs.Math.Path.{refl, sym, ap, ap₂, subst⁻¹}
use Rattle.std.proofs.Common.{◌∙◌, subst, arith, take-append-drop}
use mathlib.Core.List.{List, [], ◌∷◌, ◌++◌, flatten, append_assoc, append-nil}
use Rattle.std.proofs.Math.Decide.{dec_lt}
use borrow.Author.Tests.{le-leb, lt-ltb, le-ltb}
use Rattle.std.proofs.Math.ListN.{length, length-append}
use Rattle.answer.specs.Limits.{file_cents, most_records}
use Rattle.answer.specs.Rules.{AllKept}
use Rattle.answer.proofs.laws.Order.{never}
use Rattle.answer.specs.Rules.{Answer}
use Rattle.digits.proofs.laws.Numerals.{given_lt}
use Rattle.layout.specs.Pairs.{batch_of}
use Rattle.layout.specs.Field.{part}
use Rattle.layout.specs.Records.{is_one_of}
use Rattle.layout.specs.Table.{file_records, service_field, form_field}
use Rattle.layout.proofs.laws.Bytes.{length_places}
use Rattle.layout.specs.declared.Record.{Record}
use Rattle.layout.specs.declared.Record.TheVariants.{FileHeader, BatchHeader, SegmentZ, BatchTrailer, FileTrailer}
use Rattle.layout.specs.declared.pairs.Batch.{Batch}
use Rattle.fields.specs.Values.{fields_in, of_record}
use Rattle.checker.specs.Order.{payment, ended}
use Rattle.layout.specs.Records.{after}
use Rattle.checker.specs.Totals.{add, cents_of, payment_count, cent_sum}
use Rattle.checker.specs.Line.{record_in, line_from, most_payments}
use Rattle.checker.specs.Machine.{start, next, most_details}
use Rattle.files.specs.File.{lines_of, check_file}
use Rattle.checker.specs.Calls.{at_start, Through, here, further}
use Rattle.checker.proofs.laws.Sums.{together, next_counts}
use Rattle.checker.proofs.laws.Details.{detail_of}
use Rattle.checker.proofs.laws.Asks.{Body}
use Rattle.checker.proofs.laws.Edges.{Moved, stands_moves}
use Rattle.checker.specs.inner.Following.{first_payment, goes_on, pays_behind, pays_behind_z, Follows, heads, first_batch, pays, adds_z, closes_paid, closes_behind_z, next_batch, ends}
use Rattle.checker.proofs.laws.Payments.{phase_behind, brief, head_of, row, stands_in}
use Rattle.checker.specs.inner.Following.{Stands}
use Rattle.checker.proofs.laws.Meaning.{kept_line, next_phase}
use Rattle.checker.proofs.laws.Reached.{reached_kept}
use Rattle.files.proofs.laws.Runs.{lines_joined}
use Rattle.files.proofs.laws.Verdict.{Passed, next_line_no, accepted_file}
use Rattle.layout.specs.declared.shapes.Phase.{Phase}
use Rattle.layout.specs.declared.shapes.Phase.TheVariants.{Start, Headed, Opened, Within, Paid, BehindZ, Closed, Ended}
use Rattle.checker.specs.declared.totals.Totals.{Totals}
use Rattle.files.specs.File.{Outcome}
use Rattle.checker.specs.declared.Checker.{Checker}
use Rattle.writer.specs.Given.{Call, open_file, open_batch, pay, close_batch, close_file, first_in, records_in, records_of, amount_of, amount_in}
use Rattle.filling.specs.Filling.{bytes_of}
use Rattle.writer.specs.Refusals.{turns, records_so_far, kind_given, least_details, trailers, turn_limits, expected_in_payment, expected_in, expected_now, next_by, cents_so_far, sum_rules, size}
use Rattle.writer.specs.inner.Steps.{expected_at}
use Rattle.writer.specs.Outcome.{writer, new_writer, lines_for, behind_all, cursor_behind, answer_of}
use Rattle.writer.specs.Calls.{WholeCalls, no_call, and_call, state_behind, left, lines_if, written, put_in, lent, memory_behind, lent_on, memory}
use Rattle.writer.proofs.laws.Given.{begins_with, as_payment}
use Rattle.writer.proofs.laws.KindGiven.{kind_is}
use Rattle.writer.proofs.laws.Paying.{drop_one}
use Rattle.writer.proofs.laws.Expected.{expected_own, expected_last}
use Rattle.layout.proofs.laws.Records.{itself}
use Rattle.writer.proofs.laws.Turn.{header_turn, batch_turn, trailer_turn, end_turn}
use Rattle.writer.proofs.laws.Accepted.{kept_call, Right, Rights, none, more, rights_kept, rights_whole}
use Rattle.writer.proofs.laws.GivenBack.{bytes_back, right_back}
use Rattle.writer.proofs.laws.Counted.{amount_is}
use Rattle.writer.proofs.laws.Answers.{wrote_length}
use Rattle.writer.proofs.laws.Memory.{cursor_is, memory_is, memory-behind}
use Rattle.writer.proofs.laws.Sequences.{held_kept, file_accepted}
use Rattle.fields.specs.declared.Fields.{Fields}
use Rattle.writer.specs.declared.given.Payment.{Payment}
use Rattle.writer.specs.declared.Writer.{Writer}
use Rattle.promises.specs.Rewriting.{records_read, records_given, AllAccepted, none_refused, accepts, WrittenBack, WrittenBy}
use Rattle.promises.proofs.laws.Behind.{Ends, Goes, goes, at_last}
use Rattle.promises.proofs.laws.Parse.{parsed}
use Rattle.promises.proofs.laws.Ahead.{sum_below, enough_lines}

-- ---- a line's record, given back

-- with its fields as they are read
abbrev back : Record → List ℕ → Fields
back r l = of_record r (fields_in r (record_in l))

module _ {r : Record} {s : Checker} {l : List ℕ} {ls : List (List ℕ)} (g : Goes r s l ls) where
  body : Body r s (record_in l)
  body =
      let f = g.fitting in
      record { fields = f.right.fields; house = f.right.house; numbers = f.numbers; limit = f.limit }

  same_bytes : bytes_of s (back r l) ≡ record_in l
  same_bytes = bytes_back g.fitting.right.long body

  is_right : {expected : List Record} → is_one_of r expected ≡ true → Right expected s (back r l)
  is_right e = right_back g.fitting.right.long body e g.fitting.right.printable

-- ---- records that lines give back, from a state to a state

record Gives (expected : List (List Record)) (s : Checker) (gs : List Fields) (done : List (List ℕ)) (t : Checker) : Type 0 where
  rights : Rights expected s gs
  lines : lines_for s gs ≡ done
  many : length gs ≡ length done
  read : (ls : List (List ℕ)) → records_read s (done ++ ls) ≡ gs ++ records_read t ls
  to : behind_all s gs ≡ t

gives_none : {expected : List (List Record)} {s : Checker} → Gives expected s [] [] s
unfolding lines_for behind_all
gives_none = record { rights = none; lines = refl; many = refl; read = λ ls. refl; to = refl }

gives_more : {expected : List (List Record)} {r : Record} {s t : Checker} {l : List ℕ} {gs : List Fields} {done ls : List (List ℕ)} → Goes r s l ls
    → is_one_of r (expected_now expected) ≡ true → Gives (drop 1 expected) (next r s (record_in l)) gs done t → Gives expected s (back r l ∷ gs) (l ∷ done) t
unfolding lines_for behind_all records_read fields_in
gives_more {expected} {r} {s} {t} {l} {gs} {done} g e y =
    let same = same_bytes g in
    let x : Gives (drop 1 expected) (next_by s (back r l)) gs done t = subst⁻¹ (λ (u : Checker). Gives (drop 1 expected) u gs done t) (ap (next r s) same) y in
    record {
      rights = more (is_right g e) x.rights;
      lines = ap₂ ◌∷◌ (ap line_from same ∙ sym g.fitting.right.ended) x.lines;
      many = omega (arith, x.many);
      read = λ ls. rw (g.read, g.moves) (ap (λ (ds : List Fields). back r l ∷ ds) (y.read ls));
      to = x.to;
    }

-- each counts a record
behind_records : (s : Checker) (gs : List Fields) → records_so_far (behind_all s gs) ≡ records_so_far s + length gs
unfolding behind_all
behind_records s [] = omega arith
behind_records s (g ∷ gs) = omega (arith, behind_records (next_by s g) gs, next_line_no g.which s (bytes_of s g))

-- ---- lines written back from a state of the writer

-- the lines are on the way to the end, the file has few enough, and there is room
record Ready (w : Writer) (ls : List (List ℕ)) (out : List ℕ) : Type 0 where
  on_way : Ends w.checker ls
  few : records_so_far w.checker + length ls ≤ most_records
  room : w.cursor + size (length ls) ≤ length out

record Rewrites (w : Writer) (ls : List (List ℕ)) (out : List ℕ) : Type 0 where
  calls : List Call
  given_back : records_given calls ≡ records_read w.checker ls
  whole : WholeCalls (lent_on w calls out)
  accepted : AllAccepted w (lent_on w calls out)
  closed : (left w (lent_on w calls out)).checker.phase ≡ Ended
  lines : written w (lent_on w calls out) ≡ ls

abbrev Writes : Checker → List (List ℕ) → Type 0
Writes s ls = (at : ℕ) (out : List ℕ) → Ready (writer s at) ls out → Rewrites (writer s at) ls out

-- a call that gives back the next lines
module _ (w : Writer) (c : Call) (out : List ℕ) (ls : List (List ℕ)) {done : List (List ℕ)} {t : Checker} (y : Gives (expected_in c w.checker) w.checker (records_of c) done t)
    (h : Ready w (done ++ ls) out) (turn : AllKept (turn_limits c w.checker)) (sums : AllKept (sum_rules c w.checker)) where
  call_accepted : answer_of w c out ≡ Ok tt
  call_accepted =
      kept_call w c out (record {
        is_held = held_kept (reached_kept h.on_way.reached) (sum_below (done ++ ls) h.on_way);
        first = turn;
        records = rights_kept y.rights;
        sums = sums;
        room = omega (arith, h.room, y.many, length-append done ls);
      })

  state_is : state_behind w (lent c out) ≡ writer t (cursor_behind w (records_of c))
  state_is = rw call_accepted (ap (λ (u : Checker). writer u (cursor_behind w (records_of c))) y.to)

  ready_on : Ends t ls → Ready (writer t (cursor_behind w (records_of c))) ls (memory_behind w (lent c out))
  ready_on e =
      let long = (wrote_length w c out (rights_whole y.rights) call_accepted).long in
      let records : records_so_far t ≡ records_so_far w.checker + length (records_of c) =
      ap records_so_far (sym y.to) ∙ behind_records w.checker (records_of c) in
      let all = length-append done ls in
      record { on_way = e; few = omega (arith, h.few, y.many); room = omega (arith, h.room, y.many) }

  one_call : Ends t ls → Writes t ls → Rewrites w (done ++ ls) out
  unfolding records_given lent_on written left
  one_call e on =
      let mem = memory_behind w (lent c out) in
      let now = on (cursor_behind w (records_of c)) mem (ready_on e) in
      let z : Rewrites (state_behind w (lent c out)) ls mem = subst⁻¹ (λ (x : Writer). Rewrites x ls mem) state_is now in
      let later = z.given_back ∙ ap (λ (x : Writer). records_read x.checker ls) state_is in
      let lines = ap (λ (a : Answer). lines_if a (lines_for w.checker (records_of c))) call_accepted ∙ y.lines in
      record {
        calls = c ∷ z.calls;
        given_back = ap (λ (ds : List Fields). records_of c ++ ds) later ∙ sym (y.read ls);
        whole = and_call (rights_whole y.rights) z.whole;
        accepted = accepts call_accepted z.accepted;
        closed = z.closed;
        lines = ap₂ ◌++◌ lines z.lines;
      }

-- ---- calls with one record

module _ {s : Checker} {l : List ℕ} {ls : List (List ℕ)} where
  opens_file : Goes FileHeader s l ls → Writes (next FileHeader s (record_in l)) ls → Writes s (l ∷ ls)
  unfolding AllKept
  opens_file g on at out h =
      one_call (writer s at) (open_file (back FileHeader l)) out ls (gives_more g refl gives_none) h (header_turn g.follows, tt) tt g.rest on

  opens_batch : Goes BatchHeader s l ls → Writes (next BatchHeader s (record_in l)) ls → Writes s (l ∷ ls)
  unfolding AllKept
  opens_batch g on at out h =
      let kind : batch_of s.dir (part service_field (record_in l)) (part form_field (record_in l)) ≡ kind_given s.dir (back BatchHeader l) =
      rw (same_bytes g) at (kind_is (fields_in BatchHeader (record_in l)) (is_right g {expected = BatchHeader ∷ []} refl)) in
      let few = le-leb (records_so_far s + (1 + least_details (kind_given s.dir (back BatchHeader l)) + trailers)) most_records (rw (← kind) (omega (arith, h.few, enough_lines ls g.rest))) in
      one_call (writer s at) (open_batch (back BatchHeader l)) out ls (gives_more g refl gives_none) h
      (batch_turn g.follows, (le-leb _ _ g.fitting.limit, (few, tt))) tt g.rest on

  closes_batch : Goes BatchTrailer s l ls → Writes (next BatchTrailer s (record_in l)) ls → Writes s (l ∷ ls)
  unfolding AllKept
  closes_batch g on at out h =
      one_call (writer s at) (close_batch (back BatchTrailer l)) out ls (gives_more g refl gives_none) h (trailer_turn g.follows, tt) tt g.rest on

  closes_file : Goes FileTrailer s l ls → Writes (next FileTrailer s (record_in l)) ls → Writes s (l ∷ ls)
  unfolding AllKept
  closes_file g on at out h =
      one_call (writer s at) (close_file (back FileTrailer l)) out ls (gives_more g refl gives_none) h (end_turn g.follows, tt) tt g.rest on

-- ---- payments

-- so many lines are the records of a payment, from a state t to a state s, with other lines behind them: they are given back with what is given back
-- behind them; and the call is in turn, with few enough payments and a sum that fits
record Part (t : Checker) (n : ℕ) (done ls : List (List ℕ)) (s : Checker) : Type 0 where
  first : Fields
  others : List Fields
  many : length (first ∷ others) ≡ n
  gives : (gs : List Fields) (later : List (List ℕ)) (u : Checker) → Gives (drop n (expected_in_payment t)) s gs later u
      → Gives (expected_in_payment t) t ((first ∷ others) ++ gs) (done ++ later) u
  same_dir : s.dir ≡ t.dir
  same_batch : s.batch ≡ t.batch
  may_pay : (turns t.phase).payment ≡ true
  few : payment_count t.current + 1 ≤ most_payments
  sum_fits : cents_so_far t + amount_of first.which first < file_cents
  due : Stands t.batch 0 first.which
  rest : Ends s ls

-- the first
module _ {r : Record} {t : Checker} {l : List ℕ} {ls : List (List ℕ)} (f : Stands t.batch 0 r) (g : Goes r t l ls) where
  sum_of_first : cents_so_far t + amount_of r (back r l) < file_cents
  unfolding add
  sum_of_first =
      let given-amount = amount_is {expected = r ∷ []} r (back r l) (is_right g (itself r)) in
      let amount = ap (cents_of r) (sym (same_bytes g)) ∙ given-amount in
      let more = ap cent_sum (next_counts r t (record_in l)) in
      omega (arith, together r (record_in l), sum_below ls g.rest)

  part_begun : (turns t.phase).payment ≡ true → Part t 1 (l ∷ []) ls (next r t (record_in l))
  part_begun turn =
      let limit = ((detail_of r (row f).type).limits t).1 g.fitting.limit in
      let moved = stands_moves t (record_in l) f in
      record {
        first = back r l;
        others = [];
        many = refl;
        gives = λ gs later u y. gives_more {expected = expected_in_payment t} g (expected_own t.dir f) y;
        same_dir = moved.dir;
        same_batch = moved.batch;
        may_pay = turn;
        few = omega (arith, (row f).begins);
        sum_fits = sum_of_first;
        due = f;
        rest = g.rest;
      }

-- and the next
part_more : {t s : Checker} {n : ℕ} {r : Record} {l : List ℕ} {done ls : List (List ℕ)} → Part t n done (l ∷ ls) s → Goes r s l ls
    → expected_at n t.dir t.batch r ≡ true → Moved s (next r s (record_in l)) (after r) → Part t (suc n) (done ++ l ∷ []) ls (next r s (record_in l))
part_more {t} {s} {n} {r} {l} {done} {ls} x g e m =
    record {
      first = x.first;
      others = x.others ++ back r l ∷ [];
      many = rw length-append (omega (arith, x.many));
      gives = λ gs later u y.
          let z : Gives (drop 1 (drop n (expected_in_payment t))) (next r s (record_in l)) gs later u = rw (drop_one n (expected_in_payment t)) y in
          rw (append_assoc x.others (back r l ∷ []) gs, append_assoc done (l ∷ []) later)
          (x.gives (back r l ∷ gs) (l ∷ later) u (gives_more {expected = drop n (expected_in_payment t)} g e z));
      same_dir = m.dir ∙ x.same_dir;
      same_batch = m.batch ∙ x.same_batch;
      may_pay = x.may_pay;
      few = x.few;
      sum_fits = x.sum_fits;
      due = x.due;
      rest = g.rest;
    }

-- a payment of all its records, or of a Z more
module _ {t s : Checker} {n : ℕ} {done ls : List (List ℕ)} (x : Part t n done ls s) (all : length (payment t.batch) ≤ n) (most : n ≤ most_details) (trailed : trailers ≤ length ls) where
  abbrev gs : List Fields
  gs = x.first ∷ x.others

  paid_by : (p : Payment) × (records_in p ≡ gs)
  paid_by = as_payment t.batch x.first x.others x.due (omega (arith, x.many)) (omega (arith, x.many))

  pays_so : Writes s ls → Writes t (done ++ ls)
  unfolding AllKept
  pays_so on at out h =
      let (p, is) = paid_by in
      let y : Gives (expected_in_payment t) t (records_in p) done s = subst⁻¹ (λ (ds : List Fields). Gives (expected_in_payment t) t ds done s) is (rw (append-nil gs, append-nil done) at (x.gives [] [] s gives_none)) in
      let one : first_in p ≡ x.first = head_of (sym (begins_with p) ∙ is) in
      let long : length (records_in p) ≡ n = ap length is ∙ x.many in
      let few = le-leb (records_so_far t + (length (records_in p) + trailers)) most_records (omega (arith, h.few, y.many, length-append done ls)) in
      let fits : cents_so_far t + amount_in p < file_cents = rw one x.sum_fits in
      one_call (writer t at) (pay p) out ls y h (x.may_pay, (le-leb _ _ x.few, (few, tt))) (lt-ltb (cents_so_far t + amount_in p) file_cents fits, tt) x.rest on

-- ---- line by line, from the last to the first

-- what lines give, by the phase before them: calls; inside a payment, calls together with the payment's records before them
abbrev Rest : Phase → Checker → List (List ℕ) → Type 0
Rest Start s ls = Writes s ls
Rest Headed s ls = Writes s ls
Rest Opened s ls = Writes s ls
Rest (Within n) s ls = (t : Checker) (done : List (List ℕ)) → Part t n done ls s → Writes t (done ++ ls)
Rest Paid s ls = (t : Checker) (done : List (List ℕ)) → Part t (length (payment t.batch)) done ls s → Writes t (done ++ ls)
Rest BehindZ s ls = Writes s ls
Rest Closed s ls = Writes s ls
Rest Ended s ls = Writes s ls

-- behind the record at a position
rest_behind : {n : ℕ} {r : Record} {s : Checker} (t : Checker) (done ls : List (List ℕ)) → Stands t.batch n r → Rest (after r) s ls → Part t (suc n) done ls s
    → Writes t (done ++ ls)
rest_behind {n} {r} {s} t done ls g on x = go (dec_lt (suc n) (length (payment t.batch))) (subst (λ (p : Phase). Rest p s ls) (row g).phase on)
  where
    go : Dec (suc n < length (payment t.batch)) → Rest (phase_behind n t.batch) s ls → Writes t (done ++ ls)
    go (yes h) on = (rw (lt-ltb (suc n) (length (payment t.batch)) h) at on) t done x
    go (no h) on =
        let all : suc n ≡ length (payment t.batch) = omega (arith, stands_in g) in
        (rw (le-ltb (suc n) (length (payment t.batch)) (omega arith)) at on) t done (subst (λ (m : ℕ). Part t m done ls s) all x)

module _ (s : Checker) (l : List ℕ) (ls : List (List ℕ)) where
  begins : {r : Record} → Stands s.batch 0 r → (turns s.phase).payment ≡ true → Goes r s l ls → Rest (after r) (next r s (record_in l)) ls → Writes s (l ∷ ls)
  begins f turn g on = rest_behind s (l ∷ []) ls f on (part_begun f g turn)

  -- the payment is made, and calls go on
  made : s.phase ≡ Paid → Writes s (l ∷ ls) → Rest Paid s (l ∷ ls)
  made q on t done x = pays_so x (omega arith) (omega (arith, brief t.batch)) (rw q at (enough_lines (l ∷ ls) x.rest)) on

  by_edge : {p : Phase} {r : Record} → s.phase ≡ p → Follows s.dir s.batch p r → Goes r s l ls → Rest (after r) (next r s (record_in l)) ls → Rest p s (l ∷ ls)
  by_edge q heads g on = opens_file g on
  by_edge q first_batch g on = opens_batch g on
  by_edge q (pays first_payment f) g on = begins f (rw q) g on
  by_edge {r = r} q (pays (goes_on {n}) f) g on = λ t done x.
      let there = subst (λ (b : Option Batch). Stands b n r) x.same_batch f in
      let m = stands_moves s (record_in l) f in
      let moved : Moved s (next r s (record_in l)) (after r) = rw (row f).phase m in
      subst (Writes t) (append_assoc done (l ∷ []) ls) (rest_behind t (done ++ l ∷ []) ls there on (part_more x g (expected_own t.dir there) moved))
  by_edge q (adds_z e) g on = λ t done x.
      let z = expected_last t.dir t.batch (omega (arith, stands_in x.due)) (sym x.same_dir ∙ e) in
      let moved : Moved s (next SegmentZ s (record_in l)) BehindZ = record { phase = refl; dir = refl; batch = refl } in
      subst (Writes t) (append_assoc done (l ∷ []) ls)
      (pays_so (part_more x g z moved) (omega arith) (omega (arith, brief t.batch)) (enough_lines ls g.rest) on)
  by_edge q (pays pays_behind f) g on = made q (begins f (rw q) g on)
  by_edge q (pays pays_behind_z f) g on = begins f (rw q) g on
  by_edge q closes_paid g on = made q (closes_batch g on)
  by_edge q closes_behind_z g on = closes_batch g on
  by_edge q next_batch g on = opens_batch g on
  by_edge q ends g on = closes_file g on

nothing_left : (p : Phase) (s : Checker) → s.phase ≡ p → ended p ≡ true → Rest p s []
unfolding records_given records_read lent_on written left
nothing_left Start s q e = never e
nothing_left Headed s q e = never e
nothing_left Opened s q e = never e
nothing_left (Within n) s q e = never e
nothing_left Paid s q e = never e
nothing_left BehindZ s q e = never e
nothing_left Closed s q e = never e
nothing_left Ended s q e = λ at out h. record { calls = []; given_back = refl; whole = no_call; accepted = none_refused; closed = q; lines = refl }

rewritten : (ls : List (List ℕ)) {s : Checker} → Ends s ls → Rest s.phase s ls
rewritten [] {s} e = nothing_left s.phase s refl (at_last e)
rewritten (l ∷ ls) {s} e =
    let (r, g) = goes e in
    by_edge s l ls refl g.follows g (subst (λ (p : Phase). Rest p (next r s (record_in l)) ls) (next_phase r s (record_in l)) (rewritten ls g.rest))

-- ---- a file

through_size : {s t : Checker} {ls : List (List ℕ)} → Through s ls t → length (flatten ls) ≡ size (length ls)
unfolding flatten
through_size here = refl
through_size (further {s} {l = l} {ls} k on) = length-append l (flatten ls) ∙ omega (arith, (kept_line s l k).1.long, through_size on)

module _ {ls : List (List ℕ)} {t : Totals} (p : Passed start ls t) where
  -- the file trailer has six digits for the number of its lines
  few_lines : length ls ≤ most_records
  few_lines =
      let f = parsed p.through p.at_end in
      let six = length_places file_records.from file_records.to (record_in f.trailer) (omega (arith, f.trailer_right.right.long)) in
      let most = given_lt (part file_records (record_in f.trailer)) (length ls) f.records_counted in
      omega (arith, rw six at most)

module _ (file out : List ℕ) (t : Totals) (e : check_file file ≡ Ok t) (room : length file ≤ length out) where
  all_rewritten : Rewrites new_writer (lines_of file) out
  all_rewritten =
      let p = (accepted_file file t).0 e in
      let long = ap length (sym (lines_joined file)) ∙ through_size p.through in
      let way : Ends start (lines_of file) = record { reached = at_start; to = p.to; through = p.through; at_end = p.at_end } in
      rewritten (lines_of file) way 0 out (record { on_way = way; few = omega (arith, few_lines p); room = omega arith })

  -- the theorem: with room for the file, its records are all accepted again, and give the same bytes
  pub written_back : WrittenBack file out
  written_back =
      let z = all_rewritten in
      let ks = lent_on new_writer z.calls out in
      let same = ap flatten z.lines ∙ lines_joined file in
      let at = (left new_writer ks).cursor in
      let behind = memory-behind z.calls out z.whole ∙ ap (λ (n : ℕ). drop n out) (cursor_is ks z.whole ∙ ap length same) in
      record {
        calls = z.calls;
        given_back = z.given_back;
        whole = z.whole;
        accepted = z.accepted;
        closed = z.closed;
        same_file = same;
        same_memory = sym (take-append-drop at (memory new_writer z.calls out)) ∙ ap₂ ◌++◌ (memory_is z.calls out z.whole ∙ same) behind;
      }

-- ---- the files that calls close, and the reader's

one_total : {o : Outcome} {t u : Totals} → o ≡ Ok t → o ≡ Ok u → t ≡ u
one_total p q = cc

module _ (file : List ℕ) (t : Totals) where
  to_writer : check_file file ≡ Ok t → WrittenBy file t
  to_writer e =
      let b = written_back file file t e (omega arith) in
      let ks = lent_on new_writer b.calls file in
      let again = subst (λ (bs : List ℕ). check_file bs ≡ Ok (put_in new_writer ks)) b.same_file (file_accepted ks b.whole b.closed) in
      record { calls = ks; whole = b.whole; closed = b.closed; is = b.same_file; counted = one_total again e }

  to_reader : WrittenBy file t → check_file file ≡ Ok t
  to_reader w =
      subst (λ (bs : List ℕ). check_file bs ≡ Ok t) w.is (file_accepted w.calls w.whole w.closed ∙ ap Ok w.counted)

  -- the theorem: the reader accepts exactly the files that calls write and close, with the totals that they put in
  pub written_exactly : check_file file ≡ Ok t ↔ WrittenBy file t
  written_exactly = (to_writer, to_reader)
