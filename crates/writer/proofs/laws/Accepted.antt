-- What an accepted call keeps. Assumes nothing.
use Rattle.std.specs.Prelude.{◌≡◌, true, List, [], ◌∷◌, ◌++◌, ℕ, ◌≤◌, length, drop, Ok}
use Rattle.std.proofs.Common.{leb-true, le-leb}
use Rattle.answer.specs.Rules.{Rule, first_broken, AllKept, rules_on_line}
use Rattle.answer.proofs.laws.Order.{none_kept, more_kept, kept_accepted, accepted_kept, kept_front, kept_behind, kept_join}
use Rattle.answer.specs.declared.LineNo.{LineNo}
use Rattle.layout.specs.Table.{fields_of}
use Rattle.layout.specs.Records.{is_one_of}
use Rattle.layout.specs.Record.{rules_of, all_printable}
use Rattle.layout.specs.declared.Record.{Record}
use Rattle.fields.specs.declared.Fields.{Fields}
use Rattle.checker.specs.Line.{house_rules}
use Rattle.checker.specs.Machine.{line_of}
use Rattle.checker.specs.declared.Checker.{Checker}
use Rattle.writer.specs.Given.{Call, records_of}
use Rattle.filling.specs.Filling.{bytes_of}
use Rattle.writer.specs.Refusals.{turn_limits, expected_in, expected_now, given_rules, given_on_line, next_by, all_given, sum_rules, last_rules, held, call_rules}
use Rattle.writer.specs.Outcome.{answer_of, cursor_behind}
use Rattle.fields.specs.Values.{Whole}
use Rattle.writer.specs.Calls.{AllWhole, no_more, and_then}
use Rattle.writer.specs.declared.Writer.{Writer}

-- every rule of the call, as facts
pub record Kept (w : Writer) (c : Call) (out : List ℕ) : Type 0 where
  pub is_held : held w.checker ≡ true
  pub first : AllKept (turn_limits c w.checker)
  pub records : AllKept (all_given (expected_in c w.checker) w.checker (records_of c))
  pub sums : AllKept (sum_rules c w.checker)
  pub room : cursor_behind w (records_of c) ≤ length out

-- rules on a line are kept as they are on none
pub off_line : (line : LineNo) (rs : List Rule) → AllKept (rules_on_line line rs) → AllKept rs
unfolding AllKept
off_line line [] k = tt
off_line line (r ∷ rs) k = (k.0, off_line line rs k.1)

pub on_line : (line : LineNo) (rs : List Rule) → AllKept rs → AllKept (rules_on_line line rs)
unfolding AllKept
on_line line [] k = tt
on_line line (r ∷ rs) k = (k.0, on_line line rs k.1)

pub kept : (w : Writer) (c : Call) (out : List ℕ) → answer_of w c out ≡ Ok tt → Kept w c out
unfolding AllKept answer_of call_rules
kept w c out e =
    let s = w.checker in
    let all = accepted_kept (call_rules w c out) e in
    let limits = rules_on_line (line_of s) (turn_limits c s) in
    let records = all_given (expected_in c s) s (records_of c) in
    let last = rules_on_line (line_of s) (last_rules c w out) in
    let more = kept_behind limits (records ++ last) all.1 in
    let ends = off_line (line_of s) (last_rules c w out) (kept_behind records last more) in
    record {
      is_held = all.0;
      first = off_line (line_of s) (turn_limits c s) (kept_front limits (records ++ last) all.1);
      records = kept_front records last more;
      sums = kept_front (sum_rules c s) _ ends;
      room = leb-true _ _ (kept_behind (sum_rules c s) _ ends).0;
    }

-- and what keeps them is accepted
pub kept_call : (w : Writer) (c : Call) (out : List ℕ) → Kept w c out → answer_of w c out ≡ Ok tt
unfolding answer_of call_rules
kept_call w c out k =
    let s = w.checker in
    let last = kept_join (sum_rules c s) _ k.sums (more_kept _ _ (le-leb _ _ k.room) none_kept) in
    kept_accepted _
    (more_kept _ _ k.is_held
    (kept_join _ _ (on_line (line_of s) (turn_limits c s) k.first) (kept_join _ _ k.records (on_line (line_of s) (last_rules c w out) last))))

-- ---- the records

-- of their rules, those of the first, what is expected there, and those of the others
module _ (expected : List (List Record)) (s : Checker) (g : Fields) (gs : List Fields) (k : AllKept (all_given expected s (g ∷ gs))) where
  first_kept : AllKept (given_rules (is_one_of g.which (expected_now expected)) g.which s.dir (bytes_of s g))
  unfolding all_given
  first_kept = off_line (line_of s) _ (kept_front (given_on_line (is_one_of g.which (expected_now expected)) s g) _ k)

  pub first_expected : is_one_of g.which (expected_now expected) ≡ true
  unfolding AllKept given_rules
  first_expected = first_kept.1.0

  pub later_kept : AllKept (all_given (drop 1 expected) (next_by s g) gs)
  unfolding all_given
  later_kept = kept_behind (given_on_line (is_one_of g.which (expected_now expected)) s g) _ k

-- a record is well made: whole fields, its bytes, and its fields as they are written
pub record WellMade (s : Checker) (g : Fields) : Type 0 where
  pub whole : Whole g
  pub printable : all_printable (bytes_of s g) ≡ true
  pub fields : first_broken (rules_of (fields_of g.which) s.dir (bytes_of s g)) ≡ Ok tt

-- it is right: the kind that is expected too, and what the house asks
pub record Right (expected : List Record) (s : Checker) (g : Fields) : Type 0 where
  pub well : WellMade s g
  pub is_expected : is_one_of g.which expected ≡ true
  pub house : AllKept (house_rules g.which (bytes_of s g))

pub data Rights : List (List Record) → Checker → List Fields → Type 0 where
  none : {expected : List (List Record)} {s : Checker} → Rights expected s []
  more : {expected : List (List Record)} {s : Checker} {g : Fields} {gs : List Fields}
      → Right (expected_now expected) s g → Rights (drop 1 expected) (next_by s g) gs → Rights expected s (g ∷ gs)

right : (expected : List Record) (s : Checker) (g : Fields) → Whole g
    → AllKept (given_rules (is_one_of g.which expected) g.which s.dir (bytes_of s g)) → Right expected s g
unfolding AllKept given_rules
right expected s g whole k =
    let fields = rules_of (fields_of g.which) s.dir (bytes_of s g) in
    let house = house_rules g.which (bytes_of s g) in
    record {
      well = record { whole = whole; printable = k.0; fields = kept_accepted fields (kept_front fields house k.1.1) };
      is_expected = k.1.0;
      house = kept_behind fields house k.1.1;
    }

pub rights : (expected : List (List Record)) (s : Checker) {gs : List Fields} → AllWhole gs → AllKept (all_given expected s gs) → Rights expected s gs
rights expected s no_more k = none
rights expected s (and_then {g} {gs} whole wholes) k =
    more (right (expected_now expected) s g whole (first_kept expected s g gs k)) (rights (drop 1 expected) (next_by s g) wholes (later_kept expected s g gs k))

-- and the other way: the rules of a right record, and of right records, are kept
right_kept : {expected : List Record} {s : Checker} {g : Fields} → Right expected s g
    → AllKept (given_rules (is_one_of g.which expected) g.which s.dir (bytes_of s g))
unfolding given_rules
right_kept t = more_kept _ _ t.well.printable (more_kept _ _ t.is_expected (kept_join _ _ (accepted_kept _ t.well.fields) t.house))

pub rights_kept : {expected : List (List Record)} {s : Checker} {gs : List Fields} → Rights expected s gs → AllKept (all_given expected s gs)
unfolding all_given
rights_kept none = none_kept
rights_kept (more {s = s} t ts) = kept_join _ _ (on_line (line_of s) _ (right_kept t)) (rights_kept ts)

pub rights_whole : {expected : List (List Record)} {s : Checker} {gs : List Fields} → Rights expected s gs → AllWhole gs
rights_whole none = no_more
rights_whole (more t ts) = and_then t.well.whole (rights_whole ts)
