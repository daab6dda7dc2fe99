-- Records that are tried, one behind the other. Assumes nothing.
use Rattle.std.specs.Prelude.{Result, IsErr, IsErrAnd, Err, Ok}
use mathlib.Core.Path.{◌≡◌, refl, sym, ap, ◌∙◌}
use Rattle.std.proofs.Common.{subst}
use Rattle.answer.proofs.laws.Leaving.{left_with}
use mathlib.Core.Bool.{Bool, true, false, cond}
use mathlib.Core.List.{List, [], ◌∷◌, ◌++◌, append-nil, append_assoc}
use Prim.Native.Nat.{ℕ, zero, suc, ◌+◌, ◌≤◌, ◌<◌}
use native.Mathlib.Numerals.{add-one}
use native.Mathlib.Omega.{arith}
use borrow.Author.Tests.{le-leb}
use lib.ListN.{length, get_or, take, drop, set, length-set, drop_of_length-le}
use lib.Seq.{take-suc-set}
use Rattle.answer.specs.Rules.{Rule, rule, AllKept, first_broken, on_line, no_line, refused_as}
use Rattle.answer.specs.declared.LineNo.{LineNo}
use Rattle.answer.specs.declared.Refusal.{Refusal}
use Rattle.answer.specs.Rules.{Answer}
use Rattle.answer.proofs.laws.Order.{never_refused, past, done, first_on_line, one_then, here, gone_on, stopped, accepted_kept, kept_accepted}
use Rattle.layout.specs.Records.{is_one_of}
use Rattle.layout.specs.Table.{segment_place, fields_of, record_bytes}
use Rattle.layout.specs.Record.{rules_of, byte_rule}
use Rattle.layout.specs.declared.Direction.{Direction}
use Rattle.layout.specs.declared.Record.{Record}
use Rattle.fields.specs.Values.{record_of, made_of, Puts}
use Rattle.fields.proofs.laws.Parts.{record_length}
use Rattle.fields.proofs.laws.Marks.{made_answer}
use Rattle.fields.specs.declared.Fields.{Fields}
use Rattle.fields.specs.declared.writing.Made.{Made}
use Rattle.checker.specs.Line.{house_rules, line_from}
use Rattle.checker.specs.Machine.{line_of, sound, step_of, most_details}
use Rattle.checker.proofs.laws.Meaning.{off_line_accepted}
use Rattle.checker.specs.declared.Checker.{Checker}
use Rattle.checker.specs.declared.Stepped.{Stepped}
use Rattle.filling.specs.Filling.{filled, bytes_of}
use Rattle.writer.specs.Refusals.{expected_in_payment, expected_now, given_rules, given_on_line, next_by, all_given}
use Rattle.writer.specs.Outcome.{lines_for, behind_all}
use Rattle.fields.specs.Values.{Whole}
use Rattle.writer.specs.Given.{records_in}
use Rattle.writer.proofs.Lent.{lines_and}
use Rattle.layout.proofs.laws.Records.{itself}
use Rattle.writer.proofs.laws.Given.{some_few, from_position}
use Rattle.writer.proofs.laws.Paying.{Inside, before, inside_next, drop_one}
use Rattle.filling.proofs.laws.Filled.{filled_which}
use Rattle.writer.proofs.laws.Lines.{full_text}
use Rattle.writer.proofs.laws.Accepted.{off_line, WellMade, Right}
use Rattle.writer.proofs.laws.TakesLine.{steps_by_house, takes}
use Rattle.writer.specs.inner.Steps.{kind_answer, MayTry, Tries, line_with, lines_with, AllRight, none_made, one_more, nth_in, expected_at, TriesPayment, MayPay}
use Rattle.writer.specs.declared.given.Payment.{Payment}
use Rattle.writer.specs.declared.records.Tried.{Tried}

-- ---- one record

-- before the house rules: its bytes, whether it is one that is expected, and its fields
abbrev asked : Bool → Record → Direction → List ℕ → List Rule
asked expected r d rec = byte_rule rec ∷ rule 11 segment_place expected ∷ rules_of (fields_of r) d rec

-- that is what the check of a record that is made answers
kind_is : (expected : Bool) (r : Record) (d : Direction) (v : Fields) → length v.text ≡ record_bytes → kind_answer expected (made_of r d v) v r ≡ first_broken (asked expected r d (record_of r v))
unfolding made_of first_broken
kind_is true r d v full = made_answer r d v full
kind_is false r d v full =
    let fields = rules_of (fields_of r) d (record_of r v) in
    one_then (byte_rule (record_of r v)) (rule 11 segment_place false ∷ fields) (refused_as 11 segment_place) (here 11 segment_place false fields refl)

made_bytes : (r : Record) (d : Direction) (v : Fields) → (made_of r d v).answer ≡ Ok tt → (made_of r d v).bytes ≡ record_of r v
unfolding made_of
made_bytes r d v e = rw e

-- a refusal on a line is one without it
refused_on_line : (line : LineNo) (a : Answer) {y : Refusal} → on_line line a ≡ Err y → (x : Refusal) × (a ≡ Err x)
refused_on_line line (Ok tt) e = never_refused e
refused_on_line line (Err x) e = (x, refl)

-- a record that is refused makes nothing
tries_not : (expected : Bool) (s : Checker) (g : Fields) {y : Refusal} {r : Result (Tried Made) Refusal} → IsErr r × IsErrAnd r (λ z. z ≡ y)
    → Err y ≡ first_broken (given_on_line expected s g) → Tries expected s g r
tries_not expected s g {y} out e = subst (Tries expected s g) (sym (left_with out)) (record { answered = e; makes = tt })

-- what is made of fields that are filled, and what its check answers
pub made_filled : (s : Checker) (g : Fields) {f : Fields} {d : Direction} {m : Made} → f ≡ filled g.which s g → d ≡ s.dir → m ≡ made_of f.which d f
    → m ≡ made_of g.which s.dir (filled g.which s g)
made_filled s g e p q = q ∙ rw (p, e, filled_which g.which s g)

pub checked_filled : (expected : Bool) (s : Checker) (g : Fields) (m : Made) {f : Fields} {right : Answer} → f ≡ filled g.which s g → right ≡ kind_answer expected m f f.which
    → right ≡ kind_answer expected m (filled g.which s g) g.which
checked_filled expected s g m e q =
    q ∙ ap (λ (x : Fields). kind_answer expected m x x.which) e ∙ ap (kind_answer expected m (filled g.which s g)) (filled_which g.which s g)

module _ (expected : Bool) (s : Checker) (g : Fields) (whole : Whole g) {m : Made} (e : m ≡ made_of g.which s.dir (filled g.which s g))
    {right : Answer} (q : right ≡ kind_answer expected m (filled g.which s g) g.which) where
  abbrev v : Fields
  v = filled g.which s g

  abbrev rules : List Rule
  rules = asked expected g.which s.dir (bytes_of s g)

  abbrev house : List Rule
  house = house_rules g.which (bytes_of s g)

  right_is : right ≡ first_broken rules
  right_is = q ∙ rw e (kind_is expected g.which s.dir v (full_text s g whole))

  all_rules : first_broken (given_on_line expected s g) ≡ on_line (line_of s) (first_broken (rules ++ house))
  unfolding given_rules
  all_rules = first_on_line (line_of s) (rules ++ house)

  -- what the record's own check answers, on its line, is that of all rules where it refuses
  pub tried_refused : {lined : Answer} {line : LineNo} {y : Refusal} {r : Result (Tried Made) Refusal} → sound s ≡ true → line ≡ cond (sound s) (line_of s) no_line
      → lined ≡ on_line line right → lined ≡ Err y → IsErr r × IsErrAnd r (λ z. z ≡ y) → Tries expected s g r
  tried_refused {lined} {line} {y} ok n l was out =
      let (x, f) = refused_on_line line right (sym l ∙ was) in
      tries_not expected s g out (sym was ∙ l ∙ rw (n, ok) (ap (on_line (line_of s)) (f ∙ stopped rules house x (sym right_is ∙ f)) ∙ sym all_rules))

  module _ (may : MayTry expected g.which s) (a : right ≡ Ok tt) where
    kept : AllKept rules
    kept = accepted_kept rules (sym right_is ∙ a)

    is_expected : expected ≡ true
    unfolding AllKept
    is_expected = kept.1.0

    well : WellMade s g
    unfolding AllKept
    well = record { whole = whole; printable = kept.0; fields = kept_accepted _ kept.1.1 }

    m_right : m.answer ≡ Ok tt
    m_right = sym (q ∙ rw is_expected) ∙ a

    bytes_are : m.bytes ≡ bytes_of s g
    bytes_are = ap (λ (x : Made). x.bytes) e ∙ made_bytes g.which s.dir v (sym (ap (λ (x : Made). x.answer) e) ∙ m_right)

    -- then the checker's step answers the rest
    module _ {x : Stepped} {line : List ℕ} (st : x ≡ step_of s line) (l : line ≡ line_from m.bytes) where
      is : x ≡ step_of s (line_from (bytes_of s g))
      is = rw (st, l, bytes_are)

      by-house : x.answer ≡ on_line (line_of s) (first_broken house)
      by-house = ap (λ (y : Stepped). y.answer) is ∙ steps_by_house well (may.follows is_expected) may.is_sound (may.limit is_expected)

      by-all : x.answer ≡ first_broken (given_on_line expected s g)
      by-all = by-house ∙ rw (gone_on rules house (sym right_is ∙ a)) (sym all_rules)

      pub step_refused : {y : Refusal} {r : Result (Tried Made) Refusal} → x.answer ≡ Err y → IsErr r × IsErrAnd r (λ z. z ≡ y) → Tries expected s g r
      step_refused was out = tries_not expected s g out (sym was ∙ by-all)

      pub step_accepted : x.answer ≡ Ok tt → Tries expected s g (Ok (record { checker = x.state; made = m }))
      step_accepted h =
          let kept-house = accepted_kept house (off_line_accepted (line_of s) (first_broken house) (sym by-house ∙ h)) in
          let ruled : Right (g.which ∷ []) s g = record { well = well; is_expected = itself g.which; house = kept-house } in
          record {
            answered = sym h ∙ by-all;
            makes = record {
              moved = ap (λ (y : Stepped). y.state) is ∙ (takes ruled may.is_sound (may.follows is_expected) (may.limit is_expected)).moves;
              right = m_right;
              made = e;
            };
          }

-- a right record is put where there is room
module _ (m : Made) {out last : List ℕ} {a : Answer} (right : m.answer ≡ Ok tt) (roomy : record_bytes ≤ length out) (p : Puts m out a last) where
  pub put_ok : a ≡ Ok tt
  put_ok = p.answered ∙ rw right (sym (past 50 0 _ [] (Ok tt) (le-leb _ _ roomy) done))

  pub put_right : length m.fields.text ≡ record_bytes → last ≡ record_of m.fields.which m.fields ++ drop record_bytes out
  put_right full = rw (put_ok, record_length m.fields.which m.fields full) at p.memory

-- the line of a record that was tried
pub line_made : (s : Checker) (g : Fields) {m : Made} → m ≡ made_of g.which s.dir (filled g.which s g) → line_with m ≡ line_from (bytes_of s g)
unfolding made_of
line_made s g e = ap line_with e ∙ rw (filled_which g.which s g)

-- ---- a record, and those behind it

module _ (s : Checker) (g : Fields) (gs : List Fields) (expected : List (List Record)) where
  abbrev is_now : Bool
  is_now = is_one_of g.which (expected_now expected)

  goes_on : {t : Tried Made} → Tries is_now s g (Ok t) → first_broken (all_given (drop 1 expected) t.checker gs) ≡ first_broken (all_given expected s (g ∷ gs))
  unfolding all_given
  goes_on h = rw h.makes.moved (gone_on (given_on_line is_now s g) _ (sym h.answered))

  stops : {r : Refusal} → Tries is_now s g (Err r) → Err r ≡ first_broken (all_given expected s (g ∷ gs))
  unfolding all_given
  stops {r} h = stopped (given_on_line is_now s g) _ r (sym h.answered)

-- an accepted record is the one that is expected
was_expected : (expected : Bool) (s : Checker) (g : Fields) {t : Tried Made} → Tries expected s g (Ok t) → expected ≡ true
unfolding AllKept given_rules
was_expected expected s g h = (off_line (line_of s) (given_rules expected g.which s.dir (bytes_of s g)) (accepted_kept _ (sym h.answered))).1.0

-- ---- the records of a payment

all_right_and : {ms : List Made} (m : Made) → AllRight ms → m.answer ≡ Ok tt → AllRight (ms ++ m ∷ [])
all_right_and m none_made e = one_more e none_made
all_right_and m (one_more r on) e = one_more r (all_right_and m on e)

-- behind k records that are right: those from here on give what all give from the start
pub record Going (s : Checker) (p : Payment) (made : List Made) (t : Checker) (k : ℕ) : Type 0 where
  pub behind : k ≤ length (records_in p)
  pub stands : Inside s k t
  pub answers : first_broken (all_given (drop k (expected_in_payment s)) t (drop k (records_in p))) ≡ first_broken (all_given (expected_in_payment s) s (records_in p))
  pub moves : behind_all t (drop k (records_in p)) ≡ behind_all s (records_in p)
  pub right : AllRight (take k made)
  pub lines : lines_with (take k made) ++ lines_for t (drop k (records_in p)) ≡ lines_for s (records_in p)
  pub long : length made ≡ most_details

pub going_first : {s : Checker} (p : Payment) (made : List Made) → MayPay s → length made ≡ most_details → Going s p made s 0
going_first p made k n = record { behind = omega arith; stands = before k; answers = refl; moves = refl; right = none_made; lines = refl; long = n }

module _ {s t : Checker} {p : Payment} {made : List Made} {k : ℕ} (h : Going s p made t k) where
  module _ (more : k < length (records_in p)) where
    abbrev g : Fields
    g = nth_in k p

    abbrev later : List Fields
    later = drop (suc k) (records_in p)

    here_on : drop k (records_in p) ≡ g ∷ later
    here_on = from_position p k more

    abbrev is_here : Bool
    is_here = expected_at k s.dir s.batch g.which

    pub going_stopped : {e : Refusal} {r : Result (Tried (List Made)) Refusal} → Tries is_here t g (Err e) → IsErr r × IsErrAnd r (λ z. z ≡ e) → TriesPayment s p r
    going_stopped y out =
        let there = ap (λ (gs : List Fields). first_broken (all_given (drop k (expected_in_payment s)) t gs)) (sym here_on) in
        subst (TriesPayment s p) (sym (left_with out)) (record { answered = stops t g later (drop k (expected_in_payment s)) y ∙ there ∙ h.answers; makes = tt })

    pub going_on : {x : Tried Made} → Tries is_here t g (Ok x) → Going s p (set made k x.made) x.checker (k + 1)
    unfolding behind_all lines_for
    going_on {x} y =
        let m = x.made in
        let short : k < length made = omega (arith, h.long, some_few p) in
        let taken = take-suc-set made k m short in
        let on : Going s p (set made k m) (next_by t g) (suc k) = record {
          behind = omega arith;
          stands = inside_next g.which (bytes_of t g) h.stands (was_expected _ t g y);
          answers =
              rw (← drop_one k (expected_in_payment s), ← y.makes.moved)
              (goes_on t g later (drop k (expected_in_payment s)) y
              ∙ ap (λ (gs : List Fields). first_broken (all_given (drop k (expected_in_payment s)) t gs)) (sym here_on)
              ∙ h.answers);
          moves = ap (behind_all t) (sym here_on) ∙ h.moves;
          right = rw taken (all_right_and m h.right y.makes.right);
          lines =
              rw (taken, lines_and (take k made) m, line_made t g y.makes.made, append_assoc)
              (ap (λ (gs : List Fields). lines_with (take k made) ++ lines_for t gs) (sym here_on) ∙ h.lines);
          long = length-set made k m ∙ h.long;
        } in
        rw (add-one k, y.makes.moved) on

  pub gone_through : length (records_in p) ≤ k → TriesPayment s p (Ok (record { checker = t; made = made }))
  unfolding first_broken all_given behind_all lines_for
  gone_through past =
      let none : drop k (records_in p) ≡ [] = drop_of_length-le (records_in p) {i = k} past in
      let all : k ≡ length (records_in p) = omega (arith, h.behind) in
      record {
        answered = sym (ap (λ (gs : List Fields). first_broken (all_given (drop k (expected_in_payment s)) t gs)) none) ∙ h.answers;
        makes = record {
          moved = sym (ap (behind_all t) none) ∙ h.moves;
          right = subst (λ (n : ℕ). AllRight (take n made)) all h.right;
          made =
              ap (λ (n : ℕ). lines_with (take n made)) (sym all)
              ∙ sym (append-nil (lines_with (take k made)))
              ∙ ap (λ (gs : List Fields). lines_with (take k made) ++ lines_for t gs) (sym none)
              ∙ h.lines;
          places = h.long;
        };
      }

-- the one at a position is right
pub right_at : (ms : List Made) (k : ℕ) (m : Made) → AllRight ms → k < length ms → (get_or ms k m).answer ≡ Ok tt
right_at [] k m r there = absurd (omega arith)
right_at (x ∷ ms) zero m (one_more e on) there = e
right_at (x ∷ ms) (suc k) m (one_more e on) there = right_at ms k m on (omega arith)
