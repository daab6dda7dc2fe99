-- What the answer to a line says, and what an accepted line does to the state. Assumes nothing.
use Rattle.std.specs.Prelude.{◌≡◌, ◌↔◌, Bool, not, cond, List, ℕ, ◌≤◌, length, Err, None, Ok, Option, Some}
use Rattle.std.proofs.Math.Path.{refl}
use Rattle.std.proofs.Common.{sym, ap, ◌∙◌, subst, eqb-true, eq-eqb}
use Rattle.std.proofs.Math.Bool.{true, false}
use Rattle.answer.specs.Rules.{no_line, refusal, refused_as, first_broken, AllKept, Broken, on_line}
use Rattle.answer.proofs.laws.Order.{never, never_refused, kept_accepted, accepted_kept, broken_refused, refused_broken, past}
use Rattle.answer.specs.declared.LineNo.{LineNo}
use Rattle.answer.specs.declared.Refusal.{Refusal}
use Rattle.answer.specs.Rules.{Answer}
use Rattle.digits.specs.Digits.{place}
use Rattle.layout.specs.Record.{all_printable}
use Rattle.layout.specs.declared.Record.{Record}
use Rattle.layout.specs.declared.shapes.LineType.{LineType}
use Rattle.layout.specs.declared.shapes.LineType.TheVariants.{FileFirst, BatchFirst, Detail, BatchLast, FileLast}
use Rattle.checker.specs.Order.{follows, ended}
use Rattle.layout.specs.Records.{shape_of, after}
use Rattle.checker.specs.Line.{line_bytes, record_in, line_is, rules_as, found, reading_rules, type_rules, line_rules, rules_of_line}
use Rattle.checker.specs.Machine.{line_of, next_of_type, next, moved, sound, stepped, answer_to, step_of}
use Rattle.checker.specs.declared.Checker.{Checker}
use Rattle.checker.specs.declared.Stepped.{Stepped}
use Rattle.checker.proofs.laws.Listed.{byte_number, whole_listed, line_listed, broken_listed}
use Rattle.checker.proofs.laws.Edges.{Among, among_by, not_ended}

-- the line breaks this refusal's rule and none before it, and is the line that the refusal names
pub record Breaks (s : Checker) (line : List ℕ) (r : Refusal) : Type 0 where
  pub broken : Broken (rules_of_line s line) (refusal r.number no_line r.place)
  pub numbered : r.line ≡ line_of s

-- the edge that an accepted line takes: from a phase, a direction and a kind of batch, by a record that may follow there, to the phase behind it
pub record Edge (s : Checker) (line : List ℕ) : Type 0 where
  pub long : length line ≡ line_bytes
  pub by : Record
  pub read : line_is s (record_in line) ≡ Some by
  pub may_follow : Among by (follows s.phase s.dir s.batch)
  pub rules_kept : AllKept (rules_as by s (record_in line))
  pub moves : (step_of s line).state ≡ next by s (record_in line)
  pub to : (step_of s line).state.phase ≡ after by

-- ---- the answer

-- an answer on a line is accepted, or refused, as the answer is
pub off_line_accepted : (n : LineNo) (a : Answer) → on_line n a ≡ Ok tt → a ≡ Ok tt
off_line_accepted n (Ok tt) e = refl
off_line_accepted n (Err r) e = never_refused (sym e)

record OffLine (n : LineNo) (a : Answer) (r : Refusal) : Type 0 where
  found : Refusal
  was : a ≡ Err found
  same : r ≡ refusal found.number n found.place

off_line_refused : (n : LineNo) (a : Answer) (r : Refusal) → on_line n a ≡ Err r → OffLine n a r
off_line_refused n (Ok tt) r e = never_refused e
off_line_refused n (Err x) r e = record { found = x; was = refl; same = cc }

answer_on_line : (a : Answer) (s : Checker) (line : List ℕ) → (answer_to a s line).answer ≡ on_line (line_of s) a
answer_on_line (Ok tt) s line = refl
answer_on_line (Err r) s line = refl

-- a sound state answers by the line's rules
module _ (s : Checker) (line : List ℕ) (ok : sound s ≡ true) where
  pub by_rules : step_of s line ≡ answer_to (first_broken (rules_of_line s line)) s (record_in line)
  unfolding step_of
  by_rules = rw ok

  pub answered : (step_of s line).answer ≡ on_line (line_of s) (first_broken (rules_of_line s line))
  answered = ap (λ (x : Stepped). x.answer) by_rules ∙ answer_on_line (first_broken (rules_of_line s line)) s (record_in line)

  -- accepted exactly if every rule is kept
  pub line_accepted : (step_of s line).answer ≡ (Ok tt) ↔ AllKept (rules_of_line s line)
  line_accepted = (
    λ e. accepted_kept (rules_of_line s line) (off_line_accepted (line_of s) (first_broken (rules_of_line s line)) (sym answered ∙ e)),
    λ k. answered ∙ ap (on_line (line_of s)) (kept_accepted (rules_of_line s line) k),
  )

  refused_breaks : (r : Refusal) → (step_of s line).answer ≡ Err r → Breaks s line r
  refused_breaks r e =
      let o = off_line_refused (line_of s) (first_broken (rules_of_line s line)) r (sym answered ∙ e) in
      let b = refused_broken (rules_of_line s line) o.found o.was in
      let t = broken_listed (line_listed s line) b in
      let back = sym o.same in
      let same : o.found ≡ refusal r.number no_line r.place = λ i. record { number = (back i).number; line = t.on_no_line i; place = (back i).place } in
      record { broken = subst (Broken (rules_of_line s line)) same b; numbered = ap (λ (x : Refusal). x.line) o.same }

  breaks_refused : (r : Refusal) → Breaks s line r → (step_of s line).answer ≡ Err r
  breaks_refused r b =
      answered
      ∙ ap (on_line (line_of s)) (broken_refused (rules_of_line s line) _ b.broken)
      ∙ ap (λ (n : LineNo). Err (refusal r.number n r.place)) (sym b.numbered)

  -- refused exactly if that rule is broken and every earlier one is kept, on the line that is next
  pub line_refused : (r : Refusal) → (step_of s line).answer ≡ Err r ↔ Breaks s line r
  line_refused r = (refused_breaks r, breaks_refused r)

-- a whole line before the file trailer breaks none of the first two rules
pub whole_number : (s : Checker) (line : List ℕ) (r : Refusal) → length line ≡ line_bytes → ended s.phase ≡ false → Breaks s line r → byte_number ≤ r.number
unfolding rules_of_line first_broken
whole_number s line r long going b =
    let first = rw (going, eq-eqb (length line) line_bytes long) at (broken_refused (rules_of_line s line) _ b.broken) in
    (broken_listed (whole_listed s line) (refused_broken (line_rules s line) _ first)).low

-- ---- the state

module _ (s : Checker) (line : List ℕ) where
  -- a refused line leaves it, whether it is sound or not
  pub refused_leaves : (r : Refusal) → (step_of s line).answer ≡ Err r → (step_of s line).state ≡ s
  unfolding step_of
  refused_leaves r e = go (sound s) (first_broken (rules_of_line s line)) e
    where
      go : (b : Bool) (a : Answer) → (cond b (answer_to a s (record_in line)) (stepped s (refused_as 51 0))).answer ≡ Err r
          → (cond b (answer_to a s (record_in line)) (stepped s (refused_as 51 0))).state ≡ s
      go true (Ok tt) e = never_refused e
      go true (Err x) e = refl
      go false a e = refl

  -- a state that accepts a line is sound
  pub accepted_sound : (step_of s line).answer ≡ Ok tt → sound s ≡ true
  unfolding step_of
  accepted_sound e = go (sound s) refl e
    where
      go : (b : Bool) → sound s ≡ b → (cond b (answer_to (first_broken (rules_of_line s line)) s (record_in line)) (stepped s (refused_as 51 0))).answer ≡ Ok tt → sound s ≡ true
      go true q e = q
      go false q e = never_refused (sym e)

pub next_phase : (r : Record) (s : Checker) (rec : List ℕ) → (next r s rec).phase ≡ after r
next_phase r s rec = go (shape_of r).line
  where
    go : (t : LineType) → (next_of_type t (shape_of r) s rec).phase ≡ after r
    go FileFirst = refl
    go BatchFirst = refl
    go Detail = refl
    go BatchLast = refl
    go FileLast = refl

-- ---- a line's rules, as facts, where it is read as r

-- those before the record's own
pub record LineRead (r : Record) (s : Checker) (line : List ℕ) : Type 0 where
  pub long : length line ≡ line_bytes
  pub printable : all_printable (record_in line) ≡ true
  pub cr : place 241 line ≡ 13
  pub lf : place 242 line ≡ 10
  pub read : line_is s (record_in line) ≡ Some r

-- then its answer is that of the record's own rules
pub line_answers : {r : Record} (s : Checker) (line : List ℕ) → LineRead r s line → first_broken (rules_of_line s line) ≡ first_broken (rules_as r s (record_in line))
unfolding rules_of_line line_rules type_rules
line_answers {r} s line a =
    let rec = record_in line in
    let on : not (ended s.phase) ≡ true = rw (not_ended s rec a.read) in
    sym
    (past 3 0 _ _ _ on
    (past 1 0 _ _ _ (eq-eqb _ _ a.long)
    (past 4 _ _ _ _ a.printable
    (past 5 _ _ _ _ (eq-eqb _ _ a.cr)
    (past 5 _ _ _ _ (eq-eqb _ _ a.lf)
    (past 6 _ _ _ _ (ap found a.read) (ap (λ (d : Option Record). first_broken (reading_rules d s rec)) (sym a.read))))))))

pub record LineAs (r : Record) (s : Checker) (line : List ℕ) : Type 0 where
  pub long : length line ≡ line_bytes
  pub printable : all_printable (record_in line) ≡ true
  pub cr : place 241 line ≡ 13
  pub lf : place 242 line ≡ 10
  pub read : line_is s (record_in line) ≡ Some r
  pub rules : AllKept (rules_as r s (record_in line))

pub line_kept : {r : Record} (s : Checker) (line : List ℕ) → LineAs r s line → AllKept (rules_of_line s line)
unfolding AllKept rules_of_line line_rules type_rules
line_kept s line a =
    let rec = record_in line in
    let on : not (ended s.phase) ≡ true = rw (not_ended s rec a.read) in
    let rules = subst (λ (d : Option Record). AllKept (reading_rules d s rec)) (sym a.read) a.rules in
    (on, (eq-eqb _ _ a.long, (a.printable, (eq-eqb _ _ a.cr, (eq-eqb _ _ a.lf, (ap found a.read, rules))))))

pub kept_line : (s : Checker) (line : List ℕ) → AllKept (rules_of_line s line) → (r : Record) × LineAs r s line
unfolding AllKept rules_of_line line_rules type_rules
kept_line s line k = go (line_is s rec) refl typed.0 typed.1
  where
    rec : List ℕ
    rec = record_in line

    typed : AllKept (type_rules s rec)
    typed = k.1.1.1.1.1

    go : (d : Option Record) → line_is s rec ≡ d → found d ≡ true → AllKept (reading_rules d s rec) → (r : Record) × LineAs r s line
    go (Some r) q f rules =
        let long = eqb-true _ _ k.1.0 in
        (r, record { long = long; printable = k.1.1.0; cr = eqb-true _ _ k.1.1.1.0; lf = eqb-true _ _ k.1.1.1.1.0; read = q; rules = rules })
    go None q f rules = never f

-- and it moves a sound state
pub line_moves : {r : Record} (s : Checker) (line : List ℕ) → sound s ≡ true → LineAs r s line → (step_of s line).state ≡ next r s (record_in line)
line_moves s line ok a =
    ap (λ (x : Stepped). x.state) (by_rules s line ok)
    ∙ ap (λ (a : Answer). (answer_to a s (record_in line)).state) (kept_accepted (rules_of_line s line) (line_kept s line a))
    ∙ ap (λ (d : Option Record). moved d s (record_in line)) a.read

-- an accepted line moves the state along its edge
pub accepted_moves : (s : Checker) (line : List ℕ) → (step_of s line).answer ≡ Ok tt → Edge s line
accepted_moves s line e =
    let ok = accepted_sound s line e in
    let (r, a) = kept_line s line ((line_accepted s line ok).0 e) in
    let state = line_moves s line ok a in
    record {
      long = a.long;
      by = r;
      read = a.read;
      may_follow = among_by s (record_in line) a.read;
      rules_kept = a.rules;
      moves = state;
      to = ap (λ (x : Checker). x.phase) state ∙ next_phase r s (record_in line);
    }
