-- The checker takes the line of a right record that is in turn. Assumes nothing.
use Rattle.std.specs.Prelude.{◌≡◌, true, List, ◌∷◌, ℕ, ◌+◌, length, get_or}
use Rattle.std.proofs.Common.{ap, ◌∙◌, arith, take_at, get_or-append-add}
use Rattle.std.proofs.lemmas.List.{get_or_at}
use Rattle.answer.specs.Rules.{first_broken, AllKept, on_line}
use Rattle.answer.proofs.laws.Order.{accepted_kept}
use Rattle.digits.specs.Digits.{place}
use Rattle.layout.specs.Table.{record_bytes}
use Rattle.layout.specs.declared.Record.{Record}
use Rattle.fields.specs.declared.Fields.{Fields}
use Rattle.checker.specs.Line.{record_in, house_rules, rules_as, rules_of_line, line_from}
use Rattle.checker.specs.Machine.{line_of, next, sound, step_of}
use Rattle.checker.specs.Calls.{Through, further}
use Rattle.checker.specs.inner.Following.{Follows}
use Rattle.checker.proofs.laws.Meaning.{answered, LineRead, line_answers, LineAs, line_kept, line_moves}
use Rattle.checker.specs.inner.Following.{Limit}
use Rattle.checker.proofs.laws.Asks.{read_right}
use Rattle.checker.specs.declared.Checker.{Checker}
use Rattle.filling.specs.Filling.{bytes_of}
use Rattle.writer.specs.Refusals.{next_by}
use Rattle.writer.proofs.laws.Accepted.{WellMade, Right}
use Rattle.writer.proofs.laws.Lines.{bytes_length, line_length}
use Rattle.writer.proofs.laws.Ruled.{ruled, house_answers}

-- the line's rules are kept, and the state behind it is the record's
pub record Takes (s : Checker) (g : Fields) : Type 0 where
  pub kept : AllKept (rules_of_line s (line_from (bytes_of s g)))
  pub moves : (step_of s (line_from (bytes_of s g))).state ≡ next_by s g

pub takes_on : {s t : Checker} {g : Fields} {ls : List (List ℕ)} → Takes s g → Through (next_by s g) ls t → Through s (line_from (bytes_of s g) ∷ ls) t
takes_on {s} {t} {g} {ls} x on = let later : Through (step_of s (line_from (bytes_of s g))).state ls t = rw x.moves on in further x.kept later

-- a record of 240 bytes, and its CR and LF
module _ (rec : List ℕ) (long : length rec ≡ record_bytes) where
  pub record-in : record_in (line_from rec) ≡ rec
  record-in = take_at rec _ record_bytes long

  pub carriage-return : place 241 (line_from rec) ≡ 13
  carriage-return = get_or_at rec 13 _ 0 240 long

  pub line-feed : place 242 (line_from rec) ≡ 10
  line-feed = let e : 241 ≡ length rec + 1 = omega arith in ap (λ (i : ℕ). get_or (line_from rec) i 0) e ∙ get_or-append-add rec _ 1 0

-- the line of a well made record that may follow is read as that record
module _ {s : Checker} {g : Fields} (w : WellMade s g) (f : Follows s.dir s.batch s.phase g.which) where
  same : record_in (line_from (bytes_of s g)) ≡ bytes_of s g
  same = record-in (bytes_of s g) (bytes_length s g w.whole)

  line_read : LineRead g.which s (line_from (bytes_of s g))
  line_read =
      let long = bytes_length s g w.whole in
      record {
        long = line_length s g w.whole;
        printable = rw same w.printable;
        cr = carriage-return (bytes_of s g) long;
        lf = line-feed (bytes_of s g) long;
        read = rw same (read_right s (bytes_of s g) f (accepted_kept _ w.fields));
      }

  -- the checker answers as the house does
  pub steps_by_house : sound s ≡ true → Limit g.which s
      → (step_of s (line_from (bytes_of s g))).answer ≡ on_line (line_of s) (first_broken (house_rules g.which (bytes_of s g)))
  steps_by_house ok few =
      let line = line_from (bytes_of s g) in
      answered s line ok
      ∙ ap (on_line (line_of s)) (line_answers s line line_read ∙ ap (λ (rec : List ℕ). first_broken (rules_as g.which s rec)) same ∙ house_answers w few)

-- and it takes the line of a right one
module _ {expected : List Record} {s : Checker} {g : Fields} (t : Right expected s g) (ok : sound s ≡ true) where
  pub takes : Follows s.dir s.batch s.phase g.which → Limit g.which s → Takes s g
  takes f few =
      let line = line_from (bytes_of s g) in
      let r = line_read t.well f in
      let is = same t.well f in
      let as_read : LineAs g.which s line = record {
        long = r.long;
        printable = r.printable;
        cr = r.cr;
        lf = r.lf;
        read = r.read;
        rules = rw is (ruled t few);
      } in
      record { kept = line_kept s line as_read; moves = line_moves s line ok as_read ∙ ap (next g.which s) is }
