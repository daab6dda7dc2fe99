-- A line that the checker takes, as facts: it is right by itself, its fields read what the state counts, and the limit holds. Assumes nothing.
use Rattle.std.specs.Prelude.{◌≡◌, List, ◌∷◌, ◌++◌, ℕ, ◌≤◌, length, get_or, drop, Some}
use Rattle.std.proofs.Common.{sym, ap, subst, ◌∙◌, arith, eqb-true, le-leb, length-append, length-take, length-drop, take-append-drop, get_or-drop}
use Rattle.answer.specs.Rules.{AllKept}
use Rattle.digits.specs.Digits.{place}
use Rattle.digits.specs.Numbers.{value, most_digits}
use Rattle.digits.proofs.laws.Strings.{leading_all, spelled_out}
use Rattle.digits.proofs.laws.Numerals.{digits_give}
use Rattle.layout.specs.Field.{part}
use Rattle.layout.specs.Table.{fields_of, record_bytes, bank_field}
use Rattle.layout.specs.Record.{rules_of}
use Rattle.layout.specs.declared.Direction.{Direction}
use Rattle.layout.specs.declared.Record.{Record}
use Rattle.layout.specs.declared.Record.TheVariants.{FileHeader}
use Rattle.checker.specs.Line.{line_bytes, record_in, line_is, rules_of_line, line_from}
use Rattle.checker.specs.Machine.{next, step_of}
use Rattle.checker.specs.Calls.{Reached, Through, further}
use Rattle.checker.proofs.laws.Edges.{type_read}
use Rattle.checker.proofs.laws.Meaning.{LineAs, line_kept, kept_line, line_moves}
use Rattle.checker.proofs.laws.Details.{asked, AllRead}
use Rattle.checker.specs.inner.Following.{Limit}
use Rattle.checker.proofs.laws.Asks.{bank_digits, record_fits, record_kept}
use Rattle.checker.proofs.laws.Reached.{reached}
use Rattle.checker.specs.declared.Checker.{Checker}
use Rattle.writer.proofs.laws.TakesLine.{carriage-return, line-feed}
use Rattle.promises.specs.Grammar.{RightLine, Reads}

pub record Fits (r : Record) (s : Checker) (l : List ℕ) : Type 0 where
  pub right : RightLine r s.dir l
  pub numbers : AllRead (asked r s) (record_in l)
  pub limit : Limit r s

-- ---- the line's ends

ended_by : (l : List ℕ) → length l ≡ line_bytes → place 241 l ≡ 13 → place 242 l ≡ 10 → l ≡ line_from (record_in l)
ended_by l long cr lf =
    let last = drop record_bytes l in
    let two : length last ≡ 2 = rw length-drop (omega arith) in
    let first : get_or last 0 0 ≡ 13 = get_or-drop record_bytes l 0 0 ∙ cr in
    let second : get_or last 1 0 ≡ 10 = get_or-drop record_bytes l 1 0 ∙ lf in
    sym (take-append-drop record_bytes l) ∙ ap (λ (xs : List ℕ). record_in l ++ xs) (spelled_out 2 last two ∙ rw (first, second))

long_line : (l : List ℕ) → length (record_in l) ≡ record_bytes → l ≡ line_from (record_in l) → length l ≡ line_bytes
long_line l long e = ap length e ∙ length-append (record_in l) _ ∙ rw long

-- ---- a line that is taken

-- the rules of a line that is read as r are these facts, both ways
fits : {s : Checker} {l : List ℕ} {r : Record} → LineAs r s l → Fits r s l
fits {s} {l} {r} a =
    let short : length (record_in l) ≡ record_bytes = rw length-take (omega (arith, a.long)) in
    let b = record_fits s (record_in l) r short (type_read s (record_in l) a.read) a.rules in
    let ends = ended_by l a.long a.cr a.lf in
    record {
      right = record { long = short; ended = ends; printable = a.printable; fields = b.fields; house = b.house };
      numbers = b.numbers;
      limit = b.limit;
    }

line_as : {s : Checker} {l : List ℕ} {r : Record} → line_is s (record_in l) ≡ Some r → Fits r s l → LineAs r s l
line_as {s} {l} {r} read f =
    let q = f.right in
    record {
      long = long_line l q.long q.ended;
      printable = q.printable;
      cr = ap (place 241) q.ended ∙ carriage-return (record_in l) q.long;
      lf = ap (place 242) q.ended ∙ line-feed (record_in l) q.long;
      read = read;
      rules = record_kept s (record_in l) r (record { fields = q.fields; house = q.house; numbers = f.numbers; limit = f.limit });
    }

pub record Taken (s : Checker) (l : List ℕ) : Type 0 where
  pub by : Record
  pub read : line_is s (record_in l) ≡ Some by
  pub fitting : Fits by s l
  pub moves : (step_of s l).state ≡ next by s (record_in l)

pub taken : {s : Checker} {l : List ℕ} → Reached s → AllKept (rules_of_line s l) → Taken s l
taken {s} {l} c k = let (r, a) = kept_line s l k in record { by = r; read = a.read; fitting = fits a; moves = line_moves s l (reached c) a }

pub takes : {s t : Checker} {r : Record} {l : List ℕ} {ls : List (List ℕ)} → Reached s → line_is s (record_in l) ≡ Some r → Fits r s l
    → Through (next r s (record_in l)) ls t → Through s (l ∷ ls) t
takes {s} {t} {r} {l} {ls} c read f on =
    let a = line_as read f in
    further (line_kept s l a) (subst (λ (x : Checker). Through x ls t) (sym (line_moves s l (reached c) a)) on)

-- ---- the file header

-- its bank is the number that its digits give, and it has no field that goes by the direction
pub header_bank : {d : Direction} {l : List ℕ} → RightLine FileHeader d l → Reads bank_field (value (part bank_field (record_in l))) l
header_bank {d} {l} q =
    let bank = part bank_field (record_in l) in
    let short : length bank ≡ 3 = rw length-take (omega (arith, q.long)) in
    let few : length bank ≤ most_digits = omega arith in
    digits_give bank (leading_all bank (eqb-true _ _ (bank_digits d (record_in l) q.fields))) few ∙ rw (le-leb (length bank) most_digits few)

pub either_direction : {d e : Direction} {l : List ℕ} → RightLine FileHeader d l → RightLine FileHeader e l
unfolding rules_of fields_of
either_direction q = record { long = q.long; ended = q.ended; printable = q.printable; fields = q.fields; house = q.house }
