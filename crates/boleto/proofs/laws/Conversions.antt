-- From the barcode to the line and back: the same digits, and both accepted. Assumes nothing.
use Rattle.std.specs.Prelude.{◌≡◌, List, ℕ, ◌≤◌, length, get_or, take, Ok}
use Rattle.std.proofs.Common.{sym, subst}
use Rattle.answer.specs.Rules.{first_broken}
use Rattle.answer.specs.Output.{Writes}
use Rattle.answer.specs.Rules.{Answer}
use Rattle.digits.specs.Digits.{places}
use Rattle.digits.proofs.laws.Strings.{Digits, spelled_out, digits_append, digits_take, digits_drop}
use Rattle.digits.specs.inner.Rows.{tab}
use Rattle.digits.proofs.laws.Seals.{Sealed}
use Rattle.digits.specs.declared.sealing.Modulus.TheVariants.{Ten}
use Rattle.boleto.specs.Strings.{barcode_digits, line_digits, digit_line_of, barcode_of}
use Rattle.boleto.specs.Rules.{barcode_rules, digit_line_rules}
use Rattle.boleto.proofs.laws.Parts.{check_digits, calls}
use Rattle.boleto.proofs.laws.Accepted.{Barcode, Line, barcode-of, line_of, of_barcode, of_line}

pub barcode_long : (l : List ℕ) → length l ≡ line_digits → length (barcode_of l) ≡ barcode_digits
unfolding barcode_of
barcode_long l h = rw (spelled_out line_digits l h)

pub line_long : (bar : List ℕ) → length bar ≡ barcode_digits → length (digit_line_of bar) ≡ line_digits
unfolding digit_line_of
line_long bar h = rw (spelled_out barcode_digits bar h)

barcode_back : (bar : List ℕ) → length bar ≡ barcode_digits → barcode_of (digit_line_of bar) ≡ bar
unfolding digit_line_of barcode_of
barcode_back bar h = rw (spelled_out barcode_digits bar h)

-- a line's three fields are sealed
abbrev Fields : List ℕ → Type 0
Fields l = Sealed Ten 9 (places 1 10 l) × Sealed Ten 10 (places 11 21 l) × Sealed Ten 10 (places 22 32 l)

written_out : (f : ℕ → ℕ) → Fields (tab line_digits f) → digit_line_of (barcode_of (tab line_digits f)) ≡ tab line_digits f
unfolding digit_line_of barcode_of
written_out f s = rw (← s.0, ← s.1, ← s.2)

line_back : (l : List ℕ) → length l ≡ line_digits → Fields l → digit_line_of (barcode_of l) ≡ l
line_back l h = subst (λ (l : List ℕ). Fields l → digit_line_of (barcode_of l) ≡ l) (sym (spelled_out line_digits l h)) (written_out (λ i. get_or l i 0))

barcode-digits : (l : List ℕ) → Digits l → Digits (barcode_of l)
unfolding barcode_of
barcode-digits l ds = search (digits_append, digits_take, digits_drop) depth 8

line-digits : (bar : List ℕ) → Digits bar → Digits (digit_line_of bar)
unfolding digit_line_of
line-digits bar ds = search (digits_append, digits_take, digits_drop, check_digits) depth 9

line_of_barcode : (bar : List ℕ) → Barcode bar → Line (digit_line_of bar)
unfolding digit_line_of
line_of_barcode bar b =
    let written = spelled_out barcode_digits bar b.long in
    record {
      long = line_long bar b.long;
      digits = line-digits bar b.digits;
      currency = rw written b.currency;
      first = rw written;
      second = rw written;
      third = rw written;
      seal = rw (barcode_back bar b.long) b.seal;
    }

barcode_of_line : (l : List ℕ) → Line l → Barcode (barcode_of l)
unfolding barcode_of
barcode_of_line l a =
    record {
      long = barcode_long l a.long;
      digits = barcode-digits l a.digits;
      currency = rw (spelled_out line_digits l a.long) a.currency;
      seal = a.seal;
    }

-- an accepted barcode's line is accepted, and its barcode is that barcode
pub barcode_there_and_back : (bar : List ℕ) → first_broken (barcode_rules bar) ≡ Ok tt →
    (first_broken (digit_line_rules (digit_line_of bar)) ≡ Ok tt) × (barcode_of (digit_line_of bar) ≡ bar)
barcode_there_and_back bar e = let b = barcode-of bar e in (of_line (digit_line_of bar) (line_of_barcode bar b), barcode_back bar b.long)

-- an accepted line's barcode is accepted, and its line is that line
pub line_there_and_back : (l : List ℕ) → first_broken (digit_line_rules l) ≡ Ok tt →
    (first_broken (barcode_rules (barcode_of l)) ≡ Ok tt) × (digit_line_of (barcode_of l) ≡ l)
line_there_and_back l e =
    let a = line_of l e in
    (of_barcode (barcode_of l) (barcode_of_line l a), line_back l a.long (a.first, a.second, a.third))

-- ---- the same of the calls, whatever memory with room they are lent

-- a barcode whose rules are kept is accepted, and leaves its line, which is accepted and leaves that barcode
pub barcode_calls : (bar : List ℕ) {out out' after after' : List ℕ} {a b : Answer} →
    first_broken (barcode_rules bar) ≡ Ok tt → line_digits ≤ length out → barcode_digits ≤ length out' →
    let line = take line_digits after in
    Writes (barcode_rules bar) line_digits (digit_line_of bar) out a after →
    Writes (digit_line_rules line) barcode_digits (barcode_of line) out' b after' →
    (a ≡ Ok tt) × (line ≡ digit_line_of bar) × (b ≡ Ok tt) × (take barcode_digits after' ≡ bar)
barcode_calls bar e =
    let long = line_long bar (barcode-of bar e).long in
    calls barcode_rules digit_line_rules digit_line_of barcode_of bar long (barcode_long (digit_line_of bar) long) (barcode_there_and_back bar e) e

-- a line whose rules are kept is accepted, and leaves its barcode, which is accepted and leaves that line
pub line_calls : (l : List ℕ) {out out' after after' : List ℕ} {a b : Answer} →
    first_broken (digit_line_rules l) ≡ Ok tt → barcode_digits ≤ length out → line_digits ≤ length out' →
    let bar = take barcode_digits after in
    Writes (digit_line_rules l) barcode_digits (barcode_of l) out a after →
    Writes (barcode_rules bar) line_digits (digit_line_of bar) out' b after' →
    (a ≡ Ok tt) × (bar ≡ barcode_of l) × (b ≡ Ok tt) × (take line_digits after' ≡ l)
line_calls l e =
    let long = barcode_long l (line_of l e).long in
    calls digit_line_rules barcode_rules barcode_of digit_line_of l long (line_long (barcode_of l) long) (line_there_and_back l e) e
