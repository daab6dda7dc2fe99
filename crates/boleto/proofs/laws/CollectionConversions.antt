-- From the collection code to its line and back: the same digits, and both accepted. Assumes nothing.
use Rattle.std.specs.Prelude.{◌≡◌, List, ℕ, ◌≤◌, length, get_or, take, Ok}
use Rattle.std.proofs.Common.{sym, subst}
use Rattle.answer.specs.Rules.{first_broken}
use Rattle.answer.specs.Output.{Writes}
use Rattle.answer.specs.Rules.{Answer}
use Rattle.digits.specs.Digits.{places}
use Rattle.digits.proofs.laws.Strings.{Digits, spelled_out, digits_append, digits_take, digits_drop}
use Rattle.digits.specs.inner.Rows.{tab}
use Rattle.digits.proofs.laws.Seals.{Sealed}
use Rattle.boleto.specs.Collection.{code_digits, code_line_digits, modulus_of, code_line_of, code_of}
use Rattle.boleto.specs.CollectionRules.{code_rules, code_line_rules}
use Rattle.boleto.proofs.laws.Parts.{check_digits, calls}
use Rattle.boleto.proofs.laws.CollectionAccepted.{Code, CodeLine, code-of, code-line-of, of_code, of_code_line}

pub code_long : (l : List ℕ) → length l ≡ code_line_digits → length (code_of l) ≡ code_digits
unfolding code_of
code_long l h = rw (spelled_out code_line_digits l h)

pub code_line_long : (code : List ℕ) → length code ≡ code_digits → length (code_line_of code) ≡ code_line_digits
unfolding code_line_of
code_line_long code h = rw (spelled_out code_digits code h)

code_back : (code : List ℕ) → length code ≡ code_digits → code_of (code_line_of code) ≡ code
unfolding code_line_of code_of
code_back code h = rw (spelled_out code_digits code h)

-- a line and its code have one identifier
pub code_modulus : (l : List ℕ) → length l ≡ code_line_digits → modulus_of (code_of l) ≡ modulus_of l
unfolding modulus_of code_of
code_modulus l h = rw (spelled_out code_line_digits l h)

line_modulus : (code : List ℕ) → length code ≡ code_digits → modulus_of (code_line_of code) ≡ modulus_of code
unfolding modulus_of code_line_of
line_modulus code h = rw (spelled_out code_digits code h)

-- a line's four blocks are sealed
abbrev Blocks : List ℕ → Type 0
Blocks l =
    Sealed (modulus_of l) 11 (places 1 12 l)
    × Sealed (modulus_of l) 11 (places 13 24 l)
    × Sealed (modulus_of l) 11 (places 25 36 l)
    × Sealed (modulus_of l) 11 (places 37 48 l)

written_out : (f : ℕ → ℕ) → Blocks (tab code_line_digits f) → code_line_of (code_of (tab code_line_digits f)) ≡ tab code_line_digits f
unfolding code_line_of code_of modulus_of
written_out f s = rw (← s.0, ← s.1, ← s.2, ← s.3)

code_line_back : (l : List ℕ) → length l ≡ code_line_digits → Blocks l → code_line_of (code_of l) ≡ l
code_line_back l h = subst (λ (l : List ℕ). Blocks l → code_line_of (code_of l) ≡ l) (sym (spelled_out code_line_digits l h)) (written_out (λ i. get_or l i 0))

code-digits : (l : List ℕ) → Digits l → Digits (code_of l)
unfolding code_of
code-digits l ds = search (digits_append, digits_take, digits_drop) depth 8

code-line-digits : (code : List ℕ) → Digits code → Digits (code_line_of code)
unfolding code_line_of
code-line-digits code ds = search (digits_append, digits_take, digits_drop, check_digits) depth 9

line_of_code : (code : List ℕ) → Code code → CodeLine (code_line_of code)
unfolding code_line_of
line_of_code code c =
    let written = spelled_out code_digits code c.long in
    let same = line_modulus code c.long in
    record {
      long = code_line_long code c.long;
      digits = code-line-digits code c.digits;
      product = rw written c.product;
      identifier = rw written c.identifier;
      first = rw (same, written);
      second = rw (same, written);
      third = rw (same, written);
      fourth = rw (same, written);
      seal = rw (code_back code c.long) c.seal;
    }

pub code_of_line : (l : List ℕ) → CodeLine l → Code (code_of l)
unfolding code_of
code_of_line l a =
    let written = spelled_out code_line_digits l a.long in
    record {
      long = code_long l a.long;
      digits = code-digits l a.digits;
      product = rw written a.product;
      identifier = rw written a.identifier;
      seal = a.seal;
    }

-- an accepted code's line is accepted, and its code is that code
pub code_there_and_back : (code : List ℕ) → first_broken (code_rules code) ≡ Ok tt →
    (first_broken (code_line_rules (code_line_of code)) ≡ Ok tt) × (code_of (code_line_of code) ≡ code)
code_there_and_back code e = let c = code-of code e in (of_code_line (code_line_of code) (line_of_code code c), code_back code c.long)

-- an accepted line's code is accepted, and its line is that line
pub code_line_there_and_back : (l : List ℕ) → first_broken (code_line_rules l) ≡ Ok tt →
    (first_broken (code_rules (code_of l)) ≡ Ok tt) × (code_line_of (code_of l) ≡ l)
code_line_there_and_back l e =
    let a = code-line-of l e in
    (of_code (code_of l) (code_of_line l a), code_line_back l a.long (a.first, a.second, a.third, a.fourth))

-- ---- the same of the calls, whatever memory with room they are lent

-- a code whose rules are kept is accepted, and leaves its line, which is accepted and leaves that code
pub code_calls : (code : List ℕ) {out out' after after' : List ℕ} {a b : Answer} →
    first_broken (code_rules code) ≡ Ok tt → code_line_digits ≤ length out → code_digits ≤ length out' →
    let line = take code_line_digits after in
    Writes (code_rules code) code_line_digits (code_line_of code) out a after →
    Writes (code_line_rules line) code_digits (code_of line) out' b after' →
    (a ≡ Ok tt) × (line ≡ code_line_of code) × (b ≡ Ok tt) × (take code_digits after' ≡ code)
code_calls code e =
    let long = code_line_long code (code-of code e).long in
    calls code_rules code_line_rules code_line_of code_of code long (code_long (code_line_of code) long) (code_there_and_back code e) e

-- a line whose rules are kept is accepted, and leaves its code, which is accepted and leaves that line
pub code_line_calls : (l : List ℕ) {out out' after after' : List ℕ} {a b : Answer} →
    first_broken (code_line_rules l) ≡ Ok tt → code_digits ≤ length out → code_line_digits ≤ length out' →
    let code = take code_digits after in
    Writes (code_line_rules l) code_digits (code_of l) out a after →
    Writes (code_rules code) code_line_digits (code_line_of code) out' b after' →
    (a ≡ Ok tt) × (code ≡ code_of l) × (b ≡ Ok tt) × (take code_line_digits after' ≡ l)
code_line_calls l e =
    let long = code_long l (code-line-of l e).long in
    calls code_line_rules code_rules code_of code_line_of l long (code_line_long (code_of l) long) (code_line_there_and_back l e) e
