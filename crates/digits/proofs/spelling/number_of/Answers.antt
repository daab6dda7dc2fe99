-- `digits::number_of` meets its contract. Assumes nothing.
use Rattle.std.proofs.Common.{◌≡◌, ◌≢◌, length, arith, eq-eqb, ne_eqb, le-leb}
use mathlib.Core.Bool.{and-false}
use borrow.Author.Tests.{lt-leb}
use Rattle.digits.specs.Digits.{leading}
use Rattle.digits.specs.Numbers.{number_of}
use Rattle.digits.proofs.laws.Strings.{leading_le}
use Rattle.digits.proofs.spelling.number_of.Goals as goal
use Rattle.digits.proofs.spelling.number_of.Goals.{then-s-gt-MOST_DIGITS-via-then-s-gt-MOST_DIGITS, then-s-gt-MOST_DIGITS-via-else-s-gt-MOST_DIGITS+then-leading-s}

pub returns-then-s-gt-MOST_DIGITS : goal.returns-then-s-gt-MOST_DIGITS
unfolding number_of
returns-then-s-gt-MOST_DIGITS c =
    let s = c.args.s.now in
    elim c.then-s-gt-MOST_DIGITS.branch [
      | then-s-gt-MOST_DIGITS-via-then-s-gt-MOST_DIGITS w ↦ rw (lt-leb _ _ w.if-s-gt-MOST_DIGITS.true, and-false)
      | then-s-gt-MOST_DIGITS-via-else-s-gt-MOST_DIGITS+then-leading-s w ↦
          let some : leading s ≢ length s = omega arith in
          rw (ne_eqb (leading s) (length s) some)
    ]

pub returns : goal.returns
unfolding number_of
returns c =
    let s = c.args.s.now in
    let all : leading s ≡ length s = omega (arith, leading_le s) in
    rw (eq-eqb (leading s) (length s) all, le-leb _ _ c.if-s-gt-MOST_DIGITS.false, c.spelled.ensures)
