-- The parts of a string, laid one after another over an output, are the other string. Assumes nothing.
use mathlib.Core.Path.{◌≡◌}
use mathlib.Core.List.{List, ◌++◌}
use Prim.Native.Nat.{ℕ, ◌≤◌}
use lib.ListN.{length, drop}
use Rattle.digits.proofs.laws.Strings.{spelled_out, front}
use Rattle.digits.specs.declared.sealing.Modulus.TheVariants.{Ten}
use Rattle.boleto.specs.Strings.{barcode_digits, line_digits, digit_line_of, barcode_of}
use Rattle.boleto.specs.Collection.{code_digits, code_line_digits, modulus_of, code_line_of, code_of}
use Rattle.boleto.specs.inner.Steps.{laid, sealing}

pub barcode_laid : (l out : List ℕ) → length l ≡ line_digits → barcode_digits ≤ length out →
    laid (laid (laid (laid (laid out 1 l 1 4) 5 l 33 47) 20 l 5 9) 25 l 11 20) 35 l 22 31 ≡ barcode_of l ++ drop barcode_digits out
unfolding barcode_of
barcode_laid l out h k = rw (spelled_out line_digits l h, front barcode_digits out k)

pub line_laid : (bar out : List ℕ) → length bar ≡ barcode_digits → line_digits ≤ length out →
    laid (sealing Ten (laid (sealing Ten (laid (sealing Ten (laid (laid out 1 bar 1 4) 5 bar 20 24) 1 10) 11 bar 25 34) 11 21) 22 bar 35 44) 22 32) 33 bar 5 19
    ≡ digit_line_of bar ++ drop line_digits out
unfolding digit_line_of
line_laid bar out h k = rw (spelled_out barcode_digits bar h, front line_digits out k)

-- the last block ends at place 47
pub code_laid : (l out : List ℕ) → 47 ≤ length l → code_digits ≤ length out →
    laid (laid (laid (laid out 1 l 1 11) 12 l 13 23) 23 l 25 35) 34 l 37 47 ≡ code_of l ++ drop code_digits out
unfolding code_of
code_laid l out h k = rw (front 47 l h, front code_digits out k)

pub code_line_laid : (code out : List ℕ) → length code ≡ code_digits → code_line_digits ≤ length out → let m = modulus_of code in
    sealing m (laid (sealing m (laid (sealing m (laid (sealing m (laid out 1 code 1 11) 1 12) 13 code 12 22) 13 24) 25 code 23 33) 25 36) 37 code 34 44) 37 48
    ≡ code_line_of code ++ drop code_line_digits out
unfolding code_line_of
code_line_laid code out h k = rw (spelled_out code_digits code h, front code_line_digits out k)
