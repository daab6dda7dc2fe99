-- The barcode of a boleto and its digit line. Places count from 1. Assumes nothing.
--     barcode   1-3 bank, 4 currency, 5 general check, 6-9 due factor, 10-19 cents, 20-44 free
--     line      bank, currency, free 1-5, check; free 6-15, check; free 16-25, check; general check; factor and cents
use Rattle.std.specs.Prelude.{List, ◌++◌, ℕ}
use Rattle.digits.specs.Digits.{places}
use Rattle.digits.specs.declared.sealing.Modulus.TheVariants.{Ten}
use Rattle.boleto.specs.Parts.{checked}

abbrev pub barcode_digits : ℕ
barcode_digits = 44

abbrev pub line_digits : ℕ
line_digits = 47

-- where the currency stands, in both strings, and the general check, in a barcode and in a line
abbrev pub currency_place : ℕ
currency_place = 4

abbrev pub barcode_check : ℕ
barcode_check = 5

abbrev pub line_check : ℕ
line_check = 33

-- the due factor and the cents of a barcode
abbrev pub factor_digits : List ℕ → List ℕ
factor_digits bar = places 6 9 bar

abbrev pub cents_digits : List ℕ → List ℕ
cents_digits bar = places 10 19 bar

unfoldable pub digit_line_of : List ℕ → List ℕ
digit_line_of bar =
    checked Ten (places 1 4 bar ++ places 20 24 bar)
    ++ checked Ten (places 25 34 bar)
    ++ checked Ten (places 35 44 bar)
    ++ places 5 19 bar

unfoldable pub barcode_of : List ℕ → List ℕ
barcode_of line =
    places 1 4 line
    ++ places 33 47 line
    ++ places 5 9 line
    ++ places 11 20 line
    ++ places 22 31 line
