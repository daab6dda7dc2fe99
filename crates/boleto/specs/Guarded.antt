-- The guarded places of an accepted barcode and of an accepted line: another byte there is refused; and the neighbours in a barcode of which two
-- unequal ones are refused when they are swapped. A general check of 1 stands for three remainders and guards only itself. Assumes nothing.
use Rattle.std.specs.Prelude.{◌≡◌, ◌≢◌, List, ℕ, suc, ◌≤◌, ◌<◌}
use Rattle.digits.specs.Digits.{digit_byte, place}
use Rattle.boleto.specs.Strings.{barcode_digits, line_digits, currency_place, barcode_check, line_check}

-- all places when the general check isn't 1, else the currency and the general check only
pub data GuardedInBarcode (bar : List ℕ) : ℕ → Type 0 where
  all : {p : ℕ} → place barcode_check bar ≢ digit_byte 1 → 1 ≤ p → p ≤ barcode_digits → GuardedInBarcode bar p
  currency : GuardedInBarcode bar currency_place
  check : GuardedInBarcode bar barcode_check

-- a place and the one behind it, when the general check isn't 1 and neither of the two is the general check
pub record GuardedPairInBarcode (bar : List ℕ) (p : ℕ) : Type 0 where
  pub not_one : place barcode_check bar ≢ digit_byte 1
  pub from_first : 1 ≤ p
  pub to_last : suc p ≤ barcode_digits
  pub left_not_check : p ≢ barcode_check
  pub right_not_check : suc p ≢ barcode_check

-- the general check, if it isn't 1, and the first digit of the due factor, behind it, swapped unseen: they are equal, or 6 and 1, or 9 and 1
pub data SwapUnseen (bar : List ℕ) : Type 0 where
  equal : place barcode_check bar ≡ place (suc barcode_check) bar → SwapUnseen bar
  six : place barcode_check bar ≡ digit_byte 6 → place (suc barcode_check) bar ≡ digit_byte 1 → SwapUnseen bar
  nine : place barcode_check bar ≡ digit_byte 9 → place (suc barcode_check) bar ≡ digit_byte 1 → SwapUnseen bar

-- the three fields and the general check always, factor and cents when the general check isn't 1
pub data GuardedInLine (line : List ℕ) : ℕ → Type 0 where
  checked : {p : ℕ} → 1 ≤ p → p ≤ line_check → GuardedInLine line p
  rest : {p : ℕ} → place line_check line ≢ digit_byte 1 → line_check < p → p ≤ line_digits → GuardedInLine line p
