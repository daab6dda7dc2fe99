-- The table of proved examples: thirteen, in one statement. Assumes nothing.
use Rattle.layout.specs.Kinds.{same}
use Rattle.std.specs.Prelude.{Bool, true, ◌&&◌, List, [], ◌∷◌, ℕ, T, eqb}
use Prim.Native.String.{String}
use Rattle.answer.specs.Rules.{accepts, first_broken}
use Rattle.digits.specs.Digits.{bytes, leading, weighed}
use Rattle.digits.specs.Checks.{counts, lift, check_digit}
use Rattle.digits.specs.declared.sealing.Modulus.TheVariants.{Ten, Eleven}
use Rattle.calendar.specs.Calendar.{date, exists}
use Rattle.calendar.specs.Due.{days_of_years, day_number, due_days, folded, factor_of, no_due_date}
use Rattle.calendar.specs.declared.Date.{Date}
use Rattle.boleto.specs.Strings.{digit_line_of}
use Rattle.boleto.specs.Rules.{head_rules, barcode_rules}

pub data Example : Type 0 where
  field_check : String → ℕ → Example
  general_check : String → ℕ → Example
  barcode : String → String → Example
  undated : ℕ → Example
  due : Date → ℕ → Example

-- a check digit; a valid barcode and its line; a factor that means no due date; a date that exists, and its factor
unfoldable pub holds : Example → Bool
holds (field_check s d) = eqb (check_digit Ten (bytes s)) d
holds (general_check s d) = eqb (check_digit Eleven (bytes s)) d
holds (barcode b l) = accepts (first_broken (barcode_rules (bytes b))) && same (digit_line_of (bytes b)) (bytes l)
holds (undated f) = no_due_date f
holds (due d f) = exists d && eqb (factor_of d) f

unfoldable pub table : List Example
table =
    field_check "085910408" 5
    ∷ field_check "0001111100" 2
    ∷ field_check "0000000401" 0
    ∷ general_check "0009000000000000000000000000000000000000000" 7
    ∷ general_check "0009000000000000000000000000000000000000003" 1
    ∷ general_check "0009000000000000000000000000000000000000004" 1
    ∷ general_check "0009000000000000000000000000000000000000009" 1
    ∷ barcode "08592726900000100001040800011111000000000401" "08591040850001111100200000004010272690000010000"
    ∷ undated 0
    ∷ due (date 3 7 2000) 1000
    ∷ due (date 1 9 2017) 7269
    ∷ due (date 21 2 2025) 9999
    ∷ due (date 22 2 2025) 1000
    ∷ []

abbrev pub every : List Example → Bool
every [] = true
every (e ∷ es) = holds e && every es

pub table_holds : T (every table)
unfolding table holds same check_digit counts lift weighed leading head_rules barcode_rules first_broken digit_line_of exists days_of_years day_number due_days folded factor_of
table_holds = tt
