-- Numbers that are not given, where they may be and where they may not, computed: one statement over one table, in both directions. Assumes nothing.
use Rattle.std.specs.Prelude.{Bool, true, false, ◌&&◌, List, [], ◌∷◌, ◌++◌, ℕ, ◌-◌, T, eqb, take, drop, None, Option, Some}
use Prim.Native.String.{String}
use Rattle.answer.specs.Rules.{accepts, first_broken}
use Rattle.answer.specs.Output.{over}
use Rattle.answer.specs.Sums.{largest}
use Rattle.answer.specs.Rules.{Answer}
use Rattle.digits.specs.Digits.{bytes, places, leading, weighed}
use Rattle.digits.specs.Numbers.{number_of, numeral, last_digits}
use Rattle.calendar.specs.Calendar.{exists, date_fits, time_fits}
use Rattle.ids.specs.Ids.{characters_fit}
use Rattle.layout.specs.Kinds.{same}
use Rattle.layout.specs.Examples.{refused_with}
use Rattle.layout.specs.Pairs.{batch_of}
use Rattle.layout.specs.Names.{before, index_of}
use Rattle.layout.specs.Record.{rules_of, clean, record_rules}
use Rattle.layout.specs.Field.{Field}
use Rattle.layout.specs.Table.{fields_of, paid_date, paid_amount}
use Rattle.layout.specs.declared.Direction.{Direction}
use Rattle.layout.specs.declared.Direction.TheVariants.{Remittance, Return}
use Rattle.layout.specs.declared.Record.{Record}
use Rattle.layout.specs.declared.Record.TheVariants.{FileHeader, BatchHeader, SegmentA, SegmentB, SegmentJ}
use Rattle.fields.specs.Values.{nth, blank_fields, give_nth, set_nth, with_text, not_given, joined, record_of, fields_in}
use Rattle.fields.specs.declared.Fields.{Fields}

-- fields by their records and places, with zeros and blanks but for what their rules ask: each is right
abbrev pub number : ℕ → ℕ → Fields → Fields
number place n v = set_nth (before place (fields_of v.which)) n v

abbrev pub wording : ℕ → String → Fields → Fields
wording place s v = with_text (record { 0 = v.which; 1 = before place (fields_of v.which) }) (bytes s) v

abbrev pub header : Fields
header = number 143 1 (number 144 16112026 (wording 19 "12345678000195" (blank_fields FileHeader)))

abbrev pub batch_header : Fields
batch_header = number 10 20 (number 12 41 (wording 19 "12345678000195" (blank_fields BatchHeader)))

abbrev pub credit : Fields
credit = number 94 16112026 (blank_fields SegmentA)

abbrev pub payee : Fields
payee = wording 19 "12345678000195" (blank_fields SegmentB)

abbrev pub boleto : Fields
boleto = wording 18 "08591162900000487500104080001111100000000401" (number 92 13112026 (number 145 16112026 (blank_fields SegmentJ)))

-- A's two numbers as they are given, and the 23 bytes that the record then has for them; a number of A that is too wide; a field, by its first place,
-- that is not given, where it is refused; bytes of one of A's two that are
pub data Example : Type 0 where
  paid : Option ℕ → Option ℕ → String → Example
  wide : Field → ℕ → Example
  absent : Fields → ℕ → ℕ → ℕ → Example
  mixed : Field → String → Example

abbrev pub same_number : Option ℕ → Option ℕ → Bool
same_number (Some n) (Some k) = eqb n k
same_number (Some n) None = false
same_number None (Some k) = false
same_number None None = true

abbrev pub answer : Direction → Record → List ℕ → Answer
answer d r rec = first_broken (record_rules r d rec)

abbrev pub made : Direction → Fields → Answer
made d v = answer d v.which (record_of v.which v)

abbrev pub give : Field → Option ℕ → Fields → Fields
give f m v = give_nth (index_of v.which f) m v

abbrev pub reads_as : List ℕ → Field → Option ℕ → Bool
reads_as rec f m = same_number (nth (index_of SegmentA f) (fields_in SegmentA rec)) m

unfoldable pub holds : Direction → Example → Bool
holds d (paid m k text) =
    let rec = record_of SegmentA (give paid_date m (give paid_amount k credit)) in
    accepts (answer d SegmentA rec)
    && (same (places paid_date.from paid_amount.to rec) (bytes text) && (reads_as rec paid_date m && reads_as rec paid_amount k))
holds d (wide f n) = refused_with 8 f.from (made d (give f (Some n) credit))
holds d (absent v place number at) =
    accepts (made d v) && refused_with number at (made d (not_given (record { 0 = v.which; 1 = before place (fields_of v.which) }) v))
holds d (mixed f text) =
    let rec = record_of SegmentA credit in
    refused_with 8 f.from (answer d SegmentA (take (f.from - 1) rec ++ bytes text ++ drop f.to rec))

unfoldable pub table : List Example
table =
    paid (Some 17112026) (Some 10000) "17112026000000000010000"
    ∷ paid (Some 17112026) None "17112026               "
    ∷ paid None (Some 10000) "        000000000010000"
    ∷ paid None None "                       "
    ∷ paid (Some 0) None "00000000               "
    ∷ paid None (Some 0) "        000000000000000"
    ∷ wide paid_date 100000000
    ∷ wide paid_date largest
    ∷ wide paid_amount 1000000000000000
    ∷ wide paid_amount largest
    ∷ absent header 1 8 1
    ∷ absent header 143 14 143
    ∷ absent header 144 15 144
    ∷ absent header 152 15 152
    ∷ absent batch_header 10 14 10
    ∷ absent batch_header 12 14 10
    ∷ absent credit 15 14 15
    ∷ absent credit 94 15 94
    ∷ absent credit 120 8 120
    ∷ absent payee 19 8 19
    ∷ absent boleto 18 8 18
    ∷ absent boleto 100 8 100
    ∷ mixed paid_date "    1234"
    ∷ mixed paid_date "1234    "
    ∷ mixed paid_date "       0"
    ∷ mixed paid_date "0       "
    ∷ mixed paid_amount "          10000"
    ∷ mixed paid_amount "10000          "
    ∷ []

abbrev pub every : List Example → Bool
every [] = true
every (x ∷ xs) = holds Remittance x && (holds Return x && every xs)

pub table_holds : T (every table)
unfolding table holds fields_of before index_of first_broken leading characters_fit number_of numeral last_digits exists date_fits time_fits same batch_of rules_of clean record_rules joined record_of fields_in weighed over
table_holds = tt
