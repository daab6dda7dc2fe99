-- Calls of the writer with registration numbers, computed: a wrong one is refused record by record, behind the record's own fields. Assumes nothing.
use mathlib.Core.List.{List, [], ◌∷◌, flatten}
use Prim.Native.String.{String}
use Rattle.std.specs.Prelude.{T}
use Rattle.answer.specs.Rules.{first_broken}
use Rattle.answer.specs.Output.{over}
use Rattle.digits.specs.Digits.{bytes, leading, every_byte, weighed}
use Rattle.digits.specs.Numbers.{number_of, last_digits, numeral}
use Rattle.digits.specs.Checks.{counts, lift, check_digit}
use Rattle.ids.specs.Ids.{characters_fit, id_fits}
use Rattle.calendar.specs.Calendar.{exists, date_fits, time_fits}
use Rattle.calendar.specs.Due.{days_of_years, day_number, due_days, folded, factor_of}
use Rattle.layout.specs.Kinds.{same}
use Rattle.layout.specs.Pairs.{batch_of}
use Rattle.layout.specs.Record.{rules_of, clean}
use Rattle.layout.specs.Table.{fields_of}
use Rattle.layout.specs.Names.{before, index_of}
use Rattle.layout.specs.declared.Record.TheVariants.{FileHeader, BatchHeader, SegmentA, SegmentJ, SegmentJ52, SegmentZ}
use Rattle.fields.specs.Values.{joined, record_of, blank_fields, with_number, with_text}
use Rattle.fields.specs.declared.Fields.{Fields}
use Rattle.checker.specs.Totals.{add}
use Rattle.checker.specs.Line.{boleto_rules}
use Rattle.checker.specs.Machine.{sound}
use Rattle.writer.specs.Given.{Call, open_file, open_batch, pay, two, three}
use Rattle.filling.specs.Filling.{filled}
use Rattle.writer.specs.Refusals.{all_given, given_rules, held, call_rules}
use Rattle.writer.specs.Outcome.{lines_for, behind_all, answer_of}
use Rattle.writer.specs.Calls.{lent_on}
use Rattle.promises.specs.Demands.{right_answers}
use Rattle.promises.proofs.laws.Trials.{Calls, taken, refused_as, every_calls}
use Rattle.promises.proofs.laws.WrittenFile.{number, text, entered, named, file_header, batch_header, segment_a, segment_b}

-- a header or a B with another number, and a wrong one
abbrev pub with_id : String → Fields → Fields
with_id id g = with_text (named g.which 19) (bytes id) g

abbrev pub wrong_id : String
wrong_id = "12345678000194"

-- a boleto in a return, whose guarantor is given
abbrev pub boleto_header : Fields
boleto_header = with_number (named BatchHeader 10) 1 (with_number (named BatchHeader 12) 31 batch_header)

abbrev pub segment_j : Fields
segment_j =
    entered SegmentJ
    (text 18 "08591162900000487500104080001111100000000401" ∷ text 62 "LAVANDERIA AGUA CLARA ME" ∷ number 92 13112026 ∷ number 100 48750 ∷ number 130 975
    ∷ number 145 16112026 ∷ number 153 49725 ∷ text 183 "NF 000003" ∷ [])

abbrev pub segment_j52 : String → Fields
segment_j52 guarantor =
    entered SegmentJ52
    (number 20 2 ∷ text 21 "012345678000195" ∷ text 36 "CLINICA BOA VISTA LTDA" ∷ number 76 2 ∷ text 77 "034567890000130"
    ∷ text 92 "LAVANDERIA AGUA CLARA ME" ∷ number 132 2 ∷ text 133 guarantor ∷ [])

-- a call in a credit batch of a remittance, and one in a boleto batch of a return
abbrev pub in_credit : Call → List Call
in_credit c = open_file (file_header 1) ∷ open_batch batch_header ∷ c ∷ []

abbrev pub in_boleto : Call → List Call
in_boleto c = open_file (file_header 2) ∷ open_batch boleto_header ∷ c ∷ []

-- 26 in each header, in B and in J52; a wrong field of the record itself, and of the A before a B, comes first; a Z that is not expected comes behind; and wrong characters are 8
unfoldable pub table : List Calls
table =
    refused_as (open_file (with_id wrong_id (file_header 1)) ∷ []) 26 1 19
    ∷ refused_as (open_file (with_number (named FileHeader 144) 0 (with_id wrong_id (file_header 1))) ∷ []) 15 1 144
    ∷ refused_as (open_file (file_header 1) ∷ open_batch (with_id wrong_id batch_header) ∷ []) 26 2 19
    ∷ taken (in_credit (pay (two (segment_a []) (with_id "12ABC34501DE35" segment_b))))
    ∷ refused_as (in_credit (pay (two (segment_a []) (with_id wrong_id segment_b)))) 26 4 19
    ∷ refused_as (in_credit (pay (two (segment_a []) (with_id "12ABC34501DE3X" segment_b)))) 8 4 19
    ∷ refused_as (in_credit (pay (two (with_number (named SegmentA 94) 0 (segment_a [])) (with_id wrong_id segment_b)))) 15 3 94
    ∷ refused_as (in_credit (pay (three (segment_a []) (with_id wrong_id segment_b) (blank_fields SegmentZ)))) 26 4 19
    ∷ refused_as (in_credit (pay (three (segment_a []) segment_b (blank_fields SegmentZ)))) 11 5 14
    ∷ taken (in_boleto (pay (two segment_j (segment_j52 "012ABC34501DE35"))))
    ∷ refused_as (in_boleto (pay (two segment_j (segment_j52 "012ABC34501DE36")))) 26 4 133
    ∷ []

pub table_holds : T (every_calls table)
unfolding table right_answers lent_on entered before index_of first_broken over leading every_byte weighed counts lift check_digit characters_fit id_fits number_of last_digits numeral exists date_fits time_fits days_of_years day_number due_days folded factor_of same batch_of rules_of clean fields_of joined record_of add boleto_rules sound filled given_rules all_given held call_rules lines_for behind_all answer_of flatten
table_holds = tt
