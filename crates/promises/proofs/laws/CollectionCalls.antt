-- Calls of the writer with collections, computed: a water bill is written, and what is refused on which line. Assumes nothing.
use Rattle.std.specs.Prelude.{◌≡◌, refl, ℕ, ◌*◌, T, replicate}
use mathlib.Core.List.{List, [], ◌∷◌, flatten}
use Prim.Native.String.{String}
use Rattle.answer.specs.Rules.{first_broken}
use Rattle.answer.specs.Output.{over}
use Rattle.digits.specs.Digits.{bytes, leading, every_byte, weighed}
use Rattle.digits.specs.Numbers.{number_of, last_digits, numeral}
use Rattle.digits.specs.Checks.{counts, lift, check_digit}
use Rattle.ids.specs.Ids.{characters_fit, id_fits}
use Rattle.calendar.specs.Calendar.{exists, date_fits, time_fits}
use Rattle.boleto.specs.Collection.{modulus_of}
use Rattle.layout.specs.Kinds.{same}
use Rattle.layout.specs.Pairs.{batch_of}
use Rattle.layout.specs.Record.{rules_of, clean}
use Rattle.layout.specs.Table.{fields_of}
use Rattle.layout.specs.Names.{before, index_of}
use Rattle.layout.specs.declared.Record.TheVariants.{BatchHeader, SegmentZ, BatchTrailer, FileTrailer, SegmentO}
use Rattle.fields.specs.Values.{joined, record_of, blank_fields, with_number, with_text}
use Rattle.fields.specs.declared.Fields.{Fields}
use Rattle.checker.specs.Totals.{add}
use Rattle.checker.specs.Line.{line_bytes, collection_rules}
use Rattle.checker.specs.Machine.{sound}
use Rattle.writer.specs.Given.{Call, open_file, open_batch, pay, close_batch, close_file, one, two, three}
use Rattle.filling.specs.Filling.{filled}
use Rattle.writer.specs.Refusals.{all_given, given_rules, held, call_rules}
use Rattle.writer.specs.Outcome.{new_writer, lines_for, behind_all, answer_of}
use Rattle.writer.specs.Calls.{lent_on, memory}
use Rattle.promises.specs.Demands.{right_answers}
use Rattle.promises.proofs.laws.CollectionFiles.{collection_file}
use Rattle.promises.proofs.laws.Trials.{Calls, taken, refused_as, every_calls}
use Rattle.promises.proofs.laws.WrittenFile.{number, text, entered, named, file_header, batch_header, segment_a, segment_b}
use Rattle.promises.proofs.laws.IdCalls.{in_credit}

abbrev pub collection_header : Fields
collection_header = with_text (named BatchHeader 103) (bytes "PAGAMENTO DE CONTAS E TRIBUTOS") (with_number (named BatchHeader 10) 29 (with_number (named BatchHeader 12) 11 batch_header))

abbrev pub segment_o : Fields
segment_o =
    entered SegmentO
    (text 18 "82670000001874212342026112000000045678900001" ∷ text 62 "AGUAS DO VALE SA" ∷ number 92 20112026 ∷ number 100 16112026 ∷ number 108 18742
    ∷ text 123 "CONTA 000001" ∷ [])

abbrev pub with_code : String → Fields
with_code code = with_text (named SegmentO 18) (bytes code) segment_o

abbrev pub segment_z : Fields
segment_z = blank_fields SegmentZ

-- ---- a file

abbrev pub collection_calls : List Call
collection_calls =
    open_file (file_header 1)
    ∷ open_batch collection_header
    ∷ pay (one segment_o)
    ∷ close_batch (blank_fields BatchTrailer)
    ∷ close_file (blank_fields FileTrailer)
    ∷ []

-- five lines, in memory for five
pub collection_written : memory new_writer collection_calls (replicate (5 * line_bytes) 0) ≡ collection_file
unfolding entered before index_of first_broken over leading every_byte weighed counts lift check_digit characters_fit id_fits number_of last_digits numeral exists date_fits time_fits same batch_of rules_of clean fields_of joined record_of add collection_rules modulus_of sound filled given_rules all_given held call_rules lines_for behind_all answer_of flatten memory
collection_written = refl

-- ---- calls

-- a call in a collection batch of a file of a direction, 1 or 2
abbrev pub in_collection : ℕ → Call → List Call
in_collection direction c = open_file (file_header direction) ∷ open_batch collection_header ∷ c ∷ []

-- a payment is one O, in a return perhaps with a Z; another record is 11 on its own line, and one alone that is no O is a spoiled O; the rules of the
-- code come behind the fields of the O, and before the records behind it
unfoldable pub table : List Calls
table =
    taken (in_collection 1 (pay (one segment_o)))
    ∷ taken (in_collection 2 (pay (one segment_o)))
    ∷ taken (in_collection 2 (pay (two segment_o segment_z)))
    ∷ refused_as (in_collection 1 (pay (two segment_o segment_z))) 11 4 14
    ∷ refused_as (in_collection 2 (pay (three segment_o segment_z segment_z))) 11 5 14
    ∷ refused_as (in_collection 1 (pay (two segment_o segment_o))) 11 4 14
    ∷ refused_as (in_collection 1 (pay (two (segment_a []) segment_b))) 11 3 14
    ∷ refused_as (in_collection 2 (pay (two segment_z segment_o))) 11 3 14
    ∷ refused_as (in_credit (pay (one segment_o))) 11 3 14
    ∷ refused_as (in_credit (pay (two segment_o segment_b))) 11 3 14
    ∷ refused_as (in_credit (pay (three (segment_a []) segment_b segment_o))) 11 5 14
    ∷ refused_as (in_credit (pay (one (segment_a [])))) 4 3 18
    ∷ refused_as (in_collection 1 (pay (one (with_code "72670000001874212342026112000000045678900001")))) 52 3 18
    ∷ refused_as (in_collection 1 (pay (one (with_code "82570000001874212342026112000000045678900001")))) 53 3 20
    ∷ refused_as (in_collection 1 (pay (one (with_code "82690000001874212342026112000000045678900001")))) 55 3 21
    ∷ refused_as (in_collection 1 (pay (one (with_number (named SegmentO 92) 0 (with_code "72670000001874212342026112000000045678900001"))))) 15 3 92
    ∷ refused_as (in_collection 1 (pay (two (with_code "72670000001874212342026112000000045678900001") segment_z))) 52 3 18
    ∷ refused_as (in_collection 1 (pay (one (with_code "8267000000187421234202611200000004567890000A")))) 8 3 18
    ∷ []

pub table_holds : T (every_calls table)
unfolding table right_answers lent_on entered before index_of first_broken over leading every_byte weighed counts lift check_digit characters_fit id_fits number_of last_digits numeral exists date_fits time_fits same batch_of rules_of clean fields_of joined record_of add collection_rules modulus_of sound filled given_rules all_given held call_rules lines_for behind_all answer_of flatten
table_holds = tt
