-- Files that are written, computed: the paper's own of one credit of 100.00, from five calls with its fields as a caller has them; and the same, in
-- both directions, with each of A's two numbers that may be not given. Assumes nothing.
use Rattle.std.specs.Prelude.{◌≡◌, refl, Bool, true, ◌&&◌, ℕ, ◌*◌, T, replicate}
use mathlib.Core.List.{List, [], ◌∷◌, ◌++◌, flatten}
use Prim.Native.String.{String}
use Rattle.answer.specs.Rules.{first_broken}
use Rattle.answer.specs.Output.{over}
use Rattle.digits.specs.Digits.{bytes, digit_byte, leading, every_byte, weighed}
use Rattle.digits.specs.Checks.{counts, lift, check_digit}
use Rattle.ids.specs.Ids.{characters_fit, id_fits}
use Rattle.digits.specs.Numbers.{number_of, last_digits, numeral}
use Rattle.calendar.specs.Calendar.{exists, date_fits, time_fits}
use Rattle.layout.specs.Kinds.{same}
use Rattle.layout.specs.Pairs.{batch_of}
use Rattle.layout.specs.Record.{rules_of, clean}
use Rattle.layout.specs.Table.{fields_of, direction_field, paid_date}
use Rattle.layout.specs.Names.{before, index_of}
use Rattle.layout.specs.declared.names.Name.{Name}
use Rattle.layout.specs.declared.Record.{Record}
use Rattle.layout.specs.declared.Record.TheVariants.{FileHeader, BatchHeader, SegmentA, SegmentB, BatchTrailer, FileTrailer}
use Rattle.fields.specs.Values.{joined, record_of, blank_fields, with_number, with_text, not_given}
use Rattle.fields.specs.declared.Fields.{Fields}
use Rattle.checker.specs.Totals.{add}
use Rattle.checker.specs.Line.{line_bytes, within, boleto_rules, rules_of_type, rules_as, type_rules, line_rules, rules_of_line}
use Rattle.checker.specs.Machine.{sound, step_of}
use Rattle.files.specs.File.{cut, steps, end_of, finish, check_file}
use Rattle.writer.specs.Given.{Call, open_file, open_batch, pay, close_batch, close_file, two}
use Rattle.filling.specs.Filling.{filled}
use Rattle.writer.specs.Refusals.{all_given, given_rules, held, call_rules}
use Rattle.writer.specs.Outcome.{new_writer, lines_for, behind_all, answer_of}
use Rattle.writer.specs.Calls.{memory}
use Rattle.promises.specs.Guarded.{changed}
use Rattle.promises.proofs.laws.AcceptedFiles.{is_accepted, overwritten, credit_file}

-- a field that the caller gives, by its first place: its number, or its text; or says that it is not given
pub data Entry : Type 0 where
  number : ℕ → ℕ → Entry
  text : ℕ → String → Entry
  absent : ℕ → Entry

-- the name of the field that begins at a place
abbrev pub named : Record → ℕ → Name
named r p = record { 0 = r; 1 = before p (fields_of r) }

-- blank fields, and these over them
unfoldable pub entered : Record → List Entry → Fields
entered r [] = blank_fields r
entered r (number p n ∷ es) = with_number (named r p) n (entered r es)
entered r (text p t ∷ es) = with_text (named r p) (bytes t) (entered r es)
entered r (absent p ∷ es) = not_given (named r p) (entered r es)

-- in a file of a direction, 1 or 2
abbrev pub file_header : ℕ → Fields
file_header direction =
    entered FileHeader
    (number 1 85 ∷ number 18 2 ∷ text 19 "12345678000195" ∷ text 33 "CONVENIO 004711" ∷ number 53 101 ∷ text 58 "7" ∷ number 59 4321 ∷ text 71 "0"
    ∷ text 73 "CLINICA BOA VISTA LTDA" ∷ text 103 "BANCO DO VALE" ∷ number 143 direction ∷ number 144 16112026 ∷ number 152 143000 ∷ number 158 42
    ∷ number 164 103 ∷ [])

abbrev pub batch_header : Fields
batch_header =
    entered BatchHeader
    (number 10 20 ∷ number 12 41 ∷ number 14 45 ∷ number 18 2 ∷ text 19 "12345678000195" ∷ text 33 "CONVENIO 004711" ∷ number 53 101 ∷ text 58 "7"
    ∷ number 59 4321 ∷ text 71 "0" ∷ text 73 "CLINICA BOA VISTA LTDA" ∷ text 103 "PAGAMENTO DE FORNECEDORES" ∷ text 143 "RUA DAS FLORES"
    ∷ text 173 "00120" ∷ text 178 "SALA 4" ∷ text 193 "BLUMENAU" ∷ text 213 "89010000SC" ∷ [])

-- with more that is given, or said not to be
abbrev pub segment_a : List Entry → Fields
segment_a more =
    entered SegmentA
    (more ++ number 18 18 ∷ number 21 1 ∷ number 24 1234 ∷ text 29 "1" ∷ number 30 56789 ∷ text 42 "5" ∷ text 44 "OXIGENIO DO VALE LTDA"
    ∷ text 74 "NF 000001" ∷ number 94 16112026 ∷ text 102 "BRL" ∷ number 120 10000 ∷ [])

abbrev pub segment_b : Fields
segment_b =
    entered SegmentB
    (number 18 2 ∷ text 19 "23456789000195"
    ∷ text 33 "RUA DAS PALMEIRAS             00077                              BLUMENAU            89010000SC" ∷ [])

-- bank, numbering, counts and sum are the writer's
abbrev pub credit_calls : ℕ → List Entry → List Call
credit_calls direction more =
    open_file (file_header direction)
    ∷ open_batch batch_header
    ∷ pay (two (segment_a more) segment_b)
    ∷ close_batch (blank_fields BatchTrailer)
    ∷ close_file (blank_fields FileTrailer)
    ∷ []

-- six lines, in memory for six
abbrev pub credit_written : ℕ → List Entry → List ℕ
credit_written direction more = memory new_writer (credit_calls direction more) (replicate (6 * line_bytes) 0)

pub credit-written : credit_written 1 [] ≡ credit_file
unfolding entered before index_of first_broken over leading every_byte weighed counts lift check_digit characters_fit id_fits number_of last_digits numeral exists date_fits time_fits same batch_of rules_of clean fields_of joined record_of add boleto_rules sound filled given_rules all_given held call_rules lines_for behind_all answer_of memory flatten
credit-written = refl

-- ---- numbers that are not given: when the bank paid the credit, and how much

-- the bytes at the two fields of the third line, of the file header's direction
abbrev pub paid_as : ℕ → String → List ℕ
paid_as direction paid = overwritten (changed credit_file 0 direction_field.from (digit_byte direction)) 2 paid_date.from paid

-- each of the two is given or not, for itself, and 0 is given; such a file is written, in both directions, and accepted
pub record Paid : Type 0 where
  pub given : List Entry
  pub paid : String

abbrev pub row : List Entry → String → Paid
row given paid = record { given = given; paid = paid }

unfoldable pub combinations : List Paid
combinations =
    row (number 155 17112026 ∷ number 163 10000 ∷ []) "17112026000000000010000"
    ∷ row (number 155 17112026 ∷ absent 163 ∷ []) "17112026               "
    ∷ row (absent 155 ∷ number 163 10000 ∷ []) "        000000000010000"
    ∷ row (absent 155 ∷ absent 163 ∷ []) "                       "
    ∷ row (number 155 0 ∷ absent 163 ∷ []) "00000000               "
    ∷ row (absent 155 ∷ number 163 0 ∷ []) "        000000000000000"
    ∷ []

abbrev pub writes_it : ℕ → Paid → Bool
writes_it direction x = same (credit_written direction x.given) (paid_as direction x.paid) && is_accepted (check_file (paid_as direction x.paid))

abbrev pub every : List Paid → Bool
every [] = true
every (x ∷ xs) = writes_it 1 x && (writes_it 2 x && every xs)

pub absent_written : T (every combinations)
unfolding combinations entered before index_of first_broken over leading every_byte weighed counts lift check_digit characters_fit id_fits number_of last_digits numeral exists date_fits time_fits same batch_of rules_of clean fields_of joined record_of add boleto_rules sound filled given_rules all_given held call_rules lines_for behind_all answer_of memory flatten cut steps end_of finish within rules_of_type rules_as type_rules line_rules rules_of_line step_of
absent_written = tt
