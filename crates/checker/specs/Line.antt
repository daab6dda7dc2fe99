-- The rules of a line, in the paper's order. Assumes nothing.
use Rattle.std.specs.Prelude.{Bool, true, false, not, cond, ◌&&◌, ◌||◌, List, [], ◌∷◌, ◌++◌, ℕ, suc, ◌+◌, ◌-◌, leb, ltb, eqb, length, take, None, Option, Some}
use Rattle.answer.specs.Limits.{file_cents}
use Rattle.answer.specs.Rules.{Rule, rule}
use Rattle.digits.specs.Digits.{all_digits, place}
use Rattle.digits.specs.Numbers.{number_of, value}
use Rattle.calendar.specs.Calendar.{number_fits, date_of}
use Rattle.calendar.specs.Due.{factor_fits}
use Rattle.ids.specs.Ids.{id_fits}
use Rattle.boleto.specs.Strings.{factor_digits, cents_digits}
use Rattle.boleto.specs.Rules.{general_fits}
use Rattle.boleto.specs.Collection.{product_place, identifier_place, code_check}
use Rattle.boleto.specs.CollectionRules.{product_fits, identifier_fits, code_sealed}
use Rattle.layout.specs.Field.{Field, part}
use Rattle.layout.specs.Records.{shape_of, boleto_amount}
use Rattle.layout.specs.Table.{bank_field, batch_field, type_place, number_field, segment_place, segment_fields, fields_of, record_bytes, holder_id, payer_id, payee_id, guarantor_id, barcode_field, due_field, nominal_field, discount_field, fine_field, code_field, batch_records, batch_sum, file_batches, file_records}
use Rattle.layout.specs.Kinds.{registration_at}
use Rattle.layout.specs.Record.{rules_of, byte_rule}
use Rattle.layout.specs.declared.Record.{Record}
use Rattle.layout.specs.declared.shapes.LineType.{LineType}
use Rattle.layout.specs.declared.shapes.LineType.TheVariants.{FileFirst, BatchFirst, Detail, BatchLast, FileLast}
use Rattle.layout.specs.declared.shapes.House.{House}
use Rattle.layout.specs.declared.shapes.House.TheVariants.{RulesOfJ, OneId, ThreeIds, RulesOfO}
use Rattle.checker.specs.Order.{follows, read_as, ended}
use Rattle.checker.specs.Totals.{batch_count, record_count, payment_count, cent_sum, payments_of}
use Rattle.checker.specs.declared.Checker.{Checker}

-- ---- what a line asks

-- a field reads the number k
abbrev pub reads : ℕ → Field → ℕ → List ℕ → Rule
reads number f k rec = rule number f.from (number_fits (λ n. eqb n k) (number_of (part f rec)))

abbrev pub bank : Checker → List ℕ → Rule
bank s rec = reads 7 bank_field s.bank rec

abbrev pub batch_number : ℕ → List ℕ → Rule
batch_number k rec = reads 9 batch_field k rec

-- the ordinal of the batch that is open, or that a header opens
abbrev pub ordinal : Checker → ℕ
ordinal s = batch_count s.closed + 1

abbrev pub most_batches : ℕ
most_batches = 70

abbrev pub most_payments : ℕ
most_payments = 10000

-- the batch number of the file header, and that of the file trailer
abbrev pub header_batch : ℕ
header_batch = 0

abbrev pub trailer_batch : ℕ
trailer_batch = 9999

-- the fields that lie from place a to place b
unfoldable pub within : ℕ → ℕ → List Field → List Field
within a b [] = []
within a b (f ∷ fs) = cond (leb a f.from && leb f.to b) (f ∷ within a b fs) (within a b fs)

-- those of a record behind a place, and those behind a place up to another
abbrev pub behind : ℕ → Record → List Field
behind p r = within (suc p) record_bytes (fields_of r)

abbrev pub between : ℕ → ℕ → Record → List Field
between p q r = within (suc p) q (fields_of r)

-- ---- house rules of registration numbers

-- a right number of its type
abbrev pub id_rule : Field → List ℕ → Rule
id_rule f rec = rule 26 f.from (id_fits (registration_at f.from rec) (part f rec))

-- ---- house rules of J

abbrev pub cents : Field → List ℕ → ℕ
cents f rec = value (part f rec)

-- a factor other than 0 is the due date's
abbrev pub due_fits : List ℕ → Bool
due_fits rec = factor_fits (value (factor_digits (part barcode_field rec))) (date_of (value (part due_field rec)))

-- cents other than 0 equal the nominal
abbrev pub cents_fit : List ℕ → Bool
cents_fit rec =
    let coded = value (cents_digits (part barcode_field rec)) in
    eqb coded 0 || eqb coded (cents nominal_field rec)

-- amount = nominal - discount + fine, over whole numbers
abbrev pub amount_fits : List ℕ → Bool
amount_fits rec = eqb (cents boleto_amount rec + cents discount_field rec) (cents nominal_field rec + cents fine_field rec)

-- where general check, factor and cents of the barcode stand in a J
abbrev pub general_place : ℕ
general_place = 22

abbrev pub factor_place : ℕ
factor_place = 23

abbrev pub cents_place : ℕ
cents_place = 27

unfoldable pub boleto_rules : List ℕ → List Rule
boleto_rules rec =
    rule 16 general_place (general_fits (part barcode_field rec))
    ∷ rule 17 factor_place (due_fits rec)
    ∷ rule 18 cents_place (cents_fit rec)
    ∷ rule 19 boleto_amount.from (amount_fits rec)
    ∷ []

-- ---- house rules of O

-- where a place of the code stands in an O
abbrev pub code_place : ℕ → ℕ
code_place p = code_field.from - 1 + p

-- the code's product, its identifier and its general check
unfoldable pub collection_rules : List ℕ → List Rule
collection_rules rec =
    rule 52 (code_place product_place) (product_fits (part code_field rec))
    ∷ rule 53 (code_place identifier_place) (identifier_fits (part code_field rec))
    ∷ rule 55 (code_place code_check) (code_sealed (part code_field rec))
    ∷ []

-- what the house asks of a record behind its fields: the leftmost number first
abbrev pub house_by : Option House → List ℕ → List Rule
house_by None rec = []
house_by (Some RulesOfJ) rec = boleto_rules rec
house_by (Some OneId) rec = id_rule holder_id rec ∷ []
house_by (Some ThreeIds) rec = id_rule payer_id rec ∷ id_rule payee_id rec ∷ id_rule guarantor_id rec ∷ []
house_by (Some RulesOfO) rec = collection_rules rec

abbrev pub house_rules : Record → List ℕ → List Rule
house_rules r rec = house_by (shape_of r).house rec

-- ---- behind the type, by the type of the line that a record is

unfoldable pub rules_of_type : LineType → Record → Checker → List ℕ → List Rule
rules_of_type FileFirst r s rec =
    rule 8 bank_field.from (all_digits (part bank_field rec))
    ∷ batch_number header_batch rec
    ∷ rules_of (behind type_place r) s.dir rec
rules_of_type BatchFirst r s rec =
    rule 20 type_place (leb (ordinal s) most_batches)
    ∷ bank s rec
    ∷ batch_number (ordinal s) rec
    ∷ rules_of (behind type_place r) s.dir rec
rules_of_type Detail r s rec =
    bank s rec
    ∷ batch_number (ordinal s) rec
    ∷ reads 10 number_field (record_count s.current) rec
    ∷ rules_of (segment_fields r) s.dir rec
    ++ rule 20 segment_place (leb (payment_count s.current + payments_of r) most_payments)
    ∷ rules_of (behind segment_place r) s.dir rec
rules_of_type BatchLast r s rec =
    bank s rec
    ∷ batch_number (ordinal s) rec
    ∷ rules_of (between type_place batch_records.to r) s.dir rec
    ++ reads 21 batch_records (record_count s.current + 1) rec
    ∷ rules_of (behind batch_records.to r) s.dir rec
    ++ reads 22 batch_sum (cent_sum s.current) rec
    ∷ rule 23 batch_sum.from (ltb (cent_sum s.closed + cent_sum s.current) file_cents)
    ∷ []
rules_of_type FileLast r s rec =
    bank s rec
    ∷ batch_number trailer_batch rec
    ∷ rules_of (between type_place file_batches.to r) s.dir rec
    ++ reads 21 file_batches (batch_count s.closed) rec
    ∷ rules_of (between file_batches.to file_records.to r) s.dir rec
    ++ reads 21 file_records (record_count s.closed + 1) rec
    ∷ rules_of (behind file_records.to r) s.dir rec

-- those, then the house's
unfoldable pub rules_as : Record → Checker → List ℕ → List Rule
rules_as r s rec = rules_of_type (shape_of r).line r s rec ++ house_rules r rec

-- ---- a line

-- 240 bytes, CR and LF
abbrev pub line_bytes : ℕ
line_bytes = 242

abbrev pub carriage_return : ℕ
carriage_return = 13

abbrev pub line_feed : ℕ
line_feed = 10

abbrev pub line_from : List ℕ → List ℕ
line_from rec = rec ++ carriage_return ∷ line_feed ∷ []

abbrev pub record_in : List ℕ → List ℕ
record_in line = take record_bytes line

-- CR and LF at their places
abbrev pub ends_with : ℕ → ℕ → List ℕ → Rule
ends_with p byte line = rule 5 p (eqb (place p line) byte)

abbrev pub line_is : Checker → List ℕ → Option Record
line_is s rec = read_as (place type_place rec) (place segment_place rec) (follows s.phase s.dir s.batch)

abbrev pub found : Option Record → Bool
found (Some r) = true
found None = false

abbrev pub reading_rules : Option Record → Checker → List ℕ → List Rule
reading_rules (Some r) s rec = rules_as r s rec
reading_rules None s rec = []

unfoldable pub type_rules : Checker → List ℕ → List Rule
type_rules s rec = rule 6 type_place (found (line_is s rec)) ∷ reading_rules (line_is s rec) s rec

unfoldable pub line_rules : Checker → List ℕ → List Rule
line_rules s line =
    byte_rule (record_in line)
    ∷ ends_with (suc record_bytes) carriage_return line
    ∷ ends_with line_bytes line_feed line
    ∷ type_rules s (record_in line)

unfoldable pub rules_of_line : Checker → List ℕ → List Rule
rules_of_line s line = rule 3 0 (not (ended s.phase)) ∷ rule 1 0 (eqb (length line) line_bytes) ∷ line_rules s line
