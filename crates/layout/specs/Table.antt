-- The layout table: the fields of each record, left to right, with their first and last places. Assumes nothing.
use Rattle.std.specs.Prelude.{Bool, cond, ◌&&◌, List, [], ◌∷◌, ◌++◌, ℕ, suc, ◌-◌, leb, eqb}
use Rattle.digits.specs.Digits.{digit_byte}
use Rattle.layout.specs.Field.{Kind, N, NOrBlank, Id, T, F, D, Time, K, O, Zeros, Exact, OneOf, Service, Form, Barcode, Code, RecordType, Segment, Field, field}
use Rattle.layout.specs.Records.{shape_of, records, is_detail, type_of, letter_of, credit_amount, boleto_amount, collection_amount}
use Rattle.layout.specs.declared.Record.{Record}
use Rattle.layout.specs.declared.Record.TheVariants.{FileHeader, BatchHeader, SegmentA, SegmentB, SegmentJ, SegmentJ52, SegmentZ, BatchTrailer, FileTrailer, SegmentO}

-- ---- what lines begin with

-- all lines
abbrev pub bank_field : Field
bank_field = field 1 3 N

abbrev pub batch_field : Field
batch_field = field 4 7 N

abbrev pub type_place : ℕ
type_place = 8

abbrev pub type_field : Record → Field
type_field r = field type_place type_place (RecordType (type_of r))

abbrev pub line : Record → List Field
line r = bank_field ∷ batch_field ∷ type_field r ∷ []

-- all details, and no other line
abbrev pub in_details : Record → List Field → List Field
in_details r fs = cond (is_detail (shape_of r).line) fs []

abbrev pub number_field : Field
number_field = field 9 13 N

abbrev pub segment_place : ℕ
segment_place = 14

abbrev pub segment_field : ℕ → Field
segment_field letter = field segment_place segment_place (Segment letter)

abbrev pub segment_fields : Record → List Field
segment_fields r = in_details r (segment_field (letter_of r) ∷ [])

abbrev pub detail : Record → List Field
detail r = in_details r (number_field ∷ segment_field (letter_of r) ∷ [])

-- what a record is known by
abbrev pub marks : Record → List Field
marks r = type_field r ∷ segment_fields r

-- ---- fields with a name, and kinds

-- domains
abbrev pub zero_one_two : Kind
zero_one_two = OneOf (digit_byte 0 ∷ digit_byte 1 ∷ digit_byte 2 ∷ [])

abbrev pub zero_nine : Kind
zero_nine = OneOf (digit_byte 0 ∷ digit_byte 9 ∷ [])

abbrev pub one_two : Kind
one_two = OneOf (digit_byte 1 ∷ digit_byte 2 ∷ [])

-- exact content: "C", "09", "52"
abbrev pub exact_c : Kind
exact_c = Exact (67 ∷ [])

abbrev pub exact09 : Kind
exact09 = Exact (digit_byte 0 ∷ digit_byte 9 ∷ [])

abbrev pub exact52 : Kind
exact52 = Exact (digit_byte 5 ∷ digit_byte 2 ∷ [])

-- the type of a registration number, in the place right before it
abbrev pub id_type : Field → Field
id_type f = field (f.from - 1) (f.from - 1) zero_one_two

-- registration numbers: in both headers that of the company, in B that of the payee; in J52 those of payer, payee and guarantor
abbrev pub holder_id : Field
holder_id = field 19 32 Id

abbrev pub payer_id : Field
payer_id = field 21 35 Id

abbrev pub payee_id : Field
payee_id = field 77 91 Id

abbrev pub guarantor_id : Field
guarantor_id = field 133 147 Id

-- both headers
abbrev pub company : List Field
company =
    id_type holder_id ∷ holder_id ∷ field 33 52 T ∷ field 53 57 N ∷ field 58 58 F ∷ field 59 70 N ∷ field 71 71 F ∷ field 72 72 F
    ∷ field 73 102 T ∷ []

-- service and form
abbrev pub service_field : Field
service_field = field 10 11 Service

abbrev pub form_field : Field
form_field = field 12 13 Form

-- remittance or return
abbrev pub direction_field : Field
direction_field = field 143 143 one_two

-- the movement of a payment, in each record that has an amount: 0, or 9, which withdraws it
abbrev pub movement_field : Field
movement_field = field 15 15 zero_nine

-- when the bank paid a credit and how much, a number each, not given until then
abbrev pub paid_date : Field
paid_date = field 155 162 NOrBlank

abbrev pub paid_amount : Field
paid_amount = field 163 177 NOrBlank

-- what a boleto is paid by, beside its amount; the due date stands in O too
abbrev pub barcode_field : Field
barcode_field = field 18 61 Barcode

abbrev pub due_field : Field
due_field = field 92 99 D

abbrev pub nominal_field : Field
nominal_field = field 100 114 N

abbrev pub discount_field : Field
discount_field = field 115 129 N

abbrev pub fine_field : Field
fine_field = field 130 144 N

-- what a collection is paid by: a bill of water or power, or a tax
abbrev pub code_field : Field
code_field = field 18 61 Code

-- counts and sum of the trailers
abbrev pub batch_records : Field
batch_records = field 18 23 N

abbrev pub batch_sum : Field
batch_sum = field 24 41 N

abbrev pub file_batches : Field
file_batches = field 18 23 N

abbrev pub file_records : Field
file_records = field 24 29 N

-- ---- the table

-- the fields of each record behind what all lines and all details begin with
abbrev pub own : Record → List Field
own FileHeader =
    field 9 17 K ∷ company
    ++ field 103 132 T ∷ field 133 142 K ∷ direction_field ∷ field 144 151 D ∷ field 152 157 Time ∷ field 158 163 N ∷ field 164 166 N
    ∷ field 167 171 N ∷ field 172 240 F ∷ []
own BatchHeader =
    field 9 9 exact_c ∷ service_field ∷ form_field ∷ field 14 16 N ∷ field 17 17 K ∷ company
    ++ field 103 142 T ∷ field 143 172 T ∷ field 173 177 F ∷ field 178 192 T ∷ field 193 212 T ∷ field 213 230 F ∷ field 231 240 O ∷ []
own SegmentA =
    movement_field ∷ field 16 17 N ∷ field 18 20 N ∷ field 21 23 N ∷ field 24 28 N ∷ field 29 29 F ∷ field 30 41 N ∷ field 42 42 F
    ∷ field 43 43 F ∷ field 44 73 T ∷ field 74 93 T ∷ field 94 101 D ∷ field 102 104 F ∷ field 105 119 N ∷ credit_amount ∷ field 135 154 F
    ∷ paid_date ∷ paid_amount ∷ field 178 230 F ∷ field 231 240 O ∷ []
own SegmentB = field 15 17 F ∷ id_type holder_id ∷ holder_id ∷ field 33 240 F ∷ []
own SegmentJ =
    movement_field ∷ field 16 17 N ∷ barcode_field ∷ field 62 91 T ∷ due_field ∷ nominal_field ∷ discount_field ∷ fine_field
    ∷ field 145 152 D ∷ boleto_amount ∷ field 168 182 Zeros ∷ field 183 202 T ∷ field 203 222 F ∷ field 223 224 exact09
    ∷ field 225 230 K ∷ field 231 240 O ∷ []
own SegmentJ52 =
    field 15 15 K ∷ field 16 17 N ∷ field 18 19 exact52 ∷ id_type payer_id ∷ payer_id ∷ field 36 75 T ∷ id_type payee_id ∷ payee_id
    ∷ field 92 131 T ∷ id_type guarantor_id ∷ guarantor_id ∷ field 148 187 T ∷ field 188 240 K ∷ []
own SegmentZ = field 15 240 F ∷ []
own BatchTrailer =
    field 9 17 K ∷ batch_records ∷ batch_sum ∷ field 42 59 N ∷ field 60 65 N ∷ field 66 230 K ∷ field 231 240 O ∷ []
own FileTrailer = field 9 17 K ∷ file_batches ∷ file_records ∷ field 30 35 N ∷ field 36 240 K ∷ []
own SegmentO =
    movement_field ∷ field 16 17 N ∷ code_field ∷ field 62 91 T ∷ due_field ∷ field 100 107 D ∷ collection_amount ∷ field 123 142 T
    ∷ field 143 162 F ∷ field 163 230 K ∷ field 231 240 O ∷ []

unfoldable pub fields_of : Record → List Field
fields_of r = line r ++ (detail r ++ own r)

-- the whole table: the records one after the other
unfoldable pub fields_of_each : List Record → List Field
fields_of_each [] = []
fields_of_each (r ∷ rs) = fields_of r ++ fields_of_each rs

unfoldable pub all : List Field
all = fields_of_each records

-- ---- its rule

abbrev pub record_bytes : ℕ
record_bytes = 240

-- the fields cover the places from p to the record's last, with no gap and no overlap
unfoldable pub tiles : ℕ → List Field → Bool
tiles p [] = eqb p (suc record_bytes)
tiles p (f ∷ fs) = eqb f.from p && (leb p f.to && tiles (suc f.to) fs)
