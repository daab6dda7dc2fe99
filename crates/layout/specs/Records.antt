-- The records, a row each: what a record is to the file. Assumes nothing.
use Rattle.std.specs.Prelude.{Bool, true, false, ◌||◌, List, [], ◌∷◌, ℕ, eqb, None, Option, Some}
use Rattle.digits.specs.Digits.{digit_byte}
use Rattle.layout.specs.Field.{Field, field, N}
use Rattle.layout.specs.declared.Record.{Record}
use Rattle.layout.specs.declared.Record.TheVariants.{FileHeader, BatchHeader, SegmentA, SegmentB, SegmentJ, SegmentJ52, SegmentZ, BatchTrailer, FileTrailer, SegmentO}
use Rattle.layout.specs.declared.shapes.LineType.{LineType}
use Rattle.layout.specs.declared.shapes.LineType.TheVariants.{FileFirst, BatchFirst, Detail, BatchLast, FileLast}
use Rattle.layout.specs.declared.shapes.Phase.{Phase}
use Rattle.layout.specs.declared.shapes.Phase.TheVariants.{Headed, Opened, Within, Paid, BehindZ, Closed, Ended}
use Rattle.layout.specs.declared.shapes.Amount.{Amount}
use Rattle.layout.specs.declared.shapes.Amount.TheVariants.{OfA, OfJ, OfO}
use Rattle.layout.specs.declared.shapes.House.{House}
use Rattle.layout.specs.declared.shapes.House.TheVariants.{RulesOfJ, OneId, ThreeIds, RulesOfO}
use Rattle.layout.specs.declared.shapes.Shape.{Shape}

-- a row: the record's number in the table; the type of its line; the letter of a detail; the phase behind it; its amount; what the house asks of it
abbrev pub shape : ℕ → LineType → ℕ → Phase → Option Amount → Option House → Shape
shape code line letter after amount house =
    record { code = code; line = line; letter = letter; after = after; amount = amount; house = house }

-- headers and trailers have no letter; the letters of details: A 65, B 66, J 74, O 79, Z 90
abbrev pub no_letter : ℕ
no_letter = 0

abbrev pub letter_z : ℕ
letter_z = 90

abbrev pub shape_of : Record → Shape
shape_of FileHeader = shape 0 FileFirst no_letter Headed None (Some OneId)
shape_of BatchHeader = shape 1 BatchFirst no_letter Opened None (Some OneId)
shape_of SegmentA = shape 2 Detail 65 (Within 1) (Some OfA) None
shape_of SegmentB = shape 3 Detail 66 Paid None (Some OneId)
shape_of SegmentJ = shape 4 Detail 74 (Within 1) (Some OfJ) (Some RulesOfJ)
shape_of SegmentJ52 = shape 5 Detail 74 Paid None (Some ThreeIds)
shape_of SegmentZ = shape 6 Detail letter_z BehindZ None None
shape_of BatchTrailer = shape 7 BatchLast no_letter Closed None None
shape_of FileTrailer = shape 8 FileLast no_letter Ended None None
shape_of SegmentO = shape 9 Detail 79 Paid (Some OfO) (Some RulesOfO)

-- all of them, in the order of their numbers
abbrev pub records : List Record
records = FileHeader ∷ BatchHeader ∷ SegmentA ∷ SegmentB ∷ SegmentJ ∷ SegmentJ52 ∷ SegmentZ ∷ BatchTrailer ∷ FileTrailer ∷ SegmentO ∷ []

-- ---- read from the row

abbrev pub code : Record → ℕ
code r = (shape_of r).code

abbrev pub is_one_of : Record → List Record → Bool
is_one_of r [] = false
is_one_of r (q ∷ qs) = eqb (code r) (code q) || is_one_of r qs

-- the types of lines
abbrev pub type_byte : LineType → ℕ
type_byte FileFirst = digit_byte 0
type_byte BatchFirst = digit_byte 1
type_byte Detail = digit_byte 3
type_byte BatchLast = digit_byte 5
type_byte FileLast = digit_byte 9

abbrev pub is_detail : LineType → Bool
is_detail FileFirst = false
is_detail BatchFirst = false
is_detail Detail = true
is_detail BatchLast = false
is_detail FileLast = false

abbrev pub type_of : Record → ℕ
type_of r = type_byte (shape_of r).line

abbrev pub letter_of : Record → ℕ
letter_of r = (shape_of r).letter

-- the phase behind a line
abbrev pub after : Record → Phase
after r = (shape_of r).after

-- the amount of a payment, in A, in J and in O
abbrev pub credit_amount : Field
credit_amount = field 120 134 N

abbrev pub boleto_amount : Field
boleto_amount = field 153 167 N

abbrev pub collection_amount : Field
collection_amount = field 108 122 N

abbrev pub amount_field : Option Amount → List Field
amount_field None = []
amount_field (Some OfA) = credit_amount ∷ []
amount_field (Some OfJ) = boleto_amount ∷ []
amount_field (Some OfO) = collection_amount ∷ []

abbrev pub amounts_of : Record → List Field
amounts_of r = amount_field (shape_of r).amount
