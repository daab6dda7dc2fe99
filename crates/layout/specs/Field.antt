-- A field of a record: its first and last places, and its kind. Assumes nothing.
use Rattle.std.specs.Prelude.{List, ℕ}
use Rattle.digits.specs.Digits.{places}

-- N digits; NOrBlank digits, or blanks for a number that is not given; Id a registration number, CPF or CNPJ; T text; F any; D a date; Time; K blanks;
-- O blanks in a remittance; zeros; exact content; a domain; service and form; the barcode; the collection code; the record's type and
-- its segment
pub data Kind : Type 0 where
  N NOrBlank Id T F D Time K O Zeros Service Form Barcode Code : Kind
  Exact OneOf : List ℕ → Kind
  RecordType Segment : ℕ → Kind

pub record Field : Type 0 where
  pub from : ℕ
  pub to : ℕ
  pub kind : Kind

abbrev pub field : ℕ → ℕ → Kind → Field
field a b k = record { from = a; to = b; kind = k }

-- the bytes at a field's places
abbrev pub part : Field → List ℕ → List ℕ
part f rec = places f.from f.to rec

-- stands for a field past the table's end
abbrev pub none : Field
none = field 0 0 N
