-- The table as the code holds it and hands it out: columns of numbers, kinds by number, and fixed content. Assumes nothing.
use Rattle.std.specs.Prelude.{◌≡◌, Bool, true, cond, ◌&&◌, List, [], ◌∷◌, map, ℕ, ◌+◌, ◌-◌, leb, ltb, eqb, length, get_or, take}
use Rattle.digits.specs.Digits.{digit_byte}
use Rattle.digits.specs.inner.Rows.{tab}
use Rattle.ids.specs.Ids.{cnpj_characters}
use Rattle.layout.specs.Field.{Kind, N, NOrBlank, Id, T, F, D, Time, K, O, Zeros, Exact, OneOf, Service, Form, Barcode, Code, RecordType, Segment, Field, field}
use Rattle.layout.specs.Table.{fields_of, zero_one_two, zero_nine, one_two, exact_c, exact09, exact52, fields_of_each, all}
use Rattle.layout.specs.Records.{code, records}
use Rattle.layout.specs.Kinds.{Held, a_number, as_bytes, as_fixed, means, blank}
use Rattle.layout.specs.declared.fixed.Content.{Content}
use Rattle.layout.specs.declared.fixed.Content.TheVariants.{Run, LetterC, Code09, Code52}
use Rattle.layout.specs.declared.kinds.Fill.{Fill}
use Rattle.layout.specs.declared.kinds.Fill.TheVariants.{Number, Text, Fixed}
use Rattle.layout.specs.declared.table.Entry.{Entry}
use Rattle.layout.specs.declared.table.Span.{Span}
use Rattle.layout.specs.declared.table.Table.{Table}
use Rattle.layout.specs.declared.Record.{Record}

-- ---- the records one after the other

-- where a record's fields begin, and where they end
unfoldable pub start_of : Record → ℕ
start_of r = length (fields_of_each (take (code r) records))

unfoldable pub span_of : Record → Span
span_of r = record { first = start_of r; past = start_of r + length (fields_of r) }

abbrev pub field_count : ℕ
field_count = 159

-- what stands at f in a column, and in a table; past their end 0
abbrev pub in_column : List ℕ → ℕ → ℕ
in_column column f = cond (ltb f field_count) (get_or column f 0) 0

abbrev pub entry_in : Table → ℕ → Entry
entry_in t f = record { from = in_column t.from f; to = in_column t.to f; kind = in_column t.kind f }

-- ---- kinds by number

abbrev pub kinds : List Kind
kinds = N ∷ D ∷ Time ∷ zero_nine ∷ Service ∷ Barcode ∷ T ∷ Form ∷ zero_one_two ∷ one_two ∷ Id ∷ O ∷ K ∷ Zeros ∷ exact_c ∷ exact09 ∷ exact52 ∷ NOrBlank ∷ Code ∷ []

abbrev pub kind_count : ℕ
kind_count = length kinds

-- the number of the kind of a number that may be not given
abbrev pub n_or_blank : ℕ
n_or_blank = 17

-- D to T have a rule that asks more than the masks of a record tell
abbrev pub is_whole : ℕ → Bool
is_whole n = leb 1 n && leb n 6

-- types and segments are named by their byte, from 0 to Z; any other number names F
abbrev pub first_mark : ℕ
first_mark = digit_byte 0

abbrev pub first_letter : ℕ
first_letter = 65

abbrev pub last_mark : ℕ
last_mark = 90

abbrev pub is_mark : ℕ → Bool
is_mark n = leb first_mark n && leb n last_mark

abbrev pub kind_of : ℕ → Kind
kind_of n = cond (is_mark n) (cond (ltb n first_letter) (RecordType n) (Segment n)) (get_or kinds n F)

-- the field that an entry is
abbrev pub field_of : Entry → Field
field_of e = field e.from e.to (kind_of e.kind)

-- a width that a field of a kind may have: a registration number has room for a CNPJ, exact content has one width, and a domain is of one byte
abbrev pub may_be : Kind → ℕ → Bool
may_be N w = true
may_be NOrBlank w = true
may_be Id w = leb cnpj_characters w
may_be T w = true
may_be F w = true
may_be D w = true
may_be Time w = true
may_be K w = true
may_be O w = true
may_be Zeros w = true
may_be (Exact bs) w = eqb w (length bs)
may_be (OneOf domain) w = eqb w 1
may_be Service w = true
may_be Form w = true
may_be Barcode w = true
may_be Code w = true
may_be (RecordType b) w = eqb w 1
may_be (Segment b) w = eqb w 1

-- ---- fixed content

-- the byte at a place of a field, counted from 0; past the end of a byte string 0
abbrev pub byte_at : Content → ℕ → ℕ
byte_at (Run b) i = b
byte_at LetterC i = get_or (67 ∷ []) i 0
byte_at Code09 i = get_or (digit_byte 0 ∷ digit_byte 9 ∷ []) i 0
byte_at Code52 i = get_or (digit_byte 5 ∷ digit_byte 2 ∷ []) i 0

-- all bytes of a field of this width
abbrev pub content_of : Content → ℕ → List ℕ
content_of c width = tab width (byte_at c)

-- the kinds of fixed content, from K on
abbrev pub first_fixed : ℕ
first_fixed = 12

abbrev pub contents : List Content
contents = Run blank ∷ Run (digit_byte 0) ∷ LetterC ∷ Code09 ∷ Code52 ∷ []

-- that of a kind by number; a type and a segment are their byte
abbrev pub content_by : ℕ → Content
content_by n = cond (is_mark n) (Run n) (get_or contents (n - first_fixed) (Run blank))

abbrev pub fill_as : Held → Content → Fill
fill_as (a_number p) c = Number
fill_as as_bytes c = Text
fill_as (as_fixed content) c = Fixed c

-- what a field is filled with whose kind has this number
abbrev pub fill_of : ℕ → Fill
fill_of n = fill_as (means (kind_of n)).held (content_by n)

-- three lists are the table's columns
pub record Columns (from to kind : List ℕ) : Type 0 where
  pub froms : from ≡ map (λ (g : Field). g.from) all
  pub tos : to ≡ map (λ (g : Field). g.to) all
  pub kinds_of : map kind_of kind ≡ map (λ (g : Field). g.kind) all
