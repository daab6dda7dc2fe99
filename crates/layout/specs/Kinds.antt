-- The kinds of field, a row each: how a caller holds a field of the kind, and its rules. Assumes nothing.
use Rattle.std.specs.Prelude.{Bool, true, false, not, ◌&&◌, ◌||◌, List, [], ◌∷◌, ◌++◌, ℕ, ◌+◌, ◌-◌, eqb, length, get_or, replicate, is_some}
use Rattle.answer.specs.Rules.{Rule, rule}
use Rattle.digits.specs.Digits.{all_digits, digit_byte, place}
use Rattle.calendar.specs.Calendar.{date_fits, time_fits}
use Rattle.ids.specs.Ids.{registration_of, characters_fit}
use Rattle.ids.specs.declared.Registration.{Registration}
use Rattle.boleto.specs.Strings.{currency_place}
use Rattle.boleto.specs.Rules.{currency_fits}
use Rattle.layout.specs.Pairs.{among, batch_of}
use Rattle.layout.specs.Field.{Kind, N, NOrBlank, Id, T, F, D, Time, K, O, Zeros, Exact, OneOf, Service, Form, Barcode, Code, RecordType, Segment, part}
use Rattle.layout.specs.Table.{service_field, form_field}
use Rattle.layout.specs.declared.Direction.{Direction}
use Rattle.layout.specs.declared.Direction.TheVariants.{Remittance, Return}

-- whether a field's number is given in every record, or may be not given
pub data Presence : Type 0 where
  always perhaps : Presence

-- as a number, as its bytes, or not at all: its content is fixed, at each width
pub data Held : Type 0 where
  a_number : Presence → Held
  as_bytes : Held
  as_fixed : (ℕ → List ℕ) → Held

abbrev pub as_number : Held
as_number = a_number always

abbrev pub as_number_if_given : Held
as_number_if_given = a_number perhaps

-- held as a number that may be not given
abbrev pub may_be_absent : Held → Bool
may_be_absent (a_number always) = false
may_be_absent (a_number perhaps) = true
may_be_absent as_bytes = false
may_be_absent (as_fixed content) = false

-- a field in a record: its first place, its bytes, the whole record and the direction
pub record Part : Type 0 where
  pub place : ℕ
  pub bytes : List ℕ
  pub whole : List ℕ
  pub direction : Direction

abbrev pub a_part : ℕ → List ℕ → List ℕ → Direction → Part
a_part place bytes whole direction = record { place = place; bytes = bytes; whole = whole; direction = direction }

pub record Meaning : Type 0 where
  pub held : Held
  pub rules : Part → List Rule

abbrev pub row : Held → (Part → List Rule) → Meaning
row held rules = record { held = held; rules = rules }

-- one rule, at the field's first place
abbrev pub wrong : ℕ → (List ℕ → Bool) → Part → List Rule
wrong number test p = rule number p.place (test p.bytes) ∷ []

-- ---- bytes

abbrev pub blank : ℕ
blank = 32

unfoldable pub same : List ℕ → List ℕ → Bool
same [] [] = true
same [] (y ∷ ys) = false
same (x ∷ xs) [] = false
same (x ∷ xs) (y ∷ ys) = eqb x y && same xs ys

abbrev pub run : ℕ → ℕ → List ℕ
run x width = replicate width x

abbrev pub text : List ℕ → ℕ → List ℕ
text bs width = bs

-- the content that a field of its width has
abbrev pub is_fixed : (ℕ → List ℕ) → List ℕ → Bool
is_fixed content bs = same (content (length bs)) bs

-- the first byte is blank only if all are
abbrev pub text_fits : List ℕ → Bool
text_fits bs = not (eqb (get_or bs 0 0) blank) || is_fixed (run blank) bs

-- all digits, or all blanks
abbrev pub number_or_blank : List ℕ → Bool
number_or_blank bs = all_digits bs || is_fixed (run blank) bs

-- one byte, of these
abbrev pub one_of : List ℕ → List ℕ → Bool
one_of domain bs = eqb (length bs) 1 && among (get_or bs 0 0) domain

-- ---- the rows

abbrev pub fixed_as : ℕ → (ℕ → List ℕ) → Meaning
fixed_as number content = row (as_fixed content) (wrong number (is_fixed content))

-- blanks in a remittance, any bytes in a return
abbrev pub blank_in : Direction → Part → List Rule
blank_in Remittance p = wrong 12 (is_fixed (run blank)) p
blank_in Return p = []

-- service and form are one pair with one rule, which the service carries: whichever half is wrong, or no number, is refused there
abbrev pub pair_rule : Part → List Rule
pair_rule p =
    rule 14 service_field.from (is_some (batch_of p.direction (part service_field p.whole) (part form_field p.whole))) ∷ []

-- what a registration number is, by its type, in the place right before its first
abbrev pub registration_at : ℕ → List ℕ → Registration
registration_at from rec = registration_of (place (from - 1) rec)

-- the characters that it may have
abbrev pub id_characters : Part → List Rule
id_characters p = rule 8 p.place (characters_fit (registration_at p.place p.whole) p.bytes) ∷ []

-- its digits, then its currency at the currency's place in the record
abbrev pub barcode_rules : Part → List Rule
barcode_rules p = wrong 8 all_digits p ++ rule 14 (p.place + (currency_place - 1)) (currency_fits p.bytes) ∷ []

-- a kind: how a field is held; the number where it is wrong, and what its bytes must be
abbrev pub means : Kind → Meaning
means N = row as_number (wrong 8 all_digits)
means NOrBlank = row as_number_if_given (wrong 8 number_or_blank)
means Id = row as_bytes id_characters
means T = row as_bytes (wrong 13 text_fits)
means F = row as_bytes (λ p. [])
means D = row as_number (wrong 15 date_fits)
means Time = row as_number (wrong 15 time_fits)
means K = fixed_as 12 (run blank)
means O = row as_bytes (λ p. blank_in p.direction p)
means Zeros = fixed_as 12 (run (digit_byte 0))
means (Exact bs) = fixed_as 12 (text bs)
means (OneOf domain) = row as_number (wrong 14 (one_of domain))
means Service = row as_number pair_rule
means Form = row as_number (λ p. [])
means Barcode = row as_bytes barcode_rules
means Code = row as_bytes (wrong 8 all_digits)
means (RecordType b) = fixed_as 6 (text (b ∷ []))
means (Segment b) = fixed_as 11 (text (b ∷ []))
