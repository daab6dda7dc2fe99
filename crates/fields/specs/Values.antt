-- A record's fields as one value: the record that they make, and the fields that a record gives. Assumes nothing.
use Rattle.std.specs.Prelude.{◌≡◌, Bool, true, false, cond, ◌&&◌, List, [], ◌∷◌, ◌++◌, map, ℕ, ◌-◌, suc, ltb, eqb, length, get_or, take, drop, set, replicate, Err, None, Ok, Option, Result, Some}
use Rattle.answer.specs.declared.Refusal.{Refusal}
use Rattle.answer.specs.Rules.{first_broken, and_then, refused_as}
use Rattle.answer.specs.Rules.{Answer}
use Rattle.digits.specs.Numbers.{number_of, numeral}
use Rattle.answer.specs.Output.{room, written, over}
use Rattle.answer.specs.Sums.{largest}
use Rattle.layout.specs.Field.{Field, part, none}
use Rattle.layout.specs.Records.{code}
use Rattle.layout.specs.Table.{fields_of, record_bytes, segment_place}
use Rattle.layout.specs.Kinds.{Held, a_number, as_bytes, as_fixed, may_be_absent, means, run, blank}
use Rattle.layout.specs.Record.{record_rules}
use Rattle.layout.specs.declared.Direction.{Direction}
use Rattle.layout.specs.declared.Record.{Record}
use Rattle.layout.specs.declared.Record.TheVariants.{SegmentZ}
use Rattle.layout.specs.declared.names.Name.{Name}
use Rattle.fields.specs.declared.Fields.{Fields}
use Rattle.fields.specs.declared.writing.Made.{Made}

abbrev pub held_as : Field → Held
held_as f = (means f.kind).held

-- ---- a number, or not given

-- what is given for the field at an index
abbrev pub nth : ℕ → Fields → Option ℕ
nth j v = get_or v.numbers j None

abbrev pub is_given : Option ℕ → Bool
is_given (Some n) = true
is_given None = false

abbrev pub or_zero : Option ℕ → ℕ
or_zero (Some n) = n
or_zero None = 0

-- ---- writing

-- a number's bytes at a width: its digits, and blanks where it is not given
abbrev pub number_bytes : ℕ → Option ℕ → List ℕ
number_bytes w (Some n) = numeral w n
number_bytes w None = run blank w

-- a field's bytes, from the number and the bytes that the caller gives for it; fixed content needs neither
abbrev pub rendered : Held → Option ℕ → List ℕ → List ℕ
rendered (a_number p) m bs = number_bytes (length bs) m
rendered as_bytes m bs = bs
rendered (as_fixed content) m bs = content (length bs)

-- the bytes of fields, one behind the other, the first of them at an index: each takes its number, and the text at its places
unfoldable pub joined : List Field → ℕ → Fields → List ℕ
joined [] i v = []
joined (f ∷ fs) i v = rendered (held_as f) (nth i v) (part f v.text) ++ joined fs (suc i) v

unfoldable pub record_of : Record → Fields → List ℕ
record_of r v = joined (fields_of r) 0 v

-- a record's bytes if no rule is broken, else none
abbrev pub bytes_if : Answer → List ℕ → List ℕ
bytes_if (Ok tt) rec = rec
bytes_if (Err r) rec = replicate record_bytes 0

-- a record that fields make, taken as those of r: the check's answer, and if no rule is broken its bytes
unfoldable pub made_of : Record → Direction → Fields → Made
made_of r d v =
    record {
      answer = first_broken (record_rules r d (record_of r v));
      fields = v;
      bytes = bytes_if (first_broken (record_rules r d (record_of r v))) (record_of r v);
    }

-- such a record put into the output: its answer, then room
pub record Puts (m : Made) (out : List ℕ) (answer : Answer) (after : List ℕ) : Type 0 where
  pub answered : answer ≡ and_then m.answer (first_broken (room record_bytes out ∷ []))
  pub memory : after ≡ written answer (record_of m.fields.which m.fields) out

-- ---- reading

-- the number that digits give; blanks give none. A field that is not held as a number has 0
abbrev pub number_in : Held → List ℕ → Option ℕ
number_in (a_number p) bs = number_of bs
number_in as_bytes bs = Some 0
number_in (as_fixed content) bs = Some 0

abbrev pub read_at : List ℕ → Field → Option ℕ
read_at rec f = number_in (held_as f) (part f rec)

-- as many numbers as a value has room for
abbrev pub most_fields : ℕ
most_fields = 32

-- a value for each field of a record, and one and the same behind the last
abbrev pub for_each : {A : Type 0} → Record → (Field → A) → A → List A
for_each r value rest = map value (fields_of r) ++ replicate (most_fields - length (fields_of r)) rest

-- all fields of a record: each number, or that it is not given, and the record's bytes as they stand
unfoldable pub fields_in : Record → List ℕ → Fields
fields_in r rec = record { which = r; numbers = for_each r (read_at rec) (Some 0); text = rec }

-- fields of a record with this number everywhere, given, and this byte
abbrev pub all_as : ℕ → ℕ → Record → Fields
all_as n b r = record { which = r; numbers = replicate most_fields (Some n); text = replicate record_bytes b }

abbrev pub no_fields : Record → Fields
no_fields r = all_as 0 0 r

-- the same with blanks for text
abbrev pub blank_fields : Record → Fields
blank_fields r = all_as 0 blank r

-- what is made of a Z of which nothing is given (the law `none_made`): its first byte behind the letter is not printable
abbrev pub not_made : Made
not_made = record { answer = refused_as 4 (suc segment_place); fields = no_fields SegmentZ; bytes = replicate record_bytes 0 }

abbrev pub fields_if : Answer → Fields → Result Fields Refusal
fields_if (Ok tt) v = Ok v
fields_if (Err x) v = Err x

-- the fields if no rule is broken, else the check's refusal
unfoldable pub read_record : Record → Direction → List ℕ → Result Fields Refusal
read_record r d rec = fields_if (first_broken (record_rules r d rec)) (fields_in r rec)

-- ---- whose fields they are

abbrev pub is_of : Record → Fields → Bool
is_of r v = eqb (code v.which) (code r)

-- what becomes of a record's fields by a name of another record: each number is too wide for its field, and no byte is printable
abbrev pub spoiled : Record → Fields
spoiled r = all_as largest 0 r

abbrev pub unless_spoiled : Bool → Record → Fields → Fields
unless_spoiled right r v = cond right v (spoiled r)

-- fields as those of a record
abbrev pub of_record : Record → Fields → Fields
of_record r v = record { which = r; numbers = v.numbers; text = v.text }

-- fields where those of a record are asked: they have to be of that record
abbrev pub taken_as : Record → Fields → Fields
taken_as r v = of_record r (unless_spoiled (is_of r v) r v)

-- ---- one field's number

abbrev pub is_number : Held → Bool
is_number (a_number p) = true
is_number as_bytes = false
is_number (as_fixed content) = false

-- whether a field of a record is held as a number, and whether as one that may be not given; past the last there is none
abbrev pub is_number_at : Record → ℕ → Bool
is_number_at r j = ltb j (length (fields_of r)) && is_number (held_as (get_or (fields_of r) j none))

abbrev pub may_be_absent_at : Record → ℕ → Bool
may_be_absent_at r j = ltb j (length (fields_of r)) && may_be_absent (held_as (get_or (fields_of r) j none))

-- a value's numbers with another entry; past the last nothing changes
abbrev pub set_at : {A : Type 0} → ℕ → A → List A → List A
set_at j x xs = cond (ltb j most_fields) (set xs j x) xs

-- at an index: a number, or that it is not given
abbrev pub give_nth : ℕ → Option ℕ → Fields → Fields
give_nth j m v = record { which = v.which; numbers = set_at j m v.numbers; text = v.text }

abbrev pub set_nth : ℕ → ℕ → Fields → Fields
set_nth j n v = give_nth j (Some n) v

-- by its name: none where it is not given, none of another record, and none past the last field
abbrev pub number_at : Name → Fields → Option ℕ
number_at name v = cond (is_of name.0 v && ltb name.1 (length (fields_of v.which))) (nth name.1 v) None

abbrev pub give_number : Name → Option ℕ → Fields → Fields
give_number name m v = unless_spoiled (is_of name.0 v) v.which (give_nth name.1 m v)

abbrev pub with_number : Name → ℕ → Fields → Fields
with_number name n v = give_number name (Some n) v

-- ---- one field's text

-- bytes over the first places of a field, as many as both have
abbrev pub over_field : Field → List ℕ → List ℕ → List ℕ
over_field f bs text = take (f.from - 1) text ++ (over bs (part f text) ++ drop f.to text)

-- so of a record's field; past the last there is none
abbrev pub text_with : Record → ℕ → List ℕ → List ℕ → List ℕ
text_with r j bs text = cond (ltb j (length (fields_of r))) (over_field (get_or (fields_of r) j none) bs text) text

abbrev pub with_text : Name → List ℕ → Fields → Fields
with_text name bs v =
    unless_spoiled (is_of name.0 v) v.which
    (record { which = v.which; numbers = v.numbers; text = text_with v.which name.1 bs v.text })

-- ---- a field that is not given: no number, and blanks for its text

abbrev pub not_given : Name → Fields → Fields
not_given name v = with_text name (run blank record_bytes) (give_number name None v)

-- ---- whole ones

-- the arrays of fields have their lengths, as those of every value that a call is given
pub record Whole (v : Fields) : Type 0 where
  pub numbers : length v.numbers ≡ most_fields
  pub text : length v.text ≡ record_bytes
