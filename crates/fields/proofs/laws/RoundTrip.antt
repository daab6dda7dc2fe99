-- Reading and writing a record undo each other. Assumes nothing.
use Rattle.std.specs.Prelude.{◌≡◌, refl, List, [], ◌∷◌, ◌++◌, map, ℕ, zero, suc, ◌+◌, ◌^◌, ◌<◌, length, get_or, None, Ok, Option, Some}
use Rattle.std.proofs.Common.{sym, ap, ap₂, ◌∙◌, suc-le-suc, zero-le, add-zero, zero-add, not-suc-le-zero, le_of_suc-le-suc, arith, length-append}
use Rattle.std.proofs.Math.Decide.{dec_lt}
use Rattle.std.proofs.lemmas.List.{length-map, length-replicate}
use Rattle.answer.specs.Rules.{first_broken}
use Rattle.digits.specs.Numbers.{number_of, numeral}
use Rattle.digits.proofs.laws.Numerals.{given as digits_of, length_numeral, printed_parsed, parsed_printed, wide_not_parsed}
use Rattle.layout.specs.Field.{Field, part, none}
use Rattle.layout.specs.Table.{fields_of, record_bytes}
use Rattle.layout.specs.Kinds.{Presence, perhaps, Held, a_number, as_number, as_bytes, as_fixed, run, blank}
use Rattle.layout.specs.Record.{rules_of, first_rules, record_rules}
use Rattle.layout.specs.declared.Direction.{Direction}
use Rattle.layout.specs.declared.Record.{Record}
use Rattle.fields.specs.Values.{held_as, nth, or_zero, number_bytes, rendered, record_of, number_in, read_at, most_fields, for_each, fields_in, Whole}
use Rattle.fields.proofs.laws.Absent.{blanks_none, no_number_blank}
use Rattle.fields.proofs.laws.Parts.{few, part_width, record_length, holds, same_parts}
use Rattle.fields.proofs.laws.Kept.{Kept, is_number, is_blank, is-bytes, is-fixed, back_accepted, kept_field, right_length, right_field}
use Rattle.fields.specs.declared.Fields.{Fields}

-- ---- what a caller gives for a field, or reads of it: a number, or that it is not given, or bytes; fixed content is neither

pub data Given : Type 0 where
  number : Option ℕ → Given
  bytes : List ℕ → Given
  fixed : Given

abbrev pub given_for : Held → Option ℕ → List ℕ → Given
given_for (a_number p) m bs = number m
given_for as_bytes m bs = bytes bs
given_for (as_fixed content) m bs = fixed

unfoldable pub given_each : List Field → ℕ → Fields → List Given
given_each [] i v = []
given_each (f ∷ fs) i v = given_for (held_as f) (nth i v) (part f v.text) ∷ given_each fs (suc i) v

unfoldable pub given : Record → Fields → List Given
given r v = given_each (fields_of r) 0 v

-- ---- one field

-- what is right, read and written, is the same bytes
same_back : {h : Held} {bs : List ℕ} → Kept bs h → rendered h (number_in h bs) bs ≡ bs
same_back {bs} (is_number {n = n} e) = rw e (parsed_printed bs n e)
same_back (is_blank e q) = rw e q
same_back is-bytes = refl
same_back (is-fixed e) = e

-- a number that was printed and is parsed
number_same : (w n m : ℕ) → 0 < w → number_of (numeral w n) ≡ Some m → m ≡ n
number_same w n m p e = go (dec_lt n (10 ^ w))
  where
    go : Dec (n < 10 ^ w) → m ≡ n
    go (yes h) = cc (printed_parsed w n h (omega (arith, (digits_of _ m e).few, length_numeral w n)))
    go (no h) = cc (wide_not_parsed w n p (omega arith))

-- digits that give a number are those of the number that was given; blanks are those of none
parsed_same : (w k : ℕ) (m : Option ℕ) → 0 < w → number_of (number_bytes w m) ≡ Some k → m ≡ Some k
parsed_same w k (Some n) p e = ap Some (sym (number_same w n k p e))
parsed_same w k None p e = sym (blanks_none w p) ∙ e

blank_same : (w : ℕ) (m : Option ℕ) → 0 < w → run blank (length (number_bytes w m)) ≡ number_bytes w m → m ≡ None
blank_same w (Some n) p e = absurd (no_number_blank w n p (sym e ∙ ap (run blank) (length_numeral w n)))
blank_same w None p e = refl

-- a number, as it is written and if that is right, is read, and so is that none is given
number_read : {h : Held} {q : Presence} {cs : List ℕ} (m : Option ℕ) (bs : List ℕ) → 0 < length bs → cs ≡ rendered h m bs → h ≡ a_number q → Kept cs h → number_of cs ≡ m
number_read m bs p e a (is_number {n = k} q) = q ∙ sym (parsed_same (length bs) k m p (rw e at q))
number_read m bs p e a (is_blank n q) = n ∙ sym (blank_same (length bs) m p (rw e at q))
number_read m bs p e a is-bytes = cc
number_read m bs p e a (is-fixed q) = cc

-- what is given, if it is right as it is written, is read again
given_back : {h : Held} {cs : List ℕ} (m : Option ℕ) (bs : List ℕ) → 0 < length bs → cs ≡ rendered h m bs → Kept cs h → given_for h (number_in h cs) cs ≡ given_for h m bs
given_back m bs p e (is_number {p = q} s) = ap number (number_read {q = q} m bs p e refl (is_number s))
given_back m bs p e (is_blank n s) = ap number (number_read {q = perhaps} m bs p e refl (is_blank n s))
given_back m bs p e is-bytes = ap bytes e
given_back m bs p e (is-fixed q) = refl

-- ---- all fields

-- what is read for each field
each_at : {A : Type 0} (of : Field → A) (fs : List Field) (behind : List A) (x : A) (j : ℕ) → j < length fs → get_or (map of fs ++ behind) j x ≡ of (get_or fs j none)
each_at of [] behind x j h = absurd (not-suc-le-zero h)
each_at of (f ∷ fs) behind x zero h = refl
each_at of (f ∷ fs) behind x (suc j) h = each_at of fs behind x j (le_of_suc-le-suc h)

-- the numbers that are read
pub number-at : (r : Record) (rec : List ℕ) (j : ℕ) → j < length (fields_of r) → nth j (fields_in r rec) ≡ read_at rec (get_or (fields_of r) j none)
unfolding fields_in
number-at r rec j h = each_at (read_at rec) (fields_of r) _ None j h

-- what two values give is the same if it is in each field
given_same : (fs : List Field) (i : ℕ) (v w : Fields) → ((j : ℕ) → j < length fs → let f = get_or fs j none in
    given_for (held_as f) (nth (i + j) v) (part f v.text) ≡ given_for (held_as f) (nth (i + j) w) (part f w.text)) → given_each fs i v ≡ given_each fs i w
unfolding given_each
given_same [] i v w e = refl
given_same (f ∷ fs) i v w e =
    ap₂ ◌∷◌ (rw (add-zero i) at (e 0 (suc-le-suc zero-le)))
    (given_same fs (suc i) v w (λ j h. let next : suc i + j ≡ i + suc j = omega arith in rw next (e (suc j) (suc-le-suc h))))

-- ---- a record

-- its fields as they are read: as many of each as a value has room for
each_length : {A : Type 0} (r : Record) (of : Field → A) (x : A) → length (for_each r of x) ≡ most_fields
each_length r of x =
    rw (length-append, length-map, length-replicate) (omega (arith, few r))

pub whole_read : (r : Record) (rec : List ℕ) → length rec ≡ record_bytes → Whole (fields_in r rec)
unfolding fields_in
whole_read r rec full = record { numbers = each_length r _ (Some 0); text = full }

-- a field's number is what its digits give
pub number-in : {p : Presence} (r : Record) (rec : List ℕ) (j : ℕ) → j < length (fields_of r) → let f = get_or (fields_of r) j none in
    held_as f ≡ a_number p → nth j (fields_in r rec) ≡ number_of (part f rec)
number-in r rec j h a = number-at r rec j h ∙ rw a

text_read : (r : Record) (rec : List ℕ) → (fields_in r rec).text ≡ rec
unfolding fields_in
text_read r rec = refl

module _ (r : Record) (d : Direction) (rec : List ℕ) (full : length rec ≡ record_bytes) (e : first_broken (rules_of (fields_of r) d rec) ≡ Ok tt) where
  -- what is written from fields that were read, and are right, is the record that they were read from
  pub fields_then_written : record_of r (fields_in r rec) ≡ rec
  fields_then_written = same_parts r _ rec (record_length r _ read_full) full each
    where
      read_full : length (fields_in r rec).text ≡ record_bytes
      read_full = (whole_read r rec full).text

      each : (j : ℕ) → j < length (fields_of r) → let f = get_or (fields_of r) j none in part f (record_of r (fields_in r rec)) ≡ part f rec
      each j h = holds r _ read_full j h ∙ rw (number-at r rec j h, text_read r rec) (same_back (kept_field r d rec e j h))

-- so of a record that is accepted alone
pub read_then_written : (r : Record) (d : Direction) (rec : List ℕ) → first_broken (record_rules r d rec) ≡ Ok tt → record_of r (fields_in r rec) ≡ rec
unfolding record_rules
read_then_written r d rec e =
    fields_then_written r d rec (right_length r d rec e) (back_accepted (first_rules r d rec) (rules_of (fields_of r) d rec) e)

-- what is read of a record that was written is what was given
module _ (r : Record) (d : Direction) (v : Fields) (full : length v.text ≡ record_bytes) (e : first_broken (record_rules r d (record_of r v)) ≡ Ok tt) where
  field_back : (j : ℕ) → j < length (fields_of r) → let f = get_or (fields_of r) j none in let w = fields_in r (record_of r v) in
      given_for (held_as f) (nth j w) (part f w.text) ≡ given_for (held_as f) (nth j v) (part f v.text)
  field_back j h =
      let f = get_or (fields_of r) j none in
      let w = part_width r v.text full j h in
      rw (number-at r (record_of r v) j h, text_read r (record_of r v))
      (given_back (nth j v) (part f v.text) (omega arith) (holds r v full j h) (right_field r d (record_of r v) e j h))

  pub written_then_read : given r (fields_in r (record_of r v)) ≡ given r v
  unfolding given
  written_then_read = given_same (fields_of r) 0 _ _ (λ j h. rw (zero-add j) (field_back j h))

  -- of a field that is held as a number, the number, or that it is not given
  pub number_back : {p : Presence} (j : ℕ) → j < length (fields_of r) → held_as (get_or (fields_of r) j none) ≡ a_number p
      → nth j (fields_in r (record_of r v)) ≡ nth j v
  number_back j h a = let same = rw a at (field_back j h) in cc

-- the same of a record whose fields are accepted: the digits at the field's places give the number, and blanks none
pub field_reads : {p : Presence} (r : Record) (d : Direction) (v : Fields) → length v.text ≡ record_bytes
    → first_broken (rules_of (fields_of r) d (record_of r v)) ≡ Ok tt
    → (j : ℕ) → j < length (fields_of r) → let f = get_or (fields_of r) j none in held_as f ≡ a_number p → number_of (part f (record_of r v)) ≡ nth j v
field_reads r d v full e j h a =
    let f = get_or (fields_of r) j none in
    let w = part_width r v.text full j h in
    number_read (nth j v) (part f v.text) (omega arith) (holds r v full j h) a (kept_field r d (record_of r v) e j h)

-- a number that is always given: the record is right only with one
pub given_reads : (r : Record) (d : Direction) (v : Fields) → length v.text ≡ record_bytes → first_broken (rules_of (fields_of r) d (record_of r v)) ≡ Ok tt
    → (j : ℕ) → j < length (fields_of r) → let f = get_or (fields_of r) j none in held_as f ≡ as_number → nth j v ≡ Some (or_zero (nth j v))
given_reads r d v full e j h a = go (kept_field r d (record_of r v) e j h) a (field_reads r d v full e j h a)
  where
    go : {held : Held} {bs : List ℕ} {m : Option ℕ} → Kept bs held → held ≡ as_number → number_of bs ≡ m → m ≡ Some (or_zero m)
    go (is_number q) a e = rw (← e, q)
    go (is_blank n q) a e = absurd (let z : ◌≡◌ {A = ℕ} 0 1 = cc in omega arith)
    go is-bytes a e = absurd (let z : ◌≡◌ {A = ℕ} 0 1 = cc in omega arith)
    go (is-fixed q) a e = absurd (let z : ◌≡◌ {A = ℕ} 0 1 = cc in omega arith)
