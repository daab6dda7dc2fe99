-- In a well made record each field that is held as a number gives it: the caller's, or what the writer fills. Assumes nothing.
use Rattle.std.specs.Prelude.{◌≡◌, refl, false, List, [], ◌∷◌, ◌++◌, ℕ, ◌<◌, length, get_or, Option, Some}
use Rattle.std.proofs.Common.{ap, ◌∙◌, arith, lit≤, length-append}
use Rattle.std.proofs.Math.ListN.{get_or-append}
use Rattle.digits.specs.Digits.{digit_byte}
use Rattle.digits.specs.Numbers.{number_of}
use Rattle.layout.specs.Field.{Field, part, none}
use Rattle.layout.specs.Table.{line, type_place, bank_field, batch_field, number_field, segment_fields, segment_place, paid_date, paid_amount, fields_of}
use Rattle.layout.specs.Records.{type_of}
use Rattle.layout.specs.Kinds.{Presence, always, perhaps, a_number, as_number}
use Rattle.layout.specs.Names.{before, index_of}
use Rattle.layout.proofs.laws.Indexes.{bank-index, batch-index, number-index}
use Rattle.layout.specs.declared.Record.{Record}
use Rattle.layout.specs.declared.Record.TheVariants.{SegmentA}
use Rattle.fields.specs.Values.{held_as, of_record, nth, or_zero}
use Rattle.fields.proofs.laws.RoundTrip.{field_reads, given_reads}
use Rattle.fields.specs.declared.Fields.{Fields}
use Rattle.checker.specs.Line.{behind}
use Rattle.checker.specs.declared.Checker.{Checker}
use Rattle.checker.proofs.laws.Details.{line_first, detail_of}
use Rattle.filling.specs.Filling.{bank_index, batch_index, number_index, filled, bytes_of}
use Rattle.writer.proofs.laws.Accepted.{WellMade}
use Rattle.filling.proofs.laws.Filled.{fills_at, fills_in, number_from, filled_numbers, not_filled}
use Rattle.writer.proofs.laws.Lines.{full_text}

-- ---- where a field stands in the table

pub record Stands (r : Record) (j : ℕ) (f : Field) : Type 0 where
  pub below : j < length (fields_of r)
  pub is : get_or (fields_of r) j none ≡ f

pub stands_at : {r : Record} (j : ℕ) (f : Field) → j < length (fields_of r) → get_or (fields_of r) j none ≡ f → Stands r j f
stands_at j f h e = record { below = h; is = e }

-- a field among the first
pub in-front : (r : Record) (fs rest : List Field) → fields_of r ≡ fs ++ rest → (j : ℕ) → j < length fs → Stands r j (get_or fs j none)
in-front r fs rest e j h =
    record { below = rw (e, length-append) (omega arith); is = ap (λ (xs : List Field). get_or xs j none) e ∙ get_or-append fs rest none j h }

in-line : (r : Record) (j : ℕ) → j < 3 → Stands r j (get_or (line r) j none)
in-line r = in-front r (line r) (behind type_place r) (line_first r)

-- a line begins with its bank and its batch
pub at_bank : (r : Record) → Stands r (bank_index r) bank_field
at_bank r = rw (bank-index r) (in-line r 0 (lit≤ tt))

pub at_batch : (r : Record) → Stands r (batch_index r) batch_field
at_batch r = rw (batch-index r) (in-line r 1 (lit≤ tt))

-- a detail goes on with its number
pub at_number : (r : Record) → type_of r ≡ digit_byte 3 → Stands r (number_index r) number_field
at_number r e =
    let o = detail_of r e in
    rw (number-index r) (in-front r (line r ++ number_field ∷ []) (segment_fields r ++ behind segment_place r) (line_first r ∙ rw o.begun) 3 (lit≤ tt))

-- ---- a field that is held as a number

module _ {s : Checker} {g : Fields} (t : WellMade s g) {j : ℕ} {f : Field} (at : Stands g.which j f) where
  -- it gives the number that is written, or none where that is not given
  pub number-at : {p : Presence} → held_as f ≡ a_number p → number_of (part f (bytes_of s g)) ≡ nth j (filled g.which s g)
  number-at {p} a =
      let there = field_reads {p = p} g.which s.dir (filled g.which s g) (full_text s g t.whole) t.fields j at.below in
      (rw at.is at there) a

  module _ (a : held_as f ≡ as_number) where
    -- of one that is always given there is one
    is-given : nth j (filled g.which s g) ≡ Some (or_zero (nth j (filled g.which s g)))
    is-given =
        let there = given_reads g.which s.dir (filled g.which s g) (full_text s g t.whole) t.fields j at.below in
        (rw at.is at there) a

    -- what the writer fills there
    pub reads_at : (k : ℕ) → number_from (fills_in g.which s) j (nth j g) ≡ Some k → number_of (part f (bytes_of s g)) ≡ Some k
    reads_at k e = number-at {p = always} a ∙ (filled_numbers g.which s g t.whole j ∙ e)

-- ---- a number that the caller gives, or not, and not the writer

pub record GivenAs (p : Presence) (r : Record) (f : Field) : Type 0 where
  pub stands : Stands r (index_of r f) f
  pub number : held_as f ≡ a_number p
  pub unfilled : (s : Checker) → fills_at (fills_in r s) (index_of r f) ≡ false

abbrev pub GivenAt : Record → Field → Type 0
GivenAt r f = GivenAs always r f

module _ {s : Checker} {r : Record} {f : Field} (v : Fields) (t : WellMade s (of_record r v)) where
  same_given : {p : Presence} → GivenAs p r f → nth (index_of r f) (filled r s (of_record r v)) ≡ nth (index_of r f) v
  same_given g = not_filled r s (of_record r v) (index_of r f) (g.unfilled s)

  -- it is read as it was given, and as not given where it was not
  pub read_given : {p : Presence} → GivenAs p r f → number_of (part f (bytes_of s (of_record r v))) ≡ nth (index_of r f) v
  read_given {p} g = number-at t g.stands {p = p} g.number ∙ same_given g

  -- one that is always given was given
  pub number_given : GivenAt r f → number_of (part f (bytes_of s (of_record r v))) ≡ Some (or_zero (nth (index_of r f) v))
  number_given g = number-at t g.stands {p = always} g.number ∙ is-given t g.stands g.number ∙ ap (λ (m : Option ℕ). Some (or_zero m)) (same_given g)

-- when the bank paid a credit and how much, each for itself
paid-date : GivenAs perhaps SegmentA paid_date
unfolding fields_of index_of before
paid-date = record { stands = stands_at _ _ (lit≤ tt) refl; number = refl; unfilled = λ s. refl }

paid-amount : GivenAs perhaps SegmentA paid_amount
unfolding fields_of index_of before
paid-amount = record { stands = stands_at _ _ (lit≤ tt) refl; number = refl; unfilled = λ s. refl }

pub paid_read : {s : Checker} (v : Fields) → let rec = bytes_of s (of_record SegmentA v) in WellMade s (of_record SegmentA v)
    → (number_of (part paid_date rec) ≡ nth (index_of SegmentA paid_date) v) × (number_of (part paid_amount rec) ≡ nth (index_of SegmentA paid_amount) v)
paid_read v t = (read_given v t paid-date, read_given v t paid-amount)
