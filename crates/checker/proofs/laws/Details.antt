-- What is asked of a line by its record, beside its own fields: numbers that the state counts, and a limit; and what all details share. Assumes nothing.
use Rattle.std.specs.Prelude.{◌≡◌, refl, Bool, true, false, not, cond, ◌&&◌, ◌||◌, ◌↔◌, List, [], ◌∷◌, ◌++◌, ℕ, suc, ◌+◌, T, leb, Some}
use Rattle.std.proofs.Common.{ap, ◌∙◌}
use Rattle.std.proofs.Math.Path.{subst⁻¹}
use Rattle.answer.proofs.laws.Order.{never}
use Rattle.digits.specs.Digits.{digit_byte}
use Rattle.digits.specs.Numbers.{number_of}
use Rattle.layout.specs.Field.{Field, part}
use Rattle.layout.specs.Records.{shape_of, is_detail, type_of, letter_of, after}
use Rattle.layout.proofs.laws.Records.{each, detail_line}
use Rattle.layout.specs.Table.{line, detail, own, type_place, fields_of, record_bytes, bank_field, batch_field, number_field, segment_field, segment_fields, segment_place, batch_records, batch_sum, file_batches, file_records}
use Rattle.layout.specs.declared.Record.{Record}
use Rattle.layout.specs.declared.shapes.LineType.{LineType}
use Rattle.layout.specs.declared.shapes.LineType.TheVariants.{FileFirst, BatchFirst, Detail, BatchLast, FileLast}
use Rattle.checker.specs.Totals.{batch_count, record_count, cent_sum, batches_of}
use Rattle.checker.specs.Line.{ordinal, header_batch, trailer_batch, within, behind}
use Rattle.checker.specs.Machine.{in_batch, next_of_type, next}
use Rattle.layout.specs.declared.shapes.Phase.{Phase}
use Rattle.layout.specs.declared.shapes.Phase.TheVariants.{Start, Headed, Opened, Within, Paid, BehindZ, Closed, Ended}
use Rattle.checker.specs.declared.Checker.{Checker}
use Rattle.checker.specs.inner.Following.{FewPayments, limit_by, Limit}

-- ---- what is asked

abbrev pub Asked : Type 0
Asked = List (Field × ℕ)

abbrev pub in_detail : Checker → Asked
in_detail s = (bank_field, s.bank) ∷ (batch_field, ordinal s) ∷ (number_field, record_count s.current) ∷ []

-- the fields of a record that read what the state counts, by the type of its line
abbrev pub asked_by : LineType → Checker → Asked
asked_by FileFirst s = (batch_field, header_batch) ∷ []
asked_by BatchFirst s = (bank_field, s.bank) ∷ (batch_field, ordinal s) ∷ []
asked_by Detail s = in_detail s
asked_by BatchLast s =
    (bank_field, s.bank) ∷ (batch_field, ordinal s) ∷ (batch_records, record_count s.current + 1) ∷ (batch_sum, cent_sum s.current) ∷ []
asked_by FileLast s =
    (bank_field, s.bank) ∷ (batch_field, trailer_batch) ∷ (file_batches, batch_count s.closed) ∷ (file_records, record_count s.closed + 1) ∷ []

abbrev pub asked : Record → Checker → Asked
asked r s = asked_by (shape_of r).line s

unfoldable pub AllRead : Asked → List ℕ → Type 0
AllRead [] rec = Unit {0}
AllRead (a ∷ as') rec = (number_of (part a.0 rec) ≡ Some a.1) × AllRead as' rec

-- ---- the fields of all lines, and of all details

-- fields that all lie from place a to place b
abbrev all_within : ℕ → ℕ → List Field → Bool
all_within a b [] = true
all_within a b (f ∷ fs) = (leb a f.from && leb f.to b) && all_within a b fs

within_all : (a b : ℕ) (fs : List Field) → T (all_within a b fs) → within a b fs ≡ fs
unfolding within
within_all a b [] t = refl
within_all a b (f ∷ fs) t = go (leb a f.from && leb f.to b) t (within_all a b fs)
  where
    go : (here : Bool) → T (here && all_within a b fs) → (T (all_within a b fs) → within a b fs ≡ fs) → cond here (f ∷ within a b fs) (within a b fs) ≡ f ∷ fs
    go true t later = ap (λ gs. f ∷ gs) (later t)
    go false t later = absurd t

behind_type : (r : Record) → behind type_place r ≡ detail r ++ own r
unfolding within fields_of
behind_type r = within_all (suc type_place) record_bytes (detail r ++ own r) (each (λ r. all_within (suc type_place) record_bytes (detail r ++ own r)) tt r)

-- all records begin with bank, batch and type
pub line_first : (r : Record) → fields_of r ≡ line r ++ behind type_place r
unfolding fields_of
line_first r = rw (behind_type r)

in-detail : (a b : Bool) → T (not a || b) → a ≡ true → T b
in-detail true b t e = t
in-detail false b t e = never e

-- and a detail goes on behind its letter
pub behind_segment : (r : Record) → (shape_of r).line ≡ Detail → behind segment_place r ≡ own r
unfolding within fields_of
behind_segment r e =
    let t = each (λ r. not (is_detail (shape_of r).line) || all_within (suc segment_place) record_bytes (own r)) tt r in
    rw e (within_all (suc segment_place) record_bytes (own r) (in-detail (is_detail (shape_of r).line) _ t (rw e)))

-- ---- details

-- the phases behind details
pub data Open : Phase → Type 0 where
  at_within : {n : ℕ} → Open (Within n)
  at_paid : Open Paid
  at_behind_z : Open BehindZ

abbrev is_open : Phase → Bool
is_open Start = false
is_open Headed = false
is_open Opened = false
is_open (Within n) = true
is_open Paid = true
is_open BehindZ = true
is_open Closed = false
is_open Ended = false

open_at : (p : Phase) → T (is_open p) → Open p
open_at Start t = absurd t
open_at Headed t = absurd t
open_at Opened t = absurd t
open_at (Within n) t = at_within
open_at Paid t = at_paid
open_at BehindZ t = at_behind_z
open_at Closed t = absurd t
open_at Ended t = absurd t

-- a detail: its fields go on with its number and its letter; what it asks; and the state behind it
pub record DetailRow (r : Record) : Type 0 where
  pub is : (shape_of r).line ≡ Detail
  pub begun : behind type_place r ≡ number_field ∷ (segment_fields r ++ behind segment_place r)
  pub marked : segment_fields r ≡ segment_field (letter_of r) ∷ []
  pub asks : (s : Checker) → asked r s ≡ in_detail s
  pub limits : (s : Checker) → FewPayments r s ↔ Limit r s
  pub opens : batches_of r ≡ 0
  pub moves : (s : Checker) (rec : List ℕ) → next r s rec ≡ in_batch (shape_of r) s.batch s rec
  pub stays : Open (after r)

same : {A : Type 0} → A ↔ A
same = (λ a. a, λ a. a)

pub detail_row : (r : Record) → (shape_of r).line ≡ Detail → DetailRow r
detail_row r e =
    let open? = each (λ r. not (is_detail (shape_of r).line) || is_open (after r)) tt r in
    record {
      is = e;
      begun = behind_type r ∙ rw (behind_segment r e, e);
      marked = rw e;
      asks = λ s. rw e;
      limits = λ s. subst⁻¹ (λ (t : LineType). FewPayments r s ↔ limit_by t r s) e same;
      opens = rw e;
      moves = λ s rec. ap (λ (t : LineType). next_of_type t (shape_of r) s rec) e;
      stays = open_at (after r) (in-detail (is_detail (shape_of r).line) _ open? (rw e));
    }

pub detail_of : (r : Record) → type_of r ≡ digit_byte 3 → DetailRow r
detail_of r e = detail_row r (detail_line r e)
