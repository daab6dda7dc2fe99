-- A call that is given fields of another record than it writes is refused. Assumes nothing.
use Rattle.std.specs.Prelude.{◌≡◌, refl, Bool, true, false, List, ℕ, Ok}
use Rattle.std.proofs.Common.{◌∙◌}
use Rattle.layout.specs.Table.{fields_of}
use Rattle.layout.specs.Names.{before, index_of}
use Rattle.layout.specs.declared.Record.{Record}
use Rattle.layout.specs.declared.Record.TheVariants.{FileHeader, BatchHeader, BatchTrailer, FileTrailer}
use Rattle.layout.specs.declared.shapes.LineType.{LineType}
use Rattle.layout.specs.declared.shapes.LineType.TheVariants.{FileFirst, BatchFirst, Detail, BatchLast, FileLast}
use Rattle.layout.specs.Records.{shape_of}
use Rattle.layout.proofs.laws.Indexes.{number-index}
use Rattle.fields.specs.Values.{is_of, spoiled, unless_spoiled, of_record, taken_as}
use Rattle.fields.proofs.laws.Spoiled.{ruined_at, Ruined, spoiled_ruined, ruined}
use Rattle.fields.specs.declared.Fields.{Fields}
use Rattle.checker.specs.declared.Checker.{Checker}
use Rattle.writer.specs.Given.{Call, open_file, open_batch, close_batch, close_file, records_of}
use Rattle.filling.specs.Filling.{filled}
use Rattle.writer.specs.Refusals.{expected_in}
use Rattle.writer.specs.Outcome.{answer_of}
use Rattle.fields.specs.Values.{Whole}
use Rattle.writer.specs.Calls.{AllWhole}
use Rattle.writer.specs.declared.Writer.{Writer}
use Rattle.writer.proofs.laws.Accepted.{kept, WellMade, Rights, more, none, rights}
use Rattle.filling.proofs.laws.Filled.{fills_by, fills_at, filled_text, not_filled}

-- what is taken has whole arrays, as what was given
pub whole_taken : (r : Record) {v : Fields} → Whole v → Whole (taken_as r v)
whole_taken r {v} h = go (is_of r v)
  where
    go : (b : Bool) → Whole (of_record r (unless_spoiled b r v))
    go true = record { numbers = h.numbers; text = h.text }
    go false = record { numbers = refl; text = refl }

-- the writer fills none of what refuses spoiled fields
still_ruined : (r : Record) (s : Checker) (v : Fields) → Ruined v → Ruined (filled r s v)
unfolding fields_of index_of before
still_ruined r s v x = record { text = filled_text r s v ∙ x.text; number = not_filled r s v ruined_at (go (shape_of r).line) ∙ x.number }
  where
    go : (t : LineType) → fills_at (fills_by t r s) ruined_at ≡ false
    go FileFirst = refl
    go BatchFirst = refl
    go Detail = rw (number-index r)
    go BatchLast = refl
    go FileLast = refl

-- so no record that they make is well made, in any state
pub never_well_made : {A : Type 0} (r : Record) (s : Checker) → WellMade s (spoiled r) → A
never_well_made r s w = ruined r s.dir (filled r s (spoiled r)) (still_ruined r s (spoiled r) (spoiled_ruined r)) w.printable w.fields

taken_other : {A : Type 0} (r : Record) (s : Checker) (v : Fields) → is_of r v ≡ false → WellMade s (taken_as r v) → A
taken_other r s v e w = never_well_made r s (rw e at w)

-- fields of another record than the call writes
pub data OfAnother : Call → Type 0 where
  no_file_header : {v : Fields} → is_of FileHeader v ≡ false → OfAnother (open_file v)
  no_batch_header : {v : Fields} → is_of BatchHeader v ≡ false → OfAnother (open_batch v)
  no_batch_trailer : {v : Fields} → is_of BatchTrailer v ≡ false → OfAnother (close_batch v)
  no_file_trailer : {v : Fields} → is_of FileTrailer v ≡ false → OfAnother (close_file v)

-- are never accepted
pub another_refused : {A : Type 0} (w : Writer) (c : Call) (out : List ℕ) → AllWhole (records_of c) → OfAnother c → answer_of w c out ≡ Ok tt → A
another_refused {A} w c out whole other e = go other (rights (expected_in c s) s whole (kept w c out e).records)
  where
    s : Checker
    s = w.checker

    go : {c : Call} → OfAnother c → Rights (expected_in c s) s (records_of c) → A
    go (no_file_header {v} o) (more t none) = taken_other FileHeader s v o t.well
    go (no_batch_header {v} o) (more t none) = taken_other BatchHeader s v o t.well
    go (no_batch_trailer {v} o) (more t none) = taken_other BatchTrailer s v o t.well
    go (no_file_trailer {v} o) (more t none) = taken_other FileTrailer s v o t.well
