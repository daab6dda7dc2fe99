-- What the writer fills: numbers, each at its index; every other number, and the text, is the caller's. Assumes nothing.
use Rattle.std.specs.Prelude.{◌≡◌, refl, Bool, true, false, cond, ◌||◌, List, [], ◌∷◌, ℕ, ◌+◌, ◌<◌, eqb, length, get_or, set, None, Option, Some}
use Rattle.std.proofs.Common.{◌∙◌, arith, eqb-true, lit≤, length-set, get_or-set_same, get_or-set_other}
use Rattle.std.proofs.lemmas.Bool.{eqb-false}
use Rattle.layout.specs.Table.{fields_of}
use Rattle.layout.specs.Names.{before, index_of}
use Rattle.layout.specs.declared.Record.{Record}
use Rattle.layout.specs.declared.Record.TheVariants.{BatchTrailer, FileTrailer}
use Rattle.layout.specs.declared.shapes.LineType.{LineType}
use Rattle.layout.specs.declared.shapes.LineType.TheVariants.{FileFirst, BatchFirst, Detail, BatchLast, FileLast}
use Rattle.layout.specs.Records.{shape_of}
use Rattle.layout.proofs.laws.Indexes.{number-index}
use Rattle.checker.specs.Totals.{batch_count, record_count, cent_sum}
use Rattle.fields.specs.Values.{most_fields, nth}
use Rattle.fields.specs.declared.Fields.{Fields}
use Rattle.checker.specs.Line.{ordinal, header_batch, trailer_batch}
use Rattle.checker.specs.declared.Checker.{Checker}
use Rattle.filling.specs.Filling.{bank_index, batch_index, number_index, batch_records_index, batch_sum_index, file_batches_index, file_records_index, filled_by, filled}
use Rattle.fields.specs.Values.{Whole}

-- ---- the numbers that are filled

pub record Fill : Type 0 where
  pub index : ℕ
  pub number : ℕ

abbrev pub fill : ℕ → ℕ → Fill
fill i n = record { index = i; number = n }

-- in a line of a batch, in a detail, and in each record
abbrev pub batch_fills : Record → Checker → List Fill
batch_fills r s = fill (batch_index r) (ordinal s) ∷ fill (bank_index r) s.bank ∷ []

abbrev pub detail_fills : Record → Checker → List Fill
detail_fills r s = fill (number_index r) (record_count s.current) ∷ batch_fills r s

abbrev pub fills_by : LineType → Record → Checker → List Fill
fills_by FileFirst r s = fill (batch_index r) header_batch ∷ []
fills_by BatchFirst r s = batch_fills r s
fills_by Detail r s = detail_fills r s
fills_by BatchLast r s =
    fill batch_sum_index (cent_sum s.current) ∷ fill batch_records_index (record_count s.current + 1) ∷ batch_fills BatchTrailer s
fills_by FileLast r s =
    fill file_records_index (record_count s.closed + 1) ∷ fill file_batches_index (batch_count s.closed) ∷ fill (batch_index FileTrailer) trailer_batch
    ∷ fill (bank_index FileTrailer) s.bank ∷ []

abbrev pub fills_in : Record → Checker → List Fill
fills_in r s = fills_by (shape_of r).line r s

-- whether one is filled at an index; and the number there, m if none is filled
abbrev pub fills_at : List Fill → ℕ → Bool
fills_at [] j = false
fills_at (f ∷ fs) j = eqb j f.index || fills_at fs j

abbrev pub number_from : List Fill → ℕ → Option ℕ → Option ℕ
number_from [] j m = m
number_from (f ∷ fs) j m = cond (eqb j f.index) (Some f.number) (number_from fs j m)

-- ---- one behind the other

-- u is v with these numbers filled
record Filled (v u : Fields) (fs : List Fill) : Type 0 where
  which : u.which ≡ v.which
  text : u.text ≡ v.text
  long : length u.numbers ≡ length v.numbers
  others : (j : ℕ) → fills_at fs j ≡ false → nth j u ≡ nth j v
  each : Whole v → (j : ℕ) → nth j u ≡ number_from fs j (nth j v)

unfilled : {v : Fields} → Filled v v []
unfilled = record { which = refl; text = refl; long = refl; others = λ j e. refl; each = λ h j. refl }

neither : (a b : Bool) → (a || b) ≡ false → (a ≡ false) × (b ≡ false)
neither true b e = (e, cc)
neither false b e = (refl, e)

put : {v u : Fields} {fs : List Fill} {i n : ℕ} → i < most_fields → Filled v u fs
    → Filled v (record { which = u.which; numbers = set u.numbers i (Some n); text = u.text }) (fill i n ∷ fs)
put {v} {u} {fs} {i} {n} l b =
    record {
      which = b.which;
      text = b.text;
      long = simp length-set b.long;
      others = λ j e. let f = neither (eqb j i) (fills_at fs j) e in other j f.0 ∙ b.others j f.1;
      each = λ h j. go h j (eqb j i) refl;
    }
  where
    other : (j : ℕ) → eqb j i ≡ false → get_or (set u.numbers i (Some n)) j None ≡ nth j u
    other j e = get_or-set_other u.numbers i j (Some n) None (eqb-false j i e)

    go : Whole v → (j : ℕ) (t : Bool) → eqb j i ≡ t → get_or (set u.numbers i (Some n)) j None ≡ cond t (Some n) (number_from fs j (nth j v))
    go h j true e = rw (eqb-true j i e) (get_or-set_same u.numbers i (Some n) None (omega (arith, b.long, h.numbers)))
    go h j false e = other j e ∙ b.each h j

is_filled : (r : Record) (s : Checker) (v : Fields) → Filled v (filled r s v) (fills_in r s)
unfolding filled index_of before fields_of
is_filled r s v = go (shape_of r).line
  where
    go : (t : LineType) → Filled v (filled_by t r s v) (fills_by t r s)
    go FileFirst = put (lit≤ tt) unfilled
    go BatchFirst = put (lit≤ tt) (put (lit≤ tt) unfilled)
    go Detail = rw (number-index r) (put (lit≤ tt) (put (lit≤ tt) (put (lit≤ tt) unfilled)))
    go BatchLast = put (lit≤ tt) (put (lit≤ tt) (put (lit≤ tt) (put (lit≤ tt) unfilled)))
    go FileLast = put (lit≤ tt) (put (lit≤ tt) (put (lit≤ tt) (put (lit≤ tt) unfilled)))

-- ---- a record's fields as they are written

module _ (r : Record) (s : Checker) (v : Fields) where
  pub filled_which : (filled r s v).which ≡ v.which
  filled_which = (is_filled r s v).which

  pub filled_text : (filled r s v).text ≡ v.text
  filled_text = (is_filled r s v).text

  pub filled_numbers : Whole v → (j : ℕ) → nth j (filled r s v) ≡ number_from (fills_in r s) j (nth j v)
  filled_numbers = (is_filled r s v).each

  pub not_filled : (j : ℕ) → fills_at (fills_in r s) j ≡ false → nth j (filled r s v) ≡ nth j v
  not_filled = (is_filled r s v).others
