-- A record that is written has 240 bytes, and holds at each field's places, and so at each place, what the caller gives or what is fixed.
-- Assumes nothing.
use Rattle.std.specs.Prelude.{◌≡◌, T, leb, length, None, Option, Some}
use Rattle.std.proofs.Math.Path.{refl, sym, ap}
use Rattle.std.proofs.Common.{◌∙◌, zero-add, not-suc-le-zero, le_of_suc-le-suc, leb→le, length-append, take_at, drop_at, ext_get_or}
use mathlib.Core.List.{List, [], ◌∷◌, ◌++◌, append_assoc}
use Prim.Native.Nat.{ℕ, zero, suc, ◌+◌, ◌-◌, ◌≤◌, ◌<◌}
use Rattle.std.proofs.Math.Nat.{add-zero}
use native.Mathlib.Omega.{arith}
use Rattle.std.proofs.Math.Dec.{eqb→eq}
use Rattle.std.proofs.Math.ListN.{get_or}
use Rattle.std.proofs.lemmas.List.{length-replicate}
use Rattle.digits.specs.Digits.{place}
use Rattle.digits.proofs.laws.Strings.{part_get_or}
use Rattle.digits.proofs.laws.Numerals.{length_numeral}
use Rattle.layout.specs.inner.Lent.{span_of}
use Rattle.layout.specs.Field.{Field, part, none}
use Rattle.layout.specs.Table.{fields_of, record_bytes, tiles}
use Rattle.layout.specs.Kinds.{Held, a_number, as_bytes, as_fixed, blank}
use Rattle.layout.proofs.laws.Bytes.{length_places}
use Rattle.layout.proofs.laws.Tiling.{tiled, head, ends, covered, Inside, insides, All, at}
use Rattle.layout.proofs.laws.Columns.{first_is, past_is}
use Rattle.layout.specs.declared.table.Span.{Span}
use Rattle.layout.proofs.laws.Sound.{fills, Sound, sounds}
use Rattle.layout.specs.inner.Entries.{width}
use Rattle.layout.specs.declared.Record.{Record}
use Rattle.layout.proofs.laws.Records.{each}
use Rattle.fields.specs.Values.{held_as, nth, rendered, joined, record_of, most_fields}
use Rattle.fields.specs.declared.Fields.{Fields}

-- a record's numbers have room
pub few : (r : Record) → length (fields_of r) ≤ most_fields
unfolding fields_of
few r = leb→le (length (fields_of r)) most_fields (each (λ r. leb (length (fields_of r)) most_fields) tt r)

pub narrow : (r : Record) {s : Span} → s ≡ span_of r → s.past ≤ s.first + most_fields
narrow r e = omega (arith, first_is r e, past_is r e, few r)

-- ---- a field's bytes have its width

length_rendered : (h : Held) (m : Option ℕ) (w : ℕ) (bs : List ℕ) → T (fills h w) → length bs ≡ w → length (rendered h m bs) ≡ w
length_rendered (a_number p) (Some n) w bs s e = length_numeral (length bs) n ∙ e
length_rendered (a_number p) None w bs s e = length-replicate {A = ℕ} (length bs) blank ∙ e
length_rendered as_bytes m w bs s e = e
length_rendered (as_fixed content) m w bs s e = rw e (eqb→eq _ _ s)

pub part_behind : (f : Field) (front bs rest : List ℕ) → length front ≡ f.from - 1 → length bs ≡ width f → part f (front ++ (bs ++ rest)) ≡ bs
part_behind f front bs rest m n = rw (drop_at front (bs ++ rest) (f.from - 1) m) (take_at bs rest (width f) n)

-- a field at p + 1 that begins a list which tiles a record from there on, and its bytes
pub record First (p : ℕ) (f : Field) (fs : List Field) (bs : List ℕ) : Type 0 where
  pub start : f.from - 1 ≡ p
  pub long : length bs ≡ width f
  pub next : p + width f ≡ f.to
  pub others : T (tiles (suc f.to) fs)

module _ (text : List ℕ) (full : length text ≡ record_bytes) where
  pub first : (p : ℕ) (f : Field) (fs : List Field) (m : Option ℕ) → T (tiles (suc p) (f ∷ fs)) → Sound f → First p f fs (rendered (held_as f) m (part f text))
  first p f fs m t s =
      let h = head (suc p) f fs t in
      let e = ends (suc f.to) fs h.rest in
      record {
        start = omega arith;
        long = length_rendered (held_as f) m (width f) (part f text) s.filled (length_places f.from f.to text (omega arith));
        next = omega arith;
        others = h.rest;
      }

module _ (v : Fields) (full : length v.text ≡ record_bytes) where
  joined_length : (p : ℕ) (fs : List Field) (i : ℕ) → T (tiles (suc p) fs) → All Sound fs → p + length (joined fs i v) ≡ record_bytes
  unfolding tiles joined All
  joined_length p [] i t s = omega (arith, eqb→eq (suc p) (suc record_bytes) t)
  joined_length p (f ∷ fs) i t s =
      let a = first v.text full p f fs (nth i v) t s.0 in
      rw (length-append, a.long) (omega (arith, a.next, joined_length f.to fs (suc i) a.others s.1))

  -- each field's bytes, behind what stands before the fields
  part_each : (p : ℕ) (fs : List Field) (front : List ℕ) (i : ℕ) → T (tiles (suc p) fs) → All Sound fs → length front ≡ p → (j : ℕ) → j < length fs
      → let f = get_or fs j none in part f (front ++ joined fs i v) ≡ rendered (held_as f) (nth (i + j) v) (part f v.text)
  unfolding tiles joined All
  part_each p [] front i t s l j h = absurd (not-suc-le-zero h)
  part_each p (f ∷ fs) front i t s l zero h =
      let a = first v.text full p f fs (nth i v) t s.0 in
      rw add-zero (part_behind f front _ _ (l ∙ sym a.start) a.long)
  part_each p (f ∷ fs) front i t s l (suc j) h =
      let a = first v.text full p f fs (nth i v) t s.0 in
      let bs = rendered (held_as f) (nth i v) (part f v.text) in
      let g = get_or fs j none in
      let next : suc i + j ≡ i + suc j = omega arith in
      ap (part g) (sym (append_assoc front bs (joined fs (suc i) v)))
      ∙ part_each f.to fs (front ++ bs) (suc i) a.others s.1 (rw (length-append, l, a.long) a.next) j (le_of_suc-le-suc h)
      ∙ ap (λ (k : ℕ). rendered (held_as g) (nth k v) (part g v.text)) next

-- ---- a record that is written

module _ (r : Record) (v : Fields) (full : length v.text ≡ record_bytes) where
  pub record_length : length (record_of r v) ≡ record_bytes
  unfolding record_of
  record_length = omega (arith, joined_length v full 0 (fields_of r) 0 (tiled r) (sounds r))

  -- each field's places
  pub holds : (j : ℕ) → j < length (fields_of r)
      → let f = get_or (fields_of r) j none in part f (record_of r v) ≡ rendered (held_as f) (nth j v) (part f v.text)
  unfolding record_of
  holds j h =
      let f = get_or (fields_of r) j none in
      part_each v full 0 (fields_of r) [] 0 (tiled r) (sounds r) refl j h ∙ ap (λ (k : ℕ). rendered (held_as f) (nth k v) (part f v.text)) (zero-add j)

-- a field of a record has as many bytes as its width, and some
pub record Sized (f : Field) (bs : List ℕ) : Type 0 where
  pub is : length (part f bs) ≡ width f
  pub some : 0 < width f

pub part_width : (r : Record) (bs : List ℕ) → length bs ≡ record_bytes → (j : ℕ) → j < length (fields_of r) → Sized (get_or (fields_of r) j none) bs
part_width r bs full j h =
    let i = at Inside (fields_of r) (insides r) j h in
    record { is = length_places (get_or (fields_of r) j none).from (get_or (fields_of r) j none).to bs (omega arith); some = omega arith }

-- a place of a field, in the record and in the field's bytes
part_place : (f : Field) (q : ℕ) (bs : List ℕ) → 1 ≤ q → f.from ≤ q → q ≤ f.to → place (q - (f.from - 1)) (part f bs) ≡ place q bs
part_place f q bs l lo up =
    let e : q - (f.from - 1) - 1 ≡ q - 1 - (f.from - 1) = omega arith in
    rw e (part_get_or bs (f.from - 1) (width f) (q - 1) 0 (omega arith) (omega arith))

-- each place
pub holds_at : (r : Record) (v : Fields) → length v.text ≡ record_bytes → (q : ℕ) (l : 1 ≤ q) (u : q ≤ record_bytes)
    → let j = (covered r q l u).index in let f = get_or (fields_of r) j none in
    place q (record_of r v) ≡ place (q - (f.from - 1)) (rendered (held_as f) (nth j v) (part f v.text))
holds_at r v full q l u =
    let c = covered r q l u in
    let f = get_or (fields_of r) c.index none in
    sym (part_place f q (record_of r v) l c.holds.0 c.holds.1) ∙ ap (place (q - (f.from - 1))) (holds r v full c.index c.below)

-- two records that hold the same in each field are one
pub same_parts : (r : Record) (xs ys : List ℕ) → length xs ≡ record_bytes → length ys ≡ record_bytes
    → ((j : ℕ) → j < length (fields_of r) → part (get_or (fields_of r) j none) xs ≡ part (get_or (fields_of r) j none) ys) → xs ≡ ys
same_parts r xs ys m n e = ext_get_or 0 xs ys (m ∙ sym n) each
  where
    each : (i : ℕ) → i < length xs → get_or xs i 0 ≡ get_or ys i 0
    each i h =
        let c = covered r (suc i) (omega arith) (omega arith) in
        let f = get_or (fields_of r) c.index none in
        let at : (bs : List ℕ) → get_or (part f bs) (i - (f.from - 1)) 0 ≡ get_or bs i 0
        = λ bs. part_get_or bs (f.from - 1) (width f) i 0 (omega arith) (omega arith) in
        sym (at xs) ∙ ap (λ (bs : List ℕ). get_or bs (i - (f.from - 1)) 0) (e c.index c.below) ∙ at ys
