-- The fields put one after the other over the output, and what stands there in the end. Assumes nothing.
use Rattle.std.specs.Prelude.{Option}
use mathlib.Core.Path.{◌≡◌, sym, ap, ◌∙◌}
use mathlib.Core.List.{List, [], ◌∷◌, ◌++◌, append_assoc}
use Prim.Native.Nat.{ℕ, suc, ◌+◌, ◌-◌, ◌≤◌, ◌<◌}
use native.Mathlib.Nat.{le_antisymm}
use native.Mathlib.Numerals.{add-one}
use native.Mathlib.Omega.{arith}
use lib.Dec.{T, eqb→eq}
use lib.ListN.{length, take, drop, length-append, length-drop, take-append-drop}
use lib.Seq.{take_at, drop_at, drop-drop, length-take-le, slice, slice-cons, slice_empty}
use Rattle.digits.specs.Digits.{places}
use Rattle.answer.specs.Output.{over}
use Rattle.layout.specs.inner.Lent.{kind_of, field_count}
use Rattle.layout.specs.Field.{Field, field, part, none}
use Rattle.layout.specs.Table.{fields_of, record_bytes, tiles, all}
use Rattle.layout.specs.Kinds.{means}
use Rattle.layout.proofs.laws.Tiling.{tiled, ends, All}
use Rattle.layout.proofs.laws.Sound.{Sound, sounds}
use Rattle.layout.specs.inner.Entries.{width}
use Rattle.layout.proofs.laws.Columns.{all_length}
use Rattle.layout.specs.inner.Entries.{Stands}
use Rattle.layout.specs.declared.Record.{Record}
use Rattle.fields.specs.Values.{held_as, nth, rendered, joined, over_field}
use Rattle.fields.specs.declared.Fields.{Fields}
use Rattle.fields.proofs.laws.Parts.{first}

-- bytes put over a field's places
abbrev pub put : Field → List ℕ → List ℕ → List ℕ
put f bs out = take (f.from - 1) out ++ (bs ++ drop (width f) (drop (f.from - 1) out))

-- the fields put one after the other
unfoldable pub put_fields : List Field → ℕ → (ℕ → Option ℕ) → List ℕ → List ℕ → List ℕ
put_fields [] i of text out = out
put_fields (f ∷ fs) i of text out = put_fields fs (suc i) of text (put f (rendered (held_as f) (of i) (part f text)) out)

-- one field more
pub put_more : (f past start : ℕ) {from to k : ℕ} (of : ℕ → Option ℕ) (text out new : List ℕ) → start ≤ f → f < past → past ≤ field_count → Stands f from to k
    → new ≡ rendered (means (kind_of k)).held (of (f - start)) (places from to text)
    → put_fields (slice (f + 1) past all) (f + 1 - start) of text (put (field from to (kind_of k)) new out) ≡ put_fields (slice f past all) (f - start) of text out
unfolding put_fields
put_more f past start of text out new b h l s q =
    let m : f + 1 - start ≡ suc (f - start) = omega arith in
    let u : past ≤ length all = rw all_length l in
    rw (m, add-one f, slice-cons f past all none h u, ← s.is, q)

pub put_end : (f past i : ℕ) (of : ℕ → Option ℕ) (text out : List ℕ) → f ≤ past → past ≤ f → put_fields (slice f past all) i of text out ≡ out
unfolding put_fields
put_end f past i of text out h l = rw (le_antisymm h l, slice_empty)

-- what a field's part holds behind bytes copied over it, put there
pub put_over : (f : Field) (bs text : List ℕ) → f.from - 1 ≤ f.to → put f (over bs (part f text)) text ≡ over_field f bs text
put_over f bs text h = let m : f.from - 1 + width f ≡ f.to = omega arith in rw (drop-drop, m)

-- bytes bs put from a up to e
module _ (a e : ℕ) (out bs : List ℕ) (h : a ≤ e) (l : e ≤ record_bytes) (k : record_bytes ≤ length out) (n : length bs ≡ e - a) where
  front : take a out ++ (bs ++ drop (e - a) (drop a out)) ≡ (take a out ++ bs) ++ drop e out
  front = let m : a + (e - a) ≡ e = omega arith in rw (drop-drop, m, append_assoc)

  front_length : length (take a out ++ bs) ≡ e
  front_length = rw (length-append, length-take-le a out (omega arith)) (omega arith)

  put_length : length (take a out ++ (bs ++ drop (e - a) (drop a out))) ≡ length out
  put_length = rw (front, length-append, front_length, length-drop) (omega arith)

  put_then : (r : List ℕ) → take e (take a out ++ (bs ++ drop (e - a) (drop a out))) ++ (r ++ drop record_bytes (take a out ++ (bs ++ drop (e - a) (drop a out))))
      ≡ take a out ++ ((bs ++ r) ++ drop record_bytes out)
  put_then r =
      let m : record_bytes ≡ e + (record_bytes - e) = omega arith in
      let q : drop record_bytes ((take a out ++ bs) ++ drop e out) ≡ drop record_bytes out
      = rw (m, ← (drop-drop (record_bytes - e) e ((take a out ++ bs) ++ drop e out)), drop_at _ (drop e out) e front_length) (drop-drop (record_bytes - e) e out ∙ ap (λ (j : ℕ). drop j out) (sym m)) in
      rw (front, take_at _ (drop e out) e front_length, q) (simp append_assoc)

-- fields that tile a record from p + 1 on, put over the output, give it up to p, their bytes, and it behind the record
module _ (v : Fields) (full : length v.text ≡ record_bytes) where
  put_all : (p : ℕ) (fs : List Field) (i : ℕ) (out : List ℕ) → T (tiles (suc p) fs) → All Sound fs → record_bytes ≤ length out
      → put_fields fs i (λ j. nth j v) v.text out ≡ take p out ++ (joined fs i v ++ drop record_bytes out)
  unfolding put_fields joined tiles All
  put_all p [] i out t s h =
      let e : p ≡ record_bytes = omega (arith, eqb→eq (suc p) (suc record_bytes) t) in
      rw e (sym (take-append-drop record_bytes out))
  put_all p (f ∷ fs) i out t s h =
      let a = first v.text full p f fs (nth i v) t s.0 in
      let bs = rendered (held_as f) (nth i v) (part f v.text) in
      let u = ends (suc f.to) fs a.others in
      let o : f.from - 1 ≤ f.to = omega (arith, a.start, a.next) in
      let up : f.to ≤ record_bytes = omega (arith, u) in
      put_all f.to fs (suc i) (put f bs out) a.others s.1 (rw (put_length (f.from - 1) f.to out bs o up h a.long) h)
      ∙ put_then (f.from - 1) f.to out bs o up h a.long (joined fs (suc i) v)
      ∙ rw a.start

  -- the fields of a record, put over the output, give the record and the output behind it
  pub put_record : (r : Record) (fs : List Field) (out : List ℕ) → fs ≡ fields_of r → record_bytes ≤ length out
      → put_fields fs 0 (λ j. nth j v) v.text out ≡ joined (fields_of r) 0 v ++ drop record_bytes out
  put_record r fs out e h = rw e (put_all 0 (fields_of r) 0 out (tiled r) (sounds r) h)
