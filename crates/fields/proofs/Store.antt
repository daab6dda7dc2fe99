-- What is stored for each of a record's fields, one after the other, and what stands there in the end. Assumes nothing.
use mathlib.Core.Path.{◌≡◌, sym, ◌∙◌}
use mathlib.Core.List.{List, [], ◌∷◌, ◌++◌, map, append_assoc}
use Prim.Native.Nat.{ℕ, suc, ◌+◌, ◌-◌, ◌≤◌, ◌<◌}
use native.Mathlib.Nat.{add-zero, zero-add, le_antisymm}
use native.Mathlib.Numerals.{add-one}
use native.Mathlib.Omega.{arith}
use lib.ListN.{length, take, drop, set, replicate, length-set, length-replicate, take-append-drop}
use lib.Seq.{slice, slice-cons, slice_empty, take-suc-set, drop-set-lt}
use Rattle.layout.specs.inner.Lent.{kind_of, field_count}
use Rattle.layout.specs.Field.{Field, field, none}
use Rattle.layout.specs.Table.{fields_of, all}
use Rattle.layout.proofs.laws.Bytes.{drop_replicate}
use Rattle.layout.proofs.laws.Columns.{all_length}
use Rattle.layout.specs.inner.Entries.{Stands}
use Rattle.layout.specs.declared.Record.{Record}
use Rattle.fields.specs.Values.{most_fields, for_each}

-- what is stored for each field, one after the other
unfoldable pub store_fields : {A : Type 0} → (Field → A) → List Field → ℕ → List A → List A
store_fields of [] i xs = xs
store_fields of (f ∷ fs) i xs = store_fields of fs (suc i) (set xs i (of f))

module _ {A : Type 0} (of : Field → A) where
  -- one field more
  pub store_more : (f past first : ℕ) {from to k : ℕ} (xs : List A) {x : A} → first ≤ f → f < past → past ≤ field_count → Stands f from to k
      → x ≡ of (field from to (kind_of k))
      → store_fields of (slice (f + 1) past all) (f + 1 - first) (set xs (f - first) x) ≡ store_fields of (slice f past all) (f - first) xs
  unfolding store_fields
  store_more f past first xs b h l s q =
      let k : f + 1 - first ≡ suc (f - first) = omega arith in
      let u : past ≤ length all = rw all_length l in
      rw (k, add-one, slice-cons f past all none h u, ← s.is, q)

  pub store_end : (f past i : ℕ) (xs : List A) → f ≤ past → past ≤ f → store_fields of (slice f past all) i xs ≡ xs
  unfolding store_fields
  store_end f past i xs h l = rw (le_antisymm h l, slice_empty)

  store_all : (fs : List Field) (i : ℕ) (xs : List A) → i + length fs ≤ length xs → store_fields of fs i xs ≡ take i xs ++ (map of fs ++ drop (i + length fs) xs)
  unfolding store_fields
  store_all [] i xs h = rw add-zero (sym (take-append-drop i xs))
  store_all (f ∷ fs) i xs h =
      let k : suc i + length fs ≤ length (set xs i (of f)) = rw length-set (omega arith) in
      let m : i < length xs = omega arith in
      let w : i + suc (length fs) ≡ suc i + length fs = omega arith in
      store_all fs (suc i) (set xs i (of f)) k
      ∙ rw (take-suc-set xs i (of f) m, drop-set-lt (suc i + length fs) xs i (of f) (omega arith), append_assoc, w)

  pub store_record : (r : Record) (fs : List Field) (x : A) → fs ≡ fields_of r → length (fields_of r) ≤ most_fields
      → store_fields of fs 0 (replicate most_fields x) ≡ for_each r of x
  store_record r fs x e h =
      rw e (store_all (fields_of r) 0 (replicate most_fields x) (rw (zero-add, length-replicate) h) ∙ rw (zero-add, drop_replicate (length (fields_of r)) most_fields x))
