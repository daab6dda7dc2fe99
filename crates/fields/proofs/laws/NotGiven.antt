-- A field that is said not to be given: its number is none and its text blank, and everything else stays. So it is written as blanks, unless its
-- content is fixed. Assumes nothing.
use Rattle.std.specs.Prelude.{◌≡◌, refl, List, [], ◌∷◌, ◌++◌, ℕ, zero, suc, ◌-◌, ◌≤◌, ◌<◌, length, get_or, take, drop, set, replicate, None}
use Rattle.std.proofs.Common.{ap, ◌∙◌, not-suc-le-zero, le_of_suc-le-suc, arith, eq-eqb, lt-ltb, length-append, length-drop, get_or-set_same, get_or-set_other, length-take-le}
use Rattle.std.proofs.lemmas.List.{length-replicate}
use Rattle.answer.specs.Output.{over}
use Rattle.layout.specs.Field.{Field, part, none}
use Rattle.layout.specs.Records.{code}
use Rattle.layout.specs.Table.{fields_of, record_bytes}
use Rattle.layout.specs.Kinds.{run, blank}
use Rattle.layout.specs.inner.Entries.{width}
use Rattle.layout.proofs.laws.Tiling.{Inside, insides, at}
use Rattle.fields.specs.Values.{held_as, nth, rendered, record_of, most_fields, over_field, not_given, Whole}
use Rattle.fields.proofs.laws.Parts.{few, part_behind, part_width, holds}
use Rattle.fields.specs.declared.Fields.{Fields}

-- a run of bytes over fewer
over_run : (n x : ℕ) (ys : List ℕ) → length ys ≤ n → over (replicate n x) ys ≡ replicate (length ys) x
unfolding over
over_run zero x [] h = refl
over_run (suc n) x [] h = refl
over_run zero x (y ∷ ys) h = absurd (not-suc-le-zero h)
over_run (suc n) x (y ∷ ys) h = ap (λ (l : List ℕ). x ∷ l) (over_run n x ys (le_of_suc-le-suc h))

module _ (v : Fields) (whole : Whole v) (j : ℕ) (h : j < length (fields_of v.which)) where
  abbrev field_there : Field
  field_there = get_or (fields_of v.which) j none

  abbrev said : Fields
  said = not_given (record { 0 = v.which; 1 = j }) v

  -- its number is none, every other number stays, and its text is blanks
  abbrev is_said : Fields
  is_said =
      record {
        which = v.which;
        numbers = set v.numbers j None;
        text = over_field field_there (run blank record_bytes) v.text;
      }

  said_is : said ≡ is_said
  said_is =
      let own = eq-eqb (code v.which) (code v.which) refl in
      rw (own, lt-ltb j (length (fields_of v.which)) h, lt-ltb j most_fields (omega (arith, few v.which)), own)

  pub none_there : nth j said ≡ None
  none_there = rw (said_is, get_or-set_same v.numbers j None None (omega (arith, few v.which, whole.numbers)))

  pub other_numbers : (k : ℕ) → (k ≡ j → ⊥) → nth k said ≡ nth k v
  other_numbers k ne = rw said_is (get_or-set_other v.numbers j k None None ne)

  pub text_is : said.text ≡ take (field_there.from - 1) v.text ++ (run blank (width field_there) ++ drop field_there.to v.text)
  text_is =
      let w = part_width v.which v.text whole.text j h in
      let i = at Inside (fields_of v.which) (insides v.which) j h in
      let new = over_run record_bytes blank (part field_there v.text) (omega (arith, w.is)) ∙ ap (run blank) w.is in
      rw (said_is, new)

  front_long : length (take (field_there.from - 1) v.text) ≡ field_there.from - 1
  front_long = let i = at Inside (fields_of v.which) (insides v.which) j h in length-take-le _ v.text (omega (arith, whole.text))

  pub blank_text : part field_there said.text ≡ run blank (width field_there)
  blank_text =
      let front = take (field_there.from - 1) v.text in
      rw text_is (part_behind field_there front (run blank (width field_there)) (drop field_there.to v.text) front_long (length-replicate {A = ℕ} (width field_there) blank))

  said_full : length said.text ≡ record_bytes
  said_full =
      let i = at Inside (fields_of v.which) (insides v.which) j h in
      rw (text_is, length-append, length-append, front_long, length-drop) (omega (arith, whole.text, length-replicate {A = ℕ} (width field_there) blank))

  -- the record holds blanks for it, unless its content is fixed
  pub blank_field : part field_there (record_of v.which said) ≡ rendered (held_as field_there) None (run blank (width field_there))
  blank_field = holds v.which said said_full j h ∙ rw (none_there, blank_text)
