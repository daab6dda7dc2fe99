-- Fields and names of one record. Assumes nothing.
use Rattle.std.specs.Prelude.{◌≡◌, refl, ℕ, ◌<◌, length}
use Rattle.std.proofs.Common.{eq-eqb, lt-ltb}
use Rattle.layout.specs.Records.{code}
use Rattle.layout.specs.Table.{fields_of}
use Rattle.layout.specs.declared.Record.{Record}
use Rattle.fields.specs.Values.{taken_as, nth, set_nth, number_at, with_number}
use Rattle.fields.specs.declared.Fields.{Fields}

module _ (r : Record) (v : Fields) (e : v.which ≡ r) where
  -- the number is set at its index
  pub by_name : (j n : ℕ) → with_number (record { 0 = r; 1 = j }) n v ≡ set_nth j n v
  by_name j n = rw (e, eq-eqb (code r) (code r) refl)

  -- and read there
  pub at_name : (j : ℕ) → j < length (fields_of r) → number_at (record { 0 = r; 1 = j }) v ≡ nth j v
  at_name j h = rw (e, eq-eqb (code r) (code r) refl, lt-ltb _ _ h)

  -- where the record's are asked, they are taken as they are
  pub taken_same : taken_as r v ≡ v
  taken_same = rw (e, eq-eqb (code r) (code r) refl)
