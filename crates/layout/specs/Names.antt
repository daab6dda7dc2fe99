-- The fields' names. Assumes nothing.
use Rattle.std.specs.Prelude.{cond, List, [], ◌∷◌, ℕ, suc, ltb}
use Rattle.layout.specs.Field.{Field}
use Rattle.layout.specs.Table.{fields_of}
use Rattle.layout.specs.declared.Record.{Record}
use Rattle.layout.specs.declared.names.Name.{Name}

-- how many fields begin before a place; they stand left to right
unfoldable pub before : ℕ → List Field → ℕ
before place [] = 0
before place (f ∷ fs) = cond (ltb f.from place) (suc (before place fs)) 0

-- a field's index among the fields of a record, from 0 on: how many begin before it
unfoldable pub index_of : Record → Field → ℕ
index_of r f = before f.from (fields_of r)

-- its name: the record, and its index there
abbrev pub name_of : Record → Field → Name
name_of r f = record { 0 = r; 1 = index_of r f }
