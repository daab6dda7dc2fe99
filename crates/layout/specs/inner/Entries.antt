-- An entry of the columns that the code holds, and a field's width. Assumes nothing.
use Rattle.std.specs.Prelude.{◌≡◌, ℕ, ◌-◌, ◌≤◌, T, get_or}
use Rattle.layout.specs.Field.{Field, field, none}
use Rattle.layout.specs.Table.{record_bytes, all}
use Rattle.layout.specs.inner.Lent.{kind_of, may_be}

abbrev pub width : Field → ℕ
width f = f.to - (f.from - 1)

-- an entry of the columns is the table's, within a record, and of a width that its kind may have
pub record Stands (f from to k : ℕ) : Type 0 where
  pub is : field from to (kind_of k) ≡ get_or all f none
  pub low : 1 ≤ from
  pub order : from ≤ to
  pub high : to ≤ record_bytes
  pub may : T (may_be (kind_of k) (to - (from - 1)))
