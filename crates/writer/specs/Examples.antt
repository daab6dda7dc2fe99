-- The bounds of number 25, computed at the last numbers of records: one statement over one table. Assumes nothing.
use Rattle.std.specs.Prelude.{Bool, true, false, not, cond, ◌&&◌, List, [], ◌∷◌, ℕ, T, None, Some}
use Rattle.layout.specs.declared.pairs.Batch.TheVariants.{Credit, Boleto, Collection}
use Rattle.writer.specs.Refusals.{fits_batch, fits_payment}

-- a file with so many records: whether a batch may be opened, of credits, of boletos or of none, and one of collections; and whether a payment of
-- one record, of two or of three may be made
pub record Row : Type 0 where
  pub records : ℕ
  pub batch : Bool
  pub collection : Bool
  pub one : Bool
  pub two : Bool
  pub three : Bool

abbrev pub row : ℕ → Bool → Bool → Bool → Bool → Bool → Row
row n a b c d e = record { records = n; batch = a; collection = b; one = c; two = d; three = e }

abbrev pub agree : Bool → Bool → Bool
agree a b = cond a b (not b)

abbrev pub holds : Row → Bool
holds x =
    agree (fits_batch x.records (Some Credit)) x.batch
    && agree (fits_batch x.records (Some Boleto)) x.batch
    && agree (fits_batch x.records None) x.batch
    && agree (fits_batch x.records (Some Collection)) x.collection
    && agree (fits_payment x.records 1) x.one
    && (agree (fits_payment x.records 2) x.two && agree (fits_payment x.records 3) x.three)

unfoldable pub table : List Row
table =
    row 999994 true true true true true
    ∷ row 999995 false true true true false
    ∷ row 999996 false false true false false
    ∷ row 999997 false false false false false
    ∷ row 999998 false false false false false
    ∷ row 999999 false false false false false
    ∷ []

abbrev pub every : List Row → Bool
every [] = true
every (x ∷ xs) = holds x && every xs

pub table_holds : T (every table)
unfolding table
table_holds = tt
