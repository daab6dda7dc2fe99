-- What is asked of all records is asked of the table's, once. Assumes nothing.
use Rattle.std.specs.Prelude.{◌≡◌, refl, Bool, true, false, ◌&&◌, ◌||◌, List, [], ◌∷◌, ℕ, zero, suc, ◌<◌, T, eqb, length, get_or, None, Option, Some}
use Rattle.std.proofs.Common.{sym, ap, subst, ◌∙◌, not-suc-le-zero, le_of_suc-le-suc, arith, eqb-true, eq-eqb, eqb→eq, lit≤}
use Rattle.answer.proofs.laws.Order.{never}
use Rattle.digits.specs.Digits.{digit_byte}
use Rattle.digits.proofs.laws.Tests.{both}
use Rattle.layout.specs.Records.{shape_of, records, code, is_one_of, is_detail, type_byte, type_of}
use Rattle.layout.specs.declared.Record.{Record}
use Rattle.layout.specs.declared.Record.TheVariants.{FileHeader, BatchHeader, SegmentA, SegmentB, SegmentJ, SegmentJ52, SegmentZ, BatchTrailer, FileTrailer, SegmentO}
use Rattle.layout.specs.declared.shapes.Amount.{Amount}
use Rattle.layout.specs.declared.shapes.Amount.TheVariants.{OfA, OfJ, OfO}
use Rattle.layout.specs.declared.shapes.LineType.{LineType}
use Rattle.layout.specs.declared.shapes.LineType.TheVariants.{FileFirst, BatchFirst, Detail, BatchLast, FileLast}

-- a record stands in the table at its number
pub record Tabled (r : Record) : Type 0 where
  pub below : code r < length records
  pub is : get_or records (code r) FileHeader ≡ r

pub tabled : (r : Record) → Tabled r
tabled FileHeader = record { below = lit≤ tt; is = refl }
tabled BatchHeader = record { below = lit≤ tt; is = refl }
tabled SegmentA = record { below = lit≤ tt; is = refl }
tabled SegmentB = record { below = lit≤ tt; is = refl }
tabled SegmentJ = record { below = lit≤ tt; is = refl }
tabled SegmentJ52 = record { below = lit≤ tt; is = refl }
tabled SegmentZ = record { below = lit≤ tt; is = refl }
tabled BatchTrailer = record { below = lit≤ tt; is = refl }
tabled FileTrailer = record { below = lit≤ tt; is = refl }
tabled SegmentO = record { below = lit≤ tt; is = refl }

-- a test at each of these records
abbrev pub every : (Record → Bool) → List Record → Bool
every test [] = true
every test (r ∷ rs) = test r && every test rs

at_each : (test : Record → Bool) (rs : List Record) → T (every test rs) → (n : ℕ) → n < length rs → T (test (get_or rs n FileHeader))
at_each test [] k n h = absurd (not-suc-le-zero h)
at_each test (r ∷ rs) k zero h = (both (test r) (every test rs) k).0
at_each test (r ∷ rs) k (suc n) h = at_each test rs (both (test r) (every test rs) k).1 n (le_of_suc-le-suc h)

-- what is so of each record of the table is so of any record
pub each : (test : Record → Bool) → T (every test records) → (r : Record) → T (test r)
each test k r = subst (λ (q : Record). T (test q)) (tabled r).is (at_each test records k (code r) (tabled r).below)

-- ---- headers and trailers are the one record of their type

abbrev pub the_only : LineType → Record
the_only FileFirst = FileHeader
the_only BatchFirst = BatchHeader
the_only Detail = SegmentZ
the_only BatchLast = BatchTrailer
the_only FileLast = FileTrailer

pub same_code : (r q : Record) → code r ≡ code q → r ≡ q
same_code r q e = sym (tabled r).is ∙ ap (λ (n : ℕ). get_or records n FileHeader) e ∙ (tabled q).is

not_one : (a : Bool) {n k : ℕ} → T (a || eqb n k) → a ≡ false → n ≡ k
not_one true t e = never (sym e)
not_one false {n} {k} t e = eqb→eq n k t

only : (r : Record) → is_detail (shape_of r).line ≡ false → r ≡ the_only (shape_of r).line
only r e = same_code r _ (not_one (is_detail (shape_of r).line) (each (λ r. is_detail (shape_of r).line || eqb (code r) (code (the_only (shape_of r).line))) tt r) e)

pub the-only : (r : Record) (t : LineType) → (shape_of r).line ≡ t → is_detail t ≡ false → the_only t ≡ r
the-only r t e n = sym (only r (rw e n) ∙ ap the_only e)

-- so what is said of all records is said of these four, and of details
pub by_type : (P : Record → Type 0) → P FileHeader → P BatchHeader → ((r : Record) → (shape_of r).line ≡ Detail → P r) → P BatchTrailer → P FileTrailer
    → (r : Record) → P r
by_type P file-header batch-header details batch_trailer file_trailer r = go (shape_of r).line refl
  where
    go : (t : LineType) → (shape_of r).line ≡ t → P r
    go FileFirst e = subst P (the-only r FileFirst e refl) file-header
    go BatchFirst e = subst P (the-only r BatchFirst e refl) batch-header
    go Detail e = details r e
    go BatchLast e = subst P (the-only r BatchLast e refl) batch_trailer
    go FileLast e = subst P (the-only r FileLast e refl) file_trailer

-- ---- and an amount is A's, J's or O's

abbrev payer : Option Amount → Record → Record
payer None r = r
payer (Some OfA) r = SegmentA
payer (Some OfJ) r = SegmentJ
payer (Some OfO) r = SegmentO

paid_by : (r : Record) → payer (shape_of r).amount r ≡ r
paid_by r = sym (same_code r _ (eqb→eq _ _ (each (λ r. eqb (code r) (code (payer (shape_of r).amount r))) tt r)))

pub by_amount : (P : Record → Type 0) → ((r : Record) → (shape_of r).amount ≡ None → P r) → P SegmentA → P SegmentJ → P SegmentO → (r : Record) → P r
by_amount P without of_a of_j of_o r = go (shape_of r).amount refl
  where
    go : (a : Option Amount) → (shape_of r).amount ≡ a → P r
    go None e = without r e
    go (Some OfA) e = subst P (ap (λ (a : Option Amount). payer a r) (sym e) ∙ paid_by r) of_a
    go (Some OfJ) e = subst P (ap (λ (a : Option Amount). payer a r) (sym e) ∙ paid_by r) of_j
    go (Some OfO) e = subst P (ap (λ (a : Option Amount). payer a r) (sym e) ∙ paid_by r) of_o

-- a detail, by the byte of its type
pub detail_line : (r : Record) → type_of r ≡ digit_byte 3 → (shape_of r).line ≡ Detail
detail_line r e = go (shape_of r).line e
  where
    go : (t : LineType) → type_byte t ≡ digit_byte 3 → t ≡ Detail
    go FileFirst e = absurd (omega arith)
    go BatchFirst e = absurd (omega arith)
    go Detail e = refl
    go BatchLast e = absurd (omega arith)
    go FileLast e = absurd (omega arith)

-- ---- one of one record is that record

alone : (b : Bool) → b || false ≡ true → b ≡ true
alone true e = refl
alone false e = e

pub the_one : (r q : Record) → is_one_of r (q ∷ []) ≡ true → r ≡ q
the_one r q e = same_code r q (eqb-true (code r) (code q) (alone _ e))

-- and each is one of itself
pub itself : (r : Record) → is_one_of r (r ∷ []) ≡ true
itself r = rw (eq-eqb (code r) (code r) refl)
