-- Which record a line may be, by phase, direction and kind of batch: each edge of the machine, both ways. Assumes nothing.
use Rattle.std.specs.Prelude.{◌≡◌, refl, Bool, true, false, not, cond, ◌&&◌, ◌||◌, ℕ, eqb, take, drop, Option, Some}
use Rattle.std.proofs.Common.{sym, ap, subst, ◌∙◌, arith, eqb-true, eq-eqb}
use Rattle.std.proofs.Math.Bool.{and-false}
use mathlib.Core.List.{List, [], ◌∷◌, ◌++◌, Memᴰ}
use Rattle.answer.proofs.laws.Order.{never}
use Rattle.digits.specs.Digits.{digit_byte, place}
use Rattle.layout.specs.Records.{type_of}
use Rattle.layout.specs.Table.{type_place, segment_place}
use Rattle.layout.proofs.laws.Bytes.{and_right}
use Rattle.layout.specs.declared.Direction.{Direction}
use Rattle.layout.specs.declared.Direction.TheVariants.{Remittance, Return}
use Rattle.layout.specs.declared.Record.{Record}
use Rattle.layout.specs.declared.Record.TheVariants.{SegmentZ, BatchTrailer}
use Rattle.layout.specs.declared.pairs.Batch.{Batch}
use Rattle.checker.specs.Order.{payment, record_at, follows, ended, optional, suits, read_as}
use Rattle.checker.specs.Line.{line_is, found}
use Rattle.checker.specs.Machine.{next}
use Rattle.layout.specs.declared.shapes.Phase.{Phase}
use Rattle.layout.specs.declared.shapes.Phase.TheVariants.{Start, Headed, Opened, Within, Paid, BehindZ, Closed, Ended}
use Rattle.checker.specs.declared.Checker.{Checker}
use Rattle.checker.proofs.laws.Payments.{phase_behind, row}
use Rattle.checker.specs.inner.Following.{Stands}
use Rattle.checker.proofs.laws.Details.{detail_of}
use Rattle.checker.specs.inner.Following.{Next, Follows, first_payment, goes_on, pays_behind, pays_behind_z, heads, first_batch, pays, adds_z, closes_paid, closes_behind_z, next_batch, ends}

-- there a payment may begin or go on
abbrev pub pays_in : Phase → Bool
pays_in Start = false
pays_in Headed = false
pays_in Opened = true
pays_in (Within n) = true
pays_in Paid = true
pays_in BehindZ = true
pays_in Closed = false
pays_in Ended = false

pub next_in : {p : Phase} {n : ℕ} → Next p n → pays_in p ≡ true
next_in first_payment = refl
next_in goes_on = refl
next_in pays_behind = refl
next_in pays_behind_z = refl

pub one_next : {p : Phase} {n m : ℕ} → Next p n → Next p m → n ≡ m
one_next first_payment first_payment = refl
one_next goes_on goes_on = refl
one_next pays_behind pays_behind = refl
one_next pays_behind_z pays_behind_z = refl

-- ---- it may follow

-- a record is one of these
abbrev pub Among : Record → List Record → Type 0
Among r rs = Memᴰ r rs

-- of some records each
abbrev Each : (Record → Type 0) → List Record → Type 0
Each P [] = Unit {0}
Each P (r ∷ rs) = P r × Each P rs

of_each : (P : Record → Type 0) {r : Record} {rs : List Record} → Among r rs → Each P rs → P r
of_each P (Memᴰ.head e) h = subst P (sym e) h.0
of_each P (Memᴰ.tail m) h = of_each P m h.1

each_both : (P : Record → Type 0) (rs qs : List Record) → Each P rs → Each P qs → Each P (rs ++ qs)
each_both P [] qs h k = k
each_both P (r ∷ rs) qs h k = (h.0, each_both P rs qs h.1 k)

each_at : (b : Option Batch) (n : ℕ) (P : Record → Type 0) → ((r : Record) → Stands b n r → P r) → Each P (record_at n b)
each_at b n P h = go (drop n (payment b)) refl
  where
    go : (rs : List Record) → drop n (payment b) ≡ rs → Each P (take 1 rs)
    go [] e = tt
    go (r ∷ rs) e = (h r (record { is = ap (take 1) e }), tt)

-- a payment's first record, or the batch trailer
each_behind : (b : Option Batch) (P : Record → Type 0) → ((r : Record) → Stands b 0 r → P r) → P BatchTrailer → Each P (record_at 0 b ++ BatchTrailer ∷ [])
each_behind b P h k = each_both P (record_at 0 b) _ (each_at b 0 P h) (k, tt)

each_follows : (p : Phase) (d : Direction) (b : Option Batch) → Each (Follows d b p) (follows p d b)
each_follows Start d b = (heads, tt)
each_follows Headed d b = (first_batch, tt)
each_follows Opened d b = each_at b 0 (Follows d b Opened) (λ r. pays first_payment)
each_follows (Within n) d b = each_at b n (Follows d b (Within n)) (λ r. pays goes_on)
each_follows Paid Remittance b = each_behind b (Follows Remittance b Paid) (λ r. pays pays_behind) closes_paid
each_follows Paid Return b = (adds_z refl, each_behind b (Follows Return b Paid) (λ r. pays pays_behind) closes_paid)
each_follows BehindZ d b = each_behind b (Follows d b BehindZ) (λ r. pays pays_behind_z) closes_behind_z
each_follows Closed d b = (next_batch, (ends, tt))
each_follows Ended d b = tt

-- a line is read as one of them, with that record's type and, where it may be left out, its letter
read_among : (type segment : ℕ) (rs : List Record) {r : Record} → read_as type segment rs ≡ Some r → Among r rs × (suits type segment r ≡ true)
read_among type segment [] e = never (ap found e)
read_among type segment (x ∷ rs) {r} e = go (suits type segment x) refl (read_among type segment rs) e
  where
    go : (b : Bool) → suits type segment x ≡ b → (read_as type segment rs ≡ Some r → Among r rs × (suits type segment r ≡ true))
        → cond b (Some x) (read_as type segment rs) ≡ Some r → Among r (x ∷ rs) × (suits type segment r ≡ true)
    go true q later e = let same : r ≡ x = cc in (Memᴰ.head {x = x} same, subst (λ (y : Record). suits type segment y ≡ true) (sym same) q)
    go false q later e = let h = later e in (Memᴰ.tail h.0, h.1)

module _ (s : Checker) (rec : List ℕ) {r : Record} (e : line_is s rec ≡ Some r) where
  read_so : Among r (follows s.phase s.dir s.batch) × (suits (place type_place rec) (place segment_place rec) r ≡ true)
  read_so = read_among (place type_place rec) (place segment_place rec) (follows s.phase s.dir s.batch) e

  pub among_by : Among r (follows s.phase s.dir s.batch)
  among_by = read_so.0

  pub follows_by : Follows s.dir s.batch s.phase r
  follows_by = of_each (Follows s.dir s.batch s.phase) read_so.0 (each_follows s.phase s.dir s.batch)

  pub type_read : place type_place rec ≡ type_of r
  type_read = eqb-true _ _ (and_right (not (optional r) || eqb (place segment_place rec) 90) _ read_so.1)

  -- behind the file trailer nothing is
  pub not_ended : ended s.phase ≡ false
  not_ended = go s.phase e
    where
      go : (p : Phase) → read_as (place type_place rec) (place segment_place rec) (follows p s.dir s.batch) ≡ Some r → ended p ≡ false
      go Start e = refl
      go Headed e = refl
      go Opened e = refl
      go (Within n) e = refl
      go Paid e = refl
      go BehindZ e = refl
      go Closed e = refl
      go Ended e = never (ap found e)

-- ---- and what follows is read so, by its type and its letter

-- where a Z may stand, another letter or another type is none
no_z : (type segment : ℕ) (later : Option Record) → (segment ≡ 90 → type ≡ type_of SegmentZ → ⊥) → cond (suits type segment SegmentZ) (Some SegmentZ) later ≡ later
no_z type segment later n = go (eqb segment 90) (eqb type (type_of SegmentZ)) refl refl
  where
    go : (a b : Bool) → eqb segment 90 ≡ a → eqb type (type_of SegmentZ) ≡ b → cond (a && b) (Some SegmentZ) later ≡ later
    go true true p q = absurd (n (eqb-true _ _ p) (eqb-true _ _ q))
    go true false p q = refl
    go false b p q = refl

module _ (type segment : ℕ) where
  -- a record of a payment is read by its type alone
  reads_at : {b : Option Batch} {n : ℕ} {r : Record} (later : List Record) → Stands b n r → type ≡ type_of r → read_as type segment (r ∷ later) ≡ Some r
  reads_at {r = r} later g e = rw ((row g).needed, eq-eqb type (type_of r) e)

  -- a line that is no detail is none of them
  pub passed_by : (b : Option Batch) (n : ℕ) (later : List Record) → eqb type (digit_byte 3) ≡ false → read_as type segment (record_at n b ++ later) ≡ read_as type segment later
  passed_by b n later e = go (drop n (payment b)) refl
    where
      go : (rs : List Record) → drop n (payment b) ≡ rs → read_as type segment (take 1 rs ++ later) ≡ read_as type segment later
      go [] q = refl
      go (r ∷ rs) q = rw ((row {b = b} {n = n} {r = r} (record { is = ap (take 1) q })).type, e, and-false)

  closes_last : (b : Option Batch) → type ≡ type_of BatchTrailer → read_as type segment (record_at 0 b ++ BatchTrailer ∷ []) ≡ Some BatchTrailer
  closes_last b e = passed_by b 0 (BatchTrailer ∷ []) (rw e) ∙ rw e

  -- behind a payment, what is no Z is read as if none could stand there
  no_z_there : (d : Direction) (b : Option Batch) → (segment ≡ 90 → type ≡ type_of SegmentZ → ⊥)
      → read_as type segment (follows Paid d b) ≡ read_as type segment (record_at 0 b ++ BatchTrailer ∷ [])
  no_z_there Remittance b n = refl
  no_z_there Return b n = no_z type segment _ n

  reads_as : {p : Phase} (d : Direction) (b : Option Batch) {r : Record} → Follows d b p r → type ≡ type_of r → (r ≡ SegmentZ → segment ≡ 90)
      → (Stands b 0 r → segment ≡ 90 → ⊥) → read_as type segment (follows p d b) ≡ Some r
  reads_as d b heads e z f = rw e
  reads_as d b first_batch e z f = rw e
  reads_as d b (pays first_payment g) e z f = rw g.is (reads_at [] g e)
  reads_as d b (pays goes_on g) e z f = rw g.is (reads_at [] g e)
  reads_as d b (adds_z q) e z f = rw (q, e, z refl)
  reads_as d b (pays pays_behind g) e z f = no_z_there d b (λ letter same. f g letter) ∙ rw g.is (reads_at (BatchTrailer ∷ []) g e)
  reads_as d b closes_paid e z f = no_z_there d b (λ letter same. omega arith) ∙ closes_last b e
  reads_as d b (pays pays_behind_z g) e z f = rw g.is (reads_at (BatchTrailer ∷ []) g e)
  reads_as d b closes_behind_z e z f = closes_last b e
  reads_as d b next_batch e z f = rw e
  reads_as d b ends e z f = rw e

pub read_by : (s : Checker) (rec : List ℕ) {r : Record} → Follows s.dir s.batch s.phase r
    → place type_place rec ≡ type_of r → (r ≡ SegmentZ → place segment_place rec ≡ 90) → (Stands s.batch 0 r → place segment_place rec ≡ 90 → ⊥)
    → line_is s rec ≡ Some r
read_by s rec f e z g = reads_as _ _ s.dir s.batch f e z g

-- ---- the records of a payment

-- the state behind each
pub record Moved (s t : Checker) (p : Phase) : Type 0 where
  pub phase : t.phase ≡ p
  pub dir : t.dir ≡ s.dir
  pub batch : t.batch ≡ s.batch

pub moved_on : {s t u : Checker} {p q : Phase} → Moved s t p → Moved t u q → Moved s u q
moved_on m n = record { phase = n.phase; dir = n.dir ∙ m.dir; batch = n.batch ∙ m.batch }

pub stands_moves : {b : Option Batch} {n : ℕ} {r : Record} (s : Checker) (rec : List ℕ) → Stands b n r → Moved s (next r s rec) (phase_behind n b)
stands_moves {r = r} s rec g = rw ((detail_of r (row g).type).moves s rec) (record { phase = (row g).phase; dir = refl; batch = refl })
