-- The records of a payment, by what is expected at each position. Assumes nothing.
use Rattle.std.specs.Prelude.{◌≡◌, refl, Bool, true, false, not, ◌&&◌, ◌||◌, List, [], ◌∷◌, ℕ, zero, suc, ◌≤◌, ◌<◌, eqb, length, take, drop, None, Some, Option}
use Rattle.std.proofs.Common.{sym, ap, arith, eq-eqb, ne_eqb, length-drop}
use Rattle.std.proofs.Math.Bool.{and-false}
use Rattle.std.proofs.Math.Decide.{dec_le}
use Rattle.std.proofs.Math.Seq.{drop-nil}
use Rattle.answer.proofs.laws.Order.{never}
use Rattle.layout.specs.Records.{amounts_of, code, is_one_of}
use Rattle.layout.specs.declared.Direction.{Direction}
use Rattle.layout.specs.declared.Direction.TheVariants.{Remittance, Return}
use Rattle.layout.specs.declared.Record.{Record}
use Rattle.layout.specs.declared.Record.TheVariants.{SegmentZ}
use Rattle.layout.specs.Field.{Field}
use Rattle.layout.proofs.laws.Records.{the_one, itself}
use Rattle.layout.specs.declared.pairs.Batch.{Batch}
use Rattle.layout.specs.Names.{index_of}
use Rattle.fields.specs.Values.{nth, or_zero}
use Rattle.fields.specs.declared.Fields.{Fields}
use Rattle.checker.specs.Order.{payment, record_at, reading_of}
use Rattle.checker.specs.Line.{found}
use Rattle.checker.specs.Totals.{tally, no_payments, live, withdrawn, totals, bare, only, batches_of}
use Rattle.checker.specs.declared.totals.Tally.{Tally}
use Rattle.checker.specs.declared.totals.Totals.{Totals}
use Rattle.checker.proofs.laws.Payments.{row}
use Rattle.checker.specs.inner.Following.{Stands}
use Rattle.checker.proofs.laws.Details.{detail_of}
use Rattle.writer.specs.Given.{given_in, amount_of, withdraws_as, one_payment}
use Rattle.writer.specs.Refusals.{z_in, positions, expected_now}
use Rattle.writer.specs.inner.Steps.{expected_at}

-- ---- the records of a payment, where one is expected

pub z_expected : (d : Direction) (r : Record) → is_one_of r (z_in d) ≡ true → (d ≡ Return) × (r ≡ SegmentZ)
z_expected Remittance r e = never e
z_expected Return r e = (refl, the_one r SegmentZ e)

pub expected_z : {d : Direction} → d ≡ Return → is_one_of SegmentZ (z_in d) ≡ true
expected_z e = rw e

-- at a position of a list of records: that record, or behind the last a Z
data Found (d : Direction) (rs : List Record) (n : ℕ) (r : Record) : Type 0 where
  at_position : take 1 (drop n rs) ≡ r ∷ [] → Found d rs n r
  behind-all : n ≡ length rs → 1 ≤ n → d ≡ Return → r ≡ SegmentZ → Found d rs n r

found_next : {d : Direction} {rs : List Record} {n : ℕ} {r : Record} (x : Record) → Found d rs n r → Found d (x ∷ rs) (suc n) r
found_next x (at_position e) = at_position e
found_next x (behind-all e some q z) = behind-all (ap suc e) (omega arith) q z

finds : (d : Direction) (rs : List Record) (n : ℕ) (r : Record) → is_one_of r (expected_now (drop n (positions d rs))) ≡ true → Found d rs n r
finds d [] zero r e = never e
finds d [] (suc n) r e = never e
finds d (x ∷ []) zero r e = at_position (ap (λ (q : Record). q ∷ []) (sym (the_one r x e)))
finds d (x ∷ []) (suc zero) r e = let z = z_expected d r e in behind-all refl (omega arith) z.0 z.1
finds d (x ∷ []) (suc (suc zero)) r e = never e
finds d (x ∷ []) (suc (suc (suc n))) r e = never e
finds d (x ∷ y ∷ rs) zero r e = at_position (ap (λ (q : Record). q ∷ []) (sym (the_one r x e)))
finds d (x ∷ y ∷ rs) (suc n) r e = found_next x (finds d (y ∷ rs) n r e)

-- of a payment
pub data Expected (d : Direction) (b : Option Batch) (n : ℕ) (r : Record) : Type 0 where
  its_own : Stands b n r → Expected d b n r
  behind_last : n ≡ length (payment b) → 1 ≤ n → d ≡ Return → r ≡ SegmentZ → Expected d b n r

pub expected : (d : Direction) (b : Option Batch) (n : ℕ) (r : Record) → expected_at n d b r ≡ true → Expected d b n r
expected d b n r e = go (finds d (payment b) n r e)
  where
    go : Found d (payment b) n r → Expected d b n r
    go (at_position e) = its_own (record { is = e })
    go (behind-all e some q z) = behind_last e some q z

-- ---- and the other way

one_position : (d : Direction) (rs : List Record) (n : ℕ) {r : Record} → take 1 (drop n rs) ≡ r ∷ [] → expected_now (drop n (positions d rs)) ≡ r ∷ []
one_position d [] zero e = e
one_position d [] (suc n) e = e
one_position d (x ∷ []) zero e = e
one_position d (x ∷ []) (suc zero) e = absurd (let z : ◌≡◌ {A = ℕ} 0 1 = ap length e in omega arith)
one_position d (x ∷ []) (suc (suc n)) e = absurd (let z : ◌≡◌ {A = ℕ} 0 1 = ap length e in omega arith)
one_position d (x ∷ y ∷ rs) zero e = e
one_position d (x ∷ y ∷ rs) (suc n) e = one_position d (y ∷ rs) n e

last_position : (d : Direction) (rs : List Record) → 1 ≤ length rs → expected_now (drop (length rs) (positions d rs)) ≡ z_in d
last_position d [] some = absurd (omega arith)
last_position d (x ∷ []) some = refl
last_position d (x ∷ y ∷ rs) some = last_position d (y ∷ rs) (omega arith)

no_position : (d : Direction) (rs : List Record) (n : ℕ) → length rs < n → expected_now (drop n (positions d rs)) ≡ []
no_position d [] zero h = absurd (omega arith)
no_position d [] (suc n) h = refl
no_position d (x ∷ []) zero h = absurd (omega arith)
no_position d (x ∷ []) (suc zero) h = absurd (omega arith)
no_position d (x ∷ []) (suc (suc zero)) h = refl
no_position d (x ∷ []) (suc (suc (suc n))) h = refl
no_position d (x ∷ y ∷ rs) zero h = absurd (omega arith)
no_position d (x ∷ y ∷ rs) (suc n) h = no_position d (y ∷ rs) n (omega arith)

no_records : (d : Direction) (rs : List Record) (n : ℕ) → length rs ≡ 0 → expected_now (drop n (positions d rs)) ≡ []
no_records d [] n e = rw (drop-nil n)
no_records d (x ∷ rs) n e = absurd (omega arith)

none_taken : (rs : List Record) → take 1 rs ≡ [] → length rs ≡ 0
none_taken [] e = refl
none_taken (x ∷ rs) e = absurd (let z : ◌≡◌ {A = ℕ} 1 0 = ap length e in omega arith)

module _ (d : Direction) {b : Option Batch} {n : ℕ} where
  pub own_position : {r : Record} → Stands b n r → expected_now (drop n (positions d (payment b))) ≡ r ∷ []
  own_position g = one_position d (payment b) n g.is

  pub expected_own : {r : Record} → Stands b n r → expected_at n d b r ≡ true
  expected_own {r} g = rw (own_position g) (itself r)

-- as the code reads it
pub own_reading : (d : Direction) (b : Option Batch) (n : ℕ) (r q : Record) → reading_of (record_at n b) ≡ Some q → expected_at n d b r ≡ eqb (code r) (code q) || false
own_reading d b n r q e = go (drop n (payment b)) refl e
  where
    go : (rs : List Record) → drop n (payment b) ≡ rs → reading_of (take 1 rs) ≡ Some q → expected_at n d b r ≡ eqb (code r) (code q) || false
    go [] h e = never (ap found e)
    go (x ∷ rs) h e = let same : x ≡ q = cc in rw (own_position d {b = b} {n = n} (record { is = ap (take 1) h }), same)

pub no_reading : (n : ℕ) (b : Option Batch) → reading_of (record_at n b) ≡ None → record_at n b ≡ []
no_reading n b e = go (drop n (payment b)) e
  where
    go : (rs : List Record) → reading_of (take 1 rs) ≡ None → take 1 rs ≡ []
    go [] e = refl
    go (x ∷ rs) e = never (sym (ap found e))

-- where none of the payment's stands, a Z is expected behind the last
pub no_own : (d : Direction) (b : Option Batch) (n : ℕ) (r : Record) → record_at n b ≡ []
    → expected_at n d b r ≡ (not (eqb n 0) && eqb n (length (payment b))) && is_one_of r (z_in d)
no_own d b n r e = go (dec_le n (length rs)) (dec_le 1 n)
  where
    rs : List Record
    rs = payment b

    behind : length rs ≤ n
    behind = omega (arith, length-drop n rs, none_taken (drop n rs) e)

    same : n ≤ length rs → n ≡ length rs
    same q = omega (arith, behind)

    go : Dec (n ≤ length rs) → Dec (1 ≤ n) → is_one_of r (expected_now (drop n (positions d rs))) ≡ (not (eqb n 0) && eqb n (length rs)) && is_one_of r (z_in d)
    go (yes q) (yes some) =
        let is : expected_now (drop n (positions d rs)) ≡ z_in d = rw (same q) (last_position d rs (omega (arith, same q))) in
        rw (is, ne_eqb n 0 (λ z. omega arith), eq-eqb n (length rs) (same q))
    go (yes q) (no none) = rw (no_records d rs n (omega (arith, same q)), eq-eqb n 0 (omega arith))
    go (no q) some = rw (no_position d rs n (omega (arith, behind)), ne_eqb n (length rs) (λ z. q (omega arith)), and-false)

pub expected_last : (d : Direction) (b : Option Batch) → 1 ≤ length (payment b) → d ≡ Return → expected_at (length (payment b)) d b SegmentZ ≡ true
expected_last d b some e = rw (last_position d (payment b) some) (expected_z e)

-- ---- what they count, as they are given: the first counts the payment and its amount, live or withdrawn

-- a record that has an amount begins a payment
abbrev tally_as : Bool → Record → List Field → Fields → Tally
tally_as such r [] v = no_payments
tally_as such r (f ∷ fs) v = only such (tally 1 (or_zero (nth (index_of r f) v)))

abbrev pub counts_as : Record → Fields → Totals
counts_as r v =
    totals (batches_of r) 1 (live (tally_as (not (withdraws_as r v)) r (amounts_of r) v)) (withdrawn (tally_as (withdraws_as r v) r (amounts_of r) v))

none_tallied : (such : Bool) (r : Record) (fs : List Field) (v : Fields) → length fs ≡ 0 → tally_as such r fs v ≡ no_payments
none_tallied such r [] v e = refl
none_tallied such r (f ∷ fs) v e = absurd (omega arith)

one_tallied : (such : Bool) (r : Record) (fs : List Field) (v : Fields) → length fs ≡ 1 → tally_as such r fs v ≡ only such (tally 1 (given_in r fs v))
one_tallied such r [] v e = absurd (omega arith)
one_tallied such r (f ∷ fs) v e = refl

pub first_counts : {d : Direction} {b : Option Batch} {r : Record} → Expected d b 0 r → (v : Fields) → counts_as r v ≡ one_payment 1 (withdraws_as r v) (amount_of r v)
first_counts {r = r} (its_own g) v =
    let one : (such : Bool) → tally_as such r (amounts_of r) v ≡ only such (tally 1 (amount_of r v)) = λ such. one_tallied such r (amounts_of r) v (row g).begins in
    rw ((detail_of r (row g).type).opens, one (not (withdraws_as r v)), one (withdraws_as r v))
first_counts (behind_last e some q z) v = absurd (omega arith)

pub later_counts : {d : Direction} {b : Option Batch} {n : ℕ} {r : Record} → Expected d b (suc n) r → (v : Fields) → counts_as r v ≡ bare 0 1
later_counts {r = r} (its_own g) v =
    let none : (such : Bool) → tally_as such r (amounts_of r) v ≡ no_payments = λ such. none_tallied such r (amounts_of r) v (row g).begins in
    rw ((detail_of r (row g).type).opens, none (not (withdraws_as r v)), none (withdraws_as r v))
later_counts (behind_last e some q z) v = rw z
