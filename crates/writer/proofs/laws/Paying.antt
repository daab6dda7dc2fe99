-- The states behind the records of a payment, position by position: where one is expected it may be tried, and the phase behind it. Assumes nothing.
use Rattle.std.specs.Prelude.{◌≡◌, refl, true, cond, List, [], ◌∷◌, ℕ, zero, suc, ◌+◌, ◌-◌, ◌≤◌, ltb, length, drop, Option}
use Rattle.std.proofs.Common.{subst, ◌∙◌, add-one, arith, lt-ltb, le-ltb, drop-drop}
use Rattle.answer.specs.Rules.{AllKept}
use Rattle.digits.specs.Digits.{digit_byte}
use Rattle.layout.specs.Records.{type_of}
use Rattle.layout.specs.declared.Direction.{Direction}
use Rattle.layout.specs.declared.Record.{Record}
use Rattle.layout.specs.declared.pairs.Batch.{Batch}
use Rattle.fields.specs.declared.Fields.{Fields}
use Rattle.checker.specs.Order.{payment}
use Rattle.checker.specs.Totals.{payments_of, payment_count}
use Rattle.checker.specs.Line.{most_payments}
use Rattle.checker.specs.Machine.{next, most_details}
use Rattle.checker.proofs.laws.Bounds.{bounded_sound}
use Rattle.checker.proofs.laws.Payments.{begun_at, phase_behind, brief, row, stands_in}
use Rattle.checker.proofs.laws.Edges.{Moved, moved_on, stands_moves}
use Rattle.checker.specs.inner.Following.{Follows, pays, goes_on, adds_z}
use Rattle.checker.proofs.laws.Details.{detail_of}
use Rattle.checker.specs.inner.Following.{Limit}
use Rattle.layout.specs.declared.shapes.Phase.{Phase}
use Rattle.layout.specs.declared.shapes.Phase.TheVariants.{BehindZ}
use Rattle.checker.specs.declared.Checker.{Checker}
use Rattle.filling.specs.Filling.{bytes_of}
use Rattle.writer.specs.Refusals.{expected_in_payment, next_by, all_given}
use Rattle.writer.specs.Outcome.{behind_all}
use Rattle.writer.specs.inner.Steps.{expected_at, MayTry, MayPay}
use Rattle.writer.proofs.laws.Expected.{Expected, its_own, behind_last, expected}
use Rattle.writer.proofs.laws.Sound.{as_held, Spare, begun, gone_on}
use Rattle.writer.proofs.laws.Accepted.{first_expected, later_kept}
use Rattle.writer.proofs.laws.Turn.{in_turn}

-- the phase behind the record at a position, a Z's too
abbrev pub phase_at : ℕ → Option Batch → Phase
phase_at n b = cond (ltb n (length (payment b))) (phase_behind n b) BehindZ

-- a state behind so many records of a payment that begins in s
pub data Inside (s : Checker) : ℕ → Checker → Type 0 where
  before : MayPay s → Inside s 0 s
  inside : {n : ℕ} {t : Checker} → Moved s t (phase_at n s.batch) → Spare (most_details - suc n) t → Inside s (suc n) t

-- ---- a record that is expected

module _ {d : Direction} {b : Option Batch} where
  detail_there : {n : ℕ} {r : Record} → Expected d b n r → type_of r ≡ digit_byte 3
  detail_there (its_own g) = (row g).type
  detail_there (behind_last e some q z) = rw z

  begins_there : (n : ℕ) {r : Record} → Expected d b n r → payments_of r ≡ begun_at n
  begins_there n (its_own g) = (row g).begins
  begins_there zero (behind_last e some q z) = absurd (omega arith)
  begins_there (suc n) (behind_last e some q z) = rw z

  few_there : {n : ℕ} {r : Record} → Expected d b n r → suc n ≤ most_details
  few_there (its_own g) = omega (arith, stands_in g, brief b)
  few_there (behind_last e some q z) = omega (arith, brief b)

  -- behind the first it goes on with the payment
  follows_there : {n : ℕ} {r : Record} → Expected d b (suc n) r → Follows d b (phase_at n b) r
  follows_there {n} (its_own g) = let m = stands_in g in rw (lt-ltb n (length (payment b)) (omega arith), lt-ltb (suc n) (length (payment b)) m) (pays goes_on g)
  follows_there {n} (behind_last e some q z) = rw (lt-ltb n (length (payment b)) (omega arith), le-ltb (suc n) (length (payment b)) (omega arith), z) (adds_z q)

  moved_there : {n : ℕ} {r : Record} (t : Checker) (rec : List ℕ) → Expected d b n r → Moved t (next r t rec) (phase_at n b)
  moved_there {n} t rec (its_own g) = rw (lt-ltb n (length (payment b)) (stands_in g)) (stands_moves t rec g)
  moved_there {n} t rec (behind_last e some q z) = rw (le-ltb n (length (payment b)) (omega arith), z) (record { phase = refl; dir = refl; batch = refl })

limit_there : (r : Record) (t : Checker) → type_of r ≡ digit_byte 3 → payment_count t.current + payments_of r ≤ most_payments → Limit r t
limit_there r t e few = ((detail_of r e).limits t).0 few

-- what may follow, in a state that a payment has moved to
follows_moved : {s t : Checker} {p : Phase} {r : Record} → Moved s t p → Follows s.dir s.batch p r → Follows t.dir t.batch t.phase r
follows_moved m f = rw (m.phase, m.dir, m.batch) f

-- ---- it may be tried, and behind it

first_follows : {s : Checker} {r : Record} → MayPay s → Expected s.dir s.batch 0 r → Follows s.dir s.batch s.phase r
first_follows {s} k (its_own g) = (in_turn s.phase s.dir s.batch).payment k.in_turn g
first_follows k (behind_last e some q z) = absurd (omega arith)

pub may_try : {s t : Checker} {n : ℕ} → Inside s n t → (r : Record) → MayTry (expected_at n s.dir s.batch r) r t
may_try {s} (before k) r =
    let there = expected s.dir s.batch 0 r in
    record {
      is_sound = (as_held s k.is_held).is_sound;
      follows = λ e. first_follows k (there e);
      limit = λ e. limit_there r s (detail_there (there e)) (omega (arith, k.few, begins_there 0 (there e)));
    }
may_try {s} {t} (inside {n} m p) r =
    let there = expected s.dir s.batch (suc n) r in
    record {
      is_sound = bounded_sound p.bounds;
      follows = λ e. follows_moved m (follows_there (there e));
      limit = λ e. limit_there r t (detail_there (there e)) (omega (arith, p.bounds, begins_there (suc n) (there e)));
    }

pub inside_next : {s t : Checker} {n : ℕ} (r : Record) (rec : List ℕ) → Inside s n t → expected_at n s.dir s.batch r ≡ true → Inside s (suc n) (next r t rec)
inside_next {s} r rec (before k) e =
    let there = expected s.dir s.batch 0 r e in
    inside (moved_there s rec there) (begun (detail_of r (detail_there there)) rec (as_held s k.is_held) k.few (begins_there 0 there))
inside_next {s} {t} r rec (inside {n} m p) e =
    let there = expected s.dir s.batch (suc n) r e in
    let few = few_there there in
    let spare : Spare (suc (most_details - suc (suc n))) t = subst (λ (x : ℕ). Spare x t) (omega arith) p in
    inside (moved_on m (moved_there t rec there)) (gone_on (detail_of r (detail_there there)) rec (most_details - suc (suc n)) spare (begins_there (suc n) there))

-- ---- records one behind the other

pub drop_one : {A : Type 0} (n : ℕ) (xs : List A) → drop 1 (drop n xs) ≡ drop (suc n) xs
drop_one n xs = drop-drop 1 n xs ∙ rw (add-one n)

pub inside_all : {s t : Checker} (n : ℕ) (gs : List Fields) → Inside s n t → AllKept (all_given (drop n (expected_in_payment s)) t gs)
    → Inside s (n + length gs) (behind_all t gs)
unfolding behind_all
inside_all {s = s} {t = t} n [] k h = subst (λ (x : ℕ). Inside s x t) (omega arith) k
inside_all {s = s} {t = t} n (g ∷ gs) k h =
    let expected = drop n (expected_in_payment s) in
    let later = rw (drop_one n (expected_in_payment s)) at (later_kept expected t g gs h) in
    let on = inside_all {s = s} {t = next_by t g} (suc n) gs (inside_next g.which (bytes_of t g) k (first_expected expected t g gs h)) later in
    subst (λ (x : ℕ). Inside s x (behind_all (next_by t g) gs)) (omega arith) on
