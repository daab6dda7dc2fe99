-- The lines of batches are counted; the details of a batch, edge by edge from a phase on, are its payments. Assumes nothing.
use Rattle.std.specs.Prelude.{◌≡◌, refl, true, List, [], ◌∷◌, ◌++◌, ℕ, zero, suc, ◌+◌, ◌-◌, ◌≤◌, ◌<◌, length, take, drop, is_some, Option}
use Rattle.std.proofs.Common.{sym, ap, subst, ◌∙◌, append_assoc, add-zero, arith, lt-ltb, le-ltb, length-append, length-drop, take_all}
use Rattle.std.proofs.Math.Decide.{dec_lt}
use Rattle.digits.specs.Digits.{digit_byte}
use Rattle.layout.specs.Records.{type_of}
use Rattle.layout.specs.declared.Direction.{Direction}
use Rattle.layout.specs.declared.Record.{Record}
use Rattle.layout.specs.declared.Record.TheVariants.{SegmentZ}
use Rattle.layout.specs.declared.pairs.Batch.{Batch}
use Rattle.checker.specs.Order.{payment}
use Rattle.layout.specs.Records.{after}
use Rattle.checker.specs.Totals.{add, payments_of}
use Rattle.checker.specs.declared.totals.Totals.{Totals}
use Rattle.layout.specs.declared.shapes.Phase.{Phase}
use Rattle.layout.specs.declared.shapes.Phase.TheVariants.{Start, Headed, Opened, Within, Paid, BehindZ, Closed, Ended}
use Rattle.promises.specs.Grammar.{Batches, no_batches, batch, OptionalZ, without_z, with_z, Payments, no-payments, pay}
use Rattle.checker.specs.inner.Following.{first_payment, goes_on, pays_behind, pays_behind_z, Follows, heads, first_batch, pays, adds_z, closes_paid, closes_behind_z, next_batch, ends}
use Rattle.checker.proofs.laws.Payments.{begun_at, phase_behind, some_paid, row, up_to}
use Rattle.checker.specs.inner.Following.{Stands}
use Rattle.writer.proofs.laws.Paying.{drop_one}

-- batches count their lines
pub batches_long : {d : Direction} {bank n : ℕ} {ls : List (List ℕ)} {t : Totals} → Batches d bank n ls t → t.records.0 ≡ length ls
unfolding add
batches_long no_batches = refl
batches_long (batch {ls = ls} {ms} b on) = omega (arith, length-append ls ms, ap (λ (t : Totals). t.records.0) b.are, batches_long on)

-- so many payments, from a phase up to where the batch may close
pub data Tail (d : Direction) (b : Option Batch) : Phase → ℕ → List Record → Type 0 where
  stops_paid : Tail d b Paid 0 []
  stops_behind_z : Tail d b BehindZ 0 []
  steps : {p : Phase} {r : Record} {k : ℕ} {rs : List Record}
      → Follows d b p r → type_of r ≡ digit_byte 3 → Tail d b (after r) k rs → Tail d b p (k + payments_of r) (r ∷ rs)

-- ---- from edges to payments

-- what a tail makes, by phase: payments, by itself or with the records of a payment before it
abbrev Makes : Direction → Option Batch → Phase → ℕ → List Record → Type 0
Makes d b Start k rs = Unit {0}
Makes d b Headed k rs = Unit {0}
Makes d b Opened k rs = Payments d b k rs × (1 ≤ k)
Makes d b (Within n) k rs = Payments d b (k + (1 - begun_at n)) (take n (payment b) ++ rs)
Makes d b Paid k rs = Payments d b (k + 1) (payment b ++ rs)
Makes d b BehindZ k rs = Payments d b k rs
Makes d b Closed k rs = Unit {0}
Makes d b Ended k rs = Unit {0}

-- by the record at a position
behind_one : {d : Direction} {b : Option Batch} {n : ℕ} {r : Record} (k : ℕ) (rs : List Record) → Stands b n r → Makes d b (after r) k rs
    → Payments d b (k + 1) (take n (payment b) ++ r ∷ rs)
behind_one {d} {b} {n} {r} k rs g h = subst (Payments d b (k + 1)) here (go (dec_lt (suc n) (length (payment b))) (subst (λ (p : Phase). Makes d b p k rs) (row g).phase h))
  where
    here : take (suc n) (payment b) ++ rs ≡ take n (payment b) ++ r ∷ rs
    here = rw (up_to g, append_assoc)

    go : Dec (suc n < length (payment b)) → Makes d b (phase_behind n b) k rs → Payments d b (k + 1) (take (suc n) (payment b) ++ rs)
    go (yes more) = rw (lt-ltb (suc n) (length (payment b)) more) (λ h. h)
    go (no last) = rw (le-ltb (suc n) (length (payment b)) (omega arith), take_all (suc n) (payment b) (omega arith)) (λ h. h)

begun : {d : Direction} {b : Option Batch} {r : Record} (k : ℕ) (rs : List Record) → Stands b 0 r → Makes d b (after r) k rs
    → Payments d b (k + payments_of r) (r ∷ rs) × (1 ≤ k + payments_of r)
begun k rs g h = rw (row g).begins (behind_one k rs g h, omega arith)

gone_on : {d : Direction} {b : Option Batch} {n : ℕ} {r : Record} (k : ℕ) (rs : List Record) → Stands b n r → Makes d b (after r) k rs
    → Makes d b (Within n) (k + payments_of r) (r ∷ rs)
gone_on {d} {b} {n} {r} k rs g h = subst (λ (m : ℕ). Payments d b m (take n (payment b) ++ r ∷ rs)) (rw (row g).begins (once n)) (behind_one k rs g h)
  where
    once : (n : ℕ) → k + 1 ≡ k + begun_at n + (1 - begun_at n)
    once zero = omega arith
    once (suc n) = omega arith

-- edge by edge; the types leave none but details
makes : {d : Direction} {b : Option Batch} {p : Phase} {k : ℕ} {rs : List Record} → Tail d b p k rs → Makes d b p k rs
makes stops_paid = pay without_z no-payments
makes stops_behind_z = no-payments
makes (steps heads e t) = tt
makes (steps first_batch e t) = tt
makes (steps {k = k} {rs = rs} (pays first_payment g) e t) = begun k rs g (makes t)
makes (steps {k = k} {rs = rs} (pays goes_on g) e t) = gone_on k rs g (makes t)
makes (steps {k = k} (adds_z q) e t) = rw (add-zero k) (pay {zs = SegmentZ ∷ []} (rw q with_z) (makes t))
makes (steps {k = k} {rs = rs} (pays pays_behind g) e t) = pay without_z (begun k rs g (makes t)).0
makes (steps {k = k} {rs = rs} (pays pays_behind_z g) e t) = (begun k rs g (makes t)).0
makes (steps closes_paid e t) = absurd (omega arith)
makes (steps closes_behind_z e t) = absurd (omega arith)
makes (steps next_batch e t) = tt
makes (steps ends e t) = tt

pub tail_payments : {d : Direction} {b : Option Batch} {k : ℕ} {rs : List Record} → Tail d b Opened k rs → Payments d b k rs × (1 ≤ k)
tail_payments t = makes t

-- ---- from payments to edges

-- the records of a payment behind one of them, and behind the last what is behind the payment
module _ {d : Direction} {b : Option Batch} {k : ℕ} {rs : List Record} (t : Tail d b Paid k rs) where
  behind_tail : (later : List Record) (n : ℕ) {r : Record} → drop n (payment b) ≡ r ∷ later → Stands b n r → Tail d b (after r) k (later ++ rs)
  behind_tail [] n e g =
      let last : length (payment b) ≤ suc n = omega (arith, length-drop n (payment b), ap length e) in
      rw ((row g).phase, le-ltb (suc n) (length (payment b)) last) t
  behind_tail (x ∷ later) n e g =
      let more : suc n < length (payment b) = omega (arith, length-drop n (payment b), ap length e) in
      let there : drop (suc n) (payment b) ≡ x ∷ later = sym (drop_one n (payment b)) ∙ ap (drop 1) e in
      let h : Stands b (suc n) x = record { is = ap (take 1) there } in
      let on = steps (pays goes_on h) (row h).type (behind_tail later (suc n) there h) in
      rw ((row g).phase, lt-ltb (suc n) (length (payment b)) more) (subst (λ (m : ℕ). Tail d b (Within (suc n)) m (x ∷ (later ++ rs))) (rw (row h).begins (add-zero k)) on)

-- a payment, from a phase where one may begin, and a Z behind it
paid_tail : {d : Direction} {b : Option Batch} {p : Phase} {k : ℕ} {rs : List Record} → is_some b ≡ true → ((r : Record) → Stands b 0 r → Follows d b p r)
    → Tail d b Paid k rs → Tail d b p (k + 1) (payment b ++ rs)
paid_tail {d} {b} {p} {k} {rs} e may t = go (payment b) refl
  where
    go : (xs : List Record) → payment b ≡ xs → Tail d b p (k + 1) (xs ++ rs)
    go [] q = absurd (omega (arith, some_paid b e, ap length q))
    go (r ∷ later) q =
        let g : Stands b 0 r = record { is = ap (take 1) q } in
        subst (λ (m : ℕ). Tail d b p (k + m) (r ∷ (later ++ rs))) (row g).begins (steps (may r g) (row g).type (behind_tail t later 0 q g))

z_tail : {d : Direction} {b : Option Batch} {k : ℕ} {zs rs : List Record} → OptionalZ d zs → Tail d b BehindZ k rs → Tail d b Paid k rs
    → Tail d b Paid k (zs ++ rs)
z_tail without_z n t = t
z_tail {k = k} with_z n t = rw (← add-zero k) (steps (adds_z refl) refl n)

-- payments, from a phase where the batch may close if there is none
later_tail : {d : Direction} {b : Option Batch} {p : Phase} {k : ℕ} {rs : List Record} → is_some b ≡ true → Payments d b k rs → (k ≡ 0 → Tail d b p 0 [])
    → ((r : Record) → Stands b 0 r → Follows d b p r) → Tail d b p k rs
later_tail {p = p} e no-payments stop may = stop refl
later_tail {p = p} e (pay n ps) stop may =
    paid_tail e may (z_tail n (later_tail {p = BehindZ} e ps (λ z. stops_behind_z) (λ r. pays pays_behind_z)) (later_tail {p = Paid} e ps (λ z. stops_paid) (λ r. pays pays_behind)))

pub payments_tail : {d : Direction} {b : Option Batch} {k : ℕ} {rs : List Record} → is_some b ≡ true → Payments d b k rs → 1 ≤ k → Tail d b Opened k rs
payments_tail e ps some = later_tail e ps (λ z. absurd (omega arith)) (λ r. pays first_payment)
