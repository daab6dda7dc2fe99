-- The records, a row each: what all lines but the file header ask first, and what no line takes back. Assumes nothing.
use Rattle.std.specs.Prelude.{◌≡◌, refl, ◌⊎◌, List, [], ◌∷◌, ℕ, ◌≤◌, Option}
use Rattle.std.proofs.Common.{inl, inr, arith}
use Rattle.layout.specs.Table.{bank_field, batch_field, number_field}
use Rattle.checker.specs.Line.{ordinal}
use Rattle.layout.specs.declared.Direction.{Direction}
use Rattle.layout.specs.declared.Record.{Record}
use Rattle.layout.specs.declared.Record.TheVariants.{FileHeader}
use Rattle.layout.proofs.laws.Records.{by_type}
use Rattle.checker.specs.Totals.{record_count}
use Rattle.layout.specs.declared.pairs.Batch.{Batch}
use Rattle.checker.specs.Machine.{next}
use Rattle.checker.proofs.laws.Kept.{stage}
use Rattle.layout.specs.declared.shapes.Phase.{Phase}
use Rattle.checker.specs.declared.Checker.{Checker}
use Rattle.checker.proofs.laws.Payments.{row}
use Rattle.checker.specs.inner.Following.{Follows, heads, pays}
use Rattle.checker.proofs.laws.Details.{Asked, asked, Open, at_within, at_paid, at_behind_z, detail_row}

-- what a line asks first
abbrev pub BankFirst : Record → Type 0
BankFirst r = (s : Checker) → (k : ℕ) × (more : Asked) × (asked r s ≡ (bank_field, s.bank) ∷ (batch_field, k) ∷ more)

pub bank_first : (r : Record) → (r ≡ FileHeader) ⊎ BankFirst r
bank_first =
    by_type (λ r. (r ≡ FileHeader) ⊎ BankFirst r)
    (inl refl)
    (inr (λ s. (_, _, refl)))
    (λ r e. inr (λ s. (ordinal s, (number_field, record_count s.current) ∷ [], (detail_row r e).asks s)))
    (inr (λ s. (_, _, refl)))
    (inr (λ s. (_, _, refl)))

-- behind the file header, in this direction
abbrev pub Settled : Direction → Checker → Type 0
Settled d s = (1 ≤ (stage s.phase).own) × (s.dir ≡ d)

no_header : {d : Direction} {b : Option Batch} {p : Phase} → Follows d b p FileHeader → 1 ≤ (stage p).own → ⊥
no_header heads h = omega arith
no_header (pays x g) h = omega (arith, (row g).type)

still_own : {p : Phase} → Open p → 1 ≤ (stage p).own
still_own at_within = omega arith
still_own at_paid = omega arith
still_own at_behind_z = omega arith

abbrev Settles : Direction → Checker → List ℕ → Record → Type 0
Settles d s rec r = Follows s.dir s.batch s.phase r → Settled d s → Settled d (next r s rec)

pub settled_next : {d : Direction} (r : Record) (s : Checker) (rec : List ℕ) → Follows s.dir s.batch s.phase r → Settled d s → Settled d (next r s rec)
settled_next {d} r s rec =
    by_type (Settles d s rec)
    (λ f h. absurd (no_header f h.0))
    (λ f h. (omega arith, h.1))
    (λ r e f h. let o = detail_row r e in rw (o.moves s rec) (still_own o.stays, h.1))
    (λ f h. (omega arith, h.1))
    (λ f h. (omega arith, h.1))
    r
