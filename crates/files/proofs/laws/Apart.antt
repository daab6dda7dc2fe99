-- Statuses, and outcomes, of different kinds are not equal. Assumes nothing.
use Rattle.std.specs.Prelude.{◌≡◌, ℕ, Err, Ok}
use Rattle.std.proofs.Common.{arith}
use Rattle.answer.specs.declared.Refusal.{Refusal}
use Rattle.checker.specs.declared.totals.Totals.{Totals}
use Rattle.files.specs.declared.incoming.Status.TheVariants.{Open, Refused, Ended}

pub open_refused : {A : Type 0} {r : Refusal} → Open ≡ Refused r → A
open_refused e = absurd (let z : ◌≡◌ {A = ℕ} 0 1 = cc in omega arith)

pub open_ended : {A : Type 0} → Open ≡ Ended → A
open_ended e = absurd (let z : ◌≡◌ {A = ℕ} 0 1 = cc in omega arith)

pub refused_ended : {A : Type 0} {r : Refusal} → Refused r ≡ Ended → A
refused_ended e = absurd (let z : ◌≡◌ {A = ℕ} 0 1 = cc in omega arith)

pub accepted_refused : {A : Type 0} {t : Totals} {r : Refusal} → Ok t ≡ Err r → A
accepted_refused e = absurd (let z : ◌≡◌ {A = ℕ} 0 1 = cc in omega arith)
