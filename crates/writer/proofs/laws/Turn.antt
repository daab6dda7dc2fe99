-- A call is in turn exactly where its record, or a payment's first, may follow. Assumes nothing.
use Rattle.std.specs.Prelude.{◌≡◌, refl, true, Option}
use Rattle.std.proofs.Common.{arith}
use Rattle.answer.proofs.laws.Order.{never}
use Rattle.layout.specs.declared.Direction.{Direction}
use Rattle.layout.specs.declared.Record.{Record}
use Rattle.layout.specs.declared.Record.TheVariants.{FileHeader, BatchHeader, BatchTrailer, FileTrailer}
use Rattle.layout.specs.declared.pairs.Batch.{Batch}
use Rattle.layout.specs.declared.shapes.Phase.{Phase}
use Rattle.layout.specs.declared.shapes.Phase.TheVariants.{Start, Headed, Opened, Within, Paid, BehindZ, Closed, Ended}
use Rattle.checker.proofs.laws.Payments.{row}
use Rattle.checker.specs.inner.Following.{Stands}
use Rattle.checker.specs.inner.Following.{Follows, heads, first_batch, pays, first_payment, pays_behind, pays_behind_z, closes_paid, closes_behind_z, next_batch, ends}
use Rattle.writer.specs.Refusals.{turns}

pub record InTurn (p : Phase) (d : Direction) (b : Option Batch) : Type 0 where
  pub header : (turns p).header ≡ true → Follows d b p FileHeader
  pub batch : (turns p).batch ≡ true → Follows d b p BatchHeader
  pub payment : (turns p).payment ≡ true → {r : Record} → Stands b 0 r → Follows d b p r
  pub trailer : (turns p).trailer ≡ true → Follows d b p BatchTrailer
  pub end : (turns p).end ≡ true → Follows d b p FileTrailer

pub in_turn : (p : Phase) (d : Direction) (b : Option Batch) → InTurn p d b
in_turn Start d b = record { header = λ e. heads; batch = never; payment = λ e. never e; trailer = never; end = never }
in_turn Headed d b = record { header = never; batch = λ e. first_batch; payment = λ e. never e; trailer = never; end = never }
in_turn Opened d b = record { header = never; batch = never; payment = λ e. pays first_payment; trailer = never; end = never }
in_turn (Within n) d b = record { header = never; batch = never; payment = λ e. never e; trailer = never; end = never }
in_turn Paid d b = record { header = never; batch = never; payment = λ e. pays pays_behind; trailer = λ e. closes_paid; end = never }
in_turn BehindZ d b = record { header = never; batch = never; payment = λ e. pays pays_behind_z; trailer = λ e. closes_behind_z; end = never }
in_turn Closed d b = record { header = never; batch = λ e. next_batch; payment = λ e. never e; trailer = never; end = λ e. ends }
in_turn Ended d b = record { header = never; batch = never; payment = λ e. never e; trailer = never; end = never }

-- ---- and the other way

pub header_turn : {d : Direction} {b : Option Batch} {p : Phase} → Follows d b p FileHeader → (turns p).header ≡ true
header_turn heads = refl
header_turn (pays x g) = absurd (omega (arith, (row g).type))

pub batch_turn : {d : Direction} {b : Option Batch} {p : Phase} → Follows d b p BatchHeader → (turns p).batch ≡ true
batch_turn first_batch = refl
batch_turn (pays x g) = absurd (omega (arith, (row g).type))
batch_turn next_batch = refl

pub trailer_turn : {d : Direction} {b : Option Batch} {p : Phase} → Follows d b p BatchTrailer → (turns p).trailer ≡ true
trailer_turn (pays x g) = absurd (omega (arith, (row g).type))
trailer_turn closes_paid = refl
trailer_turn closes_behind_z = refl

pub end_turn : {d : Direction} {b : Option Batch} {p : Phase} → Follows d b p FileTrailer → (turns p).end ≡ true
end_turn (pays x g) = absurd (omega (arith, (row g).type))
end_turn ends = refl
