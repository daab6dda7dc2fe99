-- Live and withdrawn payments together are the payments and the cents of the grammar, whatever the movement: of details, of a batch, of a file.
-- Assumes nothing.
use Rattle.std.specs.Prelude.{◌≡◌, true, List, ℕ, length, is_some, Option}
use Rattle.std.proofs.Common.{arith}
use Rattle.answer.specs.Rules.{AllKept}
use Rattle.layout.specs.Table.{fields_of}
use Rattle.layout.specs.Record.{rules_of}
use Rattle.layout.specs.declared.Direction.{Direction}
use Rattle.layout.specs.declared.Record.{Record}
use Rattle.layout.specs.declared.Record.TheVariants.{BatchHeader}
use Rattle.layout.specs.declared.pairs.Batch.{Batch}
use Rattle.layout.specs.declared.shapes.Phase.{Phase}
use Rattle.checker.specs.Totals.{totals, add}
use Rattle.checker.specs.Line.{record_in}
use Rattle.checker.specs.declared.totals.Totals.{Totals}
use Rattle.checker.proofs.laws.Sums.{InAll, together}
use Rattle.promises.specs.Grammar.{RightLine, Details, no_details, detail, live_among, withdrawn_among, kind_in, RightBatch, Batches, no_batches, batch, RightFile, payments_in_batches, cents_in_batches}
use Rattle.promises.proofs.laws.Shape.{Tail, stops_paid, stops_behind_z, steps, payments_tail}

-- ---- details

-- what they count, beside so many records
abbrev pub among : ℕ → List Record → List (List ℕ) → Totals
among records rs ls = totals 0 records (live_among rs ls) (withdrawn_among rs ls)

pub details_together : {d : Direction} {b : Option Batch} {p : Phase} {bank batch n k c : ℕ} {rs : List Record} {ls : List (List ℕ)}
    → Tail d b p k rs → Details d bank batch n rs ls c → InAll k c (among (length ls) rs ls)
unfolding live_among withdrawn_among
details_together stops_paid no_details = omega arith
details_together stops_behind_z no_details = omega arith
details_together (steps {r = r} f type t) (detail {l = l} w number ds) = omega (arith, together r (record_in l), details_together t ds)

-- ---- a batch

-- the header's pair is a known kind
pub pair_known : {d : Direction} {l : List ℕ} → RightLine BatchHeader d l → is_some (kind_in d l) ≡ true
unfolding AllKept rules_of fields_of
pair_known k = k.fields.1.1.1.1.0

pub batch_together : {d : Direction} {bank ordinal : ℕ} {ls : List (List ℕ)} {t : Totals} (w : RightBatch d bank ordinal ls t) → InAll w.payments w.cents t
batch_together w =
    let tail = payments_tail (pair_known w.header_right.right) w.payments_right w.some in
    rw w.are (omega (arith, details_together tail w.details_right))

-- ---- a file

batches_together : {d : Direction} {bank n : ℕ} {ls : List (List ℕ)} {t : Totals} (w : Batches d bank n ls t) → InAll (payments_in_batches w) (cents_in_batches w) t
unfolding add
batches_together no_batches = omega arith
batches_together (batch b on) = omega (arith, batch_together b, batches_together on)

-- a file's live and withdrawn payments are together the payments of its batches, and so are the cents
pub file_together : {ls : List (List ℕ)} {t : Totals} (w : RightFile ls t) → InAll (payments_in_batches w.batches_right) (cents_in_batches w.batches_right) t
file_together w = rw w.are (omega (arith, batches_together w.batches_right))
