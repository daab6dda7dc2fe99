-- What a state has ahead of it on the way to the end of an accepted file: the sum stays below its limit, and so many lines follow. Assumes nothing.
use Rattle.std.specs.Prelude.{◌≡◌, true, List, [], ◌∷◌, ℕ, suc, ◌+◌, ◌-◌, ◌≤◌, ◌<◌, length, Option}
use Rattle.std.proofs.Common.{ap, arith, lt-ltb, le-ltb}
use Rattle.std.proofs.Math.Decide.{dec_lt}
use Rattle.answer.specs.Limits.{file_cents}
use Rattle.answer.proofs.laws.Order.{never}
use Rattle.layout.specs.declared.Record.{Record}
use Rattle.layout.specs.declared.pairs.Batch.{Batch}
use Rattle.checker.specs.Order.{payment, ended}
use Rattle.layout.specs.Records.{after}
use Rattle.checker.specs.Totals.{add, cent_sum}
use Rattle.checker.specs.Line.{record_in}
use Rattle.checker.specs.Machine.{next}
use Rattle.checker.proofs.laws.Sums.{next_counts}
use Rattle.checker.proofs.laws.Edges.{stands_moves}
use Rattle.checker.specs.inner.Following.{Next, first_payment, goes_on, pays_behind, pays_behind_z, Follows, heads, first_batch, pays, adds_z, closes_paid, closes_behind_z, next_batch, ends}
use Rattle.checker.proofs.laws.Payments.{phase_behind, row, stands_in}
use Rattle.checker.specs.inner.Following.{Stands}
use Rattle.checker.proofs.laws.Meaning.{next_phase}
use Rattle.checker.proofs.laws.Kept.{KeptAt}
use Rattle.checker.proofs.laws.Reached.{reached_kept}
use Rattle.layout.specs.declared.shapes.Phase.{Phase}
use Rattle.layout.specs.declared.shapes.Phase.TheVariants.{Start, Headed, Opened, Within, Paid, BehindZ, Closed, Ended}
use Rattle.checker.specs.declared.Checker.{Checker}
use Rattle.writer.specs.Refusals.{cents_so_far, least_details, trailers}
use Rattle.writer.proofs.laws.KindGiven.{least_named}
use Rattle.writer.proofs.laws.Fits.{reserve}
use Rattle.promises.proofs.laws.Behind.{Ends, goes, at_last}

-- ---- the sum: at the end it is below the limit, and no line takes from it

ended_cents : (p : Phase) {s : Checker} → ended p ≡ true → KeptAt p s → cents_so_far s < file_cents
ended_cents Start e k = never e
ended_cents Headed e k = never e
ended_cents Opened e k = never e
ended_cents (Within n) e k = never e
ended_cents Paid e k = never e
ended_cents BehindZ e k = never e
ended_cents Closed e k = never e
ended_cents Ended e k = omega arith

pub sum_below : (ls : List (List ℕ)) {s : Checker} → Ends s ls → cents_so_far s < file_cents
unfolding add
sum_below [] {s} e = ended_cents s.phase (at_last e) (reached_kept e.reached)
sum_below (l ∷ ls) {s} e =
    let (r, g) = goes e in
    omega (arith, sum_below ls g.rest, ap cent_sum (next_counts r s (record_in l)))

-- ---- the lines that close the file follow

none_left : (p : Phase) (b : Option Batch) → ended p ≡ true → reserve p b ≤ 0
none_left Start b e = never e
none_left Headed b e = never e
none_left Opened b e = never e
none_left (Within n) b e = never e
none_left Paid b e = never e
none_left BehindZ b e = never e
none_left Closed b e = never e
none_left Ended b e = omega arith

-- the records of a payment from a position on
from_there : {p : Phase} {n : ℕ} (b : Option Batch) → Next p n → reserve p b ≤ (least_details b - n) + trailers
from_there b first_payment = omega arith
from_there b goes_on = omega arith
from_there b pays_behind = omega arith
from_there b pays_behind_z = omega arith

one_fewer : {b : Option Batch} {n : ℕ} {r : Record} → Stands b n r → (least_details b - n) + trailers ≤ suc (reserve (phase_behind n b) b)
one_fewer {b} {n} g = go (dec_lt (suc n) (length (payment b)))
  where
    least : length (payment b) ≡ least_details b
    least = least_named b (omega (arith, stands_in g))

    go : Dec (suc n < length (payment b)) → (least_details b - n) + trailers ≤ suc (reserve (phase_behind n b) b)
    go (yes h) = rw (lt-ltb (suc n) (length (payment b)) h) (omega arith)
    go (no h) = rw (le-ltb (suc n) (length (payment b)) (omega arith)) (omega (arith, least))

one_less : {p : Phase} {r : Record} (s : Checker) (rec : List ℕ) → Follows s.dir s.batch p r
    → reserve p s.batch ≤ suc (reserve (after r) (next r s rec).batch)
one_less s rec heads = omega arith
one_less s rec first_batch = omega arith
one_less s rec (pays x g) = rw ((stands_moves s rec g).batch, (row g).phase) (omega (arith, from_there s.batch x, one_fewer g))
one_less s rec (adds_z e) = omega arith
one_less s rec closes_paid = omega arith
one_less s rec closes_behind_z = omega arith
one_less s rec next_batch = omega arith
one_less s rec ends = omega arith

pub enough_lines : (ls : List (List ℕ)) {s : Checker} → Ends s ls → reserve s.phase s.batch ≤ length ls
enough_lines [] {s} e = none_left s.phase s.batch (at_last e)
enough_lines (l ∷ ls) {s} e =
    let (r, g) = goes e in
    let later : reserve (after r) (next r s (record_in l)).batch ≤ length ls = rw (next_phase r s (record_in l)) at (enough_lines ls g.rest) in
    omega (arith, one_less s (record_in l) g.follows)
