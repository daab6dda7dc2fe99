-- The checker takes the lines of an accepted call. Assumes nothing.
use Rattle.std.specs.Prelude.{◌≡◌, refl, true, List, drop, ℕ, suc, Ok}
use Rattle.std.proofs.Common.{sym, ap, subst, ◌∙◌}
use borrow.Author.Tests.{leb-true}
use Rattle.answer.specs.Rules.{AllKept}
use Rattle.layout.specs.Records.{is_one_of}
use Rattle.layout.specs.declared.Record.{Record}
use Rattle.layout.specs.declared.Record.TheVariants.{FileHeader, BatchHeader, BatchTrailer, FileTrailer}
use Rattle.fields.specs.declared.Fields.{Fields}
use Rattle.checker.specs.Line.{most_batches, most_payments}
use Rattle.checker.specs.Machine.{sound}
use Rattle.checker.specs.Calls.{Through, here}
use Rattle.checker.specs.declared.Checker.{Checker}
use Rattle.writer.specs.Given.{Call, open_file, open_batch, pay, close_batch, close_file, records_of}
use Rattle.filling.specs.Filling.{bytes_of}
use Rattle.writer.specs.Refusals.{expected_in_payment, expected_in, expected_now, held, turn_limits}
use Rattle.writer.specs.Outcome.{answer_of, lines_for, behind_all}
use Rattle.writer.specs.Calls.{AllWhole}
use Rattle.writer.specs.inner.Steps.{expected_at, MayTry, MayPay}
use Rattle.writer.specs.declared.given.Payment.{Payment}
use Rattle.writer.specs.declared.Writer.{Writer}
use Rattle.writer.proofs.laws.Paying.{Inside, before, may_try, inside_next, drop_one}
use Rattle.writer.proofs.laws.Sound.{as_held}
use Rattle.writer.proofs.laws.Accepted.{Kept, kept, Right, Rights, none, more, rights}
use Rattle.writer.proofs.laws.Turn.{InTurn, in_turn}
use Rattle.writer.proofs.laws.TakesLine.{Takes, takes_on, takes}

turn : (s : Checker) → InTurn s.phase s.dir s.batch
turn s = in_turn s.phase s.dir s.batch

-- the checker takes what may be tried and is right
taken : {expected : List Record} {s : Checker} {g : Fields} → Right expected s g → MayTry (is_one_of g.which expected) g.which s → Takes s g
taken t m = takes t m.is_sound (m.follows t.is_expected) (m.limit t.is_expected)

-- a payment's, position by position
payment_through : {s t : Checker} (n : ℕ) {expected : List (List Record)} {gs : List Fields} → expected ≡ drop n (expected_in_payment s) → Inside s n t → Rights expected t gs
    → Through t (lines_for t gs) (behind_all t gs)
unfolding lines_for behind_all
payment_through n q k none = here
payment_through {s = s} {t = t} n q k (more {g = g} x on) =
    let there : expected_at n s.dir s.batch g.which ≡ true = rw (← q) x.is_expected in
    takes_on (taken x (subst (λ (rs : List (List Record)). MayTry (is_one_of g.which (expected_now rs)) g.which t) (sym q) (may_try k g.which)))
    (payment_through {s = s} (suc n) (ap (drop 1) q ∙ drop_one n (expected_in_payment s)) (inside_next g.which (bytes_of t g) k there) on)

-- ---- a call's records

-- a header or a trailer that is in turn may be tried
module _ (s : Checker) (h : held s ≡ true) where
  steady : sound s ≡ true
  steady = (as_held s h).is_sound

  pub header_may : (v : Fields) → AllKept (turn_limits (open_file v) s) → MayTry true FileHeader s
  unfolding AllKept
  header_may v k = record { is_sound = steady; follows = λ e. (turn s).header k.0; limit = λ e. tt }

  pub batch_may : (v : Fields) → AllKept (turn_limits (open_batch v) s) → MayTry true BatchHeader s
  unfolding AllKept
  batch_may v k = record { is_sound = steady; follows = λ e. (turn s).batch k.0; limit = λ e. leb-true _ most_batches k.1.0 }

  pub trailer_may : (v : Fields) → AllKept (turn_limits (close_batch v) s) → MayTry true BatchTrailer s
  unfolding AllKept
  trailer_may v k = record { is_sound = steady; follows = λ e. (turn s).trailer k.0; limit = λ e. (as_held s h).cents }

  pub end_may : (v : Fields) → AllKept (turn_limits (close_file v) s) → MayTry true FileTrailer s
  unfolding AllKept
  end_may v k = record { is_sound = steady; follows = λ e. (turn s).end k.0; limit = λ e. tt }

  pub pay_may : (p : Payment) → AllKept (turn_limits (pay p) s) → MayPay s
  unfolding AllKept
  pay_may p k = record { is_held = h; in_turn = k.0; few = leb-true _ most_payments k.1.0 }

records_through : (w : Writer) (c : Call) (out : List ℕ) → Kept w c out → Rights (expected_in c w.checker) w.checker (records_of c)
    → Through w.checker (lines_for w.checker (records_of c)) (behind_all w.checker (records_of c))
unfolding lines_for behind_all
records_through w (open_file v) out k (more t none) = takes_on (taken t (header_may w.checker k.is_held v k.first)) here
records_through w (open_batch v) out k (more t none) = takes_on (taken t (batch_may w.checker k.is_held v k.first)) here
records_through w (pay p) out k rs = payment_through 0 refl (before (pay_may w.checker k.is_held p k.first)) rs
records_through w (close_batch v) out k (more t none) = takes_on (taken t (trailer_may w.checker k.is_held v k.first)) here
records_through w (close_file v) out k (more t none) = takes_on (taken t (end_may w.checker k.is_held v k.first)) here

pub call_through : (w : Writer) (c : Call) (out : List ℕ) → AllWhole (records_of c) → answer_of w c out ≡ Ok tt
    → Through w.checker (lines_for w.checker (records_of c)) (behind_all w.checker (records_of c))
call_through w c out whole e = let k = kept w c out e in records_through w c out k (rights (expected_in c w.checker) w.checker whole k.records)
