-- The phase that an accepted call leaves: closing the file ends it, and behind that every call is refused. Assumes nothing.
use Rattle.std.specs.Prelude.{◌≡◌, refl, true, List, ◌⊎◌, ℕ, zero, suc, ◌≤◌, ◌<◌, length, Err, Ok}
use Rattle.std.proofs.Common.{sym, ap, subst, ◌∙◌, inl, inr, ⊎_elim, arith, lt-ltb, le-ltb}
use Rattle.std.proofs.Math.Decide.{dec_lt}
use Rattle.answer.specs.Rules.{AllKept, first_broken, refusal}
use Rattle.answer.proofs.laws.Order.{never}
use Rattle.fields.specs.declared.Fields.{Fields}
use Rattle.layout.specs.declared.Record.{Record}
use Rattle.checker.specs.Order.{payment, ended}
use Rattle.checker.specs.inner.Following.{Stands}
use Rattle.checker.specs.Machine.{line_of}
use Rattle.layout.specs.declared.shapes.Phase.{Phase}
use Rattle.layout.specs.declared.shapes.Phase.TheVariants.{Headed, Opened, Paid, BehindZ, Closed, Ended}
use Rattle.checker.specs.declared.Checker.{Checker}
use Rattle.writer.specs.Given.{Call, open_file, open_batch, pay, close_batch, close_file, first_in, later_in, records_in, records_of}
use Rattle.writer.specs.Refusals.{expected_in_payment, expected_in, all_given, held, call_rules}
use Rattle.writer.specs.inner.Steps.{MayPay}
use Rattle.writer.specs.Outcome.{new_writer, behind_all, answer_of}
use Rattle.writer.specs.Calls.{Lent, WholeCalls, state_behind, left, lent}
use Rattle.writer.specs.declared.given.Payment.{Payment}
use Rattle.writer.specs.declared.Writer.{Writer}
use Rattle.writer.proofs.laws.Given.{some_few, paid_in_full}
use Rattle.writer.proofs.laws.Expected.{Expected, its_own, behind_last, expected}
use Rattle.writer.proofs.laws.Paying.{phase_at, Inside, before, inside, inside_all}
use Rattle.writer.proofs.laws.TakesCall.{pay_may}
use Rattle.writer.proofs.laws.Accepted.{kept, first_expected}
use Rattle.writer.proofs.laws.Sequences.{never_guarded}

-- behind the last record of a payment of at least one, by position
abbrev phase_behind_all : ℕ → Checker → Phase
phase_behind_all zero s = s.phase
phase_behind_all (suc n) s = phase_at n s.batch

abbrev pub phase_by : Checker → Call → Phase
phase_by s (open_file v) = Headed
phase_by s (open_batch v) = Opened
phase_by s (pay p) = phase_behind_all (length (records_in p)) s
phase_by s (close_batch v) = Closed
phase_by s (close_file v) = Ended

inside_phase : {s t : Checker} {n : ℕ} → Inside s n t → t.phase ≡ phase_behind_all n s
inside_phase (before k) = refl
inside_phase (inside m p) = m.phase

payment_phase : (s : Checker) (p : Payment) → MayPay s → AllKept (all_given (expected_in_payment s) s (records_in p))
    → (behind_all s (records_in p)).phase ≡ phase_behind_all (length (records_in p)) s
payment_phase s p m k = inside_phase {n = length (records_in p)} (subst (λ (n : ℕ). Inside s n (behind_all s (records_in p))) (omega arith) (inside_all 0 (records_in p) (before m) k))

-- an accepted call leaves its phase
pub phase_after : (w : Writer) (c : Call) (out : List ℕ) → answer_of w c out ≡ Ok tt → (state_behind w (lent c out)).checker.phase ≡ phase_by w.checker c
unfolding behind_all
phase_after w (open_file v) out e = rw e
phase_after w (open_batch v) out e = rw e
phase_after w (pay p) out e =
    let k = kept w (pay p) out e in
    rw e (payment_phase w.checker p (pay_may w.checker k.is_held p k.first) k.records)
phase_after w (close_batch v) out e = rw e
phase_after w (close_file v) out e = rw e

-- ---- closing the file ends it, and nothing else does

pub closes : (w : Writer) (v : Fields) (out : List ℕ) → answer_of w (close_file v) out ≡ Ok tt
    → (state_behind w (lent (close_file v) out)).checker.phase ≡ Ended
closes w v out e = phase_after w (close_file v) out e

pub data Closing : Call → Type 0 where
  closing : (v : Fields) → Closing (close_file v)

-- the first of a payment's records that are accepted is the one that is due
first-due : (s : Checker) (p : Payment) → AllKept (all_given (expected_in_payment s) s (records_in p)) → Stands s.batch 0 (first_in p).which
first-due s p k = own (expected s.dir s.batch 0 (first_in p).which (first_expected (expected_in_payment s) s (first_in p) (later_in p) k))
  where
    own : {r : Record} → Expected s.dir s.batch 0 r → Stands s.batch 0 r
    own (its_own g) = g
    own (behind_last e some q z) = absurd (omega arith)

-- behind its records a payment is made: it has as many as its kind of batch asks for, or a Z more
pub paid_phase : (s : Checker) (p : Payment) → AllKept (all_given (expected_in_payment s) s (records_in p)) → (phase_by s (pay p) ≡ Paid) ⊎ (phase_by s (pay p) ≡ BehindZ)
paid_phase s p k = go (length (records_in p)) (paid_in_full s.batch p (first-due s p k)) (some_few p).0
  where
    go : (n : ℕ) → length (payment s.batch) ≤ n → 1 ≤ n → (phase_behind_all n s ≡ Paid) ⊎ (phase_behind_all n s ≡ BehindZ)
    go zero h some = absurd (omega arith)
    go (suc n) h some = last (dec_lt n (length (payment s.batch)))
      where
        last : Dec (n < length (payment s.batch)) → (phase_at n s.batch ≡ Paid) ⊎ (phase_at n s.batch ≡ BehindZ)
        last (yes q) = inl (rw (lt-ltb n (length (payment s.batch)) q, le-ltb (suc n) (length (payment s.batch)) h))
        last (no q) = inr (rw (le-ltb n (length (payment s.batch)) (omega arith)))

closing_phase : (s : Checker) (c : Call) → AllKept (all_given (expected_in c s) s (records_of c)) → phase_by s c ≡ Ended → Closing c
closing_phase s (open_file v) k e = never (ap ended e)
closing_phase s (open_batch v) k e = never (ap ended e)
closing_phase s (pay p) k e = ⊎_elim (λ q. never (ap ended (sym q ∙ e))) (λ q. never (ap ended (sym q ∙ e))) (paid_phase s p k)
closing_phase s (close_batch v) k e = never (ap ended e)
closing_phase s (close_file v) k e = closing v

pub closed_by : (w : Writer) (c : Call) (out : List ℕ) → answer_of w c out ≡ Ok tt → (state_behind w (lent c out)).checker.phase ≡ Ended → Closing c
closed_by w c out e end = closing_phase w.checker c (kept w c out e).records (sym (phase_after w c out e) ∙ end)

-- ---- behind that every call is refused: of any state that is held, and so of any that calls leave

pub ended_refuses : (w : Writer) → held w.checker ≡ true → w.checker.phase ≡ Ended
    → (c : Call) (out : List ℕ) → answer_of w c out ≡ Err (refusal 51 (line_of w.checker) 0)
unfolding answer_of call_rules first_broken
ended_refuses w h e (open_file v) out = rw (h, e)
ended_refuses w h e (open_batch v) out = rw (h, e)
ended_refuses w h e (pay p) out = rw (h, e)
ended_refuses w h e (close_batch v) out = rw (h, e)
ended_refuses w h e (close_file v) out = rw (h, e)

pub file_ended : (ls : List Lent) → WholeCalls ls → (left new_writer ls).checker.phase ≡ Ended
    → (c : Call) (out : List ℕ) → answer_of (left new_writer ls) c out ≡ Err (refusal 51 (line_of (left new_writer ls).checker) 0)
file_ended ls h e = ended_refuses (left new_writer ls) (never_guarded ls h) e
