-- The wrong checkers that the paper names fall to demands 2 and 3, whatever they are made of. Assumes nothing.
use Rattle.std.specs.Prelude.{◌≡◌, refl, ◌≢◌, List, [], ℕ, suc, ◌≤◌, Err, Ok}
use Rattle.std.proofs.Common.{sym, ◌∙◌, arith, lit≤}
use Rattle.answer.specs.declared.Refusal.{Refusal}
use Rattle.digits.specs.Digits.{digit_byte, place}
use Rattle.layout.specs.Kinds.{run}
use Rattle.layout.specs.declared.Record.TheVariants.{FileHeader}
use Rattle.checker.specs.Line.{line_bytes}
use Rattle.checker.specs.Calls.{left}
use Rattle.checker.specs.Machine.{sound}
use Rattle.files.specs.File.{cut, steps, end_of, finish, check_file}
use Rattle.checker.specs.Totals.{withdrawn_payments}
use Rattle.checker.specs.declared.totals.Totals.{Totals}
use Rattle.files.specs.File.{Outcome}
use Rattle.files.proofs.laws.Apart.{accepted_refused}
use Rattle.promises.specs.Grammar.{Meets}
use Rattle.promises.specs.Guarded.{first_eight, line_at, GuardedIn, changed}
use Rattle.promises.specs.Demands.{Demand2, Demand3}
use Rattle.promises.specs.WrongOnes.{FirstBatchOnly}
use Rattle.promises.proofs.laws.Accepted.{accepted_exactly}
use Rattle.promises.proofs.laws.AcceptedFiles.{credit_file, credit-file, return_file, return-file, withdrawn_file, withdrawn-file}
use Rattle.promises.proofs.laws.Change.{change_refused}
use Rattle.promises.proofs.laws.SecondBatch.{behind_first, guarded_there, unseen}

-- it meets demand 2: then its acceptances are the checker's
same_accepted : {check : List ℕ → Outcome} → Demand2 check → (file : List ℕ) (t : Totals) → check file ≡ Ok t → check_file file ≡ Ok t
same_accepted h file t e = (accepted_exactly file t).1 ((h file t).0 e)

-- one that refuses all files: some file meets the grammar
pub refuses_all : (check : List ℕ → Outcome) → ((file : List ℕ) → (r : Refusal) × (check file ≡ Err r)) → Demand2 check → ⊥
refuses_all check all h = accepted_refused (sym ((h credit_file _).1 ((accepted_exactly credit_file _).0 credit-file)) ∙ (all credit_file).1)

-- one that reports totals that are not the file's: payments or cents made up
pub invented : (check : List ℕ → Outcome) → Demand2 check → (file : List ℕ) (t u : Totals) → Meets file t → check file ≡ Ok u → u ≢ t → ⊥
invented check h file t u m e ne = ne (let z = sym e ∙ (h file t).1 m in cc)

-- one that reports no payment as withdrawn, whatever the file
pub never_withdrawn : (check : List ℕ → Outcome) → ((file : List ℕ) (t : Totals) → check file ≡ Ok t → withdrawn_payments t ≡ 0) → Demand2 check → ⊥
never_withdrawn check none h = let z = none withdrawn_file _ ((h withdrawn_file _).1 ((accepted_exactly withdrawn_file _).0 withdrawn-file)) in absurd (omega arith)

-- one that gives a file the same answer with another byte at a guarded place: that of another batch than the first, for one that looks at the first only
pub overlooks_3 : (check : List ℕ → Outcome) → Demand3 check → (file : List ℕ) (t : Totals) (n p b : ℕ) → check file ≡ Ok t → GuardedIn file n p
    → b ≢ place p (line_at n file) → check (changed file n p b) ≡ check file → ⊥
overlooks_3 check h file t n p b e g ne same = accepted_refused (sym e ∙ (sym same ∙ (h file t n p b e g ne).1))

pub overlooks_2 : (check : List ℕ → Outcome) → Demand2 check → (file : List ℕ) (t : Totals) (n p b : ℕ) → check file ≡ Ok t → GuardedIn file n p
    → b ≢ place p (line_at n file) → check (changed file n p b) ≡ check file → ⊥
overlooks_2 check h file t n p b e g ne same =
    accepted_refused (sym (same_accepted h (changed file n p b) t (same ∙ e)) ∙ (change_refused file t n p b (same_accepted h file t e) g ne).1)

-- one that looks at the first batch only, and accepts a file of two or more: a byte of the second is changed
pub first_batch_only_3 : (check : List ℕ → Outcome) → FirstBatchOnly check → Demand3 check → (file : List ℕ) (t u : Totals) → Meets file t → 2 ≤ t.batches
    → check file ≡ Ok u → ⊥
first_batch_only_3 check only h file t u m two e =
    let n = behind_first file t m two in
    let b = suc (place 1 (line_at n file)) in
    overlooks_3 check h file u n 1 b e (guarded_there file t m two) (λ q. omega arith) (unseen file t m two check only b)

-- by demand 2 it accepts the return of two batches
pub first_batch_only_2 : (check : List ℕ → Outcome) → FirstBatchOnly check → Demand2 check → ⊥
first_batch_only_2 check only h =
    let m = (accepted_exactly return_file _).0 return-file in
    let n = behind_first return_file _ m (lit≤ tt) in
    let b = suc (place 1 (line_at n return_file)) in
    overlooks_2 check h return_file _ n 1 b ((h return_file _).1 m) (guarded_there return_file _ m (lit≤ tt)) (λ q. omega arith)
    (unseen return_file _ m (lit≤ tt) check only b)

-- the empty file is refused, with 2
empty_refused : {t : Totals} → check_file [] ≡ Ok t → ⊥
unfolding finish cut steps end_of sound
empty_refused e = accepted_refused (sym e)

-- one acceptance for every file: the empty one is refused, and every file has another
pub one_acceptance_2 : (check : List ℕ → Outcome) (t : Totals) → ((file : List ℕ) → check file ≡ Ok t) → Demand2 check → ⊥
one_acceptance_2 check t all h = empty_refused (same_accepted h [] t (all []))

-- a line of zeros is read as a file header, and its first place is guarded
abbrev zeros : List ℕ
zeros = run (digit_byte 0) line_bytes

zeros_guarded : GuardedIn zeros 0 1
unfolding left
zeros_guarded = record { which = FileHeader; read = refl; inside = lit≤ tt; guarded = first_eight (lit≤ tt, lit≤ tt) }

pub one_acceptance_3 : (check : List ℕ → Outcome) (t : Totals) → ((file : List ℕ) → check file ≡ Ok t) → Demand3 check → ⊥
one_acceptance_3 check t all h =
    let b = suc (place 1 (line_at 0 zeros)) in
    overlooks_3 check h zeros t 0 1 b (all zeros) zeros_guarded (λ e. omega arith) (all _ ∙ sym (all zeros))
