-- Every line of an accepted file is read as the record that the grammar gives to it; so its places 1 to 8 and its line ends are guarded.
-- Assumes nothing.
use Rattle.std.specs.Prelude.{◌≡◌, refl, ◌≢◌, ◌⊎◌, ℕ, ◌*◌, ◌≤◌, ◌<◌, length, get_or, Err, Ok, Option}
use Rattle.std.proofs.Common.{sym, ap, ◌∙◌, subst, inl, inr, ⊎_elim, arith, length-append}
use mathlib.Core.List.{List, flatten}
use Rattle.answer.specs.declared.Refusal.{Refusal}
use Rattle.digits.specs.Digits.{place}
use Rattle.layout.specs.declared.Record.{Record}
use Rattle.layout.specs.declared.pairs.Batch.{Batch}
use Rattle.layout.specs.declared.Record.TheVariants.{FileHeader}
use Rattle.checker.specs.Line.{line_bytes, record_in}
use Rattle.checker.specs.Machine.{start, direction_of}
use Rattle.files.specs.File.{lines_of, check_file}
use Rattle.checker.specs.Calls.{Through, here, further}
use Rattle.checker.proofs.laws.Meaning.{kept_line}
use Rattle.files.proofs.laws.Runs.{lines_joined}
use Rattle.files.proofs.laws.Verdict.{accepted_file}
use Rattle.checker.specs.declared.totals.Totals.{Totals}
use Rattle.checker.specs.declared.Checker.{Checker}
use Rattle.promises.specs.Grammar.{Meets, records_in_file}
use Rattle.promises.specs.Guarded.{On, Guarded, EachRead, line_at, GuardedIn, changed}
use Rattle.promises.proofs.laws.ReadAs.{PassedAs, read_as, as_many}
use Rattle.promises.proofs.laws.Build.{built_as}
use Rattle.promises.proofs.laws.Accepted.{lines_back, accepted_exactly}
use Rattle.promises.proofs.laws.Listed.{as_listed}
use Rattle.promises.proofs.laws.Change.{line_there, change_refused}

-- ---- an accepted file is whole lines

whole_lines : {s t : Checker} {ls : List (List ℕ)} → Through s ls t → length (flatten ls) ≡ length ls * line_bytes
unfolding flatten
whole_lines here = refl
whole_lines (further {s} {l = l} {ls = ls} k on) =
    length-append l (flatten ls) ∙ omega (arith, (kept_line s l k).1.long, whole_lines on)

pub file_long : (file : List ℕ) (t : Totals) → check_file file ≡ Ok t → length file ≡ length (lines_of file) * line_bytes
file_long file t e = ap length (sym (lines_joined file)) ∙ whole_lines ((accepted_file file t).0 e).through

-- ---- each is read

-- as the records of the file's header, of its batches and of its trailer
pub every_line_read : {file : List ℕ} {t : Totals} (m : Meets file t) → EachRead file (records_in_file m.file)
every_line_read {file} {t} m =
    let rs = records_in_file m.file in
    let on = (subst (λ (ls : List (List ℕ)). PassedAs start ls rs t) (lines_back m) (built_as m.file)).through in
    let long = file_long file t ((accepted_exactly file t).1 m) in
    record {
      as_many = as_many on;
      each = λ n h. let few : n < length (lines_of file) = omega (arith, as_many on) in rw (line_there n file (omega arith)) at (read_as on n few);
    }

-- ---- places 1 to 8 and the line ends of every line

module _ (file : List ℕ) (t : Totals) (n p : ℕ) (e : check_file file ≡ Ok t) (h : n < length (lines_of file)) (at : On 1 8 p ⊎ On 241 242 p) where
  -- are guarded
  pub every_line_guarded : GuardedIn file n p
  every_line_guarded = go at
    where
      m : Meets file t
      m = (accepted_exactly file t).0 e

      listed : {b : Option Batch} {r : Record} {l : List ℕ} → On 1 8 p ⊎ On 241 242 p → Guarded (direction_of (record_in file)) b r l p
      listed {l = l} (inl h) = (as_listed _ _ l p).every_line h
      listed {l = l} (inr h) = (as_listed _ _ l p).ends h

      go : On 1 8 p ⊎ On 241 242 p → GuardedIn file n p
      go at =
          let all = every_line_read m in
          let last : p ≤ line_bytes = ⊎_elim (λ h. omega arith) (λ h. omega arith) at in
          record {
            which = get_or (records_in_file m.file) n FileHeader;
            read = all.each n (omega (arith, all.as_many));
            inside = omega (arith, file_long file t e);
            guarded = listed at;
          }

  -- so another byte there is refused
  pub every_line_change : (b : ℕ) → b ≢ place p (line_at n file) → (r : Refusal) × (check_file (changed file n p b) ≡ Err r)
  every_line_change b ne = change_refused file t n p b e every_line_guarded ne
