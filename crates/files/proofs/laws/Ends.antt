-- Many lines lead to states that calls produce, and the end of such a state is declared by its phase. Assumes nothing.
use Rattle.std.specs.Prelude.{◌≡◌, Bool, true, false, cond, List, [], ◌∷◌, ℕ, Err, Ok}
use Rattle.std.proofs.Common.{sym, ap, ◌∙◌}
use Rattle.answer.specs.Rules.{refusal}
use Rattle.answer.specs.declared.Refusal.{Refusal}
use Rattle.answer.specs.Rules.{Answer}
use Rattle.checker.specs.Order.{ended}
use Rattle.checker.specs.Machine.{line_of, step_of}
use Rattle.files.specs.File.{unless, steps, end_of}
use Rattle.checker.specs.Calls.{Reached, after_line}
use Rattle.checker.specs.declared.Checker.{Checker}
use Rattle.files.proofs.laws.Apart.{accepted_refused}
use Rattle.checker.proofs.laws.Reached.{reached}

pub steps_reached : {s : Checker} (ls : List (List ℕ)) → Reached s → Reached (steps s ls).state
unfolding steps
steps_reached {s = s} [] c = c
steps_reached {s = s} (l ∷ ls) c = go (step_of s l).answer (steps_reached {s = (step_of s l).state} ls (after_line l c))
  where
    go : (a : Answer) → Reached (steps (step_of s l).state ls).state → Reached (unless a (steps (step_of s l).state ls) (step_of s l)).state
    go (Ok tt) on = on
    go (Err r) on = after_line l c

-- no end of one is answered by 51
module _ {s : Checker} (c : Reached s) where
  pub end_never_guarded : end_of s ≡ cond (ended s.phase) (Ok s.closed) (Err (refusal 2 (line_of s) 0))
  unfolding end_of
  end_never_guarded = rw (reached c)

  -- a refusal's number is 2
  pub end_number : (r : Refusal) → end_of s ≡ Err r → r.number ≡ 2
  end_number r e = go (ended s.phase) (sym end_never_guarded ∙ e)
    where
      go : (b : Bool) → cond b (Ok s.closed) (Err (refusal 2 (line_of s) 0)) ≡ Err r → r.number ≡ 2
      go true q = accepted_refused q
      go false q = let same : refusal 2 (line_of s) 0 ≡ r = cc in sym (ap (λ (x : Refusal). x.number) same)
