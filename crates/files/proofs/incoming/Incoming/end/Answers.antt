-- `files::incoming::Incoming::end` meets its contract. Assumes nothing.
use Rattle.std.proofs.Common.{◌≡◌, refl, sym, ◌∙◌, Ok, Err}
use Rattle.answer.specs.declared.Refusal.{Refusal}
use Rattle.files.specs.File.{finish}
use Rattle.files.specs.Parts.{bytes_in, answer_in, concluded, with_end}
use Rattle.files.specs.declared.incoming.Finished.{Finished}
use Rattle.files.specs.declared.incoming.Incoming.{Incoming}
use Rattle.files.specs.declared.incoming.Status.{Status}
use Rattle.files.specs.declared.incoming.Status.TheVariants.{Open, Refused, Ended}
use Rattle.files.proofs.incoming.Incoming.end.Goals as goal

-- an open state concludes, and any other says again what it answers to a part
module _ (s : Incoming) where
  going : (x : Status) → answer_in x ≡ Ok tt → concluded s.machine (finish s.machine (bytes_in s.line)) ≡ with_end x s
  going Open e = refl
  going (Refused r) e = cc
  going Ended e = cc

  shut : (x : Status) {r : Refusal} → answer_in x ≡ Err r → ◌≡◌ {A = Finished} (record { state = s; outcome = Err r }) (with_end x s)
  shut Open e = cc
  shut (Refused q) {r} e = let same : q ≡ r = cc in rw same
  shut Ended e = cc

pub returns-in-Ok : goal.returns-in-Ok
returns-in-Ok c = c.conclude.ensures ∙ going c.args.self _ (sym c.answer.ensures ∙ c.in-Ok.is)

pub returns-in-Err : goal.returns-in-Err
returns-in-Err c = shut c.args.self _ (sym c.answer.ensures ∙ c.in-Err.is)
