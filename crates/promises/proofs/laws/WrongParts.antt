-- The checker in parts meets the demand, and wrong ones fall to it, whatever they are made of. Assumes nothing.
use Rattle.std.specs.Prelude.{◌≡◌, refl, Bool, true, false, cond, ℕ, replicate, Err, Ok}
use Rattle.std.proofs.Common.{sym, ap, ◌∙◌}
use mathlib.Core.List.{List, [], ◌∷◌, ◌++◌, flatten}
use Rattle.answer.specs.Rules.{refusal, first_broken}
use Rattle.answer.proofs.laws.Order.{never_refused}
use Rattle.layout.specs.Record.{clean}
use Rattle.checker.specs.Line.{line_bytes, rules_of_line, line_rules}
use Rattle.checker.specs.Machine.{start, sound, step_of}
use Rattle.files.specs.File.{cut, lines_of, steps, check_file}
use Rattle.files.specs.Parts.{arrived, answer_in, part_call, status_behind, end_call, arrive}
use Rattle.files.specs.Calls.{PartsCall, part, end, fed, bytes_of, end_declared}
use Rattle.files.specs.File.{Outcome}
use Rattle.files.specs.declared.incoming.Status.TheVariants as status
use Rattle.files.specs.declared.incoming.Incoming.{Incoming}
use Rattle.files.specs.declared.incoming.Taken.{Taken}
use Rattle.files.proofs.laws.Arrivals.{part_joined, machine_left, end_machine, end_is, end_status, end_stays, ended_again, refused_again, fed_is}
use Rattle.files.proofs.laws.Told.{open_exactly}
use Rattle.promises.specs.Demands.{AnyIncoming, state_fed, said_again, PartsDemand}
use Rattle.promises.specs.WrongOnes.{PutsOff, LooksInto}

-- ---- the desk's

-- the calls as the library's contracts give them
abbrev pub ours : AnyIncoming
ours = record {
  State = Incoming;
  new = arrived [];
  part = λ s bytes. ((part_call s bytes).state, (part_call s bytes).answer);
  end = λ s. ((end_call s).state, (end_call s).outcome);
  machine = λ s. s.machine;
}

same_state : (s : Incoming) (cs : List PartsCall) → state_fed ours s cs ≡ fed s cs
unfolding state_fed fed
same_state s [] = refl
same_state s (part bytes ∷ cs) = same_state (part_call s bytes).state cs
same_state s (end ∷ cs) = same_state (end_call s).state cs

-- behind calls, by whether the end is among them
behind : (cs : List PartsCall) → state_fed ours (arrived []) cs ≡ cond (end_declared cs) (end_call (arrived (bytes_of cs))).state (arrived (bytes_of cs))
behind cs = same_state (arrived []) cs ∙ fed_is cs

again : (s : Incoming) (o : Outcome) → s.status ≡ status_behind o → (end_call s).outcome ≡ said_again o
again s (Ok t) e = (ended_again s e []).1
again s (Err r) e = (refused_again s r e []).1

pub ours_right : PartsDemand ours
ours_right = record {
  told = λ cs bytes. ap (λ (s : Incoming). (part_call s bytes).answer) (behind cs) ∙ tell (end_declared cs) (bytes_of cs) bytes;
  ended = λ cs. ap (λ (s : Incoming). (end_call s).outcome) (behind cs) ∙ finished (end_declared cs) (bytes_of cs);
  counted = λ cs. ap (λ (s : Incoming). s.machine) (behind cs) ∙ count (end_declared cs) (bytes_of cs);
}
  where
    tell : (b : Bool) (all bytes : List ℕ) → (part_call (cond b (end_call (arrived all)).state (arrived all)) bytes).answer
        ≡ answer_in (cond b (status_behind (check_file all)) (arrived (all ++ bytes)).status)
    tell true all bytes = ap (λ (s : Incoming). answer_in s.status) (end_stays (arrived all) (part bytes)) ∙ ap answer_in (end_status all)
    tell false all bytes = ap (λ (x : Taken). x.answer) (part_joined all bytes)

    finished : (b : Bool) (all : List ℕ) → (end_call (cond b (end_call (arrived all)).state (arrived all))).outcome ≡ cond b (said_again (check_file all)) (check_file all)
    finished true all = again (end_call (arrived all)).state (check_file all) (end_status all)
    finished false all = end_is all

    count : (b : Bool) (all : List ℕ) → (cond b (end_call (arrived all)).state (arrived all)).machine ≡ (steps start (lines_of all)).state
    count true all = end_machine (arrived all) ∙ machine_left all
    count false all = machine_left all

-- ---- wrong ones

-- a line of bytes that are not printable: 4 at its first, once it is whole
abbrev bad_line : List ℕ
bad_line = replicate line_bytes 0

bad-line : (arrived bad_line).status ≡ status.Refused (refusal 4 (record { 0 = 1 }) 1)
unfolding cut arrive step_of sound rules_of_line line_rules first_broken clean
bad-line = refl

-- the answer to the first part
first_told : (w : AnyIncoming) → PartsDemand w → (bytes : List ℕ) → (w.part w.new bytes).1 ≡ answer_in (arrived bytes).status
unfolding state_fed bytes_of end_declared
first_told w right bytes = right.told [] bytes

-- one that puts everything off to the end: the bad line is refused once it is there
pub puts_off : (w : AnyIncoming) → PutsOff w → PartsDemand w → ⊥
unfolding state_fed end_declared
puts_off w late right = never_refused (sym (late [] refl bad_line) ∙ (first_told w right bad_line ∙ ap answer_in bad-line))

-- one that looks into a line that is not finished: it waits
pub looks_into : (w : AnyIncoming) → LooksInto w → PartsDemand w → ⊥
looks_into w bad right =
    let waits = (open_exactly (flatten bad.earlier ++ bad.line)).1 (record {
      to = bad.to;
      earlier = bad.earlier;
      line = bad.line;
      are = refl;
      through = bad.through;
      less = bad.less;
      going = λ h. bad.going;
    }) in
    let told = rw (bad.before_end, bad.are, waits) at (right.told bad.calls bad.bytes) in
    never_refused (sym told ∙ bad.refused)
