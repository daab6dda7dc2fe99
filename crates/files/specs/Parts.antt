-- A file that arrives in parts of any length: the state behind the bytes so far, a call with a part, and the end. Assumes nothing.
use Rattle.std.specs.Prelude.{Bool, not, cond, ◌&&◌, List, [], ◌∷◌, ◌++◌, ℕ, ◌-◌, ltb, length, take, replicate, Err, Ok}
use Rattle.answer.specs.Rules.{Answer}
use Rattle.checker.specs.Order.{ended}
use Rattle.checker.specs.Line.{line_bytes}
use Rattle.checker.specs.Machine.{start, step_of}
use Rattle.checker.specs.declared.Checker.{Checker}
use Rattle.files.specs.File.{lines_of, out_of_turn, finish}
use Rattle.files.specs.File.{Outcome}
use Rattle.files.specs.declared.unfinished.Unfinished.{Unfinished}
use Rattle.files.specs.declared.incoming.Status.{Status}
use Rattle.files.specs.declared.incoming.Status.TheVariants.{Open, Refused, Ended}
use Rattle.files.specs.declared.incoming.Incoming.{Incoming}
use Rattle.files.specs.declared.incoming.Taken.{Taken}
use Rattle.files.specs.declared.incoming.Finished.{Finished}

-- ---- the state

-- the bytes of a line that waits for the rest of it, with zeros behind them
abbrev pub waiting : List ℕ → Unfinished
waiting line = record { bytes = line ++ replicate (line_bytes - length line) 0; count = length line }

abbrev pub bytes_in : Unfinished → List ℕ
bytes_in u = take u.count u.bytes

-- the machine behind the lines that were accepted, the line that waits, and whether the file is open, refused or ended
abbrev pub state : Checker → List ℕ → Status → Incoming
state m line x = record { machine = m; line = waiting line; status = x }

-- ---- behind the bytes so far

-- a line waits for its 242nd byte; behind the file trailer nothing waits
abbrev pub waits : Checker → List ℕ → Bool
waits m line = not (ended m.phase) && ltb (length line) line_bytes

-- a refusal is for good; the lines before it stay counted
abbrev pub unless_refused : Answer → Checker → Incoming → Incoming
unless_refused (Ok tt) m on = on
unless_refused (Err r) m on = state m [] (Refused r)

-- line by line: one that waits is kept as it is (it is the last: only that may be shorter), and every other is judged
unfoldable pub arrive : Checker → List (List ℕ) → Incoming
arrive m [] = state m [] Open
arrive m (l ∷ ls) =
    cond (waits m l) (state m l Open) (unless_refused (step_of m l).answer (step_of m l).state (arrive (step_of m l).state ls))

-- all bytes so far, from the start
abbrev pub arrived : List ℕ → Incoming
arrived bytes = arrive start (lines_of bytes)

-- ---- a call with a part

-- what it answers, by the state behind it: go on; the refusal, again and again; 51 behind an accepted end
abbrev pub answer_in : Status → Answer
answer_in Open = Ok tt
answer_in (Refused r) = Err r
answer_in Ended = Err out_of_turn

abbrev pub taken : Incoming → Taken
taken s = record { state = s; answer = answer_in s.status }

-- the part's bytes come behind those that wait; what is refused or ended stays so
abbrev pub with_part : Status → Incoming → List ℕ → Incoming
with_part Open s part = arrive s.machine (lines_of (bytes_in s.line ++ part))
with_part (Refused r) s part = s
with_part Ended s part = s

-- state and answer
abbrev pub part_call : Incoming → List ℕ → Taken
part_call s part = taken (with_part s.status s part)

-- what an answer says of the file, by itself: an acceptance leaves it open. What an accepted end has left, only the state tells
abbrev pub status_by : Answer → Status
status_by (Ok tt) = Open
status_by (Err r) = Refused r

-- ---- the call for the end

-- accepted is ended; a refused end is a refusal like any other
abbrev pub status_behind : Outcome → Status
status_behind (Ok t) = Ended
status_behind (Err r) = Refused r

-- nothing waits any more
abbrev pub concluded : Checker → Outcome → Finished
concluded m o = record { state = state m [] (status_behind o); outcome = o }

-- the end of the input with the bytes that wait; what is refused or ended stays so
abbrev pub with_end : Status → Incoming → Finished
with_end Open s = concluded s.machine (finish s.machine (bytes_in s.line))
with_end (Refused r) s = record { state = s; outcome = Err r }
with_end Ended s = record { state = s; outcome = Err out_of_turn }

-- state and outcome
abbrev pub end_call : Incoming → Finished
end_call s = with_end s.status s
