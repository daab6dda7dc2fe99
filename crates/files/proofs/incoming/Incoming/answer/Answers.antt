-- `files::incoming::Incoming::answer` meets its contract. Assumes nothing.
use Rattle.files.proofs.incoming.Incoming.answer.Goals as goal

pub returns-in-Open : goal.returns-in-Open
returns-in-Open c = rw c.in-Open.is

pub returns-in-Refused : goal.returns-in-Refused
returns-in-Refused c = rw c.in-Refused.is

pub returns-in-Ended : goal.returns-in-Ended
returns-in-Ended c = rw (c.out_of_turn.ensures, c.in-Ended.is)
