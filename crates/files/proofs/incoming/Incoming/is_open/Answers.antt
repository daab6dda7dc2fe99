-- `files::incoming::Incoming::is_open` meets its contract. Assumes nothing.
use Rattle.files.proofs.incoming.Incoming.is_open.Goals as goal

pub returns-in-Open : goal.returns-in-Open
returns-in-Open c = rw c.in-Open.is
