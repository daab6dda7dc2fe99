-- `files::incoming::at_line_end` meets its contract. Assumes nothing.
use Rattle.files.proofs.incoming.at_line_end.Goals as goal

pub returns : goal.returns
returns c = rw c.none.ensures
