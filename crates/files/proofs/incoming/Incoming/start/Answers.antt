-- `files::incoming::Incoming::start` meets its contract. Assumes nothing.
use Rattle.files.specs.Parts.{arrive}
use Rattle.files.proofs.laws.Runs.{no_lines}
use Rattle.files.proofs.incoming.Incoming.start.Goals as goal

pub returns : goal.returns
unfolding arrive
returns c = rw (c.at_line_end.ensures, c.start.ensures, no_lines)
