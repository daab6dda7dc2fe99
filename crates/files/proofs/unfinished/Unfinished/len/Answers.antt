-- `files::unfinished::Unfinished::len` meets its contract: there is room for a line. Assumes nothing.
use Rattle.std.proofs.Common.{length-take}
use Rattle.files.proofs.unfinished.Unfinished.len.Goals as goal

pub returns-clause-value : goal.returns-clause-value
returns-clause-value c = rw (length-take, c.well_formed.0.1.1.0.1.0.1) c.min.ensures
