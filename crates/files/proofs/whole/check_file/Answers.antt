-- `files::whole::check_file` meets its contract. Assumes nothing.
use Rattle.files.proofs.whole.check_file.Goals as goal

pub returns : goal.returns
returns c = rw (← c.start.ensures) c.finish.ensures
