-- `files::unfinished::Unfinished::share` meets its contract. Assumes nothing.
use Rattle.files.proofs.Waiting.{no_share, rest_share}
use Rattle.files.proofs.unfinished.Unfinished.share.Goals as goal

pub returns-in-0 : goal.returns-in-0
returns-in-0 c = rw (← c.len.ensures.value) (no_share _ _ c.in-0.is)

pub returns-in_default : goal.returns-in_default
returns-in_default c = rw (c.min.ensures, ← c.len.ensures.value) (rest_share _ _ c.len.ensures.upper_bound)
