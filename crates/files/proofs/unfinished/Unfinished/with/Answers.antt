-- `files::unfinished::Unfinished::with` meets its contract. Assumes nothing.
use native.Mathlib.Omega.{arith}
use Rattle.files.proofs.Waiting.{copied}
use Rattle.files.proofs.unfinished.Unfinished.with.Goals as goal

pub slice_bounds-bytes-end : goal.slice_bounds-bytes-end
slice_bounds-bytes-end c =
    omega (arith, (c.well_formed.0.1.1.0.1.0.1), c.requires, c.len-from.ensures.value)

pub returns : goal.returns
returns c =
    let n = c.len-from in
    copied c.args.self c.args.more.now _ _ n.ensures.value (omega (arith, (c.well_formed.0.1.1.0.1.0.1), c.requires, n.ensures.value)) c.copy_from_slice.ensures.after
