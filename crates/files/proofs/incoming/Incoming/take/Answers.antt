-- `files::incoming::Incoming::take` meets its contract. Assumes nothing.
use mathlib.Core.Path.{◌∙◌}
use native.Mathlib.Nat.{sub-zero}
use Rattle.files.specs.Parts.{bytes_in}
use Rattle.files.proofs.Arriving.{done, more}
use Rattle.files.proofs.incoming.Incoming.take.Goals as goal

pub returns-then-part-first : goal.returns-then-part-first
returns-then-part-first c =
    let b = rw sub-zero at c.begin-begun.ensures in
    let test = rw (c.is_open.ensures, b) at c.if-part-first.true in
    b ∙ done c.args.self.machine (bytes_in c.args.self.line) c.args.part.now _ c.share-first.ensures test

pub returns : goal.returns
returns c =
    let b = rw sub-zero at c.begin-begun.ensures in
    let test = rw (c.is_open.ensures, b) at c.if-part-first.false in
    c.arrive.ensures ∙ rw b (more c.args.self.machine (bytes_in c.args.self.line) c.args.part.now _ c.share-first.ensures test)
