-- `layout::fixed::Content::write` meets its contract: what is written, and what is left to write, give all of the content. Assumes nothing.
use mathlib.Core.Path.{sym, ◌∙◌}
use borrow.Author.Rules.{rules}
use lib.ListN.{length}
use Rattle.layout.proofs.laws.Bytes.{over_all, over_end_out}
use Rattle.layout.proofs.laws.Contents.{length_tab}
use Rattle.layout.proofs.Written.{written_more}
use Rattle.layout.proofs.fixed.Content.write.Goals as goal

pub loop-i-init : goal.loop-i-init
loop-i-init c = over_all _ _ (length_tab _ _)

pub loop-i-preserved : goal.loop-i-preserved
loop-i-preserved c =
    let l = c.loop-i in
    let a = c.args in
    written_more a.self (length a.part.now) l.part l.i c.byte_at.ensures (search rules) (search rules) ∙ l.invariant

pub returns : goal.returns
returns c =
    let l = c.loop-i in
    sym (over_end_out _ l.part l.i (search rules)) ∙ l.invariant
