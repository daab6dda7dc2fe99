-- `walk::looks::one_of` meets its contract. Assumes nothing.
use mathlib.Core.Path.{◌≡◌, ◌∙◌}
use borrow.Author.Rules.{rules}
use borrow.Author.Tests.{eq-eqb}
use lib.ListN.{length, get_or}
use Rattle.walk.proofs.Found.{among_any}
use Rattle.walk.proofs.looks.one_of.Goals as goal

pub returns-in-len1 : goal.returns-in-len1
returns-in-len1 c =
    let one : length c.args.part.now ≡ 1 = search rules in
    c.is_among.ensures ∙ among_any (get_or c.args.part.now 0 0) c.args.domain.now ∙ rw (eq-eqb (length c.args.part.now) 1 one)
