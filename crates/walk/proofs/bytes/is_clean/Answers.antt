-- `walk::bytes::is_clean` meets its contract. Assumes nothing.
use mathlib.Core.Path.{◌≡◌, ◌∙◌}
use mathlib.Core.Bool.{true, ◌&&◌}
use borrow.Author.Rules.{rules}
use Rattle.std.specs.List.{fold}
use Rattle.std.proofs.lemmas.Iterator.{YieldsList-from_slice}
use Rattle.std.proofs.lemmas.Iterator.Consumers.{fold_from_yields_List}
use Rattle.digits.proofs.laws.Strings.{fold_every}
use Rattle.layout.specs.Record.{printable}
use Rattle.walk.proofs.Found.{every_printable}
use Rattle.walk.proofs.bytes.is_clean.Goals as goal

pub returns : goal.returns
returns c =
    let s = c.args.rec.now in
    let e : c.fold.result ≡ fold (λ clean b. clean && printable b) true s = fold_from_yields_List _ _ _ _ c.fold.ensures.ran (YieldsList-from_slice s cc) (λ a x b q k. search rules) in
    e ∙ fold_every printable s ∙ every_printable s
