-- `walk::masks::fits` meets its contract. Assumes nothing.
use mathlib.Core.Path.{◌≡◌, ◌∙◌}
use mathlib.Core.Bool.{true}
use borrow.Author.Rules.{rules}
use Rattle.std.specs.List.{fold, zip}
use Rattle.std.proofs.lemmas.Iterator.{YieldsList-from_slice, YieldsList-from_zip}
use Rattle.std.proofs.lemmas.Iterator.Consumers.{fold_from_yields_List}
use Rattle.walk.proofs.laws.Masks.{fits_so_far, fold_within}
use Rattle.walk.proofs.masks.fits.Goals as goal

pub returns : goal.returns
returns c =
    let low = c.args.low.now in
    let high = c.args.high.now in
    let rec = c.args.rec.now in
    let e : c.fold.result ≡ fold fits_so_far true (zip rec (zip low high)) =
    fold_from_yields_List _ _ _ _ c.fold.ensures.ran (YieldsList-from_zip (YieldsList-from_slice rec cc) (YieldsList-from_zip (YieldsList-from_slice low cc) (YieldsList-from_slice high cc))) (λ a x b q k. search rules) in
    e ∙ fold_within true low high rec (search rules) (search rules)
