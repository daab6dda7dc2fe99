-- `digits::all_characters` meets its contract. Assumes nothing.
use Rattle.std.proofs.Common.{◌≡◌, true, ◌&&◌, ◌∙◌, rules}
use Rattle.std.specs.List.{fold}
use Rattle.std.proofs.lemmas.Iterator.{YieldsList-from_slice}
use Rattle.std.proofs.lemmas.Iterator.Consumers.{fold_from_yields_List}
use Rattle.digits.specs.Digits.{is_character}
use Rattle.digits.proofs.laws.Strings.{fold_every}
use Rattle.digits.proofs.all_characters.Goals as goal

pub returns : goal.returns
returns c =
    let s = c.args.s.now in
    let e : c.fold.result ≡ fold (λ all b. all && is_character b) true s = fold_from_yields_List _ _ _ _ c.fold.ensures.ran (YieldsList-from_slice s cc) (λ a x b q k. search rules) in
    e ∙ fold_every is_character s
