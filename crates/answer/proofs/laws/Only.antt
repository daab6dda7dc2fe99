-- Rules whose refusals are of some kind: then so is the answer of the first that is broken. Assumes nothing.
use Rattle.std.specs.Prelude.{◌≡◌, Bool, List, [], ◌∷◌, ◌++◌, Err, Ok}
use Rattle.std.proofs.Math.Path.{refl, subst}
use Rattle.std.proofs.Common.{sym, ◌∙◌}
use Rattle.std.proofs.Math.Bool.{true, false, cond}
use Rattle.answer.specs.Rules.{Rule, refusal, first_broken, Broken, and_then, on_line, rules_on_line}
use Rattle.answer.specs.declared.LineNo.{LineNo}
use Rattle.answer.specs.declared.Refusal.{Refusal}
use Rattle.answer.specs.Rules.{Answer}
use Rattle.answer.proofs.laws.Order.{never, never_refused, broken_refused, first_append, first_on_line}

-- whatever is refused by these rules is so
pub record Only (P : Refusal → Type 0) (rs : List Rule) : Type 0 where
  pub broken : (r : Refusal) → first_broken rs ≡ Err r → P r

module _ {P : Refusal → Type 0} where
  -- no rules
  pub none : Only P []
  unfolding first_broken
  none = record { broken = λ r e. never_refused e }

  -- one rule, so where it is broken, and others, so where it is kept
  pub first : (x : Rule) {rs : List Rule} → (x.kept ≡ false → P x.refused) → (x.kept ≡ true → Only P rs) → Only P (x ∷ rs)
  unfolding first_broken
  first x {rs} here later = record { broken = λ r e. go r x.kept refl e }
    where
      go : (r : Refusal) (k : Bool) → x.kept ≡ k → cond k (first_broken rs) (Err x.refused) ≡ Err r → P r
      go r true q e = (later q).broken r e
      go r false q e = subst P (cc) (here q)

  -- the same whether it is broken or kept, and one that is kept
  pub more : {x : Rule} {rs : List Rule} → P x.refused → Only P rs → Only P (x ∷ rs)
  more {x} p others = first x (λ q. p) (λ q. others)

  pub past : {x : Rule} {rs : List Rule} → x.kept ≡ true → Only P rs → Only P (x ∷ rs)
  past {x} e others = first x (λ q. never (sym q ∙ e)) (λ q. others)

  -- rules behind others
  pub join : {xs ys : List Rule} → Only P xs → Only P ys → Only P (xs ++ ys)
  join {xs} {ys} a b = record { broken = λ r e. go r (first_broken xs) refl (sym (first_append xs ys) ∙ e) }
    where
      go : (r : Refusal) (x : Answer) → first_broken xs ≡ x → and_then x (first_broken ys) ≡ Err r → P r
      go r (Ok tt) q e = b.broken r e
      go r (Err y) q e = a.broken r (q ∙ e)

  pub broken_so : {rs : List Rule} {r : Refusal} → Only P rs → Broken rs r → P r
  broken_so {rs} {r} a b = a.broken r (broken_refused rs r b)

-- put on a line
pub on-line : {P Q : Refusal → Type 0} (l : LineNo) (rs : List Rule) → ((x : Refusal) → P x → Q (refusal x.number l x.place)) → Only P rs
    → Only Q (rules_on_line l rs)
on-line {P} {Q} l rs so a = record { broken = λ r e. go r (first_broken rs) refl (sym (first_on_line l rs) ∙ e) }
  where
    go : (r : Refusal) (x : Answer) → first_broken rs ≡ x → on_line l x ≡ Err r → Q r
    go r (Ok tt) q e = never_refused e
    go r (Err x) q e = let same : refusal x.number l x.place ≡ r = cc in subst Q same (so x (a.broken x q))
