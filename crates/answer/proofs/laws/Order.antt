-- Laws of rules in an order: what each answer says, that there is one answer, and rules behind others. Assumes nothing.
use Rattle.std.specs.Prelude.{◌≡◌, Bool, true, false, cond, ℕ, Err, Ok}
use Rattle.std.proofs.Math.Path.{refl}
use Rattle.std.proofs.Common.{sym, ap, ◌∙◌, arith}
use mathlib.Core.List.{List, [], ◌∷◌, ◌++◌, append_assoc}
use Rattle.answer.specs.Rules.{Rule, rule, first_broken, AllKept, Broken, Allowed, accepted, refused, refused_as, and_then, on_line, rule_on_line, rules_on_line}
use Rattle.answer.specs.declared.LineNo.{LineNo}
use Rattle.answer.specs.declared.Refusal.{Refusal}
use Rattle.answer.specs.Rules.{Answer}

-- a test that failed did not hold, and an acceptance is no refusal
pub never : {A : Type 0} → false ≡ true → A
never e = absurd (let z : ◌≡◌ {A = ℕ} 0 1 = cc in omega arith)

pub never_refused : {A : Type 0} {r : Refusal} → ◌≡◌ {A = Answer} (Ok tt) (Err r) → A
never_refused e = absurd (let z : ◌≡◌ {A = ℕ} 0 1 = cc in omega arith)

-- ---- accepted exactly if every rule is kept

pub kept_accepted : (rs : List Rule) → AllKept rs → first_broken rs ≡ Ok tt
unfolding first_broken AllKept
kept_accepted [] k = refl
kept_accepted (r ∷ rs) k = rw k.0 (kept_accepted rs k.1)

pub accepted_kept : (rs : List Rule) → first_broken rs ≡ Ok tt → AllKept rs
unfolding first_broken AllKept
accepted_kept [] e = tt
accepted_kept (r ∷ rs) e = go r.kept refl (accepted_kept rs) e
  where
    go : (k : Bool) → r.kept ≡ k → (first_broken rs ≡ Ok tt → AllKept rs) → cond k (first_broken rs) (Err r.refused) ≡ Ok tt → (r.kept ≡ true) × AllKept rs
    go true q rest e = (q, rest e)
    go false q rest e = never_refused (sym e)

-- ---- refused exactly if that rule is broken and every earlier one is kept

module _ (r : Refusal) (later : List Rule) where
  stops_here : (earlier : List Rule) → AllKept earlier → first_broken (earlier ++ record { refused = r; kept = false } ∷ later) ≡ Err r
  unfolding first_broken AllKept
  stops_here [] k = refl
  stops_here (x ∷ earlier) k = rw k.0 (stops_here earlier k.1)

pub broken_refused : (rs : List Rule) (r : Refusal) → Broken rs r → first_broken rs ≡ Err r
broken_refused rs r b = ap first_broken b.are ∙ stops_here r b.later b.earlier b.all_kept

pub refused_broken : (rs : List Rule) (r : Refusal) → first_broken rs ≡ Err r → Broken rs r
unfolding first_broken AllKept
refused_broken [] r e = never_refused e
refused_broken (x ∷ rs) r e = go x.kept refl (refused_broken rs r) e
  where
    go : (k : Bool) → x.kept ≡ k → (first_broken rs ≡ Err r → Broken rs r) → cond k (first_broken rs) (Err x.refused) ≡ Err r → Broken (x ∷ rs) r
    go true q rest e =
        let b = rest e in
        record { earlier = x ∷ b.earlier; later = b.later; are = ap (λ (l : List Rule). x ∷ l) b.are; all_kept = (q, b.all_kept) }
    go false q rest e = let same : x.refused ≡ r = cc in record { earlier = []; later = rs; are = rw (← same, ← q); all_kept = tt }

-- ---- there is one answer

-- a contract that equates the result with a definition allows one result
pub determined : {A : Type 0} {a b c : A} → a ≡ c → b ≡ c → a ≡ b
determined p q = p ∙ sym q

pub first_allowed : (rs : List Rule) → Allowed rs (first_broken rs)
first_allowed rs = go (first_broken rs) refl
  where
    go : (a : Answer) → first_broken rs ≡ a → Allowed rs a
    go (Ok tt) e = accepted (accepted_kept rs e)
    go (Err r) e = refused (refused_broken rs r e)

pub allowed_first : {rs : List Rule} {a : Answer} → Allowed rs a → a ≡ first_broken rs
allowed_first {rs} (accepted k) = sym (kept_accepted rs k)
allowed_first {rs} (refused {r} b) = sym (broken_refused rs r b)

pub one_answer : {rs : List Rule} {a b : Answer} → Allowed rs a → Allowed rs b → a ≡ b
one_answer p q = allowed_first p ∙ sym (allowed_first q)

-- ---- rules behind others, and on a line

pub first_append : (xs ys : List Rule) → first_broken (xs ++ ys) ≡ and_then (first_broken xs) (first_broken ys)
unfolding first_broken
first_append [] ys = refl
first_append (x ∷ xs) ys = rw (first_append xs ys) (go x.kept)
  where
    go : (k : Bool) → cond k (and_then (first_broken xs) (first_broken ys)) (Err x.refused) ≡ and_then (cond k (first_broken xs) (Err x.refused)) (first_broken ys)
    go true = refl
    go false = refl

-- one rule's answer, then that of the rules behind it
pub one_then : (r : Rule) (later : List Rule) (a : Answer) → a ≡ first_broken later → and_then (first_broken (r ∷ [])) a ≡ first_broken (r ∷ later)
one_then r later a e = rw e (sym (first_append (r ∷ []) later))

-- answers joined: a rule's with that of the rules behind it, and those of lists
module _ {o a b : Answer} (o_is : o ≡ and_then a b) where
  pub ahead : (r : Rule) (later : List Rule) → a ≡ first_broken (r ∷ []) → b ≡ first_broken later → o ≡ first_broken (r ∷ later)
  ahead r later e f = o_is ∙ rw e (one_then r later b f)

  pub joined : (xs ys : List Rule) → a ≡ first_broken xs → b ≡ first_broken ys → o ≡ first_broken (xs ++ ys)
  joined xs ys e f = o_is ∙ rw (e, f) (sym (first_append xs ys))

  pub joined_three : (xs ys zs : List Rule) {c d : Answer} → b ≡ and_then c d → a ≡ first_broken xs → c ≡ first_broken ys → d ≡ first_broken zs → o ≡ first_broken (xs ++ ys ++ zs)
  joined_three xs ys zs b-is e f g = o_is ∙ rw (b-is, e, f, g) (sym (ap first_broken (append_assoc xs ys zs) ∙ first_append xs (ys ++ zs) ∙ ap (and_then (first_broken xs)) (first_append ys zs)))

pub first_on_line : (line : LineNo) (rs : List Rule) → first_broken (rules_on_line line rs) ≡ on_line line (first_broken rs)
unfolding first_broken
first_on_line line [] = refl
first_on_line line (r ∷ rs) = rw (first_on_line line rs) (go r.kept)
  where
    go : (k : Bool) → cond k (on_line line (first_broken rs)) (Err (rule_on_line line r).refused) ≡ on_line line (cond k (first_broken rs) (Err r.refused))
    go true = refl
    go false = refl

-- ---- the answer from the front, one rule at a time

pub past : (n p : ℕ) (k : Bool) (later : List Rule) (a : Answer) → k ≡ true → a ≡ first_broken later → a ≡ first_broken (rule n p k ∷ later)
unfolding first_broken
past n p k later a e h = rw e h

pub here : (n p : ℕ) (k : Bool) (later : List Rule) → k ≡ false → refused_as n p ≡ first_broken (rule n p k ∷ later)
unfolding first_broken
here n p k later e = rw e

pub done : (Ok tt) ≡ first_broken []
unfolding first_broken
done = refl

-- behind rules that are all kept, and behind rules of which one is broken
pub gone_on : (xs ys : List Rule) → first_broken xs ≡ Ok tt → first_broken ys ≡ first_broken (xs ++ ys)
gone_on xs ys e = sym (first_append xs ys ∙ rw e)

pub stopped : (xs ys : List Rule) (r : Refusal) → first_broken xs ≡ Err r → Err r ≡ first_broken (xs ++ ys)
stopped xs ys r e = sym (first_append xs ys ∙ rw e)

-- what is accepted by all rules is accepted by the first of them
pub front_accepted : (xs ys : List Rule) → first_broken (xs ++ ys) ≡ Ok tt → first_broken xs ≡ Ok tt
front_accepted xs ys e = go (first_broken xs) (sym (first_append xs ys) ∙ e)
  where
    go : (a : Answer) → and_then a (first_broken ys) ≡ Ok tt → a ≡ Ok tt
    go (Ok tt) q = refl
    go (Err r) q = q

-- rules that are kept, one behind the other
pub none_kept : AllKept []
unfolding AllKept
none_kept = tt

pub more_kept : (r : Rule) (rs : List Rule) → r.kept ≡ true → AllKept rs → AllKept (r ∷ rs)
unfolding AllKept
more_kept r rs e k = (e, k)

-- the rules of two lists that are all kept
pub kept_front : (xs ys : List Rule) → AllKept (xs ++ ys) → AllKept xs
unfolding AllKept
kept_front [] ys k = tt
kept_front (x ∷ xs) ys k = (k.0, kept_front xs ys k.1)

pub kept_behind : (xs ys : List Rule) → AllKept (xs ++ ys) → AllKept ys
unfolding AllKept
kept_behind [] ys k = k
kept_behind (x ∷ xs) ys k = kept_behind xs ys k.1

pub kept_join : (xs ys : List Rule) → AllKept xs → AllKept ys → AllKept (xs ++ ys)
unfolding AllKept
kept_join [] ys k l = l
kept_join (x ∷ xs) ys k l = (k.0, kept_join xs ys k.1 l)
