-- Lines on the way to the end of an accepted file: each is taken, and the direction is that of the file header. Assumes nothing.
use Rattle.std.specs.Prelude.{◌≡◌, refl, true, ◌⊎◌, ℕ, get_or, Some, Option}
use Rattle.std.proofs.Common.{sym, ap, ◌∙◌, inl, inr, arith}
use Rattle.std.proofs.Math.Path.{subst}
use mathlib.Core.List.{List, [], ◌∷◌, ◌++◌}
use Rattle.digits.specs.Digits.{place}
use Rattle.layout.specs.Records.{type_of}
use Rattle.layout.specs.Table.{type_place}
use Rattle.layout.specs.declared.Direction.{Direction}
use Rattle.layout.specs.declared.Record.{Record}
use Rattle.layout.specs.declared.Record.TheVariants.{FileHeader}
use Rattle.layout.specs.declared.pairs.Batch.{Batch}
use Rattle.checker.specs.Order.{ended}
use Rattle.checker.specs.Line.{record_in, line_is}
use Rattle.checker.specs.Machine.{start, direction_of, next, step_of}
use Rattle.checker.specs.Calls.{Reached, after_line, Through, here, further, left}
use Rattle.layout.specs.declared.shapes.Phase.TheVariants.{Start}
use Rattle.checker.specs.declared.Checker.{Checker}
use Rattle.checker.proofs.laws.Edges.{follows_by, type_read}
use Rattle.checker.specs.inner.Following.{Follows, heads, pays}
use Rattle.promises.proofs.laws.Facts.{Fits, taken}
use Rattle.promises.proofs.laws.Records.{Settled, settled_next}

-- from a state to the end
pub record Ends (s : Checker) (ls : List (List ℕ)) : Type 0 where
  pub reached : Reached s
  pub to : Checker
  pub through : Through s ls to
  pub at_end : ended to.phase ≡ true

-- the first line, read as r, and the others
pub record Goes (r : Record) (s : Checker) (l : List ℕ) (ls : List (List ℕ)) : Type 0 where
  pub read : line_is s (record_in l) ≡ Some r
  pub follows : Follows s.dir s.batch s.phase r
  pub typed : place type_place (record_in l) ≡ type_of r
  pub fitting : Fits r s l
  pub moves : (step_of s l).state ≡ next r s (record_in l)
  pub rest : Ends (next r s (record_in l)) ls

pub goes : {s : Checker} {l : List ℕ} {ls : List (List ℕ)} → Ends s (l ∷ ls) → (r : Record) × Goes r s l ls
goes {s} {l} {ls} e = go e.through e.at_end
  where
    go : {t : Checker} → Through s (l ∷ ls) t → ended t.phase ≡ true → (r : Record) × Goes r s l ls
    go {t} (further k on) h =
        let a = taken e.reached k in
        let on' = subst (λ (x : Checker). Through x ls t) a.moves on in
        let c = subst Reached a.moves (after_line l e.reached) in
        let rest : Ends (next a.by s (record_in l)) ls = record { reached = c; to = t; through = on'; at_end = h } in
        let f = follows_by s (record_in l) a.read in
        let typed = type_read s (record_in l) a.read in
        (a.by, record { read = a.read; follows = f; typed = typed; fitting = a.fitting; moves = a.moves; rest = rest })

-- no line: the state is at the end
pub at_last : {s : Checker} → Ends s [] → ended s.phase ≡ true
at_last {s} e = go e.through e.at_end
  where
    go : {t : Checker} → Through s [] t → ended t.phase ≡ true → ended s.phase ≡ true
    go here h = h

module _ (ys : List (List ℕ)) where
  -- some lines later
  pub behind : (xs : List (List ℕ)) {s : Checker} → Ends s (xs ++ ys) → Ends (left s xs) ys
  unfolding left
  behind [] e = e
  behind (x ∷ xs) e = let g = (goes e).1 in rw g.moves (behind xs g.rest)

  -- and still in one direction
  still : (xs : List (List ℕ)) {s : Checker} {d : Direction} → Settled d s → Ends s (xs ++ ys) → Settled d (left s xs)
  unfolding left
  still [] h e = h
  still (x ∷ xs) {s} {d} h e =
      let g = (goes e).1 in
      let on = settled_next (goes e).0 s (record_in x) g.follows h in
      subst (λ (t : Checker). Settled d (left t xs)) (sym g.moves) (still xs on g.rest)

first : {d : Direction} {b : Option Batch} {r : Record} → Follows d b Start r → r ≡ FileHeader
first heads = refl
first (pays x _) = elim x [ ]

-- a line is the file header, or goes by the direction of the first line
pub by_first : (xs ys : List (List ℕ)) (rec : List ℕ) {r : Record} → Ends start (xs ++ ys) → line_is (left start xs) rec ≡ Some r
    → (r ≡ FileHeader) ⊎ ((left start xs).dir ≡ direction_of (record_in (get_or (xs ++ ys) 0 [])))
unfolding left
by_first [] ys rec e q = inl (first (follows_by start rec q))
by_first (x ∷ xs) ys rec e q =
    let g = (goes e).1 in
    let h = subst (λ (r : Record). Goes r start x (xs ++ ys)) (first g.follows) g in
    inr (ap (λ (t : Checker). (left t xs).dir) h.moves ∙ (still ys xs (omega arith, refl) h.rest).1)
