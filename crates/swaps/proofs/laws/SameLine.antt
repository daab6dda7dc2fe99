-- Two right lines, read as one record at one state, that differ only inside a field: it isn't a number that the state gives, a field of fixed content
-- or the letter; and where a detail has its letter no field is fixed, and where a line has its type no field holds more. Assumes nothing.
use Rattle.std.specs.Prelude.{◌≡◌, refl, Bool, true, not, ◌&&◌, ◌||◌, ℕ, ◌<◌, T, ltb, eqb, length, get_or}
use Rattle.std.proofs.Common.{sym, subst, ◌∙◌, arith, ltb-true, le-ltb, eqb→eq, lit≤}
use mathlib.Core.List.{List, [], ◌∷◌, Memᴰ}
use Rattle.std.proofs.Math.Decide.{dec_lt}
use Rattle.answer.specs.Rules.{AllKept}
use Rattle.answer.proofs.laws.Order.{kept_front, kept_behind}
use Rattle.digits.specs.Digits.{digit_byte, place}
use Rattle.digits.proofs.laws.Tests.{both, so}
use Rattle.layout.specs.Field.{Kind, Segment, Field, none}
use Rattle.layout.specs.Records.{shape_of, is_detail, type_of, letter_of}
use Rattle.layout.specs.Table.{own, fields_of, type_place, segment_place, segment_field}
use Rattle.layout.specs.Kinds.{a_part, means, run, blank, text}
use Rattle.layout.specs.Record.{field_rules, rules_of}
use Rattle.layout.proofs.laws.Tiling.{All, at, of_member, Inside, insides}
use Rattle.layout.proofs.laws.Records.{each, detail_line}
use Rattle.layout.specs.declared.shapes.LineType.TheVariants.{Detail}
use Rattle.layout.specs.declared.Direction.{Direction}
use Rattle.layout.specs.declared.Record.{Record}
use Rattle.checker.specs.Line.{record_in}
use Rattle.promises.specs.Grammar.{RightLine}
use Rattle.promises.specs.Guarded.{In, Fixed, blanks, zeros, exact, optional}
use Rattle.swaps.specs.Guarded.{DifferIn}
use Rattle.checker.proofs.laws.Details.{Asked, AllRead, detail_of}
use Rattle.checker.proofs.laws.Asks.{letter_at}
use Rattle.swaps.proofs.laws.Differ.{somewhere, same_long, apart, reads_same, content_same}

-- ---- numbers that the state gives

-- one of these fields
pub data Among (f : Field) : Asked → Type 0 where
  this : {k : ℕ} {more : Asked} → Among f ((f, k) ∷ more)
  later : {a : Field × ℕ} {more : Asked} → Among f more → Among f (a ∷ more)

pub not_asked : {f : Field} {fs : Asked} (l l' : List ℕ) → DifferIn f (record_in l) (record_in l') → Among f fs → AllRead fs (record_in l) → AllRead fs (record_in l') → ⊥
unfolding AllRead
not_asked {f} l l' d this k k' = apart d (reads_same _ _ (same_long d f) k.0 k'.0)
not_asked l l' d (later w) k k' = not_asked l l' d w k.1 k'.1

-- ---- the rules of one field

abbrev pub Right : Direction → List ℕ → Field → Type 0
Right dir rec f = AllKept (field_rules f dir rec)

each_right : (fs : List Field) (dir : Direction) (rec : List ℕ) → AllKept (rules_of fs dir rec) → All (Right dir rec) fs
unfolding rules_of All
each_right [] dir rec k = tt
each_right (f ∷ fs) dir rec k = (kept_front (field_rules f dir rec) _ k, each_right fs dir rec (kept_behind (field_rules f dir rec) _ k))

pub listed_inside : {f : Field} (r : Record) → Memᴰ f (fields_of r) → Inside f
listed_inside r m = of_member Inside m (insides r)

-- of a field that is listed, and of the one at an index
module _ {r : Record} {dir : Direction} {l : List ℕ} (a : RightLine r dir l) where
  all_right : All (Right dir (record_in l)) (fields_of r)
  all_right = each_right (fields_of r) dir (record_in l) a.fields

  right_of : {f : Field} → Memᴰ f (fields_of r) → Right dir (record_in l) f
  right_of m = of_member (Right dir (record_in l)) m all_right

  pub right_at : (j : ℕ) → j < length (fields_of r) → Right dir (record_in l) (get_or (fields_of r) j none)
  right_at = at (Right dir (record_in l)) (fields_of r) all_right

-- ---- fixed content, and the letter of a detail

fixed_same : {dir : Direction} {k : Kind} → Fixed dir k → (n : ℕ) (bs cs rec rec' : List ℕ) → length bs ≡ length cs
    → AllKept ((means k).rules (a_part n bs rec dir)) → AllKept ((means k).rules (a_part n cs rec' dir)) → bs ≡ cs
unfolding AllKept
fixed_same blanks n bs cs rec rec' e h h' = content_same (run blank) bs cs e h.0 h'.0
fixed_same zeros n bs cs rec rec' e h h' = content_same (run (digit_byte 0)) bs cs e h.0 h'.0
fixed_same (exact {bs = x}) n bs cs rec rec' e h h' = content_same (text x) bs cs e h.0 h'.0
fixed_same optional n bs cs rec rec' e h h' = content_same (run blank) bs cs e h.0 h'.0

module _ {r : Record} {dir : Direction} {l l' : List ℕ} (a : RightLine r dir l) (a' : RightLine r dir l') where
  pub not_fixed : {f : Field} → DifferIn f (record_in l) (record_in l') → Memᴰ f (fields_of r) → Fixed dir f.kind → ⊥
  not_fixed {f} d m k = apart d (fixed_same k f.from _ _ _ _ (same_long d f) (right_of a m) (right_of a' m))

  pub not_letter : DifferIn (segment_field (letter_of r)) (record_in l) (record_in l') → type_of r ≡ digit_byte 3 → ⊥
  not_letter d e =
      let m = (detail_of r e).marked in
      let same = letter_at r dir (record_in l) a.fields e m ∙ sym (letter_at r dir (record_in l') a'.fields e m) in
      somewhere d (λ q h i. let at : segment_place ≡ q = omega arith in subst (λ (q : ℕ). place q (record_in l) ≡ place q (record_in l')) at same)

-- ---- where a detail has its letter no field is fixed

record Loose (f : Field) : Type 0 where
  loose : (dir : Direction) → In f segment_place → Fixed dir f.kind → ⊥

-- the letter's own field is not
not_fixed_letter : {dir : Direction} {b : ℕ} {k : Kind} → Fixed dir k → k ≡ Segment b → ⊥
not_fixed_letter blanks e = let z : ◌≡◌ {A = ℕ} 0 1 = cc in omega arith
not_fixed_letter zeros e = let z : ◌≡◌ {A = ℕ} 0 1 = cc in omega arith
not_fixed_letter exact e = let z : ◌≡◌ {A = ℕ} 0 1 = cc in omega arith
not_fixed_letter optional e = let z : ◌≡◌ {A = ℕ} 0 1 = cc in omega arith

-- a field that ends before it does not hold its place
before_letter : {f : Field} → f.to < segment_place → Loose f
before_letter h = record { loose = λ dir i k. omega arith }

-- and those behind it neither
abbrev behind_letter : List Field → Bool
behind_letter [] = true
behind_letter (f ∷ fs) = ltb segment_place f.from && behind_letter fs

own_behind : (r : Record) → T (not (is_detail (shape_of r).line) || behind_letter (own r))
own_behind r = each (λ r. not (is_detail (shape_of r).line) || behind_letter (own r)) tt r

all_behind : (fs : List Field) → T (behind_letter fs) → All Loose fs
unfolding All
all_behind [] t = tt
all_behind (f ∷ fs) t =
    let b = both (ltb segment_place f.from) (behind_letter fs) t in
    let h = ltb-true segment_place f.from (so _ b.0) in
    (record { loose = λ dir i k. omega arith }, all_behind fs b.1)

all_loose : (r : Record) → (shape_of r).line ≡ Detail → All Loose (fields_of r)
unfolding All fields_of
all_loose r e =
    rw e (before_letter (lit≤ tt), (before_letter (lit≤ tt), (before_letter (lit≤ tt), (before_letter (lit≤ tt), (record { loose = λ dir i k. not_fixed_letter k refl }, all_behind (own r) (rw e at (own_behind r)))))))

pub letter_loose : (r : Record) {f : Field} {dir : Direction} → type_of r ≡ digit_byte 3 → Memᴰ f (fields_of r) → In f segment_place → Fixed dir f.kind → ⊥
letter_loose r {f} {dir} e m = (of_member Loose m (all_loose r (detail_line r e))).loose dir

-- ---- the type has its place for itself

record Aside (f : Field) : Type 0 where
  aside : In f type_place → (f.from ≡ type_place) × (f.to ≡ type_place)

-- a field ends before the type, or begins behind it, or is its own
abbrev beside_type : Field → Bool
beside_type f = ltb f.to type_place || (ltb type_place f.from || (eqb f.from type_place && eqb f.to type_place))

abbrev besides : List Field → Bool
besides [] = true
besides (f ∷ fs) = beside_type f && besides fs

all_beside : (r : Record) → T (besides (fields_of r))
unfolding fields_of
all_beside r = each (λ r. besides (fields_of r)) tt r

beside : (f : Field) → T (beside_type f) → Aside f
beside f t = record { aside = λ i. go i (dec_lt f.to type_place) (dec_lt type_place f.from) t }
  where
    go : In f type_place → Dec (f.to < type_place) → Dec (type_place < f.from) → T (beside_type f) → (f.from ≡ type_place) × (f.to ≡ type_place)
    go i (yes h) k t = absurd (omega arith)
    go i (no h) (yes k) t = absurd (omega arith)
    go i (no h) (no k) t =
        let b = both (eqb f.from type_place) (eqb f.to type_place) (rw (le-ltb f.to type_place (omega arith), le-ltb type_place f.from (omega arith)) at t) in
        (eqb→eq f.from type_place b.0, eqb→eq f.to type_place b.1)

all_aside : (fs : List Field) → T (besides fs) → All Aside fs
unfolding All
all_aside [] t = tt
all_aside (f ∷ fs) t = let b = both (beside_type f) (besides fs) t in (beside f b.0, all_aside fs b.1)

pub type_aside : (r : Record) {f : Field} → Memᴰ f (fields_of r) → In f type_place → (f.from ≡ type_place) × (f.to ≡ type_place)
type_aside r m = (of_member Aside m (all_aside (fields_of r) (all_beside r))).aside
