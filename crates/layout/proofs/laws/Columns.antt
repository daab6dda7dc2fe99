-- What ties the code's arrays to the table. Assumes nothing.
use Rattle.std.specs.Prelude.{◌≡◌, refl, Bool, true, false, ◌&&◌, ℕ, zero, suc, ◌+◌, ◌-◌, ◌≤◌, ◌<◌, min, T, leb, eqb, length, get_or, take, drop}
use Rattle.std.proofs.Common.{sym, ap, ◌∙◌, subst, lt-ltb, le-ltb, leb-true, leb-false, zero-add, suc-add, add_assoc, not-suc-le-zero, le_of_suc-le-suc, arith, leb→le, eqb→eq, length-take, length-append, drop_of_length-le, get_or-take, get_or-drop, take-take, drop-drop, take_all}
use Rattle.std.proofs.Math.Path.{subst⁻¹}
use mathlib.Core.List.{List, [], ◌∷◌, ◌++◌}
use Rattle.std.proofs.Math.ListN.{get_or-map, get_or-eq_default}
use Rattle.std.proofs.Math.Decide.{dec_lt}
use Rattle.std.proofs.Math.Seq.{slice, take-nil, take-length}
use Rattle.digits.proofs.laws.Tests.{both}
use Rattle.layout.specs.inner.Lent.{start_of, span_of, field_count, in_column, entry_in, kind_of, field_of, Columns}
use Rattle.layout.specs.Field.{Kind, Field, field, none}
use Rattle.layout.specs.Table.{fields_of, type_field, segment_fields, fields_of_each, all}
use Rattle.layout.specs.Records.{records, code, shape_of, is_detail}
use Rattle.layout.proofs.laws.Tiling.{Inside, insides, All, join, at}
use Rattle.layout.proofs.laws.Sound.{Sound, sounds}
use Rattle.layout.specs.declared.table.Entry.{Entry}
use Rattle.layout.specs.declared.table.Span.{Span}
use Rattle.layout.specs.declared.table.Table.{Table}
use Rattle.layout.specs.declared.Record.{Record}
use Rattle.layout.specs.declared.Record.TheVariants.{FileHeader}
use Rattle.layout.proofs.laws.Records.{each, tabled}
use Rattle.layout.specs.inner.Entries.{Stands}

-- where each record's fields start, as the code has it
abbrev pub starts : List ℕ
starts = 0 ∷ 22 ∷ 46 ∷ 71 ∷ 80 ∷ 101 ∷ 119 ∷ 125 ∷ 135 ∷ 143 ∷ 159 ∷ []

abbrev pub span_in : List ℕ → ℕ → Span
span_in column n = record { first = get_or column n 0; past = get_or column (n + 1) 0 }

abbrev same_span : Span → Span → Bool
same_span a b = eqb a.first b.first && eqb a.past b.past

pub starts_are : (r : Record) → span_in starts (code r) ≡ span_of r
unfolding span_of start_of fields_of_each fields_of
starts_are r =
    let a = span_in starts (code r) in
    let b = span_of r in
    let same = both (eqb a.first b.first) (eqb a.past b.past) (each (λ r. same_span (span_in starts (code r)) (span_of r)) tt r) in
    let first = eqb→eq a.first b.first same.0 in
    let past = eqb→eq a.past b.past same.1 in
    λ i. record { first = first i; past = past i }

-- the table ends behind a record's last field, and behind what its line begins with
inside : (r : Record) → T (leb (start_of r + length (fields_of r)) field_count && (leb (start_of r + 5) field_count && leb 5 (length (fields_of r))))
unfolding start_of fields_of_each fields_of
inside r = each (λ r. leb (start_of r + length (fields_of r)) field_count && (leb (start_of r + 5) field_count && leb 5 (length (fields_of r)))) tt r

-- every record has five fields at least
pub five : (r : Record) → 5 ≤ length (fields_of r)
five r =
    let b = both (leb (start_of r + length (fields_of r)) field_count) _ (inside r) in
    leb→le 5 (length (fields_of r)) (both (leb (start_of r + 5) field_count) _ b.1).1

front : {A : Type 0} (xs ys : List A) → take (length xs) (xs ++ ys) ≡ xs
front [] ys = refl
front (x ∷ xs) ys = ap (λ zs. x ∷ zs) (front xs ys)

behind_front : {A : Type 0} (xs ys : List A) (a b : ℕ) → slice (length xs + a) (length xs + b) (xs ++ ys) ≡ slice a b ys
behind_front [] ys a b = rw (zero-add a, zero-add b)
behind_front (x ∷ xs) ys a b = rw (suc-add (length xs) a, suc-add (length xs) b) (behind_front xs ys a b)

-- the fields of one of these records, among those of all
among_each : (rs : List Record) (n : ℕ) → n < length rs → let q = get_or rs n FileHeader in let a = length (fields_of_each (take n rs)) in
    slice a (a + length (fields_of q)) (fields_of_each rs) ≡ fields_of q
unfolding fields_of_each
among_each [] n h = absurd (not-suc-le-zero h)
among_each (r ∷ rs) zero h = rw (zero-add (length (fields_of r))) (front (fields_of r) (fields_of_each rs))
among_each (r ∷ rs) (suc n) h =
    let xs = fields_of r in
    let a = length (fields_of_each (take n rs)) in
    let k = length (fields_of (get_or rs n FileHeader)) in
    rw (length-append xs (fields_of_each (take n rs)), add_assoc (length xs) a k) (behind_front xs (fields_of_each rs) a (a + k))
    ∙ among_each rs n (le_of_suc-le-suc h)

pub fields_there : (r : Record) → slice (start_of r) (start_of r + length (fields_of r)) all ≡ fields_of r
unfolding start_of all
fields_there r =
    let a = start_of r in
    subst (λ (q : Record). slice a (a + length (fields_of q)) all ≡ fields_of q) (tabled r).is (among_each records (code r) (tabled r).below)

-- a span that is the record's
module _ (r : Record) {s : Span} (e : s ≡ span_of r) where
  pub first_is : s.first ≡ start_of r
  unfolding span_of
  first_is = rw e

  pub past_is : s.past ≡ start_of r + length (fields_of r)
  unfolding span_of
  past_is = rw e

  bounds : T (leb (start_of r + length (fields_of r)) field_count) × T (leb (start_of r + 5) field_count && leb 5 (length (fields_of r)))
  bounds = both (leb (start_of r + length (fields_of r)) field_count) _ (inside r)

  pub in_order : s.first ≤ s.past
  in_order = rw (first_is, past_is) (omega arith)

  pub in_table : s.past ≤ field_count
  in_table = rw past_is (leb→le _ _ bounds.0)

  pub many_is : s.past - s.first ≡ length (fields_of r)
  many_is = rw (first_is, past_is) (omega arith)

  pub marks_in_table : s.first + 5 ≤ field_count
  marks_in_table = rw first_is (leb→le _ _ (both (leb (start_of r + 5) field_count) _ bounds.1).0)

-- a record's fields, among all
pub in_record : (r : Record) (j : ℕ) → j < length (fields_of r) → get_or all (start_of r + j) none ≡ get_or (fields_of r) j none
in_record r j h =
    let past = start_of r + length (fields_of r) in
    sym (get_or-take past all (start_of r + j) none (omega arith))
    ∙ sym (get_or-drop (start_of r) (take past all) j none)
    ∙ ap (λ (fs : List Field). get_or fs j none) (fields_there r)

-- some of a record's fields, among all
take_drop : {A : Type 0} (a p : ℕ) (xs : List A) → take p (drop a xs) ≡ drop a (take (a + p) xs)
take_drop zero p xs = rw (zero-add p)
take_drop {A} (suc a) p [] = take-nil p ∙ sym (ap (drop (suc a)) (take-nil {A = A} (suc a + p)))
take_drop (suc a) p (x ∷ xs) = rw (suc-add a p) (take_drop a p xs)

cut : (r : Record) (f p : ℕ) → p ≤ length (fields_of r) → slice (start_of r + f) (start_of r + p) all ≡ slice f p (fields_of r)
cut r f p h =
    let a = start_of r in
    sym
    (ap (λ (fs : List Field). slice f p fs) (sym (fields_there r))
    ∙ ap (drop f) (take_drop a p (take (a + length (fields_of r)) all) ∙ ap (drop a) (take-take (a + p) (a + length (fields_of r)) all (omega arith)))
    ∙ drop-drop f a (take (a + p) all))

-- a record's type, and a detail's segment, among all
pub type_there : (r : Record) → slice (start_of r + 2) (start_of r + 2 + 1) all ≡ type_field r ∷ []
unfolding fields_of
type_there r = rw (add_assoc (start_of r) 2 1) (cut r 2 3 (omega (arith, five r)))

pub segment_there : (r : Record) → is_detail (shape_of r).line ≡ true → slice (start_of r + 4) (start_of r + 4 + 1) all ≡ segment_fields r
unfolding fields_of
segment_there r e =
    let fifth : slice 4 5 (fields_of r) ≡ segment_fields r = rw e in
    rw (add_assoc (start_of r) 4 1) (cut r 4 5 (five r) ∙ fifth)

pub no_segment : (r : Record) → is_detail (shape_of r).line ≡ false → segment_fields r ≡ []
no_segment r e = rw e

up_to : {A : Type 0} (p : ℕ) (xs : List A) (short : Bool) → leb p (length xs) ≡ short → take (min p (length xs)) xs ≡ take p xs
up_to p xs true e =
    let h = leb-true p (length xs) e in
    let m : min p (length xs) ≡ p = omega arith in
    rw m
up_to p xs false e =
    let h = leb-false p (length xs) e in
    let m : min p (length xs) ≡ length xs = omega arith in
    rw m (take-length xs ∙ sym (take_all p xs (omega arith)))

pub some_fields : (r : Record) (f p e : ℕ) → e ≡ min p (length (fields_of r)) → slice (start_of r + f) (start_of r + e) all ≡ slice f p (fields_of r)
some_fields r f p e h = rw h (cut r f (min p (length (fields_of r))) (omega arith) ∙ ap (drop f) (up_to p (fields_of r) (leb p (length (fields_of r))) refl))

pub no_fields_left : {A : Type 0} (f p e : ℕ) (xs : List A) → e ≡ min p (length xs) → e ≤ f → slice f p xs ≡ []
no_fields_left f p e xs h l = drop_of_length-le (take p xs) {i = f} (rw (length-take p xs) (omega arith))

pub all_fields : (r : Record) → slice 0 field_count (fields_of r) ≡ fields_of r
all_fields r = take_all field_count (fields_of r) (let h = in_table r {s = span_of r} refl in let m = past_is r {s = span_of r} refl in omega arith)

-- ---- at each entry

pub all_length : length all ≡ field_count
unfolding all fields_of_each fields_of
all_length = refl

-- what holds at the fields of each record holds at each entry
module _ (P : Field → Type 0) (each : (r : Record) → All P (fields_of r)) where
  of_each : (rs : List Record) → All P (fields_of_each rs)
  unfolding All fields_of_each
  of_each [] = tt
  of_each (r ∷ rs) = join P (fields_of r) (fields_of_each rs) (each r) (of_each rs)

  pub at_entry : (f : ℕ) → f < field_count → P (get_or all f none)
  unfolding all
  at_entry f h = at P all (of_each records) f (rw all_length h)

stands : {f from to k : ℕ} → field from to (kind_of k) ≡ get_or all f none → f < field_count → Stands f from to k
stands {f} e h =
    let i = subst⁻¹ Inside e (at_entry Inside insides f h) in
    record { is = e; low = i.low; order = i.order; high = i.high; may = (subst⁻¹ Sound e (at_entry Sound sounds f h)).may }

pub entry_stands : (e : Entry) {f : ℕ} → field_of e ≡ get_or all f none → f < field_count → Stands f e.from e.to e.kind
entry_stands e q h = stands q h

agrees : (g : Field) {a b : ℕ} {k : Kind} → a ≡ g.from → b ≡ g.to → k ≡ g.kind → field a b k ≡ g
agrees g p q r = λ i. record { from = p i; to = q i; kind = r i }

pub column : {from to kind : List ℕ} → Columns from to kind → (f : ℕ) → f < field_count → Stands f (in_column from f) (in_column to f) (in_column kind f)
column {kind} c f h =
    rw (lt-ltb f field_count h)
    (stands
    (agrees (get_or all f none)
    (rw c.froms (get_or-map (λ (x : Field). x.from) all f none))
    (rw c.tos (get_or-map (λ (x : Field). x.to) all f none))
    (sym (get_or-map kind_of kind f 0) ∙ rw c.kinds_of (get_or-map (λ (x : Field). x.kind) all f none)))
    h)

-- a table of these columns gives them, and past its end the field that stands for none
pub entry_is : (t : Table) (f : ℕ) → Columns t.from t.to t.kind → field_of (entry_in t f) ≡ get_or all f none
entry_is t f c = go (dec_lt f field_count)
  where
    go : Dec (f < field_count) → field_of (entry_in t f) ≡ get_or all f none
    go (yes h) = (column c f h).is
    go (no h) = rw (le-ltb f field_count (omega arith), get_or-eq_default all none {n = f} (rw all_length (omega arith)))
