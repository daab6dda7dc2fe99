-- Two lines at one state that differ at one place, both on the way to the end, are read as one record, if the place is no letter or the letter is
-- guarded. Assumes nothing.
use Rattle.std.proofs.Math.Path.{◌≡◌, subst, subst⁻¹}
use Rattle.std.specs.Prelude.{refl, ◌≢◌, List, ℕ, length, take, drop, None, Option}
use Rattle.std.proofs.Common.{sym, ap, ◌∙◌, lit≤, take-take}
use native.Mathlib.Omega.{arith}
use Rattle.std.proofs.Math.Decide.{ℕ_discrete}
use Rattle.std.proofs.lemmas.Bool.{eqb-false}
use Rattle.answer.specs.Rules.{AllKept}
use Rattle.answer.proofs.laws.Order.{never}
use Rattle.digits.specs.Digits.{digit_byte, leading, place}
use Rattle.digits.specs.Numbers.{number_of}
use Rattle.layout.specs.Field.{Field, part, field, K}
use Rattle.layout.specs.Records.{type_of, letter_z}
use Rattle.layout.specs.Table.{type_place, segment_place, fields_of, batch_field, number_field}
use Rattle.layout.specs.Kinds.{run, blank}
use Rattle.layout.proofs.laws.Bytes.{same_true, length_places}
use Rattle.layout.specs.declared.Direction.{Direction}
use Rattle.layout.specs.declared.Direction.TheVariants.{Return}
use Rattle.layout.specs.declared.Record.{Record}
use Rattle.layout.specs.declared.Record.TheVariants.{BatchHeader, SegmentZ, BatchTrailer, FileTrailer}
use Rattle.layout.specs.declared.pairs.Batch.{Batch}
use Rattle.checker.specs.Line.{ordinal, trailer_batch, record_in}
use Rattle.layout.specs.declared.shapes.Phase.{Phase}
use Rattle.checker.specs.declared.Checker.{Checker}
use Rattle.promises.specs.Grammar.{RightLine}
use Rattle.promises.specs.Guarded.{In, LetterGuarded}
use Rattle.checker.proofs.laws.Edges.{next_in, one_next}
use Rattle.checker.specs.inner.Following.{pays_behind, Follows, heads, first_batch, pays, adds_z, closes_paid, closes_behind_z, next_batch, ends}
use Rattle.checker.proofs.laws.Payments.{row, one_stands}
use Rattle.checker.specs.inner.Following.{Stands}
use Rattle.checker.proofs.laws.Asks.{letter_at}
use Rattle.checker.proofs.laws.Details.{Asked, AllRead, detail_of}
use Rattle.promises.proofs.laws.Facts.{Fits}
use Rattle.promises.proofs.laws.Differ.{Differ, turned, kept}
use Rattle.promises.proofs.laws.SameLine.{right_at}
use Rattle.promises.proofs.laws.Behind.{Goes}
use Rattle.promises.proofs.laws.NextLine.{not_z}

-- ---- two records that may follow at one state

data Apart (d : Direction) (b : Option Batch) : Record → Record → Type 0 where
  pays_or_closes : {r : Record} → type_of r ≡ digit_byte 3 → Apart d b r BatchTrailer
  opens_or_ends : Apart d b BatchHeader FileTrailer
  begins_or_z : {r : Record} → d ≡ Return → Stands b 0 r → Apart d b r SegmentZ

data Two (d : Direction) (b : Option Batch) (r r' : Record) : Type 0 where
  one : r ≡ r' → Two d b r r'
  apart : Apart d b r r' → Two d b r r'
  apart_turned : Apart d b r' r → Two d b r r'

-- a line that is one of a payment's, and another
stands_two : {d : Direction} {b : Option Batch} {n m : ℕ} {r r' : Record} → n ≡ m → Stands b n r → Stands b m r' → Two d b r r'
stands_two {b = b} {r' = r'} e g h = one (one_stands g (subst⁻¹ (λ (k : ℕ). Stands b k r') e h))

two : {d : Direction} {b : Option Batch} {p : Phase} {r r' : Record} → Follows d b p r → Follows d b p r' → Two d b r r'
two heads heads = one refl
two heads (pays x g) = never (next_in x)
two first_batch first_batch = one refl
two first_batch (pays x g) = never (next_in x)
two (pays x g) heads = never (next_in x)
two (pays x g) first_batch = never (next_in x)
two (pays x g) (pays y h) = stands_two (one_next x y) g h
two (pays pays_behind g) (adds_z h) = apart (begins_or_z h g)
two (pays x g) closes_paid = apart (pays_or_closes (row g).type)
two (pays x g) closes_behind_z = apart (pays_or_closes (row g).type)
two (pays x g) next_batch = never (next_in x)
two (pays x g) ends = never (next_in x)
two (adds_z e) (adds_z h) = one refl
two (adds_z e) (pays pays_behind h) = apart_turned (begins_or_z e h)
two (adds_z e) closes_paid = apart (pays_or_closes refl)
two closes_paid (adds_z h) = apart_turned (pays_or_closes refl)
two closes_paid (pays x h) = apart_turned (pays_or_closes (row h).type)
two closes_paid closes_paid = one refl
two closes_behind_z (pays x h) = apart_turned (pays_or_closes (row h).type)
two closes_behind_z closes_behind_z = one refl
two next_batch next_batch = one refl
two next_batch (pays x h) = never (next_in x)
two next_batch ends = apart opens_or_ends
two ends next_batch = apart_turned opens_or_ends
two ends (pays x h) = never (next_in x)
two ends ends = one refl

-- ---- what the lines show

-- a batch trailer has blanks where a detail has its number
blank_number : {dir : Direction} (l : List ℕ) → RightLine BatchTrailer dir l → number_of (part number_field (record_in l)) ≡ None
unfolding fields_of AllKept number_of leading
blank_number l a =
    let bs = part (field 9 17 K) (record_in l) in
    let long = length_places 9 17 (record_in l) (omega (arith, a.long)) in
    let is = same_true (run blank (length bs)) bs (right_at a 3 (lit≤ tt)).0 in
    ap number_of (sym (take-take 5 9 (drop 8 (record_in l)) (omega arith)) ∙ ap (take 5) (sym is ∙ ap (run blank) long))

module _ {p : ℕ} (s : Checker) (l l' : List ℕ) (d : Differ p (record_in l) (record_in l')) where
  -- where the types differ, other fields read the same
  aside : (f : Field) → (In f type_place → ⊥) → place type_place (record_in l) ≢ place type_place (record_in l')
      → number_of (part f (record_in l)) ≡ number_of (part f (record_in l'))
  aside f out ne = ap number_of (kept d f (λ k. ne (d.other type_place (omega arith) (λ e. out (subst (In f) (sym e) k)))))

  not_closes : {r : Record} → type_of r ≡ digit_byte 3 → Fits r s l → Fits BatchTrailer s l'
      → number_of (part number_field (record_in l)) ≡ number_of (part number_field (record_in l')) → ⊥
  unfolding AllRead
  not_closes {r} e f f' same =
      let numbers = subst (λ (k : Asked). AllRead k (record_in l)) ((detail_of r e).asks s) f.numbers in
      let z : ◌≡◌ {A = ℕ} 0 1 = cc (numbers.1.1.0, blank_number l' f'.right) in
      omega arith

  -- a batch header has a small batch number, the file trailer 9999
  not_ends : Fits BatchHeader s l → Fits FileTrailer s l' → number_of (part batch_field (record_in l)) ≡ number_of (part batch_field (record_in l')) → ⊥
  unfolding AllRead
  not_ends f f' same =
      let number : ordinal s ≡ trailer_batch = cc (f.numbers.1.0, f'.numbers.1.0) in
      omega (arith, f.limit)

  -- a payment's first record and a Z have other letters, so they differ there
  at_letter : {r : Record} {ls : List (List ℕ)} → Stands s.batch 0 r → Goes r s l ls → Goes SegmentZ s l' ls → p ≡ segment_place
  at_letter {r} h g g' = go (ℕ_discrete p segment_place)
    where
      letters : place segment_place (record_in l) ≢ place segment_place (record_in l')
      letters e =
          let own = letter_at r _ (record_in l) g.fitting.right.fields (row h).type (row h).marked in
          let z = letter_at SegmentZ _ (record_in l') g'.fitting.right.fields refl refl in
          eqb-false (row h).letter letter_z (row h).no_z (sym own ∙ e ∙ z)

      go : Dec (p ≡ segment_place) → p ≡ segment_place
      go (yes e) = e
      go (no ne) = absurd (letters (d.other segment_place (omega arith) (λ e. ne (sym e))))

  not_apart : {r r' : Record} {ls : List (List ℕ)} → (type_of r ≡ digit_byte 3 → type_of r' ≡ digit_byte 3 → p ≡ segment_place → LetterGuarded s.dir s.batch)
      → Apart s.dir s.batch r r' → Goes r s l ls → Goes r' s l' ls → ⊥
  not_apart c (pays_or_closes e) g g' = not_closes e g.fitting g'.fitting (aside number_field (λ k. omega arith) (λ q. omega (arith, g.typed, g'.typed)))
  not_apart c opens_or_ends g g' = not_ends g.fitting g'.fitting (aside batch_field (λ k. omega arith) (λ q. omega (arith, g.typed, g'.typed)))
  not_apart c (begins_or_z e h) g g' = not_z l l' (c (row h).type refl (at_letter h g g')) e h g g'

pub one_record : {p : ℕ} {s : Checker} {r r' : Record} {ls : List (List ℕ)} (l l' : List ℕ)
    → Differ p (record_in l) (record_in l') → (type_of r ≡ digit_byte 3 → p ≡ segment_place → LetterGuarded s.dir s.batch) → Goes r s l ls → Goes r' s l' ls → r ≡ r'
one_record {s = s} {r = r} {r' = r'} l l' d c g g' = go (two g.follows g'.follows)
  where
    go : Two s.dir s.batch r r' → r ≡ r'
    go (one e) = e
    go (apart a) = absurd (not_apart s l l' d (λ e e'. c e) a g g')
    go (apart_turned a) = absurd (not_apart s l' l (turned d) (λ e e'. c e') a g' g)
