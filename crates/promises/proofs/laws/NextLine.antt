-- Changes that only later lines show: the file header's bank, a Z for a payment's first record, the amount of a credit or of a collection.
-- Assumes nothing.
use Rattle.std.specs.Prelude.{◌≡◌, ◌≢◌, ◌⊎◌, true, List, [], ◌∷◌, ℕ, ◌-◌, ◌≤◌, eqb, length, None, Option, Some}
use Rattle.std.proofs.Math.Path.{refl}
use Rattle.std.proofs.Common.{sym, ap, ◌∙◌, subst, subst₂, inl, inr, ⊎_elim, arith, eqb-true, lit≤}
use Rattle.answer.specs.Rules.{AllKept}
use Rattle.answer.proofs.laws.Order.{never}
use Rattle.digits.specs.Digits.{digit_byte, place, places, all_digits}
use Rattle.digits.specs.Numbers.{most_digits, value}
use Rattle.layout.specs.Field.{Field, part}
use Rattle.layout.specs.Records.{type_of, credit_amount, collection_amount}
use Rattle.layout.specs.Table.{type_place, fields_of, bank_field}
use Rattle.layout.specs.Kinds.{run, blank, is_fixed, one_of}
use Rattle.layout.proofs.laws.Bytes.{and_left, same_true}
use Rattle.layout.specs.declared.Direction.{Direction}
use Rattle.layout.specs.declared.Direction.TheVariants.{Return}
use Rattle.layout.specs.declared.Record.{Record}
use Rattle.layout.specs.declared.Record.TheVariants.{FileHeader, BatchHeader, SegmentA, SegmentB, SegmentZ, BatchTrailer, SegmentO}
use Rattle.layout.specs.declared.pairs.Batch.{Batch}
use Rattle.layout.specs.declared.pairs.Batch.TheVariants.{Credit, Boleto, Collection}
use Rattle.checker.specs.Order.{ended}
use Rattle.checker.specs.Totals.{add, cent_sum, cents_of}
use Rattle.checker.specs.Line.{record_in, line_is}
use Rattle.checker.specs.Machine.{next}
use Rattle.layout.specs.declared.shapes.Phase.{Phase}
use Rattle.layout.specs.declared.shapes.Phase.TheVariants.{Headed, Within, BehindZ}
use Rattle.checker.specs.declared.Checker.{Checker}
use Rattle.promises.specs.Grammar.{RightLine}
use Rattle.promises.specs.Guarded.{In, LetterGuarded, in_remittance, of_credits, of_boletos}
use Rattle.checker.specs.inner.Steps.{is_return}
use Rattle.checker.proofs.laws.Edges.{next_in, stands_moves}
use Rattle.checker.specs.inner.Following.{goes_on, pays_behind_z, Follows, first_batch, pays, adds_z, closes_paid, closes_behind_z}
use Rattle.checker.proofs.laws.Payments.{phase_behind, row, stands_in, one_stands}
use Rattle.checker.specs.inner.Following.{Stands}
use Rattle.checker.proofs.laws.Sums.{together}
use Rattle.checker.proofs.laws.Details.{AllRead, Open, at_within, at_paid, at_behind_z, detail_of}
use Rattle.checker.proofs.laws.Asks.{letter_at}
use Rattle.promises.proofs.laws.Facts.{Fits}
use Rattle.promises.proofs.laws.Differ.{Differ, not_worth}
use Rattle.promises.proofs.laws.SameLine.{right_at}
use Rattle.promises.proofs.laws.Behind.{Ends, Goes, goes, at_last}

follows_at : {d : Direction} {b c : Option Batch} {p q : Phase} {r : Record} → b ≡ c → p ≡ q → Follows d b p r → Follows d c q r
follows_at {d} {r = r} e h f = subst₂ (λ (x : Option Batch) (y : Phase). Follows d x y r) e h f

-- ---- the file header's bank: the line behind it has it too

header_next : {d : Direction} {b : Option Batch} {r : Record} → Follows d b Headed r → r ≡ BatchHeader
header_next first_batch = refl
header_next (pays x g) = never (next_in x)

one_bank : (ls : List (List ℕ)) {s s' : Checker} → s.phase ≡ Headed → s'.phase ≡ Headed → Ends s ls → Ends s' ls → s.bank ≡ s'.bank
unfolding AllRead
one_bank [] p p' e e' = never (rw p at (at_last e))
one_bank (l ∷ ls) {s} {s'} p p' e e' =
    let g = (goes e).1 in
    let g' = (goes e').1 in
    let f = subst (λ (r : Record). Fits r s l) (header_next (follows_at refl p g.follows)) g.fitting in
    let f' = subst (λ (r : Record). Fits r s' l) (header_next (follows_at refl p' g'.follows)) g'.fitting in
    cc (f.numbers.0, f'.numbers.0)

module _ {p : ℕ} {s : Checker} {ls : List (List ℕ)} (l l' : List ℕ) (d : Differ p (record_in l) (record_in l')) where
  pub not_bank : Goes FileHeader s l ls → Goes FileHeader s l' ls → In bank_field p → ⊥
  unfolding fields_of AllKept
  not_bank g g' =
      not_worth d bank_field (omega arith) (right_at g.fitting.right 0 (lit≤ tt)).0 (right_at g'.fitting.right 0 (lit≤ tt)).0
      (one_bank ls refl refl g.rest g'.rest)

-- ---- a Z for a payment's first record: the second record can't stand behind it

-- place 15 of J52, and of J
blank_or_digit : (bs : List ℕ) → is_fixed (run blank) bs ≡ true → one_of (digit_byte 0 ∷ digit_byte 9 ∷ []) bs ≡ true → ⊥
blank_or_digit bs h k =
    let long = eqb-true (length bs) 1 (and_left (eqb (length bs) 1) _ k) in
    let is : blank ∷ [] ≡ bs = ap (run blank) (sym long) ∙ same_true (run blank (length bs)) bs h in
    never (subst (λ (w : List ℕ). one_of (digit_byte 0 ∷ digit_byte 9 ∷ []) w ≡ true) (sym is) k)

-- by its letter, or by that place: no line is right as both
not_first : (b : Option Batch) {e e' : Direction} {r r' : Record} (l : List ℕ) → Stands b 1 r → Stands b 0 r' → RightLine r e l → RightLine r' e' l → ⊥
unfolding fields_of AllKept
not_first (Some Credit) {e} {e'} l g h a a' =
    let b = subst (λ (x : Record). RightLine x e l) (one_stands g (record { is = refl })) a in
    let b' = subst (λ (x : Record). RightLine x e' l) (one_stands h (record { is = refl })) a' in
    omega (arith, letter_at SegmentB _ (record_in l) b.fields refl refl, letter_at SegmentA _ (record_in l) b'.fields refl refl)
not_first (Some Boleto) {e} {e'} l g h a a' =
    let b = subst (λ (x : Record). RightLine x e l) (one_stands g (record { is = refl })) a in
    let b' = subst (λ (x : Record). RightLine x e' l) (one_stands h (record { is = refl })) a' in
    blank_or_digit (places 15 15 (record_in l)) (right_at b 5 (lit≤ tt)).0 (right_at b' 5 (lit≤ tt)).0
not_first (Some Collection) l g h a a' = omega (arith, stands_in g)
not_first None l g h a a' = omega (arith, stands_in g)

-- it is neither a first record nor the batch trailer
not_second : {d d' e e' : Direction} {b : Option Batch} {r r' : Record} (l : List ℕ) → Follows d b (Within 1) r → Follows d' b BehindZ r'
    → place type_place (record_in l) ≡ type_of r → place type_place (record_in l) ≡ type_of r' → RightLine r e l → RightLine r' e' l → ⊥
not_second {b = b} l (pays goes_on g) (pays pays_behind_z h) t t' a a' = not_first b l g h a a'
not_second l (pays goes_on g) closes_behind_z t t' a a' = omega (arith, (row g).type)

-- no line stands both behind a first record and behind a Z
begun_or_behind_z : (ls : List (List ℕ)) {s s' : Checker} {b : Option Batch} → s.phase ≡ Within 1 → s'.phase ≡ BehindZ → s.batch ≡ b → s'.batch ≡ b
    → Ends s ls → Ends s' ls → ⊥
begun_or_behind_z [] p p' q q' e e' = never (rw p at (at_last e))
begun_or_behind_z (l ∷ ls) p p' q q' e e' =
    let g = (goes e).1 in
    let g' = (goes e').1 in
    not_second l (follows_at q p g.follows) (follows_at q' p' g'.follows) g.typed g'.typed g.fitting.right g'.fitting.right

-- in a return a payment whose letters are guarded has a second record
second_comes : {d : Direction} {b : Option Batch} → LetterGuarded d b → d ≡ Return → phase_behind 0 b ≡ Within 1
second_comes in_remittance e = never (ap is_return e)
second_comes of_credits e = refl
second_comes of_boletos e = refl

pub not_z : {r : Record} {s : Checker} {ls : List (List ℕ)} (l l' : List ℕ) → LetterGuarded s.dir s.batch → s.dir ≡ Return
    → Stands s.batch 0 r → Goes r s l ls → Goes SegmentZ s l' ls → ⊥
not_z {s = s} {ls} l l' c d h g g' =
    let k = stands_moves s (record_in l) h in
    begun_or_behind_z ls (k.phase ∙ second_comes c d) refl k.batch refl g.rest g'.rest

-- ---- the amount of a credit or of a collection: the batch trailer has the sum

-- behind a detail
trailer_or_detail : {d : Direction} {b : Option Batch} {p : Phase} {r : Record} → Open p → Follows d b p r → (r ≡ BatchTrailer) ⊎ (type_of r ≡ digit_byte 3)
trailer_or_detail at_within (pays x g) = inr (row g).type
trailer_or_detail at_paid (adds_z e) = inr refl
trailer_or_detail at_paid (pays x g) = inr (row g).type
trailer_or_detail at_paid closes_paid = inl refl
trailer_or_detail at_behind_z (pays x g) = inr (row g).type
trailer_or_detail at_behind_z closes_behind_z = inl refl

not_last : {p : Phase} → Open p → ended p ≡ true → ⊥
not_last at_within e = never e
not_last at_paid e = never e
not_last at_behind_z e = never e

-- two states in a batch that differ in their cents
record Twins (s s' : Checker) : Type 0 where
  still : Open s.phase
  phases : s.phase ≡ s'.phase
  directions : s.dir ≡ s'.dir
  batches : s.batch ≡ s'.batch
  cents : cent_sum s.current ≢ cent_sum s'.current

-- a detail more
twins_next : {s s' : Checker} (r : Record) (rec : List ℕ) → type_of r ≡ digit_byte 3 → Twins s s' → Twins (next r s rec) (next r s' rec)
unfolding add
twins_next {s} {s'} r rec e w =
    let h = detail_of r e in
    rw (h.moves s rec, h.moves s' rec)
    (record { still = h.stays; phases = refl; directions = w.directions; batches = w.batches; cents = λ q. w.cents (omega arith) })

-- they can't both come to the end
not_twins : (ls : List (List ℕ)) {s s' : Checker} → Twins s s' → Ends s ls → Ends s' ls → ⊥
unfolding AllRead
not_twins [] w e e' = not_last w.still (at_last e)
not_twins (l ∷ ls) {s} {s'} w e e' =
    let rec = record_in l in
    let r = (goes e).0 in
    let g = (goes e).1 in
    let both : line_is s rec ≡ line_is s' rec = rw (w.phases, w.directions, w.batches) in
    let same : (goes e').0 ≡ r = cc (g.read, (goes e').1.read, both) in
    let g' = subst (λ (x : Record). Goes x s' l ls) same (goes e').1 in
    ⊎_elim
    (λ q.
    let f = subst (λ (x : Record). Fits x s l) q g.fitting in
    let f' = subst (λ (x : Record). Fits x s' l) q g'.fitting in
    w.cents (cc (f.numbers.1.1.1.0, f'.numbers.1.1.1.0)))
    (λ t. not_twins ls (twins_next r rec t w) g.rest g'.rest)
    (trailer_or_detail w.still g.follows)

module _ {p : ℕ} {s : Checker} {ls : List (List ℕ)} (l l' : List ℕ) (d : Differ p (record_in l) (record_in l')) where
  -- of a record that has this amount
  not_summed : (r : Record) (f : Field) → type_of r ≡ digit_byte 3 → ((rec : List ℕ) → cents_of r rec ≡ value (part f rec)) → f.to - (f.from - 1) ≤ most_digits
      → all_digits (part f (record_in l)) ≡ true → all_digits (part f (record_in l')) ≡ true → Goes r s l ls → Goes r s l' ls → In f p → ⊥
  unfolding add
  not_summed r f e worth few a a' g g' h =
      let k = detail_of r e in
      let same : cents_of r (record_in l) ≡ cents_of r (record_in l') → ⊥ = λ q. not_worth d f few a a' (sym (worth (record_in l)) ∙ q ∙ worth (record_in l')) h in
      let twins : Twins (next r s (record_in l)) (next r s (record_in l')) = rw (k.moves s (record_in l), k.moves s (record_in l'))
      (record { still = k.stays; phases = refl; directions = refl; batches = refl; cents = λ q. same (omega (arith, together r (record_in l), together r (record_in l'))) }) in
      not_twins ls twins g.rest g'.rest

  pub not_credit : Goes SegmentA s l ls → Goes SegmentA s l' ls → In credit_amount p → ⊥
  unfolding fields_of AllKept
  not_credit g g' =
      not_summed SegmentA credit_amount refl (λ rec. refl) (omega arith) (right_at g.fitting.right 19 (lit≤ tt)).0 (right_at g'.fitting.right 19 (lit≤ tt)).0 g g'

  pub not_collection : Goes SegmentO s l ls → Goes SegmentO s l' ls → In collection_amount p → ⊥
  unfolding fields_of AllKept
  not_collection g g' =
      not_summed SegmentO collection_amount refl (λ rec. refl) (omega arith) (right_at g.fitting.right 11 (lit≤ tt)).0 (right_at g'.fitting.right 11 (lit≤ tt)).0 g g'
