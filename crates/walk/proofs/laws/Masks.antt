-- Where a record's bytes lie between its masks, the rules are kept of each field whose mask is all that they ask. Assumes nothing.
use Rattle.std.specs.Prelude.{◌≡◌, refl, Bool, true, false, cond, ◌&&◌, ◌||◌, leb, ltb, eqb, length, get_or, take, drop, replicate, Ok}
use Rattle.std.proofs.Common.{sym, ap, ◌∙◌, add-zero, le_of_suc-le-suc, not-suc-le-zero, le_antisymm, add-one, leb-true, eq-eqb, eqb→eq, leb→le, drop-cons, get_or-drop, drop-drop, ext_get_or}
use Rattle.std.proofs.Math.Path.{subst}
use mathlib.Core.List.{List, [], ◌∷◌, ◌++◌}
use Prim.Native.Nat.{ℕ, zero, suc, ◌+◌, ◌-◌, ◌≤◌, ◌<◌}
use Rattle.std.proofs.Math.Decide.{dec_lt}
use native.Mathlib.Omega.{arith}
use mathlib.Core.Bool.{and-true}
use Rattle.std.specs.List.{fold, zip}
use Rattle.digits.proofs.laws.Tests.{and_regroup}
use Rattle.std.proofs.lemmas.Bool.{eqb-false}
use Rattle.std.proofs.Math.Dec.{T}
use Rattle.std.proofs.lemmas.List.{length-replicate, get_or-replicate}
use Rattle.answer.specs.Rules.{rule, first_broken}
use Rattle.answer.proofs.laws.Order.{past, done}
use Rattle.digits.specs.Digits.{all_digits}
use Rattle.digits.proofs.laws.Strings.{all_leading}
use Rattle.digits.specs.inner.Rows.{tab}
use Rattle.digits.proofs.laws.Tests.{every, every_at, so}
use Rattle.ids.proofs.laws.Fields.{digits_fit}
use Rattle.layout.specs.inner.Lent.{start_of, kind_count, is_whole, is_mark, first_letter, kind_of, may_be}
use Rattle.layout.specs.Pairs.{among}
use Rattle.layout.specs.Field.{Kind, N, NOrBlank, Id, T as Text, F, D, Time, K, O, Zeros, Exact, OneOf, Service, Form, Barcode, Code, RecordType, Segment, Field, none}
use Rattle.layout.specs.Table.{fields_of, record_bytes, tiles, all}
use Rattle.layout.specs.Kinds.{a_part, registration_at, means, same, one_of, blank}
use Rattle.walk.specs.inner.Masks.{bytes_from, mask_of, domain_mask, highest_in, between, free, lows_of, highs_of, within, Right}
use Rattle.layout.proofs.laws.Bytes.{and_left, and_right, same_self, same_true, length_places}
use Rattle.layout.proofs.laws.Contents.{other_kind}
use Rattle.layout.proofs.laws.Tiling.{tiled, head, ends, All, at}
use Rattle.layout.proofs.laws.Sound.{Sound, sounds}
use Rattle.layout.specs.inner.Entries.{width}
use Rattle.layout.proofs.laws.Columns.{in_record}
use Rattle.layout.specs.declared.Direction.{Direction}
use Rattle.layout.specs.declared.Direction.TheVariants.{Remittance, Return}
use Rattle.layout.specs.declared.Record.{Record}

-- a turn of a loop that tests
pub within_turn : (low high rec : List ℕ) (i : ℕ) → i < length rec
    → within (drop i low) (drop i high) (drop i rec)
    ≡ (leb (get_or low i 0) (get_or rec i 0) && leb (get_or rec i 0) (get_or high i 0)) && within (drop (suc i) low) (drop (suc i) high) (drop (suc i) rec)
unfolding within
within_turn low high rec i h =
    rw (drop-cons rec i 0 h, get_or-drop i low 0 0, get_or-drop i high 0 0, drop-drop 1 i low, drop-drop 1 i high, add-one i, add-zero i)

-- the test of a byte and its bounds, and then of all
abbrev pub fits_so_far : Bool → ℕ × (ℕ × ℕ) → Bool
fits_so_far so_far p = (so_far && leb p.1.0 p.0) && leb p.0 p.1.1

pub fold_within : (so_far : Bool) (low high rec : List ℕ) → length low ≡ length rec → length high ≡ length rec
    → fold fits_so_far so_far (zip rec (zip low high)) ≡ so_far && within low high rec
unfolding within
fold_within so_far low high [] p q = sym (and-true so_far)
fold_within so_far [] high (b ∷ rec) p q = absurd (omega arith)
fold_within so_far (l ∷ low) [] (b ∷ rec) p q = absurd (omega arith)
fold_within so_far (l ∷ low) (h ∷ high) (b ∷ rec) p q =
    fold_within ((so_far && leb l b) && leb b h) low high rec (omega arith) (omega arith) ∙ and_regroup so_far (leb l b) (leb b h) (within low high rec)

-- ---- a field's bytes

-- the bytes at a field's places lie between its lowest and its highest
abbrev Bounded : (ℕ → ℕ) → (ℕ → ℕ) → List ℕ → Type 0
Bounded low high bs = (i : ℕ) → i < length bs → (low i ≤ get_or bs i 0) × (get_or bs i 0 ≤ high i)

-- the first field's bytes, and those behind them
record Front (w : ℕ) (low high : ℕ → ℕ) (lows highs bs : List ℕ) : Type 0 where
  first : Bounded low high (take w bs)
  rest : within lows highs (drop w bs) ≡ true

bounded_cons : (low high : ℕ → ℕ) (b : ℕ) (bs : List ℕ) → (low 0 ≤ b) × (b ≤ high 0) → Bounded (λ i. low (suc i)) (λ i. high (suc i)) bs → Bounded low high (b ∷ bs)
bounded_cons low high b bs p q zero h = p
bounded_cons low high b bs p q (suc i) h = q i (le_of_suc-le-suc h)

front : (w : ℕ) (low high : ℕ → ℕ) (lows highs bs : List ℕ) → within (tab w low ++ lows) (tab w high ++ highs) bs ≡ true → Front w low high lows highs bs
unfolding within
front zero low high lows highs bs e = record { first = λ i h. absurd (not-suc-le-zero h); rest = e }
front (suc w) low high lows highs [] e = record { first = λ i h. absurd (not-suc-le-zero h); rest = refl }
front (suc w) low high lows highs (b ∷ bs) e =
    let here = and_left (leb (low 0) b && leb b (high 0)) _ e in
    let behind = front w (λ i. low (suc i)) (λ i. high (suc i)) lows highs bs (and_right (leb (low 0) b && leb b (high 0)) _ e) in
    let bound : (low 0 ≤ b) × (b ≤ high 0) = (leb-true (low 0) b (and_left (leb (low 0) b) _ here), leb-true b (high 0) (and_right (leb (low 0) b) _ here)) in
    record { first = bounded_cons low high b (take w bs) bound behind.first; rest = behind.rest }

-- ---- a kind's rules

row_among : (n a b : ℕ) → a ≤ b → b ≤ a + n → among b (a ∷ bytes_from n (suc a)) ≡ true
row_among zero a b l h = rw (eq-eqb b a (omega arith))
row_among (suc n) a b l h = go (eqb b a) refl (λ k. row_among n (suc a) b k (omega arith))
  where
    go : (t : Bool) → eqb b a ≡ t → (suc a ≤ b → among b (suc a ∷ bytes_from n (suc (suc a))) ≡ true) → t || among b (suc a ∷ bytes_from n (suc (suc a))) ≡ true
    go true q later = refl
    go false q later = let other = eqb-false b a q in later (omega arith)

module _ (d : Direction) (place : ℕ) (bs whole : List ℕ) where
  kept : (number : ℕ) {test : Bool} → test ≡ true → first_broken (rule number place test ∷ []) ≡ Ok tt
  kept number e = sym (past _ _ _ _ _ e done)

  digits_kept : Bounded (λ i. 48) (λ i. 57) bs → all_digits bs ≡ true
  digits_kept b = eq-eqb _ _ (all_leading bs (record { each = b }))

  -- fixed content
  content_kept : (content : List ℕ) (byte : ℕ → ℕ) → length content ≡ length bs → ((i : ℕ) → i < length bs → get_or content i 0 ≡ byte i) → Bounded byte byte bs → same content bs ≡ true
  content_kept content byte n is b =
      let equal = ext_get_or 0 content bs n (λ i h. is i (rw (← n) h) ∙ le_antisymm (b i (rw (← n) h)).0 (b i (rw (← n) h)).1) in
      rw equal (same_self bs)

  run_kept : (x : ℕ) → Bounded (λ i. x) (λ i. x) bs → same (replicate (length bs) x) bs ≡ true
  run_kept x b = content_kept (replicate (length bs) x) (λ i. x) (length-replicate (length bs) x) (λ i h. get_or-replicate (length bs) i x 0 h) b

  exact_kept : (content : List ℕ) → T (eqb (length bs) (length content)) → Bounded (λ i. get_or content i 0) (λ i. get_or content i 0) bs → same content bs ≡ true
  exact_kept content m b = content_kept content (λ i. get_or content i 0) (sym (eqb→eq _ _ m)) (λ i h. refl) b

  domain_kept : (domain : List ℕ) → T (eqb (length bs) 1) → Bounded (domain_mask domain).low ((domain_mask domain).high d) bs → (domain_mask domain).enough ≡ true → one_of domain bs ≡ true
  domain_kept [] m b e = cc
  domain_kept (x ∷ xs) m b e = go (same (bytes_from (length xs) (suc x)) xs) refl b e
    where
      go : (t : Bool) → same (bytes_from (length xs) (suc x)) xs ≡ t → (let mask = cond t (between x (x + length xs) true) (free false) in Bounded mask.low (mask.high d) bs → mask.enough ≡ true → one_of (x ∷ xs) bs ≡ true)
      go true q b e =
          let one = eqb→eq (length bs) 1 m in
          let bound = b 0 (omega arith) in
          rw (eq-eqb (length bs) 1 one) (subst (λ (l : List ℕ). among (get_or bs 0 0) (x ∷ l) ≡ true) (same_true _ _ q) (row_among (length xs) x (get_or bs 0 0) bound.0 bound.1))
      go false q b e = cc

  blank_kept : (way : Direction) → Bounded (λ i. blank) (λ i. highest_in way) bs → first_broken ((means O).rules (a_part place bs whole way)) ≡ Ok tt
  blank_kept Remittance b = kept 12 (run_kept blank b)
  blank_kept Return b = sym done

  kind_kept : (k : Kind) → T (may_be k (length bs)) → Bounded (mask_of k).low ((mask_of k).high d) bs → (mask_of k).enough ≡ true → first_broken ((means k).rules (a_part place bs whole d)) ≡ Ok tt
  kind_kept N m b e = kept 8 (digits_kept b)
  kind_kept NOrBlank m b e = kept 8 (rw (digits_kept b))
  kind_kept Id m b e = kept 8 (digits_fit (registration_at place whole) bs (leb→le _ _ m) (digits_kept b))
  kind_kept Text m b e = cc
  kind_kept F m b e = sym done
  kind_kept D m b e = cc
  kind_kept Time m b e = cc
  kind_kept K m b e = kept 12 (run_kept blank b)
  kind_kept O m b e = blank_kept d b
  kind_kept Zeros m b e = kept 12 (run_kept 48 b)
  kind_kept (Exact content) m b e = kept 12 (exact_kept content m b)
  kind_kept (OneOf domain) m b e = kept 14 (domain_kept domain m b e)
  kind_kept Service m b e = cc
  kind_kept Form m b e = sym done
  kind_kept Barcode m b e = cc
  kind_kept Code m b e = kept 8 (digits_kept b)
  kind_kept (RecordType x) m b e = kept 6 (exact_kept (x ∷ []) m b)
  kind_kept (Segment x) m b e = kept 11 (exact_kept (x ∷ []) m b)

-- a kind whose number is none of those whose rule asks more than the masks
bytewise : T (every kind_count (λ n. is_whole n || (mask_of (kind_of n)).enough))
unfolding every same
bytewise = tt

pub enough : (n : ℕ) → is_whole n ≡ false → (mask_of (kind_of n)).enough ≡ true
enough n w = go (is_mark n) refl (dec_lt n kind_count)
  where
    mark : (b : Bool) → (mask_of (cond b (RecordType n) (Segment n))).enough ≡ true
    mark true = refl
    mark false = refl

    go : (b : Bool) → is_mark n ≡ b → Dec (n < kind_count) → (mask_of (kind_of n)).enough ≡ true
    go true e k = rw e (mark (ltb n first_letter))
    go false e (yes h) = so _ (rw w at (every_at kind_count _ bytewise n h))
    go false e (no h) = rw (other_kind n e (omega arith))

-- ---- all fields

module _ (d : Direction) (rec : List ℕ) (n : length rec ≡ record_bytes) where
  fields_right : (p : ℕ) (fs : List Field) → 1 ≤ p → T (tiles p fs) → All Sound fs → within (lows_of fs) (highs_of d fs) (drop (p - 1) rec) ≡ true → All (Right d rec) fs
  unfolding All lows_of highs_of
  fields_right p [] l t s e = tt
  fields_right p (f ∷ fs) l t s e =
      let h = head p f fs t in
      let last = ends (suc f.to) fs h.rest in
      let cut = front (width f) _ _ (lows_of fs) (highs_of d fs) (drop (f.from - 1) rec) (rw (← h.starts) at e) in
      let next : f.from - 1 + width f ≡ suc f.to - 1 = omega arith in
      let wide = length_places f.from f.to rec (omega arith) in
      let may = subst (λ (w : ℕ). T (may_be f.kind w)) (sym wide) s.0.may in (
        kind_kept d f.from _ rec f.kind may cut.first,
        fields_right (suc f.to) fs (omega arith) h.rest s.1 (subst (λ (k : ℕ). within (lows_of fs) (highs_of d fs) (drop k rec) ≡ true) next (rw (drop-drop (width f) (f.from - 1) rec) at cut.rest)),
      )

  -- at each field of a record, among all
  pub right_at : (r : Record) → within (lows_of (fields_of r)) (highs_of d (fields_of r)) rec ≡ true
      → (g : ℕ) → start_of r ≤ g → g < start_of r + length (fields_of r) → Right d rec (get_or all g none)
  right_at r e g l h =
      let j = g - start_of r in
      let back : start_of r + j ≡ g = omega arith in
      let here : j < length (fields_of r) = omega arith in
      subst (λ (f : Field). Right d rec f) (sym (ap (λ (k : ℕ). get_or all k none) (sym back) ∙ in_record r j here))
      (at (Right d rec) (fields_of r) (fields_right 1 (fields_of r) (omega arith) (tiled r) (sounds r) e) j here)
