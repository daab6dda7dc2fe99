-- Demand 3: an accepted file with another byte at a guarded place is refused. Assumes nothing.
use Rattle.std.specs.Prelude.{◌≡◌, refl, ◌≢◌, ◌⊎◌, ℕ, zero, suc, ◌+◌, ◌*◌, ◌-◌, ◌≤◌, ◌<◌, length, get_or, take, drop, set, Err, Ok, Some, Option}
use Rattle.std.proofs.Common.{sym, ap, ◌∙◌, subst, inl, inr, arith, length-take, length-drop, length-set, length-append, take-append-drop, length-take-le, take_at, take-take, get_or-take, drop-set-lt, get_or-set_same}
use mathlib.Core.List.{List, [], ◌∷◌, ◌++◌, flatten}
use Rattle.std.proofs.Math.Decide.{dec_le}
use Rattle.std.proofs.lemmas.List.{get_or_at, take-set-le, drop-set-add}
use Rattle.std.proofs.Math.Seq.{take-set-lt}
use Rattle.answer.specs.declared.Refusal.{Refusal}
use Rattle.digits.specs.Digits.{digit_byte, place}
use Rattle.layout.specs.Records.{type_of}
use Rattle.layout.specs.Table.{type_place, segment_place, record_bytes, bank_field, batch_field, number_field}
use Rattle.layout.specs.declared.Direction.{Direction}
use Rattle.layout.specs.declared.Record.{Record}
use Rattle.layout.specs.declared.pairs.Batch.{Batch}
use Rattle.layout.specs.declared.Record.TheVariants.{FileHeader, SegmentJ}
use Rattle.checker.specs.Line.{line_bytes, record_in, line_is, line_from}
use Rattle.checker.specs.Machine.{start}
use Rattle.files.specs.File.{lines_of, check_file}
use Rattle.checker.specs.Calls.{at_start, left}
use Rattle.checker.proofs.laws.Details.{asked, detail_of}
use Rattle.files.proofs.laws.Runs.{no_lines, next_line, lines_append, lines_joined}
use Rattle.files.proofs.laws.Verdict.{Passed, accepted_file}
use Rattle.checker.specs.declared.totals.Totals.{Totals}
use Rattle.checker.specs.declared.Checker.{Checker}
use Rattle.files.specs.File.{Outcome}
use Rattle.promises.specs.Grammar.{RightLine}
use Rattle.promises.specs.Guarded.{On, In, LetterGuarded, Guarded, line-end, first_eight, detail_number, letter, fixed, credit-amount, boleto_values, boleto-amount, collection-amount, batch_trailer, file_trailer, barcode, line_at, GuardedIn, changed}
use Rattle.promises.proofs.laws.Facts.{either_direction}
use Rattle.promises.proofs.laws.Differ.{Differ, stored}
use Rattle.promises.proofs.laws.Records.{BankFirst, bank_first}
use Rattle.promises.proofs.laws.SameLine.{Among, this, later, either, not_asked, listed_inside, not_fixed, not_letter, letter_loose}
use Rattle.promises.proofs.laws.SameBoleto.{in_barcode, not_values, not_paid, not_barcode}
use Rattle.promises.proofs.laws.Behind.{Ends, Goes, goes, behind, by_first}
use Rattle.promises.proofs.laws.NextLine.{not_bank, not_credit, not_collection}
use Rattle.promises.proofs.laws.OtherRecord.{one_record}

-- read as the record that r is
goes_as : {r r' : Record} {s : Checker} {ls : List (List ℕ)} (l : List ℕ) → r ≡ r' → Goes r s l ls → Goes r' s l ls
goes_as {s = s} {ls = ls} l e g = subst (λ (x : Record). Goes x s l ls) e g

right_as : {r r' : Record} {dir : Direction} (l : List ℕ) → r ≡ r' → RightLine r dir l → RightLine r' dir l
right_as {dir = dir} l e a = subst (λ (x : Record). RightLine x dir l) e a

-- ---- two lines of one record differ at no guarded place

module _ {p : ℕ} {r : Record} {s : Checker} {ls : List (List ℕ)} (l l' : List ℕ)
    (d : Differ p (record_in l) (record_in l')) (g : Goes r s l ls) (g' : Goes r s l' ls) where
  -- a number that the state gives
  unread : {r' : Record} → r ≡ r' → Among p (asked r' s) → ⊥
  unread e h = not_asked l l' d h (goes_as l e g).fitting.numbers (goes_as l' e g').fitting.numbers

  -- bank, batch number, type
  not_first : On 1 type_place p → ⊥
  not_first h = go (dec_le p batch_field.to) (dec_le p bank_field.to) (bank_first r)
    where
      go : Dec (p ≤ batch_field.to) → Dec (p ≤ bank_field.to) → (r ≡ FileHeader) ⊎ BankFirst r → ⊥
      go (yes m) k (inr w) = unread refl (subst (Among p) (sym (w s).2) (either refl (h.0, m)))
      go (yes m) (yes k) (inl e) = not_bank l l' d (goes_as l e g) (goes_as l' e g') (h.0, k)
      go (yes m) (no k) (inl e) = let at : In batch_field p = omega arith in unread e (this at)
      go (no m) k w =
          let e : type_place ≡ p = omega arith in
          d.here (subst (λ (q : ℕ). place q (record_in l) ≡ place q (record_in l')) e (g.typed ∙ sym g'.typed))

  -- the number of a detail
  not_number : type_of r ≡ digit_byte 3 → In number_field p → ⊥
  not_number e h = unread refl (subst (Among p) (sym ((detail_of r e).asks s)) (later (later (this h))))

  not_guarded : {dir : Direction} {kind : Option Batch} (b : ℕ) → l' ≡ set l (p - 1) b → b ≢ place p (record_in l) → p ≤ record_bytes
      → RightLine r dir l → RightLine r dir l' → Guarded dir kind r l p → ⊥
  not_guarded b q ne few a a' (line-end h) = omega arith
  not_guarded b q ne few a a' (first_eight h) = not_first h
  not_guarded b q ne few a a' (detail_number e h) = not_number e h
  not_guarded b q ne few a a' (letter e c h) = not_letter d a a' e h
  not_guarded b q ne few a a' (fixed m k h) = not_fixed d a a' m k h
  not_guarded b q ne few a a' (credit-amount e h) = not_credit l l' d (goes_as l e g) (goes_as l' e g') h
  not_guarded b q ne few a a' (boleto_values e h) = not_values d (right_as l e a) (right_as l' e a') h
  not_guarded b q ne few a a' (boleto-amount e h) = not_paid d (right_as l e a) (right_as l' e a') h
  not_guarded b q ne few a a' (collection-amount e h) = not_collection l l' d (goes_as l e g) (goes_as l' e g') h
  not_guarded b q ne few a a' (batch_trailer e h) = unread e (later (later (either refl h)))
  not_guarded b q ne few a a' (file_trailer e h) = unread e (later (later (either refl h)))
  not_guarded {dir} b q ne few a a' (barcode e h at) = not_barcode l p b (right_as l e a) (subst (RightLine SegmentJ dir) q (right_as l' e a')) h at ne

-- a guarded place is a place of a line
counted : {dir : Direction} {kind : Option Batch} {r : Record} {l : List ℕ} {p : ℕ} → Guarded dir kind r l p → (1 ≤ p) × (p ≤ line_bytes)
counted (line-end h) = omega arith
counted (first_eight h) = omega arith
counted (detail_number e h) = omega arith
counted (letter e c h) = omega arith
counted {r = r} (fixed m k h) = let i = listed_inside r m in omega arith
counted (credit-amount e h) = omega arith
counted (boleto_values e h) = omega arith
counted (boleto-amount e h) = omega arith
counted (collection-amount e h) = omega arith
counted (batch_trailer e h) = omega arith
counted (file_trailer e h) = omega arith
counted (barcode e h q) = let i = in_barcode h in omega arith

-- a guarded letter
letter_guarded : {dir : Direction} {kind : Option Batch} {r : Record} {l : List ℕ} {p : ℕ} → Guarded dir kind r l p → type_of r ≡ digit_byte 3 → p ≡ segment_place
    → LetterGuarded dir kind
letter_guarded (line-end h) e q = absurd (omega arith)
letter_guarded (first_eight h) e q = absurd (omega arith)
letter_guarded (detail_number t h) e q = absurd (omega arith)
letter_guarded (letter t c h) e q = c
letter_guarded {r = r} (fixed {f} m k h) e q = absurd (letter_loose r e m (subst (In f) q h) k)
letter_guarded (credit-amount t h) e q = absurd (omega arith)
letter_guarded (boleto_values t h) e q = absurd (omega arith)
letter_guarded (boleto-amount t h) e q = absurd (omega arith)
letter_guarded (collection-amount t h) e q = absurd (omega arith)
letter_guarded (batch_trailer t h) e q = absurd (omega arith)
letter_guarded (file_trailer t h) e q = absurd (omega arith)
letter_guarded (barcode t h x) e q = let i = in_barcode h in absurd (omega arith)

-- ---- two lines at one state

-- the file header has no field that goes by the direction
by_direction : {r : Record} {d e : Direction} (l : List ℕ) → (r ≡ FileHeader) ⊎ (d ≡ e) → RightLine r d l → RightLine r e l
by_direction l (inl q) a = right_as l (sym q) (either_direction (right_as l q a))
by_direction {r} l (inr q) a = subst (λ (x : Direction). RightLine r x l) q a

module _ {s : Checker} {ls : List (List ℕ)} {dir : Direction} {r r' : Record} (l : List ℕ) (p b : ℕ)
    (g : Goes r s l ls) (g' : Goes r' s (set l (p - 1) b) ls) (guarded : Guarded dir s.batch r l p) (ne : b ≢ place p l) where
  at : (1 ≤ p) × (p ≤ line_bytes)
  at = counted guarded

  long : length l ≡ line_bytes
  long = ap length g.fitting.right.ended ∙ (length-append (record_in l) _ ∙ rw g.fitting.right.long)

  -- their records differ at the place
  in_record : p ≤ record_bytes → b ≢ place p (record_in l)
  in_record h = rw (get_or-take record_bytes l (p - 1) 0 (omega (arith, at))) ne

  differ : p ≤ record_bytes → Differ p (record_in l) (record_in (set l (p - 1) b))
  differ h =
      rw (take-set-lt record_bytes l (p - 1) b (omega (arith, at)))
      (stored p b (record_in l) at.0 (omega (arith, long, length-take record_bytes l)) (in_record h))

  -- or the place is that of CR or LF, which are fixed
  not_end : record_bytes < p → ⊥
  not_end h =
      let same = ap line_from (take-set-le record_bytes l (p - 1) b (omega arith)) in
      let back : set l (p - 1) b ≡ l = g'.fitting.right.ended ∙ (same ∙ sym g.fitting.right.ended) in
      ne (sym (get_or-set_same l (p - 1) b 0 (omega (arith, long, at))) ∙ ap (place p) back)

  -- a letter that is changed is a guarded one
  told : (r ≡ FileHeader) ⊎ (s.dir ≡ dir) → type_of r ≡ digit_byte 3 → p ≡ segment_place → LetterGuarded s.dir s.batch
  told (inl q) e h = absurd (let z : digit_byte 0 ≡ digit_byte 3 = ap type_of (sym q) ∙ e in omega arith)
  told (inr q) e h = rw q (letter_guarded guarded e h)

  not_both : (r ≡ FileHeader) ⊎ (s.dir ≡ dir) → ⊥
  not_both dirs = go (dec_le p record_bytes)
    where
      go : Dec (p ≤ record_bytes) → ⊥
      go (yes few) =
          let l' = set l (p - 1) b in
          let d = differ few in
          let h = goes_as l' (sym (one_record l l' d (told dirs) g g')) g' in
          not_guarded l l' d g h b refl (in_record few) few (by_direction l dirs g.fitting.right) (by_direction l' dirs h.fitting.right) guarded
      go (no more) = not_end (omega arith)

-- ---- the lines of a file

-- whole lines are as many
lines_count : (k : ℕ) (a : List ℕ) → length a ≡ k * line_bytes → length (lines_of a) ≡ k
lines_count zero [] e = ap length no_lines
lines_count zero (x ∷ a) e = absurd (omega arith)
lines_count (suc k) a e = ap length (next_line a (omega arith)) ∙ ap suc (lines_count k (drop line_bytes a) (simp length-drop (omega arith)))

-- those before line n, and those behind it
abbrev earlier : ℕ → List ℕ → List (List ℕ)
earlier n file = lines_of (take (n * line_bytes) file)

abbrev rest : ℕ → List ℕ → List (List ℕ)
rest n file = lines_of (drop line_bytes (drop (n * line_bytes) file))

module _ (n : ℕ) (file : List ℕ) (h : n * line_bytes < length file) where
  front_long : length (take (n * line_bytes) file) ≡ n * line_bytes
  front_long = length-take-le (n * line_bytes) file (omega arith)

  split : lines_of file ≡ earlier n file ++ line_at n file ∷ rest n file
  split =
      let back = drop (n * line_bytes) file in
      ap lines_of (sym (take-append-drop (n * line_bytes) file))
      ∙ (lines_append n (take (n * line_bytes) file) back front_long
      ∙ ap (λ (ls : List (List ℕ)). earlier n file ++ ls) (next_line back (simp length-drop (omega arith))))

  -- n lines come before
  take_earlier : take n (lines_of file) ≡ earlier n file
  take_earlier = ap (take n) split ∙ take_at (earlier n file) _ n (lines_count n (take (n * line_bytes) file) front_long)

  -- line n is the one behind them
  pub line_there : get_or (lines_of file) n [] ≡ line_at n file
  line_there = ap (λ (ls : List (List ℕ)). get_or ls n []) split ∙ get_or_at (earlier n file) _ _ [] n (lines_count n (take (n * line_bytes) file) front_long)

  -- their bytes are the first ones of the file
  pub joined_earlier : flatten (take n (lines_of file)) ≡ take (n * line_bytes) file
  joined_earlier = ap flatten take_earlier ∙ lines_joined (take (n * line_bytes) file)

  -- the first line has the file's first record
  first_record : record_in (get_or (earlier n file ++ line_at n file ∷ rest n file) 0 []) ≡ record_in file
  first_record =
      ap (λ (ls : List (List ℕ)). record_in (get_or ls 0 [])) (sym split ∙ next_line file (omega arith)) ∙ take-take record_bytes line_bytes file (omega arith)

-- another byte in a file is another byte in its line
split_changed : (n p b : ℕ) (file : List ℕ) → (1 ≤ p) × (p ≤ line_bytes) → n * line_bytes + p ≤ length file
    → lines_of (changed file n p b) ≡ earlier n file ++ set (line_at n file) (p - 1) b ∷ rest n file
split_changed n p b file at h =
    let m = n * line_bytes in
    let tail = drop m file in
    split n (changed file n p b) (rw length-set (omega arith))
    ∙ rw (
      take-set-le m file (m + (p - 1)) b (omega arith),
      drop-set-add m file (p - 1) b,
      take-set-lt line_bytes tail (p - 1) b (omega arith),
      drop-set-lt line_bytes tail (p - 1) b (omega arith),
    )

-- ---- the theorem

-- an accepted file's lines lead to the end
ends_at : (file : List ℕ) (t : Totals) (ls : List (List ℕ)) → check_file file ≡ Ok t → lines_of file ≡ ls → Ends start ls
ends_at file t ls e q =
    let h = subst (λ (x : List (List ℕ)). Passed start x t) q ((accepted_file file t).0 e) in
    record { reached = at_start; to = h.to; through = h.through; at_end = h.at_end }

not_both_accepted : (file : List ℕ) (t t' : Totals) (n p b : ℕ) → check_file file ≡ Ok t → check_file (changed file n p b) ≡ Ok t'
    → GuardedIn file n p → b ≢ place p (line_at n file) → ⊥
not_both_accepted file t t' n p b e e' g ne =
    let at = counted g.guarded in
    let h : n * line_bytes < length file = omega (arith, g.inside) in
    let xs = earlier n file in
    let l = line_at n file in
    let whole = ends_at file t _ e (split n file h) in
    let other = ends_at (changed file n p b) t' _ e' (split_changed n p b file at g.inside) in
    let read : line_is (left start xs) (record_in l) ≡ Some g.which = rw (take_earlier n file h) at g.read in
    let found = goes (behind _ xs whole) in
    let same : found.0 ≡ g.which = cc (found.1.read, read) in
    let dirs = rw (first_record n file h) at (by_first xs _ (record_in l) whole read) in
    not_both l p b (goes_as l same found.1) (goes (behind _ xs other)).1 (rw (take_earlier n file h) at g.guarded) ne dirs

pub change_refused : (file : List ℕ) (t : Totals) (n p b : ℕ) → check_file file ≡ Ok t → GuardedIn file n p → b ≢ place p (line_at n file)
    → (r : Refusal) × (check_file (changed file n p b) ≡ Err r)
change_refused file t n p b e g ne = go (check_file (changed file n p b)) refl
  where
    go : (o : Outcome) → check_file (changed file n p b) ≡ o → (r : Refusal) × (check_file (changed file n p b) ≡ Err r)
    go (Ok t') q = absurd (not_both_accepted file t t' n p b e q g ne)
    go (Err r) q = (r, q)
