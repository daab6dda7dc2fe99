-- An accepted file, and another that differs from it only inside a field of one line, where it is seen: the other is refused. Assumes nothing.
use Rattle.std.specs.Prelude.{◌≡◌, refl, ◌≢◌, ◌⊎◌, List, ℕ, ◌*◌, ◌-◌, ◌≤◌, ◌<◌, length, Err, Ok, Some, Option}
use Rattle.std.proofs.Common.{sym, ap, ◌∙◌, subst, inl, inr, arith, lit≤, get_or-take}
use Rattle.std.proofs.Math.Decide.{dec_le}
use Rattle.std.proofs.Math.ListN.{get_or-eq_default}
use Rattle.answer.specs.declared.Refusal.{Refusal}
use Rattle.digits.specs.Digits.{digit_byte, place}
use Rattle.layout.specs.Field.{Field}
use Rattle.layout.specs.Records.{type_of}
use Rattle.layout.specs.Table.{record_bytes, bank_field, batch_field, type_place, type_field, number_field, segment_place}
use Rattle.layout.specs.declared.Direction.{Direction}
use Rattle.layout.specs.declared.Record.{Record}
use Rattle.layout.specs.declared.Record.TheVariants.{FileHeader}
use Rattle.layout.specs.declared.pairs.Batch.{Batch}
use Rattle.checker.specs.Line.{line_bytes, record_in, line_is, line_from}
use Rattle.checker.specs.Machine.{start}
use Rattle.files.specs.File.{lines_of, check_file}
use Rattle.checker.specs.Calls.{at_start, left}
use Rattle.checker.proofs.laws.Details.{asked, detail_of}
use Rattle.files.proofs.laws.Verdict.{Passed, accepted_file}
use Rattle.checker.specs.declared.totals.Totals.{Totals}
use Rattle.checker.specs.declared.Checker.{Checker}
use Rattle.files.specs.File.{Outcome}
use Rattle.promises.specs.Grammar.{RightLine}
use Rattle.promises.specs.Guarded.{In, LetterGuarded, line_at, ReadAt}
use Rattle.swaps.specs.Guarded.{AmountIn, credit, nominal, discount, fine, boleto, collection, CountIn, batch-records, batch-sum, file-batches, file-records, GuardedField, line-end, bank, batch-number, line_type, detail_number, letter, fixed, amount, count, Seen, guarded, no_barcode, DifferIn, OtherIn}
use Rattle.promises.proofs.laws.Facts.{either_direction}
use Rattle.swaps.proofs.laws.Differ.{somewhere, slice_same}
use Rattle.promises.proofs.laws.Records.{BankFirst, bank_first}
use Rattle.swaps.proofs.laws.SameLine.{Among, this, later, not_asked, listed_inside, not_fixed, not_letter, letter_loose, type_aside}
use Rattle.swaps.proofs.laws.SameBoleto.{not_amount}
use Rattle.promises.proofs.laws.Behind.{Ends, Goes, goes, behind, by_first}
use Rattle.swaps.proofs.laws.NextLine.{not_bank, not_credit, not_collection}
use Rattle.swaps.proofs.laws.OtherRecord.{one_record}
use Rattle.swaps.proofs.laws.LinesAt.{earlier, rest, split, take_earlier, first_record, split_other, line_differs}

-- read as the record that r is
goes_as : {r r' : Record} {s : Checker} {ls : List (List ℕ)} (l : List ℕ) → r ≡ r' → Goes r s l ls → Goes r' s l ls
goes_as {s = s} {ls = ls} l e g = subst (λ (x : Record). Goes x s l ls) e g

right_as : {r r' : Record} {dir : Direction} (l : List ℕ) → r ≡ r' → RightLine r dir l → RightLine r' dir l
right_as {dir = dir} l e a = subst (λ (x : Record). RightLine x dir l) e a

-- ---- two lines of one record differ in no guarded field

-- what a trailer counts the state gives
count_asked : {f : Field} {r : Record} (s : Checker) → CountIn r f → Among f (asked r s)
count_asked s batch-records = later (later this)
count_asked s batch-sum = later (later (later this))
count_asked s file-batches = later (later this)
count_asked s file-records = later (later (later this))

module _ {s : Checker} {ls : List (List ℕ)} (l l' : List ℕ) where
  -- a number that the state gives
  unread : {f : Field} {r : Record} → Among f (asked r s) → DifferIn f (record_in l) (record_in l') → Goes r s l ls → Goes r s l' ls → ⊥
  unread h d g g' = not_asked l l' d h g.fitting.numbers g'.fitting.numbers

  -- bank and batch number: of the file header the bank is the file's
  bank_unlike : (r : Record) → DifferIn bank_field (record_in l) (record_in l') → Goes r s l ls → Goes r s l' ls → ⊥
  bank_unlike r d g g' = go (bank_first r)
    where
      go : (r ≡ FileHeader) ⊎ BankFirst r → ⊥
      go (inl e) = not_bank l l' d (goes_as l e g) (goes_as l' e g')
      go (inr w) = unread (subst (Among bank_field) (sym (w s).2) this) d g g'

  batch_unlike : (r : Record) → DifferIn batch_field (record_in l) (record_in l') → Goes r s l ls → Goes r s l' ls → ⊥
  batch_unlike r d g g' = go (bank_first r)
    where
      go : (r ≡ FileHeader) ⊎ BankFirst r → ⊥
      go (inl e) = unread (subst (λ (x : Record). Among batch_field (asked x s)) (sym e) this) d g g'
      go (inr w) = unread (subst (Among batch_field) (sym (w s).2) (later this)) d g g'

  amount_unlike : {f : Field} {r : Record} {dir : Direction} → AmountIn r f → DifferIn f (record_in l) (record_in l') → RightLine r dir l → RightLine r dir l'
      → Goes r s l ls → Goes r s l' ls → ⊥
  amount_unlike credit d a a' g g' = not_credit l l' d g g'
  amount_unlike nominal d a a' g g' = not_amount a a' nominal d
  amount_unlike discount d a a' g g' = not_amount a a' discount d
  amount_unlike fine d a a' g g' = not_amount a a' fine d
  amount_unlike boleto d a a' g g' = not_amount a a' boleto d
  amount_unlike collection d a a' g g' = not_collection l l' d g g'

  not_guarded : {f : Field} {r : Record} {dir : Direction} {kind : Option Batch} → GuardedField dir kind r f → f.to ≤ record_bytes → DifferIn f (record_in l) (record_in l')
      → RightLine r dir l → RightLine r dir l' → Goes r s l ls → Goes r s l' ls → ⊥
  not_guarded line-end few d a a' g g' = omega arith
  not_guarded {r = r} bank few d a a' g g' = bank_unlike r d g g'
  not_guarded {r = r} batch-number few d a a' g g' = batch_unlike r d g g'
  not_guarded line_type few d a a' g g' =
      somewhere d (λ q h i. let at : type_place ≡ q = omega arith in subst (λ (q : ℕ). place q (record_in l) ≡ place q (record_in l')) at (g.typed ∙ sym g'.typed))
  not_guarded {r = r} (detail_number e) few d a a' g g' = unread (subst (Among number_field) (sym ((detail_of r e).asks s)) (later (later this))) d g g'
  not_guarded (letter e c) few d a a' g g' = not_letter a a' d e
  not_guarded (fixed m k) few d a a' g g' = not_fixed a a' d m k
  not_guarded (amount m) few d a a' g g' = amount_unlike m d a a' g g'
  not_guarded (count m) few d a a' g g' = unread (count_asked s m) d g g'

  not_seen : {f : Field} {r : Record} {dir : Direction} {kind : Option Batch} → Seen dir kind r l' f → f.to ≤ record_bytes → DifferIn f (record_in l) (record_in l')
      → RightLine r dir l → RightLine r dir l' → Goes r s l ls → Goes r s l' ls → ⊥
  not_seen (guarded h) few d a a' g g' = not_guarded h few d a a' g g'
  not_seen (no_barcode e wrong) few d a a' g g' = wrong (right_as l' e a')

-- ---- where the field stands

-- in the record, or behind it; the type alone; the letter only if it is guarded
pub record Placed (dir : Direction) (kind : Option Batch) (r : Record) (f : Field) : Type 0 where
  pub first : 1 ≤ f.from
  pub last : f.to ≤ line_bytes
  side : (f.to ≤ record_bytes) ⊎ (record_bytes < f.from)
  alone : In f type_place → (f.from ≡ type_place) × (f.to ≡ type_place)
  lettered : type_of r ≡ digit_byte 3 → In f segment_place → LetterGuarded dir kind

-- a field of a payment or a trailer: behind the letter
behind-letter : {dir : Direction} {kind : Option Batch} {r : Record} {f : Field} → segment_place < f.from → f.to ≤ record_bytes → Placed dir kind r f
behind-letter h k = record { first = omega arith; last = omega arith; side = inl k; alone = λ i. absurd (omega arith); lettered = λ e i. absurd (omega arith) }

amount_placed : {dir : Direction} {kind : Option Batch} {r : Record} {f : Field} → AmountIn r f → Placed dir kind r f
amount_placed credit = behind-letter (lit≤ tt) (lit≤ tt)
amount_placed nominal = behind-letter (lit≤ tt) (lit≤ tt)
amount_placed discount = behind-letter (lit≤ tt) (lit≤ tt)
amount_placed fine = behind-letter (lit≤ tt) (lit≤ tt)
amount_placed boleto = behind-letter (lit≤ tt) (lit≤ tt)
amount_placed collection = behind-letter (lit≤ tt) (lit≤ tt)

count_placed : {dir : Direction} {kind : Option Batch} {r : Record} {f : Field} → CountIn r f → Placed dir kind r f
count_placed batch-records = behind-letter (lit≤ tt) (lit≤ tt)
count_placed batch-sum = behind-letter (lit≤ tt) (lit≤ tt)
count_placed file-batches = behind-letter (lit≤ tt) (lit≤ tt)
count_placed file-records = behind-letter (lit≤ tt) (lit≤ tt)

before_letter : {dir : Direction} {kind : Option Batch} {r : Record} (f : Field) → 1 ≤ f.from → f.to < segment_place → (In f type_place → (f.from ≡ type_place) × (f.to ≡ type_place))
    → Placed dir kind r f
before_letter f h k only = record { first = h; last = omega arith; side = inl (omega arith); alone = only; lettered = λ e i. absurd (omega arith) }

pub field_placed : {dir : Direction} {kind : Option Batch} {r : Record} {f : Field} → GuardedField dir kind r f → Placed dir kind r f
field_placed line-end = record { first = lit≤ tt; last = lit≤ tt; side = inr (lit≤ tt); alone = λ i. absurd (omega arith); lettered = λ e i. absurd (omega arith) }
field_placed bank = before_letter bank_field (lit≤ tt) (lit≤ tt) (λ i. absurd (omega arith))
field_placed batch-number = before_letter batch_field (lit≤ tt) (lit≤ tt) (λ i. absurd (omega arith))
field_placed {r = r} line_type = before_letter (type_field r) (lit≤ tt) (lit≤ tt) (λ i. (refl, refl))
field_placed (detail_number e) = before_letter number_field (lit≤ tt) (lit≤ tt) (λ i. absurd (omega arith))
field_placed (letter e c) = record { first = lit≤ tt; last = lit≤ tt; side = inl (lit≤ tt); alone = λ i. absurd (omega arith); lettered = λ e i. c }
field_placed {r = r} (fixed m k) =
    let i = listed_inside r m in
    record { first = omega arith; last = omega arith; side = inl (omega arith); alone = type_aside r m; lettered = λ e j. absurd (letter_loose r e m j k) }
field_placed (amount m) = amount_placed m
field_placed (count m) = count_placed m

placed : {dir : Direction} {kind : Option Batch} {r : Record} {l : List ℕ} {f : Field} → Seen dir kind r l f → Placed dir kind r f
placed (guarded h) = field_placed h
placed (no_barcode e wrong) = behind-letter (lit≤ tt) (lit≤ tt)

-- ---- two lines at one state

-- the file header has no field that goes by the direction
by_direction : {r : Record} {d e : Direction} (l : List ℕ) → (r ≡ FileHeader) ⊎ (d ≡ e) → RightLine r d l → RightLine r e l
by_direction l (inl q) a = right_as l (sym q) (either_direction (right_as l q a))
by_direction {r} l (inr q) a = subst (λ (x : Direction). RightLine r x l) q a

module _ {s : Checker} {ls : List (List ℕ)} {dir : Direction} {r r' : Record} {f : Field} (l l' : List ℕ)
    (g : Goes r s l ls) (g' : Goes r' s l' ls) (d : DifferIn f l l') (seen : Seen dir s.batch r l' f) where
  at : Placed dir s.batch r f
  at = placed seen

  -- one record makes one line
  records_unlike : record_in l ≢ record_in l'
  records_unlike e = d.unlike (g.fitting.right.ended ∙ ap line_from e ∙ sym g'.fitting.right.ended)

  -- so they differ inside the field, if that is in the record
  in_record : f.to ≤ record_bytes → DifferIn f (record_in l) (record_in l')
  in_record few = record { long = g.fitting.right.long ∙ sym g'.fitting.right.long; unlike = records_unlike; elsewhere = λ q h out. go q h out (dec_le q record_bytes) }
    where
      go : (q : ℕ) → 1 ≤ q → (In f q → ⊥) → Dec (q ≤ record_bytes) → place q (record_in l) ≡ place q (record_in l')
      go q h out (yes k) = rw (get_or-take record_bytes l (q - 1) 0 (omega arith), get_or-take record_bytes l' (q - 1) 0 (omega arith)) (d.elsewhere q h out)
      go q h out (no k) =
          get_or-eq_default (record_in l) 0 (omega (arith, g.fitting.right.long))
          ∙ sym (get_or-eq_default (record_in l') 0 (omega (arith, g'.fitting.right.long)))

  -- a letter that may differ is a guarded one
  told : (r ≡ FileHeader) ⊎ (s.dir ≡ dir) → type_of r ≡ digit_byte 3 → In f segment_place → LetterGuarded s.dir s.batch
  told (inl q) e h = absurd (let z : digit_byte 0 ≡ digit_byte 3 = ap type_of (sym q) ∙ e in omega arith)
  told (inr q) e h = rw q (at.lettered e h)

  not_both : (r ≡ FileHeader) ⊎ (s.dir ≡ dir) → ⊥
  not_both dirs = go at.side
    where
      go : (f.to ≤ record_bytes) ⊎ (record_bytes < f.from) → ⊥
      go (inl few) =
          let c = in_record few in
          let h = goes_as l' (sym (one_record l l' c at.alone (told dirs) g g')) g' in
          not_seen l l' seen few c (by_direction l dirs g.fitting.right) (by_direction l' dirs h.fitting.right) g h
      go (inr more) = records_unlike (slice_same d 0 record_bytes (λ q h k i. omega arith))

-- ---- two files

-- an accepted file's lines lead to the end
ends_at : (file : List ℕ) (t : Totals) (ls : List (List ℕ)) → check_file file ≡ Ok t → lines_of file ≡ ls → Ends start ls
ends_at file t ls e q =
    let h = subst (λ (x : List (List ℕ)). Passed start x t) q ((accepted_file file t).0 e) in
    record { reached = at_start; to = h.to; through = h.through; at_end = h.at_end }

-- and a line that is read as this record goes on to it
pub goes_there : (file : List ℕ) (t : Totals) (n : ℕ) {r : Record} → check_file file ≡ Ok t → n * line_bytes < length file → ReadAt n file r
    → Goes r (left start (earlier n file)) (line_at n file) (rest n file)
goes_there file t n {r} e h read =
    let l = line_at n file in
    let found = goes (behind _ (earlier n file) (ends_at file t _ e (split n file h))) in
    let here : line_is (left start (earlier n file)) (record_in l) ≡ Some r = rw (take_earlier n file h) at read in
    goes_as l (cc (found.1.read, here)) found.1

not_both_accepted : (file other : List ℕ) (t t' : Totals) (n : ℕ) (f : Field) → check_file file ≡ Ok t → check_file other ≡ Ok t' → OtherIn file other n f → ⊥
not_both_accepted file other t t' n f e e' o =
    let c = o.seen in
    let at = placed c.so in
    let h : n * line_bytes < length file = omega (arith, c.inside, at.first) in
    let l = line_at n file in
    let there = goes_there file t n e h c.read in
    let found = goes (behind _ (earlier n file) (ends_at other t' _ e' (split_other n f file other o.differ at.first at.last h))) in
    let dirs = rw (first_record n file h) at (by_first (earlier n file) _ (record_in l) (ends_at file t _ e (split n file h)) there.read) in
    not_both l (line_at n other) there found.1 (line_differs n f file other o.differ at.first at.last) (rw (take_earlier n file h) at c.so) dirs

-- other bytes in a field of an accepted file, where they are seen, are refused
pub bytes_refused : (file other : List ℕ) (t : Totals) (n : ℕ) (f : Field) → check_file file ≡ Ok t → OtherIn file other n f → (r : Refusal) × (check_file other ≡ Err r)
bytes_refused file other t n f e o = go (check_file other) refl
  where
    go : (x : Outcome) → check_file other ≡ x → (r : Refusal) × (check_file other ≡ Err r)
    go (Ok t') q = absurd (not_both_accepted file other t t' n f e q o)
    go (Err r) q = (r, q)
