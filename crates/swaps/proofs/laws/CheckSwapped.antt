-- The general check of a J swapped with the first digit of its due factor, when it isn't 1: where the check does not see it, the due date does, and the file is
-- refused. Assumes nothing.
use Rattle.std.specs.Prelude.{◌≡◌, refl, ◌≢◌, true, ◌||◌, List, [], ◌∷◌, ℕ, suc, ◌+◌, ◌*◌, ◌≤◌, eqb, length, get_or, drop, set, Err, Ok}
use Rattle.std.proofs.Common.{sym, ap, ◌∙◌, arith, eqb-true, eq-eqb, ne_eqb, lit≤, length-set, length-take, length-drop, get_or-take, get_or-drop, get_or-set_same}
use Rattle.answer.specs.Rules.{AllKept}
use Rattle.answer.specs.declared.Refusal.{Refusal}
use Rattle.digits.specs.Digits.{digit_byte, place, swapped, weighed, leading}
use Rattle.digits.specs.Numbers.{value}
use Rattle.digits.proofs.laws.Strings.{Digits, all_leading, digits_take, digits_drop}
use Rattle.calendar.specs.Calendar.{date_of}
use Rattle.calendar.specs.Due.{no_due_date, factor_of}
use Rattle.boleto.specs.Strings.{barcode_check, factor_digits}
use Rattle.boleto.specs.Guarded.{SwapUnseen, equal, six, nine}
use Rattle.boleto.proofs.laws.Accepted.{Barcode, barcode-of}
use Rattle.boleto.proofs.laws.CheckSwap.{check_swap}
use Rattle.layout.specs.Field.{part}
use Rattle.layout.specs.Table.{barcode_field, due_field}
use Rattle.layout.specs.declared.Direction.{Direction}
use Rattle.layout.specs.declared.Record.TheVariants.{SegmentJ}
use Rattle.checker.specs.Line.{line_bytes, record_in, general_place, factor_place, boleto_rules}
use Rattle.checker.specs.Machine.{start, direction_of}
use Rattle.checker.specs.Calls.{left}
use Rattle.files.specs.File.{check_file}
use Rattle.checker.specs.declared.totals.Totals.{Totals}
use Rattle.promises.specs.Grammar.{RightLine}
use Rattle.promises.specs.Guarded.{line_at, ReadAt}
use Rattle.swaps.specs.Guarded.{no_barcode, swapped_at, DifferIn, in_line}
use Rattle.swaps.proofs.laws.Differ.{value_same, kept}
use Rattle.swaps.proofs.laws.SameBoleto.{barcode_accepted}
use Rattle.swaps.proofs.laws.LinesAt.{earlier, part_there}
use Rattle.swaps.proofs.laws.Change.{barcode_at, byte_of, swapped_barcode, refused_by, right-line, swap_differs}

-- ---- four digits of a due factor

record Four (ds : List ℕ) : Type 0 where
  long : length ds ≡ 4
  digits : Digits ds

same_factor : {ds es : List ℕ} → Four ds → Four es → value ds ≡ value es → get_or ds 0 0 ≡ get_or es 0 0
same_factor {ds} {es} a b v =
    ap (λ (xs : List ℕ). get_or xs 0 0)
    (value_same ds es (a.long ∙ sym b.long) (omega (arith, a.long)) (eq-eqb _ _ (all_leading ds a.digits)) (eq-eqb _ _ (all_leading es b.digits)) v)

-- one that does not begin with 0 is not 0
not_none : {ds : List ℕ} → Four ds → get_or ds 0 0 ≢ digit_byte 0 → value ds ≢ 0
unfolding weighed leading
not_none {ds} a ne e =
    let zeros = digit_byte 0 ∷ digit_byte 0 ∷ digit_byte 0 ∷ digit_byte 0 ∷ [] in
    ne (ap (λ (xs : List ℕ). get_or xs 0 0) (value_same ds zeros a.long (omega (arith, a.long)) (eq-eqb _ _ (all_leading ds a.digits)) refl e))

of_barcode : (bar : List ℕ) → Barcode bar → Four (factor_digits bar)
of_barcode bar b = record { long = simp (length-take, length-drop) (omega (arith, b.long)); digits = digits_take 4 (digits_drop 5 b.digits) }

first_of : (bar : List ℕ) → get_or (factor_digits bar) 0 0 ≡ get_or bar 5 0
first_of bar = get_or-take 4 (drop 5 bar) 0 0 (lit≤ tt) ∙ get_or-drop 5 bar 0 0

-- ---- a factor other than 0 is the due date's

factor_due : {d : Direction} (l : List ℕ) → RightLine SegmentJ d l → let factor = value (factor_digits (part barcode_field (record_in l))) in
    factor ≢ 0 → factor ≡ factor_of (date_of (value (part due_field (record_in l))))
unfolding boleto_rules AllKept
factor_due l a ne =
    let kept : no_due_date (value (factor_digits (part barcode_field (record_in l)))) || eqb (value (factor_digits (part barcode_field (record_in l)))) (factor_of (date_of (value (part due_field (record_in l))))) ≡ true = a.house.1.0 in
    eqb-true _ _ (rw (ne_eqb _ 0 ne) at kept)

-- ---- the theorem

module _ (file : List ℕ) (t : Totals) (n : ℕ) (e : check_file file ≡ Ok t) (read : ReadAt n file SegmentJ) (inside : n * line_bytes + factor_place ≤ length file) where
  abbrev bar : List ℕ
  bar = barcode_at n file

  abbrev other : List ℕ
  other = swapped_at file n general_place

  right : RightLine SegmentJ (left start (earlier n file)).dir (line_at n file)
  right = right-line file t n general_place e read (lit≤ tt) (omega arith) refl

  check_is : place barcode_check bar ≡ place general_place (line_at n file)
  check_is = byte_of n general_place barcode_check file refl (lit≤ tt) (lit≤ tt)

  first_is : place (suc barcode_check) bar ≡ place factor_place (line_at n file)
  first_is = byte_of n factor_place (suc barcode_check) file refl (lit≤ tt) (lit≤ tt)

  now_is : barcode_at n other ≡ swapped barcode_check bar
  now_is = swapped_barcode n general_place barcode_check file refl (lit≤ tt) (lit≤ tt) (lit≤ tt)

  module _ (unlike : place general_place (line_at n file) ≢ place factor_place (line_at n file)) where
    differ : DifferIn (in_line n barcode_field) file other
    differ = swap_differs file t n general_place e barcode_field (lit≤ tt, lit≤ tt) (lit≤ tt, lit≤ tt) (lit≤ tt) (lit≤ tt) inside unlike

    due : part due_field (record_in (line_at n file)) ≡ part due_field (record_in (line_at n other))
    due =
        part_there n due_field file (lit≤ tt) (lit≤ tt) (lit≤ tt)
        ∙ kept differ (in_line n due_field) (λ q h i k. omega arith)
        ∙ sym (part_there n due_field other (lit≤ tt) (lit≤ tt) (lit≤ tt))

    -- a factor that begins with 1 and one that begins with another digit but 0 are not of one due date
    two_factors : {d : Direction} (c : ℕ) → place barcode_check bar ≡ c → place (suc barcode_check) bar ≡ digit_byte 1 → c ≢ digit_byte 0 → c ≢ digit_byte 1
        → RightLine SegmentJ d (line_at n other) → ⊥
    two_factors c q one nz other-digit a =
        let b = barcode-of bar (barcode_accepted (line_at n file) right) in
        let b' = barcode-of (barcode_at n other) (barcode_accepted (line_at n other) a) in
        let was : get_or (factor_digits bar) 0 0 ≡ digit_byte 1 = first_of bar ∙ one in
        let last = set bar 4 (place (suc barcode_check) bar) in
        let now : get_or (factor_digits (barcode_at n other)) 0 0 ≡ c =
        first_of (barcode_at n other) ∙ ap (λ (x : List ℕ). get_or x 5 0) now_is ∙ get_or-set_same last 5 (place barcode_check bar) 0 (rw length-set (omega (arith, b.long))) ∙ q in
        let v = factor_due (line_at n file) right (not_none (of_barcode bar b) (λ z. let y : digit_byte 1 ≡ digit_byte 0 = sym was ∙ z in omega arith)) in
        let v' = factor_due (line_at n other) a (not_none (of_barcode (barcode_at n other) b') (λ z. nz (sym now ∙ z))) in
        let one_value = v ∙ ap (λ (ds : List ℕ). factor_of (date_of (value ds))) due ∙ sym v' in
        other-digit (sym now ∙ sym (same_factor (of_barcode bar b) (of_barcode (barcode_at n other) b') one_value) ∙ was)

    pub check_swap_refused : place general_place (line_at n file) ≢ digit_byte 1 → (r : Refusal) × (check_file (swapped_at file n general_place) ≡ Err r)
    check_swap_refused not_one = refused_by file t n general_place e other read (omega arith) (lit≤ tt, lit≤ tt) (no_barcode refl wrong) differ
      where
        wrong : RightLine SegmentJ (direction_of (record_in file)) (line_at n other) → ⊥
        wrong a = go ((check_swap bar (barcode_accepted (line_at n file) right) (rw check_is not_one)).0 (rw now_is at (barcode_accepted (line_at n other) a)))
          where
            go : SwapUnseen bar → ⊥
            go (equal q) = unlike (sym check_is ∙ q ∙ first_is)
            go (six q one) = two_factors (digit_byte 6) q one (λ z. omega arith) (λ z. omega arith) a
            go (nine q one) = two_factors (digit_byte 9) q one (λ z. omega arith) (λ z. omega arith) a
