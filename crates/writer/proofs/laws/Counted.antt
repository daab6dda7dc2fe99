-- The checker counts what an accepted call puts in. Assumes nothing.
use Rattle.std.specs.Prelude.{◌≡◌, refl, true, List, [], ◌∷◌, ℕ, suc, ◌+◌, ◌-◌, ◌<◌, eqb, length, drop, Ok, Some}
use Rattle.std.proofs.Common.{sym, ap, ap₂, ◌∙◌, arith, ltb-true, le-leb, lit≤}
use Rattle.answer.specs.Limits.{file_cents}
use Rattle.answer.specs.Rules.{AllKept}
use Rattle.digits.specs.Digits.{place}
use Rattle.digits.specs.Numbers.{number_of, value}
use Rattle.digits.proofs.laws.Strings.{one_place}
use Rattle.digits.proofs.laws.Numerals.{digit_told, given as digits_of}
use Rattle.layout.specs.Records.{credit_amount, boleto_amount, collection_amount}
use Rattle.layout.specs.Field.{Field, part}
use Rattle.layout.specs.Table.{fields_of, record_bytes, movement_field}
use Rattle.layout.specs.Names.{before, index_of}
use Rattle.layout.specs.declared.Record.{Record}
use Rattle.layout.specs.declared.Record.TheVariants.{SegmentA, SegmentJ, SegmentO}
use Rattle.layout.proofs.laws.Records.{by_amount}
use Rattle.fields.specs.Values.{of_record, nth, or_zero}
use Rattle.fields.specs.declared.Fields.{Fields}
use Rattle.checker.specs.Totals.{tally, bare, none, add, cent_sum, withdrawal, withdraws, counts, cents_of}
use Rattle.checker.proofs.laws.Sums.{both_parts, InAll, same_totals, add_none, add_assoc, counted, next_counts}
use Rattle.checker.specs.declared.totals.Totals.{Totals}
use Rattle.checker.specs.declared.Checker.{Checker}
use Rattle.writer.specs.Given.{Call, open_file, open_batch, pay, close_batch, close_file, first_in, later_in, records_of, amount_of, amount_in, withdraws_as, is_withdrawn, one_payment}
use Rattle.filling.specs.Filling.{bytes_of}
use Rattle.writer.specs.Refusals.{expected_in_payment, expected_in, cents_so_far, sum_rules}
use Rattle.writer.specs.inner.Steps.{expected_at}
use Rattle.writer.specs.Outcome.{behind_all, answer_of}
use Rattle.writer.specs.Calls.{AllWhole, put_by}
use Rattle.writer.specs.declared.given.Payment.{Payment}
use Rattle.writer.specs.declared.Writer.{Writer}
use Rattle.writer.proofs.laws.Expected.{expected, counts_as, first_counts, later_counts}
use Rattle.writer.proofs.laws.Paying.{drop_one}
use Rattle.writer.proofs.laws.Accepted as accepted
use Rattle.writer.proofs.laws.Accepted.{kept, Right, Rights, rights}
use Rattle.writer.proofs.laws.Reads.{stands_at, GivenAt, number_given}
use Rattle.writer.proofs.laws.Lines.{bytes_length}

-- ---- one record

value_is : (bs : List ℕ) (n : ℕ) → number_of bs ≡ Some n → value bs ≡ n
value_is bs n e = let g = digits_of bs n e in rw (le-leb (length bs) _ g.few) (sym g.is)

-- what the caller gives of a payment
amount_in_a : GivenAt SegmentA credit_amount
unfolding fields_of index_of before
amount_in_a = record { stands = stands_at _ _ (lit≤ tt) refl; number = refl; unfilled = λ s. refl }

amount_in_j : GivenAt SegmentJ boleto_amount
unfolding fields_of index_of before
amount_in_j = record { stands = stands_at _ _ (lit≤ tt) refl; number = refl; unfilled = λ s. refl }

amount_in_o : GivenAt SegmentO collection_amount
unfolding fields_of index_of before
amount_in_o = record { stands = stands_at _ _ (lit≤ tt) refl; number = refl; unfilled = λ s. refl }

movement_in_a : GivenAt SegmentA movement_field
unfolding fields_of index_of before
movement_in_a = record { stands = stands_at _ _ (lit≤ tt) refl; number = refl; unfilled = λ s. refl }

movement_in_j : GivenAt SegmentJ movement_field
unfolding fields_of index_of before
movement_in_j = record { stands = stands_at _ _ (lit≤ tt) refl; number = refl; unfilled = λ s. refl }

movement_in_o : GivenAt SegmentO movement_field
unfolding fields_of index_of before
movement_in_o = record { stands = stands_at _ _ (lit≤ tt) refl; number = refl; unfilled = λ s. refl }

-- the byte says withdrawn exactly if the number that it is read as does
told : (rec : List ℕ) (n : ℕ) → length rec ≡ record_bytes → number_of (part movement_field rec) ≡ Some n → withdraws rec ≡ eqb n withdrawal
told rec n long e = digit_told (place movement_field.from rec) n withdrawal (rw (one_place (movement_field.from - 1) rec (omega arith)) at e)

module _ {expected : List Record} {s : Checker} {r : Record} (v : Fields) (t : Right expected s (of_record r v)) where
  -- the amount is read as it was given, and so is whether the payment is withdrawn
  same_amount : {f : Field} → GivenAt r f → value (part f (bytes_of s (of_record r v))) ≡ or_zero (nth (index_of r f) v)
  same_amount g = value_is _ _ (number_given v t.well g)

  same_movement : GivenAt r movement_field → withdraws (bytes_of s (of_record r v)) ≡ withdraws_as r v
  same_movement g = told (bytes_of s (of_record r v)) _ (bytes_length s (of_record r v) t.well.whole) (number_given v t.well g)

-- the amount that is read is the one that was given
abbrev AmountIs : Record → Type 0
AmountIs r = (expected : List Record) (s : Checker) (v : Fields) → Right expected s (of_record r v) → cents_of r (bytes_of s (of_record r v)) ≡ amount_of r v

pub amount_is : {expected : List Record} {s : Checker} (r : Record) (v : Fields) → Right expected s (of_record r v) → cents_of r (bytes_of s (of_record r v)) ≡ amount_of r v
amount_is {expected} {s} r v t =
    by_amount AmountIs (λ r e expected s v t. rw e) (λ expected s v t. same_amount v t amount_in_a) (λ expected s v t. same_amount v t amount_in_j)
    (λ expected s v t. same_amount v t amount_in_o) r expected s v t

-- and a line counts what its record was given to count
abbrev CountsIs : Record → Type 0
CountsIs r = (expected : List Record) (s : Checker) (v : Fields) → Right expected s (of_record r v) → counts r (bytes_of s (of_record r v)) ≡ counts_as r v

counts_is : {expected : List Record} {s : Checker} (r : Record) (v : Fields) → Right expected s (of_record r v) → counts r (bytes_of s (of_record r v)) ≡ counts_as r v
counts_is {expected} {s} r v t =
    by_amount CountsIs (λ r e expected s v t. rw e) (λ expected s v t. ap₂ (one_payment 1) (same_movement v t movement_in_a) (same_amount v t amount_in_a))
    (λ expected s v t. ap₂ (one_payment 1) (same_movement v t movement_in_j) (same_amount v t amount_in_j))
    (λ expected s v t. ap₂ (one_payment 1) (same_movement v t movement_in_o) (same_amount v t amount_in_o)) r expected s v t

-- ---- records one behind the other

unfoldable counts_all : List Fields → Totals
counts_all [] = none
counts_all (g ∷ gs) = add (counts_as g.which g) (counts_all gs)

all_counted : {expected : List (List Record)} {s : Checker} {gs : List Fields} → Rights expected s gs → counted (behind_all s gs) ≡ add (counted s) (counts_all gs)
unfolding behind_all counts_all
all_counted {s = s} accepted.none = sym (add_none (counted s))
all_counted {s = s} (accepted.more {g = g} t rs) =
    all_counted rs ∙ rw (next_counts g.which s (bytes_of s g), counts_is g.which g t) (add_assoc (counted s) _ _)

-- a payment's are one payment, which the first counts
later_counted : (s : Checker) {t : Checker} (n : ℕ) {expects : List (List Record)} {gs : List Fields} → expects ≡ drop (suc n) (expected_in_payment s) → Rights expects t gs
    → counts_all gs ≡ bare 0 (length gs)
unfolding counts_all add
later_counted s n q accepted.none = refl
later_counted s n q (accepted.more {g = g} {gs = later} x on) =
    let there : expected_at (suc n) s.dir s.batch g.which ≡ true = rw (← q) x.is_expected in
    let one = later_counts (expected s.dir s.batch (suc n) g.which there) g in
    let others : counts_all later ≡ bare 0 (length later) = later_counted s (suc n) (ap (drop 1) q ∙ drop_one (suc n) (expected_in_payment s)) on in
    ap₂ add one others ∙ same_totals (omega arith)

payment_counts : (s : Checker) (g : Fields) (gs : List Fields) → Rights (expected_in_payment s) s (g ∷ gs)
    → counts_all (g ∷ gs) ≡ one_payment (length (g ∷ gs)) (withdraws_as g.which g) (amount_of g.which g)
unfolding counts_all add
payment_counts s g gs (accepted.more x on) =
    let one = first_counts (expected s.dir s.batch 0 g.which x.is_expected) g in
    ap₂ add one (later_counted s 0 refl on) ∙ same_totals (omega arith)

-- ---- a call

pub call_counted : (w : Writer) (c : Call) (out : List ℕ) → AllWhole (records_of c) → answer_of w c out ≡ Ok tt
    → counted (behind_all w.checker (records_of c)) ≡ add (counted w.checker) (put_by c)
unfolding counts_all
call_counted w c out whole e = all_counted rs ∙ ap (add (counted s)) (puts c rs)
  where
    s : Checker
    s = w.checker

    rs : Rights (expected_in c s) s (records_of c)
    rs = rights (expected_in c s) s whole (kept w c out e).records

    puts : (c : Call) → Rights (expected_in c s) s (records_of c) → counts_all (records_of c) ≡ put_by c
    puts (open_file v) rs = add_none _
    puts (open_batch v) rs = add_none _
    puts (pay p) rs = payment_counts s (first_in p) (later_in p) rs
    puts (close_batch v) rs = add_none _
    puts (close_file v) rs = add_none _

-- live or withdrawn, a payment puts in one payment and its amount
pub put_together : (p : Payment) → InAll 1 (amount_in p) (put_by (pay p))
put_together p = let t = both_parts (is_withdrawn p) (tally 1 (amount_in p)) in record { payments_are = t.0; cents_are = t.1 }

-- an accepted call leaves the sum of the file below its limit
pub call_cents : (w : Writer) (c : Call) (out : List ℕ) → AllWhole (records_of c) → answer_of w c out ≡ Ok tt
    → cents_so_far w.checker < file_cents → cents_so_far (behind_all w.checker (records_of c)) < file_cents
unfolding add AllKept
call_cents w c out h e l = omega (arith, ap cent_sum (call_counted w c out h e), few c (kept w c out e).sums)
  where
    few : (c : Call) → AllKept (sum_rules c w.checker) → cents_so_far w.checker + cent_sum (put_by c) < file_cents
    few (open_file v) k = omega arith
    few (open_batch v) k = omega arith
    few (pay p) k = omega (arith, put_together p, ltb-true (cents_so_far w.checker + amount_in p) file_cents k.0)
    few (close_batch v) k = omega arith
    few (close_file v) k = omega arith
