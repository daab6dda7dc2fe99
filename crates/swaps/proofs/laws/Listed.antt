-- The guarded places in the paper's own numbers, sentence by sentence, and the guarded neighbours in those of request 11: none of its list is left
-- out. Assumes nothing.
use Rattle.std.specs.Prelude.{◌≡◌, refl, ◌≢◌, ◌⊎◌, List, ℕ, suc, ◌-◌, ◌≤◌, Option, Some}
use Rattle.std.proofs.Math.Path.{subst⁻¹}
use Rattle.std.proofs.Common.{inl, inr, arith, lit≤}
use Rattle.std.proofs.Math.Decide.{dec_le}
use Rattle.digits.specs.Digits.{digit_byte, place}
use Rattle.digits.proofs.laws.Strings.{part_get_or}
use Rattle.boleto.specs.Guarded.{all, currency, check}
use Rattle.layout.specs.Field.{K, O, Zeros, Exact, Field, part}
use Rattle.layout.specs.Records.{type_of}
use Rattle.layout.specs.Table.{barcode_field}
use Rattle.layout.specs.declared.Direction.{Direction}
use Rattle.layout.specs.declared.Direction.TheVariants.{Remittance}
use Rattle.layout.specs.declared.Record.{Record}
use Rattle.layout.specs.declared.Record.TheVariants.{SegmentA, SegmentJ, BatchTrailer, FileTrailer, SegmentO}
use Rattle.layout.specs.declared.pairs.Batch.{Batch}
use Rattle.layout.specs.declared.pairs.Batch.TheVariants.{Credit, Boleto}
use Rattle.checker.specs.Line.{record_in}
use Rattle.promises.specs.Guarded.{On, In, FieldOf, Fixed, blanks, zeros, exact, optional, LetterGuarded, in_remittance, of_credits, of_boletos}
use Rattle.swaps.specs.Guarded.{credit, nominal, discount, fine, boleto, collection, batch-records, batch-sum, file-batches, file-records, line-end, bank, batch-number, line_type, detail_number, letter, fixed, amount, count, Guarded, in_field, in_barcode, GuardedPair, both_in_field, both_in_barcode}

pub record AsListed (d : Direction) (b : Option Batch) (l : List ℕ) (p : ℕ) : Type 0 where
  pub ends : {r : Record} → On 241 242 p → Guarded d b r l p
  pub every_line : {r : Record} → On 1 8 p → Guarded d b r l p
  pub details : {r : Record} → type_of r ≡ digit_byte 3 → On 9 13 p → Guarded d b r l p
  pub letter_remitted : {r : Record} → type_of r ≡ digit_byte 3 → d ≡ Remittance → p ≡ 14 → Guarded d b r l p
  pub letter_of_two : {r : Record} → type_of r ≡ digit_byte 3 → (b ≡ Some Credit) ⊎ (b ≡ Some Boleto) → p ≡ 14 → Guarded d b r l p
  pub blank : {r : Record} {f : Field} → FieldOf r f → f.kind ≡ K → In f p → Guarded d b r l p
  pub zero : {r : Record} {f : Field} → FieldOf r f → f.kind ≡ Zeros → In f p → Guarded d b r l p
  pub exactly : {r : Record} {f : Field} {bs : List ℕ} → FieldOf r f → f.kind ≡ Exact bs → In f p → Guarded d b r l p
  pub blank_remitted : {r : Record} {f : Field} → FieldOf r f → d ≡ Remittance → f.kind ≡ O → In f p → Guarded d b r l p
  pub amount_of_a : On 120 134 p → Guarded d b SegmentA l p
  pub values_of_j : On 100 144 p → Guarded d b SegmentJ l p
  pub amount_of_j : On 153 167 p → Guarded d b SegmentJ l p
  pub amount_of_o : On 108 122 p → Guarded d b SegmentO l p
  pub batch_trailers : On 18 41 p → Guarded d b BatchTrailer l p
  pub file_trailers : On 18 29 p → Guarded d b FileTrailer l p
  pub all_of_barcode : place 22 (record_in l) ≢ digit_byte 1 → On 18 61 p → Guarded d b SegmentJ l p
  pub currency_and_check : On 21 22 p → Guarded d b SegmentJ l p

-- place 22 of the line is place 5 of the barcode
check_at : (l : List ℕ) → place 5 (part barcode_field (record_in l)) ≡ place 22 (record_in l)
check_at l = part_get_or (record_in l) 17 44 21 0 (lit≤ tt) (lit≤ tt)

pub as_listed : (d : Direction) (b : Option Batch) (l : List ℕ) (p : ℕ) → AsListed d b l p
as_listed d b l p =
    record {
      ends = in_field line-end;
      every_line = λ h. first_eight (dec_le p 3) (dec_le p 7) h;
      details = λ t h. in_field (detail_number t) h;
      letter_remitted = λ t q h. in_field (letter t (rw q in_remittance)) (omega arith);
      letter_of_two = λ t q h. in_field (letter t (of_two q)) (omega arith);
      blank = λ m e h. in_field (fixed m (subst⁻¹ (Fixed d) e blanks)) h;
      zero = λ m e h. in_field (fixed m (subst⁻¹ (Fixed d) e zeros)) h;
      exactly = λ m e h. in_field (fixed m (subst⁻¹ (Fixed d) e exact)) h;
      blank_remitted = λ m q e h. in_field (fixed m (rw (q, e) optional)) h;
      amount_of_a = in_field (amount credit);
      values_of_j = λ h. value_of_j (dec_le p 114) (dec_le p 129) h;
      amount_of_j = in_field (amount boleto);
      amount_of_o = in_field (amount collection);
      batch_trailers = λ h. of_batch (dec_le p 23) h;
      file_trailers = λ h. of_file (dec_le p 23) h;
      all_of_barcode = λ ne h. in_barcode {q = p - 17} refl (all {p = p - 17} (rw (check_at l) ne) (omega arith) (omega arith)) (omega arith);
      currency_and_check = λ h. one_of (dec_le p 21) h;
    }
  where
    of_two : (b ≡ Some Credit) ⊎ (b ≡ Some Boleto) → LetterGuarded d b
    of_two (inl q) = rw q of_credits
    of_two (inr q) = rw q of_boletos

    one_of : Dec (p ≤ 21) → On 21 22 p → Guarded d b SegmentJ l p
    one_of (yes k) h = in_barcode refl currency (omega arith)
    one_of (no k) h = in_barcode refl check (omega arith)

    -- bank, batch number, type
    first_eight : {r : Record} → Dec (p ≤ 3) → Dec (p ≤ 7) → On 1 8 p → Guarded d b r l p
    first_eight (yes k) m h = in_field bank (h.0, k)
    first_eight (no k) (yes m) h = in_field batch-number (omega arith)
    first_eight (no k) (no m) h = in_field line_type (omega arith)

    -- nominal, discount, fine
    value_of_j : Dec (p ≤ 114) → Dec (p ≤ 129) → On 100 144 p → Guarded d b SegmentJ l p
    value_of_j (yes k) m h = in_field (amount nominal) (h.0, k)
    value_of_j (no k) (yes m) h = in_field (amount discount) (omega arith)
    value_of_j (no k) (no m) h = in_field (amount fine) (omega arith)

    -- count and sum, or two counts
    of_batch : Dec (p ≤ 23) → On 18 41 p → Guarded d b BatchTrailer l p
    of_batch (yes k) h = in_field (count batch-records) (h.0, k)
    of_batch (no k) h = in_field (count batch-sum) (omega arith)

    of_file : Dec (p ≤ 23) → On 18 29 p → Guarded d b FileTrailer l p
    of_file (yes k) h = in_field (count file-batches) (h.0, k)
    of_file (no k) h = in_field (count file-records) (omega arith)

-- ---- the neighbours of request 11, in its own words: p and the place behind it

pub record PairsListed (d : Direction) (b : Option Batch) (l : List ℕ) (p : ℕ) : Type 0 where
  pub amount_of_a : On 120 133 p → GuardedPair d b SegmentA l p
  pub amount_of_j : On 153 166 p → GuardedPair d b SegmentJ l p
  pub nominal_of_j : On 100 113 p → GuardedPair d b SegmentJ l p
  pub discount_of_j : On 115 128 p → GuardedPair d b SegmentJ l p
  pub fine_of_j : On 130 143 p → GuardedPair d b SegmentJ l p
  pub amount_of_o : On 108 121 p → GuardedPair d b SegmentO l p
  pub barcode_of_j : place 22 (record_in l) ≢ digit_byte 1 → On 18 60 p → p ≢ 22 → suc p ≢ 22 → GuardedPair d b SegmentJ l p

pub pairs_listed : (d : Direction) (b : Option Batch) (l : List ℕ) (p : ℕ) → PairsListed d b l p
pairs_listed d b l p =
    record {
      amount_of_a = λ h. both_in_field (amount credit) (omega arith) (omega arith);
      amount_of_j = λ h. both_in_field (amount boleto) (omega arith) (omega arith);
      nominal_of_j = λ h. both_in_field (amount nominal) (omega arith) (omega arith);
      discount_of_j = λ h. both_in_field (amount discount) (omega arith) (omega arith);
      fine_of_j = λ h. both_in_field (amount fine) (omega arith) (omega arith);
      amount_of_o = λ h. both_in_field (amount collection) (omega arith) (omega arith);
      barcode_of_j =
          λ ne h first second.
          both_in_barcode {q = p - 17} refl (record {
            not_one = rw (check_at l) ne;
            from_first = omega arith;
            to_last = omega arith;
            left_not_check = λ e. first (omega arith);
            right_not_check = λ e. second (omega arith);
          }) (omega arith);
    }
