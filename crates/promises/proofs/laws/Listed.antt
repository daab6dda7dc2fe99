-- The guarded places in the paper's own numbers, sentence by sentence: none of its list is left out. Assumes nothing.
use Rattle.std.specs.Prelude.{◌≡◌, refl, ◌≢◌, ◌⊎◌, List, ℕ, ◌-◌, ◌≤◌, Option, Some}
use Rattle.std.proofs.Math.Path.{subst⁻¹}
use Rattle.std.proofs.Common.{inl, inr, arith, lit≤}
use Rattle.std.proofs.Math.Decide.{dec_le}
use Rattle.digits.specs.Digits.{digit_byte, place}
use Rattle.digits.proofs.laws.Strings.{part_get_or}
use Rattle.boleto.specs.Guarded.{all, currency, check}
use Rattle.layout.specs.Field.{K, O, Zeros, Exact, Field, part}
use Rattle.layout.specs.Records.{type_of}
use Rattle.layout.specs.Table.{barcode_field}
use Rattle.layout.specs.declared.Direction.{Direction}
use Rattle.layout.specs.declared.Direction.TheVariants.{Remittance}
use Rattle.layout.specs.declared.Record.{Record}
use Rattle.layout.specs.declared.Record.TheVariants.{SegmentA, SegmentJ, BatchTrailer, FileTrailer, SegmentO}
use Rattle.layout.specs.declared.pairs.Batch.{Batch}
use Rattle.layout.specs.declared.pairs.Batch.TheVariants.{Credit, Boleto}
use Rattle.checker.specs.Line.{record_in}
use Rattle.promises.specs.Guarded.{On, In, FieldOf, Fixed, blanks, zeros, exact, optional, LetterGuarded, in_remittance, of_credits, of_boletos, Guarded, line-end, first_eight, detail_number, letter, fixed, credit-amount, boleto_values, boleto-amount, collection-amount, batch_trailer, file_trailer, barcode}

pub record AsListed (d : Direction) (b : Option Batch) (l : List ℕ) (p : ℕ) : Type 0 where
  pub ends : {r : Record} → On 241 242 p → Guarded d b r l p
  pub every_line : {r : Record} → On 1 8 p → Guarded d b r l p
  pub details : {r : Record} → type_of r ≡ digit_byte 3 → On 9 13 p → Guarded d b r l p
  pub letter_remitted : {r : Record} → type_of r ≡ digit_byte 3 → d ≡ Remittance → p ≡ 14 → Guarded d b r l p
  pub letter_of_two : {r : Record} → type_of r ≡ digit_byte 3 → (b ≡ Some Credit) ⊎ (b ≡ Some Boleto) → p ≡ 14 → Guarded d b r l p
  pub blank : {r : Record} {f : Field} → FieldOf r f → f.kind ≡ K → In f p → Guarded d b r l p
  pub zero : {r : Record} {f : Field} → FieldOf r f → f.kind ≡ Zeros → In f p → Guarded d b r l p
  pub exactly : {r : Record} {f : Field} {bs : List ℕ} → FieldOf r f → f.kind ≡ Exact bs → In f p → Guarded d b r l p
  pub blank_remitted : {r : Record} {f : Field} → FieldOf r f → d ≡ Remittance → f.kind ≡ O → In f p → Guarded d b r l p
  pub amount_of_a : On 120 134 p → Guarded d b SegmentA l p
  pub values_of_j : On 100 144 p → Guarded d b SegmentJ l p
  pub amount_of_j : On 153 167 p → Guarded d b SegmentJ l p
  pub amount_of_o : On 108 122 p → Guarded d b SegmentO l p
  pub batch_trailers : On 18 41 p → Guarded d b BatchTrailer l p
  pub file_trailers : On 18 29 p → Guarded d b FileTrailer l p
  pub all_of_barcode : place 22 (record_in l) ≢ digit_byte 1 → On 18 61 p → Guarded d b SegmentJ l p
  pub currency_and_check : On 21 22 p → Guarded d b SegmentJ l p

-- place 22 of the line is place 5 of the barcode
check_at : (l : List ℕ) → place 5 (part barcode_field (record_in l)) ≡ place 22 (record_in l)
check_at l = part_get_or (record_in l) 17 44 21 0 (lit≤ tt) (lit≤ tt)

pub as_listed : (d : Direction) (b : Option Batch) (l : List ℕ) (p : ℕ) → AsListed d b l p
as_listed d b l p =
    record {
      ends = line-end;
      every_line = first_eight;
      details = detail_number;
      letter_remitted = λ t q h. letter t (rw q in_remittance) h;
      letter_of_two = λ t q h. letter t (of_two q) h;
      blank = λ m e h. fixed m (subst⁻¹ (Fixed d) e blanks) h;
      zero = λ m e h. fixed m (subst⁻¹ (Fixed d) e zeros) h;
      exactly = λ m e h. fixed m (subst⁻¹ (Fixed d) e exact) h;
      blank_remitted = λ m q e h. fixed m (rw (q, e) optional) h;
      amount_of_a = credit-amount refl;
      values_of_j = boleto_values refl;
      amount_of_j = boleto-amount refl;
      amount_of_o = collection-amount refl;
      batch_trailers = batch_trailer refl;
      file_trailers = file_trailer refl;
      all_of_barcode = λ ne h. barcode {q = p - 17} refl (all {p = p - 17} (rw (check_at l) ne) (omega arith) (omega arith)) (omega arith);
      currency_and_check = λ h. one_of (dec_le p 21) h;
    }
  where
    of_two : (b ≡ Some Credit) ⊎ (b ≡ Some Boleto) → LetterGuarded d b
    of_two (inl q) = rw q of_credits
    of_two (inr q) = rw q of_boletos

    one_of : Dec (p ≤ 21) → On 21 22 p → Guarded d b SegmentJ l p
    one_of (yes k) h = barcode refl currency (omega arith)
    one_of (no k) h = barcode refl check (omega arith)
