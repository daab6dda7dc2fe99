-- Each way to be guarded has a place in a file that is accepted: none of the list is said of nothing. Assumes nothing.
use Rattle.std.specs.Prelude.{◌≡◌, refl, ℕ, zero, suc, ◌+◌, ◌*◌, ◌≤◌, ◌<◌, length, get_or, Ok, Option}
use mathlib.Core.List.{List, [], ◌∷◌, Memᴰ}
use Rattle.std.proofs.Common.{arith, lit≤}
use Rattle.answer.specs.Rules.{first_broken}
use Rattle.digits.specs.Digits.{digit_byte, place, leading, every_byte, weighed}
use Rattle.digits.specs.Numbers.{number_of}
use Rattle.digits.specs.Checks.{counts, lift, check_digit}
use Rattle.ids.specs.Ids.{characters_fit, id_fits}
use Rattle.calendar.specs.Calendar.{exists, date_fits, time_fits}
use Rattle.calendar.specs.Due.{days_of_years, day_number, due_days, folded, factor_of}
use Rattle.boleto.specs.Collection.{modulus_of}
use Rattle.boleto.specs.Guarded.{GuardedInBarcode}
use Rattle.boleto.specs.Guarded as boleto
use Rattle.layout.specs.Kinds.{same}
use Rattle.layout.specs.Pairs.{batch_of}
use Rattle.layout.specs.Record.{rules_of, clean}
use Rattle.layout.specs.Field.{Kind, Field, none}
use Rattle.layout.specs.Table.{fields_of}
use Rattle.layout.specs.declared.Direction.{Direction}
use Rattle.layout.specs.declared.Record.{Record}
use Rattle.layout.specs.declared.Record.TheVariants.{BatchHeader, SegmentA, SegmentJ, SegmentJ52, SegmentZ, BatchTrailer, FileTrailer, SegmentO}
use Rattle.layout.specs.declared.pairs.Batch.{Batch}
use Rattle.checker.specs.Totals.{add}
use Rattle.checker.specs.Line.{line_bytes, record_in, general_place, within, boleto_rules, collection_rules, rules_of_type, rules_as, type_rules, line_rules, rules_of_line}
use Rattle.checker.specs.Machine.{direction_of, sound, step_of}
use Rattle.files.specs.File.{cut, check_file}
use Rattle.checker.specs.Calls.{left}
use Rattle.checker.specs.declared.totals.Totals.{Totals}
use Rattle.promises.specs.Guarded.{Fixed, LetterGuarded, Guarded, line_at, state_at, ReadAt, GuardedIn}
use Rattle.promises.specs.Guarded as guarded
use Rattle.promises.proofs.laws.AcceptedFiles.{credit_file, credit-file, return_file, return-file}
use Rattle.promises.proofs.laws.CollectionFiles.{collection_file, collection-file, zero_cents_file, zero-cents-file}

-- the ways of the paper's list; in a barcode any place where the general check isn't 1, the currency, the general check
pub data Way : Type 0 where
  line-end first_eight detail_number : Way
  letter-in-remittance letter-of-credits letter-of-boletos : Way
  blanks zeros exact optional : Way
  credit-amount boleto_values boleto-amount collection-amount : Way
  batch_trailer file_trailer : Way
  any-of-barcode currency general-check : Way

-- the way by which a place is guarded
abbrev pub fixed_by : {d : Direction} {k : Kind} → Fixed d k → Way
fixed_by guarded.blanks = blanks
fixed_by guarded.zeros = zeros
fixed_by guarded.exact = exact
fixed_by guarded.optional = optional

abbrev pub barcode_by : {bar : List ℕ} {q : ℕ} → GuardedInBarcode bar q → Way
barcode_by (boleto.all ne low high) = any-of-barcode
barcode_by boleto.currency = currency
barcode_by boleto.check = general-check

abbrev pub letter_by : {d : Direction} {b : Option Batch} → LetterGuarded d b → Way
letter_by guarded.in_remittance = letter-in-remittance
letter_by guarded.of_credits = letter-of-credits
letter_by guarded.of_boletos = letter-of-boletos

abbrev pub way_of : {d : Direction} {b : Option Batch} {r : Record} {l : List ℕ} {p : ℕ} → Guarded d b r l p → Way
way_of (guarded.line-end h) = line-end
way_of (guarded.first_eight h) = first_eight
way_of (guarded.detail_number e h) = detail_number
way_of (guarded.letter e c h) = letter_by c
way_of (guarded.fixed m k h) = fixed_by k
way_of (guarded.credit-amount e h) = credit-amount
way_of (guarded.boleto_values e h) = boleto_values
way_of (guarded.boleto-amount e h) = boleto-amount
way_of (guarded.collection-amount e h) = collection-amount
way_of (guarded.batch_trailer e h) = batch_trailer
way_of (guarded.file_trailer e h) = file_trailer
way_of (guarded.barcode e h q) = barcode_by h

-- a place that is guarded so, in an accepted file
pub record Witness (way : Way) : Type 0 where
  pub file : List ℕ
  pub in_it : Totals
  pub accepted : check_file file ≡ Ok in_it
  pub line : ℕ
  pub at : ℕ
  pub there : GuardedIn file line at
  pub so : way_of there.guarded ≡ way

-- in a line that is read as this record
in_file : {t : Totals} (file : List ℕ) → check_file file ≡ Ok t → (n p : ℕ) (r : Record) → ReadAt n file r → n * line_bytes + p ≤ length file
    → (g : Guarded (direction_of (record_in file)) (state_at n file).batch r (line_at n file) p) → Witness (way_of g)
in_file file e n p r read inside g = record {
  file = file;
  in_it = _;
  accepted = e;
  line = n;
  at = p;
  there = record { which = r; read = read; inside = inside; guarded = g };
  so = refl;
}

-- the field at an index is listed
listed : (fs : List Field) (j : ℕ) → j < length fs → Memᴰ (get_or fs j none) fs
listed [] j h = absurd (omega arith)
listed (f ∷ fs) zero h = Memᴰ.head refl
listed (f ∷ fs) (suc j) h = Memᴰ.tail (listed fs j (omega arith))

-- in line 9, where currency and general check are shown below, the general check is 1
pub check_of_9 : place general_place (line_at 9 return_file) ≡ digit_byte 1
check_of_9 = refl

-- the table: for each way a file, a line, a place and the record that the line is read as
pub every_way : (way : Way) → Witness way
unfolding first_broken leading every_byte weighed counts lift check_digit characters_fit id_fits number_of exists date_fits time_fits days_of_years day_number due_days folded factor_of same batch_of rules_of clean fields_of cut within boleto_rules collection_rules modulus_of rules_of_type rules_as type_rules line_rules rules_of_line sound step_of add left
every_way line-end = in_file return_file return-file 13 242 SegmentZ refl (lit≤ tt) (guarded.line-end (lit≤ tt, lit≤ tt))
every_way first_eight = in_file return_file return-file 12 1 SegmentJ52 refl (lit≤ tt) (guarded.first_eight (lit≤ tt, lit≤ tt))
every_way detail_number = in_file return_file return-file 4 13 SegmentZ refl (lit≤ tt) (guarded.detail_number refl (lit≤ tt, lit≤ tt))
every_way letter-in-remittance = in_file collection_file collection-file 2 14 SegmentO refl (lit≤ tt) (guarded.letter refl guarded.in_remittance refl)
every_way letter-of-credits = in_file return_file return-file 4 14 SegmentZ refl (lit≤ tt) (guarded.letter refl guarded.of_credits refl)
every_way letter-of-boletos = in_file return_file return-file 13 14 SegmentZ refl (lit≤ tt) (guarded.letter refl guarded.of_boletos refl)
every_way blanks = in_file return_file return-file 10 15 SegmentJ52 refl (lit≤ tt) (guarded.fixed (listed (fields_of SegmentJ52) 5 (lit≤ tt)) guarded.blanks (lit≤ tt, lit≤ tt))
every_way zeros = in_file return_file return-file 9 175 SegmentJ refl (lit≤ tt) (guarded.fixed (listed (fields_of SegmentJ) 15 (lit≤ tt)) guarded.zeros (lit≤ tt, lit≤ tt))
every_way exact = in_file return_file return-file 10 19 SegmentJ52 refl (lit≤ tt) (guarded.fixed (listed (fields_of SegmentJ52) 7 (lit≤ tt)) guarded.exact (lit≤ tt, lit≤ tt))
every_way optional =
    in_file credit_file credit-file 1 231 BatchHeader refl (lit≤ tt) (guarded.fixed (listed (fields_of BatchHeader) 23 (lit≤ tt)) guarded.optional (lit≤ tt, lit≤ tt))
every_way credit-amount = in_file return_file return-file 5 130 SegmentA refl (lit≤ tt) (guarded.credit-amount refl (lit≤ tt, lit≤ tt))
every_way boleto_values = in_file return_file return-file 9 120 SegmentJ refl (lit≤ tt) (guarded.boleto_values refl (lit≤ tt, lit≤ tt))
every_way boleto-amount = in_file return_file return-file 11 160 SegmentJ refl (lit≤ tt) (guarded.boleto-amount refl (lit≤ tt, lit≤ tt))
every_way collection-amount = in_file zero_cents_file zero-cents-file 3 122 SegmentO refl (lit≤ tt) (guarded.collection-amount refl (lit≤ tt, lit≤ tt))
every_way batch_trailer = in_file return_file return-file 7 30 BatchTrailer refl (lit≤ tt) (guarded.batch_trailer refl (lit≤ tt, lit≤ tt))
every_way file_trailer = in_file return_file return-file 15 25 FileTrailer refl (lit≤ tt) (guarded.file_trailer refl (lit≤ tt, lit≤ tt))
every_way any-of-barcode =
    in_file return_file return-file 11 40 SegmentJ refl (lit≤ tt)
    (guarded.barcode {q = 23} refl (boleto.all (λ e. let z : digit_byte 2 ≡ digit_byte 1 = e in omega arith) (lit≤ tt) (lit≤ tt)) refl)
every_way currency = in_file return_file return-file 9 21 SegmentJ refl (lit≤ tt) (guarded.barcode refl boleto.currency refl)
every_way general-check = in_file return_file return-file 9 22 SegmentJ refl (lit≤ tt) (guarded.barcode refl boleto.check refl)
