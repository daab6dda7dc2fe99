-- Each way to be guarded has a place in a file that is accepted: none of the list is said of nothing. Assumes nothing.
use Rattle.std.specs.Prelude.{◌≡◌, refl, ℕ, zero, suc, ◌+◌, ◌*◌, ◌≤◌, ◌<◌, length, get_or, Ok, Option}
use mathlib.Core.List.{List, [], ◌∷◌, Memᴰ}
use Rattle.std.proofs.Common.{arith, lit≤}
use Rattle.answer.specs.Rules.{first_broken}
use Rattle.digits.specs.Digits.{digit_byte, place, leading, every_byte, weighed}
use Rattle.digits.specs.Numbers.{number_of}
use Rattle.digits.specs.Checks.{counts, lift, check_digit}
use Rattle.ids.specs.Ids.{characters_fit, id_fits}
use Rattle.calendar.specs.Calendar.{exists, date_fits, time_fits}
use Rattle.calendar.specs.Due.{days_of_years, day_number, due_days, folded, factor_of}
use Rattle.boleto.specs.Collection.{modulus_of}
use Rattle.boleto.specs.Guarded.{GuardedInBarcode}
use Rattle.boleto.specs.Guarded as boletos
use Rattle.layout.specs.Kinds.{same}
use Rattle.layout.specs.Pairs.{batch_of}
use Rattle.layout.specs.Record.{rules_of, clean}
use Rattle.layout.specs.Field.{Kind, Field, none}
use Rattle.layout.specs.Table.{fields_of}
use Rattle.layout.specs.declared.Direction.{Direction}
use Rattle.layout.specs.declared.Record.{Record}
use Rattle.layout.specs.declared.Record.TheVariants.{BatchHeader, SegmentA, SegmentJ, SegmentJ52, SegmentZ, BatchTrailer, FileTrailer, SegmentO}
use Rattle.layout.specs.declared.pairs.Batch.{Batch}
use Rattle.checker.specs.Totals.{add}
use Rattle.checker.specs.Line.{line_bytes, record_in, general_place, within, boleto_rules, collection_rules, rules_of_type, rules_as, type_rules, line_rules, rules_of_line}
use Rattle.checker.specs.Machine.{direction_of, sound, step_of}
use Rattle.files.specs.File.{cut, check_file}
use Rattle.checker.specs.Calls.{left}
use Rattle.checker.specs.declared.totals.Totals.{Totals}
use Rattle.promises.specs.Guarded.{Fixed, LetterGuarded, line_at, state_at, ReadAt}
use Rattle.swaps.specs.Guarded.{AmountIn, CountIn, GuardedField, Guarded, GuardedIn}
use Rattle.swaps.specs.Guarded as guarded
use Rattle.promises.specs.Guarded as kinds
use Rattle.promises.proofs.laws.AcceptedFiles.{credit_file, credit-file, return_file, return-file}
use Rattle.promises.proofs.laws.CollectionFiles.{collection_file, collection-file, zero_cents_file, zero-cents-file}

-- the ways of the paper's list; in a barcode any place where the general check isn't 1, the currency, the general check
pub data Way : Type 0 where
  line-end bank batch-number line_type detail_number : Way
  letter-in-remittance letter-of-credits letter-of-boletos : Way
  blanks zeros exact optional : Way
  credit nominal discount fine boleto collection : Way
  batch-records batch-sum file-batches file-records : Way
  any-of-barcode currency general-check : Way

-- the way by which a field or a place is guarded
abbrev pub fixed_by : {d : Direction} {k : Kind} → Fixed d k → Way
fixed_by kinds.blanks = blanks
fixed_by kinds.zeros = zeros
fixed_by kinds.exact = exact
fixed_by kinds.optional = optional

abbrev pub letter_by : {d : Direction} {b : Option Batch} → LetterGuarded d b → Way
letter_by kinds.in_remittance = letter-in-remittance
letter_by kinds.of_credits = letter-of-credits
letter_by kinds.of_boletos = letter-of-boletos

abbrev pub amount_by : {r : Record} {f : Field} → AmountIn r f → Way
amount_by guarded.credit = credit
amount_by guarded.nominal = nominal
amount_by guarded.discount = discount
amount_by guarded.fine = fine
amount_by guarded.boleto = boleto
amount_by guarded.collection = collection

abbrev pub count_by : {r : Record} {f : Field} → CountIn r f → Way
count_by guarded.batch-records = batch-records
count_by guarded.batch-sum = batch-sum
count_by guarded.file-batches = file-batches
count_by guarded.file-records = file-records

abbrev pub field_by : {d : Direction} {b : Option Batch} {r : Record} {f : Field} → GuardedField d b r f → Way
field_by guarded.line-end = line-end
field_by guarded.bank = bank
field_by guarded.batch-number = batch-number
field_by guarded.line_type = line_type
field_by (guarded.detail_number e) = detail_number
field_by (guarded.letter e c) = letter_by c
field_by (guarded.fixed m k) = fixed_by k
field_by (guarded.amount m) = amount_by m
field_by (guarded.count m) = count_by m

abbrev pub barcode_by : {bar : List ℕ} {q : ℕ} → GuardedInBarcode bar q → Way
barcode_by (boletos.all ne low high) = any-of-barcode
barcode_by boletos.currency = currency
barcode_by boletos.check = general-check

abbrev pub way_of : {d : Direction} {b : Option Batch} {r : Record} {l : List ℕ} {p : ℕ} → Guarded d b r l p → Way
way_of (guarded.in_field h i) = field_by h
way_of (guarded.in_barcode e h q) = barcode_by h

-- a place that is guarded so, in an accepted file
pub record Witness (way : Way) : Type 0 where
  pub file : List ℕ
  pub in_it : Totals
  pub accepted : check_file file ≡ Ok in_it
  pub line : ℕ
  pub at : ℕ
  pub there : GuardedIn file line at
  pub so : way_of there.so ≡ way

-- in a line that is read as this record
in_file : {t : Totals} (file : List ℕ) → check_file file ≡ Ok t → (n p : ℕ) (r : Record) → ReadAt n file r → n * line_bytes + p ≤ length file
    → (g : Guarded (direction_of (record_in file)) (state_at n file).batch r (line_at n file) p) → Witness (way_of g)
in_file file e n p r read inside g = record {
  file = file;
  in_it = _;
  accepted = e;
  line = n;
  at = p;
  there = record { which = r; read = read; inside = inside; so = g };
  so = refl;
}

-- the field at an index is listed
listed : (fs : List Field) (j : ℕ) → j < length fs → Memᴰ (get_or fs j none) fs
listed [] j h = absurd (omega arith)
listed (f ∷ fs) zero h = Memᴰ.head refl
listed (f ∷ fs) (suc j) h = Memᴰ.tail (listed fs j (omega arith))

-- in line 9, where currency and general check are shown below, the general check is 1
pub check_of_9 : place general_place (line_at 9 return_file) ≡ digit_byte 1
check_of_9 = refl

-- the table: for each way a file, a line, a place and the record that the line is read as
pub every_way : (way : Way) → Witness way
unfolding first_broken leading every_byte weighed counts lift check_digit characters_fit id_fits number_of exists date_fits time_fits days_of_years day_number due_days folded factor_of same batch_of rules_of clean fields_of cut within boleto_rules collection_rules modulus_of rules_of_type rules_as type_rules line_rules rules_of_line sound step_of add left
every_way line-end = in_file return_file return-file 13 242 SegmentZ refl (lit≤ tt) (guarded.in_field guarded.line-end (lit≤ tt, lit≤ tt))
every_way bank = in_file return_file return-file 12 1 SegmentJ52 refl (lit≤ tt) (guarded.in_field guarded.bank (lit≤ tt, lit≤ tt))
every_way batch-number = in_file return_file return-file 12 7 SegmentJ52 refl (lit≤ tt) (guarded.in_field guarded.batch-number (lit≤ tt, lit≤ tt))
every_way line_type = in_file return_file return-file 14 8 BatchTrailer refl (lit≤ tt) (guarded.in_field guarded.line_type (lit≤ tt, lit≤ tt))
every_way detail_number = in_file return_file return-file 4 13 SegmentZ refl (lit≤ tt) (guarded.in_field (guarded.detail_number refl) (lit≤ tt, lit≤ tt))
every_way letter-in-remittance =
    in_file collection_file collection-file 2 14 SegmentO refl (lit≤ tt) (guarded.in_field (guarded.letter refl kinds.in_remittance) (lit≤ tt, lit≤ tt))
every_way letter-of-credits = in_file return_file return-file 4 14 SegmentZ refl (lit≤ tt) (guarded.in_field (guarded.letter refl kinds.of_credits) (lit≤ tt, lit≤ tt))
every_way letter-of-boletos = in_file return_file return-file 13 14 SegmentZ refl (lit≤ tt) (guarded.in_field (guarded.letter refl kinds.of_boletos) (lit≤ tt, lit≤ tt))
every_way blanks =
    in_file return_file return-file 10 15 SegmentJ52 refl (lit≤ tt)
    (guarded.in_field (guarded.fixed (listed (fields_of SegmentJ52) 5 (lit≤ tt)) kinds.blanks) (lit≤ tt, lit≤ tt))
every_way zeros =
    in_file return_file return-file 9 175 SegmentJ refl (lit≤ tt)
    (guarded.in_field (guarded.fixed (listed (fields_of SegmentJ) 15 (lit≤ tt)) kinds.zeros) (lit≤ tt, lit≤ tt))
every_way exact =
    in_file return_file return-file 10 19 SegmentJ52 refl (lit≤ tt)
    (guarded.in_field (guarded.fixed (listed (fields_of SegmentJ52) 7 (lit≤ tt)) kinds.exact) (lit≤ tt, lit≤ tt))
every_way optional =
    in_file credit_file credit-file 1 231 BatchHeader refl (lit≤ tt)
    (guarded.in_field (guarded.fixed (listed (fields_of BatchHeader) 23 (lit≤ tt)) kinds.optional) (lit≤ tt, lit≤ tt))
every_way credit = in_file return_file return-file 5 130 SegmentA refl (lit≤ tt) (guarded.in_field (guarded.amount guarded.credit) (lit≤ tt, lit≤ tt))
every_way nominal = in_file return_file return-file 9 110 SegmentJ refl (lit≤ tt) (guarded.in_field (guarded.amount guarded.nominal) (lit≤ tt, lit≤ tt))
every_way discount = in_file return_file return-file 9 120 SegmentJ refl (lit≤ tt) (guarded.in_field (guarded.amount guarded.discount) (lit≤ tt, lit≤ tt))
every_way fine = in_file return_file return-file 9 144 SegmentJ refl (lit≤ tt) (guarded.in_field (guarded.amount guarded.fine) (lit≤ tt, lit≤ tt))
every_way boleto = in_file return_file return-file 11 160 SegmentJ refl (lit≤ tt) (guarded.in_field (guarded.amount guarded.boleto) (lit≤ tt, lit≤ tt))
every_way collection = in_file zero_cents_file zero-cents-file 3 122 SegmentO refl (lit≤ tt) (guarded.in_field (guarded.amount guarded.collection) (lit≤ tt, lit≤ tt))
every_way batch-records = in_file return_file return-file 7 20 BatchTrailer refl (lit≤ tt) (guarded.in_field (guarded.count guarded.batch-records) (lit≤ tt, lit≤ tt))
every_way batch-sum = in_file return_file return-file 7 30 BatchTrailer refl (lit≤ tt) (guarded.in_field (guarded.count guarded.batch-sum) (lit≤ tt, lit≤ tt))
every_way file-batches = in_file return_file return-file 15 18 FileTrailer refl (lit≤ tt) (guarded.in_field (guarded.count guarded.file-batches) (lit≤ tt, lit≤ tt))
every_way file-records = in_file return_file return-file 15 25 FileTrailer refl (lit≤ tt) (guarded.in_field (guarded.count guarded.file-records) (lit≤ tt, lit≤ tt))
every_way any-of-barcode =
    in_file return_file return-file 11 40 SegmentJ refl (lit≤ tt)
    (guarded.in_barcode {q = 23} refl (boletos.all (λ e. let z : digit_byte 2 ≡ digit_byte 1 = e in omega arith) (lit≤ tt) (lit≤ tt)) refl)
every_way currency = in_file return_file return-file 9 21 SegmentJ refl (lit≤ tt) (guarded.in_barcode refl boletos.currency refl)
every_way general-check = in_file return_file return-file 9 22 SegmentJ refl (lit≤ tt) (guarded.in_barcode refl boletos.check refl)
