-- Files with two neighbours swapped, computed: what each swap is refused with, and which swap is not seen; and for each amount, and for the barcode, an
-- accepted file that has unequal neighbours there. Assumes nothing.
use Rattle.std.specs.Prelude.{◌≡◌, refl, ◌≢◌, Bool, true, not, ◌&&◌, List, [], ◌∷◌, ◌++◌, ℕ, suc, ◌+◌, ◌*◌, ◌-◌, ◌≤◌, T, eqb, length, Ok}
use Rattle.std.proofs.Common.{arith, lit≤}
use Rattle.answer.specs.Rules.{first_broken}
use Rattle.digits.specs.Digits.{bytes, digit_byte, place, leading, every_byte, weighed}
use Rattle.digits.specs.Numbers.{number_of}
use Rattle.digits.specs.Checks.{counts, lift, check_digit}
use Rattle.ids.specs.Ids.{characters_fit, id_fits}
use Rattle.calendar.specs.Calendar.{exists, date_fits, time_fits}
use Rattle.calendar.specs.Due.{days_of_years, day_number, due_days, folded, factor_of}
use Rattle.boleto.specs.Strings.{barcode_digits, barcode_check}
use Rattle.boleto.specs.Collection.{modulus_of}
use Rattle.layout.specs.Field.{Field}
use Rattle.layout.specs.Kinds.{same}
use Rattle.layout.specs.Pairs.{batch_of}
use Rattle.layout.specs.Record.{rules_of, clean}
use Rattle.layout.specs.Table.{fields_of, barcode_field}
use Rattle.layout.specs.declared.Record.{Record}
use Rattle.layout.specs.declared.Record.TheVariants.{SegmentJ}
use Rattle.checker.specs.Totals.{tally, no_payments, live, withdrawn, totals, add}
use Rattle.checker.specs.Line.{line_bytes, line_from, within, boleto_rules, collection_rules, rules_of_type, rules_as, type_rules, line_rules, rules_of_line}
use Rattle.checker.specs.Machine.{sound, step_of}
use Rattle.checker.specs.Calls.{left}
use Rattle.files.specs.File.{cut, steps, end_of, finish, check_file}
use Rattle.checker.specs.declared.totals.Totals.{Totals}
use Rattle.promises.specs.Guarded.{In, place_of, line_at, ReadAt}
use Rattle.swaps.specs.Guarded.{AmountIn, credit, nominal, discount, fine, boleto, collection, amount, both_in_field, both_in_barcode, GuardedPairIn, swapped_at}
use Rattle.promises.proofs.laws.AcceptedFiles.{is_accepted, credit_file, credit-file}
use Rattle.promises.proofs.laws.CollectionFiles.{collection_file, collection-file}
use Rattle.promises.proofs.laws.Trials.{is_refused}

-- three boletos, with general check 9, 6 and 1, each with a factor that begins with 1, with discount and fine
abbrev pub neighbours_file : List ℕ
neighbours_file =
    line_from (bytes "08500000         212345678000195CONVENIO 004711     0010170000000043210 CLINICA BOA VISTA LTDA        BANCO DO VALE                           11611202614300000004210300000                                                                     ")
    ++ line_from (bytes "08500011C0331045 212345678000195CONVENIO 004711     0010170000000043210 CLINICA BOA VISTA LTDA        PAGAMENTO DE FORNECEDORES               RUA DAS FLORES                00120SALA 4         BLUMENAU            89010000SC                  ")
    ++ line_from (bytes "0850001300001J00008599166100001250001048230917650042815360006OXIGENIO DO VALE LTDA         1512202600000000012500000000000000275000000000000139016112026000000000123640000000000000000NF 000001                               09                ")
    ++ line_from (bytes "0850001300002J 00522012345678000195CLINICA BOA VISTA LTDA                  2023456789000195OXIGENIO DO VALE LTDA                   0000000000000000                                                                                             ")
    ++ line_from (bytes "0850001300003J00008596163600000487520104080001111100000004009LAVANDERIA AGUA CLARA ME      2011202600000000004875200000000000012000000000000097516112026000000000049607000000000000000NF 000002                               09                ")
    ++ line_from (bytes "0850001300004J 00522012345678000195CLINICA BOA VISTA LTDA                  2034567890000130LAVANDERIA AGUA CLARA ME                0000000000000000                                                                                             ")
    ++ line_from (bytes "0850001300005J00008591164300000214352048119034567001728095002OXIGENIO DO VALE LTDA         2711202600000000002143500000000000043500000000000006016112026000000000021060000000000000000NF 000003                               09                ")
    ++ line_from (bytes "0850001300006J 00522012345678000195CLINICA BOA VISTA LTDA                  2023456789000195OXIGENIO DO VALE LTDA                   0000000000000000                                                                                             ")
    ++ line_from (bytes "08500015         000008000000000000194307000000000000000000000000                                                                                                                                                                               ")
    ++ line_from (bytes "08599999         000001000010000000                                                                                                                                                                                                             ")

pub neighbours-file : check_file neighbours_file ≡ Ok (totals 1 10 (live (tally 3 194307)) (withdrawn no_payments))
unfolding first_broken leading every_byte weighed counts lift check_digit characters_fit id_fits number_of exists date_fits time_fits days_of_years day_number due_days folded factor_of same batch_of rules_of clean fields_of cut steps end_of finish within boleto_rules rules_of_type rules_as type_rules line_rules rules_of_line sound step_of add
neighbours-file = refl

-- ---- swapped

-- a file with unequal bytes at a place of a line, counted from 1, and at the place behind it, swapped: it is accepted, or refused with a number, at a line
-- and a place
pub data Swap : Type 0 where
  unseen : List ℕ → ℕ → ℕ → Swap
  seen : List ℕ → ℕ → ℕ → ℕ → ℕ → ℕ → Swap

abbrev unequal : List ℕ → ℕ → ℕ → Bool
unequal file line p = not (eqb (place p (line_at (line - 1) file)) (place (suc p) (line_at (line - 1) file)))

abbrev pub swap_holds : Swap → Bool
swap_holds (unseen file line p) = unequal file line p && is_accepted (check_file (swapped_at file (line - 1) p))
swap_holds (seen file line p n at there) = unequal file line p && is_refused n at there (check_file (swapped_at file (line - 1) p))

abbrev pub every_swap : List Swap → Bool
every_swap [] = true
every_swap (x ∷ xs) = swap_holds x && every_swap xs

-- the amounts of A, O and J, with nominal, discount and fine; the barcode, with its currency, with its factor and its cents. Then what is not claimed: the
-- check digits 9 and 6 swapped with the factor's first digit, which the due date shows; the currency with the check digit; and general check 1, where cents
-- swapped are shown by the nominal and free digits by nothing. Last, other guarded fields: a bank and a sum
unfoldable pub table : List Swap
table =
    seen credit_file 3 130 22 5 24
    ∷ seen collection_file 3 118 22 4 24
    ∷ seen neighbours_file 3 163 19 3 153
    ∷ seen neighbours_file 3 109 18 3 27
    ∷ seen neighbours_file 3 126 19 3 153
    ∷ seen neighbours_file 3 141 19 3 153
    ∷ seen neighbours_file 3 45 16 3 22
    ∷ seen neighbours_file 3 20 14 3 21
    ∷ seen neighbours_file 3 23 16 3 22
    ∷ seen neighbours_file 3 31 16 3 22
    ∷ seen neighbours_file 3 22 17 3 23
    ∷ seen neighbours_file 5 22 17 5 23
    ∷ seen neighbours_file 5 21 14 5 21
    ∷ seen neighbours_file 7 31 18 7 27
    ∷ unseen neighbours_file 7 43
    ∷ seen neighbours_file 4 2 7 4 1
    ∷ seen credit_file 5 37 22 5 24
    ∷ []

pub table_holds : T (every_swap table)
unfolding table first_broken leading every_byte weighed counts lift check_digit characters_fit id_fits number_of exists date_fits time_fits days_of_years day_number due_days folded factor_of same batch_of rules_of clean fields_of cut steps end_of finish within boleto_rules collection_rules modulus_of rules_of_type rules_as type_rules line_rules rules_of_line sound step_of add
table_holds = tt

-- ---- each is met

-- unequal neighbours in this field, in an accepted file, behind so many lines
pub record UnequalIn (r : Record) (f : Field) : Type 0 where
  pub file : List ℕ
  pub in_it : Totals
  pub accepted : check_file file ≡ Ok in_it
  pub before : ℕ
  pub at : ℕ
  pub there : GuardedPairIn file before at
  pub read : there.which ≡ r
  pub inside : In f at × In f (suc at)
  pub unlike : place at (line_at before file) ≢ place (suc at) (line_at before file)

met : {t : Totals} {r : Record} {f : Field} (file : List ℕ) → check_file file ≡ Ok t → (n p : ℕ) → AmountIn r f → ReadAt n file r
    → n * line_bytes + suc p ≤ length file → In f p → In f (suc p) → place p (line_at n file) ≢ place (suc p) (line_at n file) → UnequalIn r f
met file e n p m read inside i k ne = record {
  file = file;
  in_it = _;
  accepted = e;
  before = n;
  at = p;
  there = record { which = _; read = read; inside = inside; so = both_in_field (amount m) i k };
  read = refl;
  inside = (i, k);
  unlike = ne;
}

pub every_amount : {r : Record} {f : Field} → AmountIn r f → UnequalIn r f
unfolding first_broken leading every_byte weighed counts lift check_digit characters_fit id_fits number_of exists date_fits time_fits days_of_years day_number due_days folded factor_of same batch_of rules_of clean fields_of cut within boleto_rules collection_rules modulus_of rules_of_type rules_as type_rules line_rules rules_of_line sound step_of add left
every_amount credit =
    met credit_file credit-file 2 130 credit refl (lit≤ tt) (lit≤ tt, lit≤ tt) (lit≤ tt, lit≤ tt) (λ e. let z : digit_byte 1 ≡ digit_byte 0 = e in omega arith)
every_amount nominal =
    met neighbours_file neighbours-file 2 109 nominal refl (lit≤ tt) (lit≤ tt, lit≤ tt) (lit≤ tt, lit≤ tt) (λ e. let z : digit_byte 1 ≡ digit_byte 2 = e in omega arith)
every_amount discount =
    met neighbours_file neighbours-file 2 126 discount refl (lit≤ tt) (lit≤ tt, lit≤ tt) (lit≤ tt, lit≤ tt) (λ e. let z : digit_byte 2 ≡ digit_byte 7 = e in omega arith)
every_amount fine =
    met neighbours_file neighbours-file 2 141 fine refl (lit≤ tt) (lit≤ tt, lit≤ tt) (lit≤ tt, lit≤ tt) (λ e. let z : digit_byte 1 ≡ digit_byte 3 = e in omega arith)
every_amount boleto =
    met neighbours_file neighbours-file 2 163 boleto refl (lit≤ tt) (lit≤ tt, lit≤ tt) (lit≤ tt, lit≤ tt) (λ e. let z : digit_byte 2 ≡ digit_byte 3 = e in omega arith)
every_amount collection =
    met collection_file collection-file 2 118 collection refl (lit≤ tt) (lit≤ tt, lit≤ tt) (lit≤ tt, lit≤ tt) (λ e. let z : digit_byte 1 ≡ digit_byte 8 = e in omega arith)

-- of its first barcode
with_check_9 : (p q : ℕ) → p ≡ place_of q barcode_field → 1 ≤ q → suc q ≤ barcode_digits → q ≢ barcode_check → suc q ≢ barcode_check
    → place p (line_at 2 neighbours_file) ≢ place (suc p) (line_at 2 neighbours_file) → UnequalIn SegmentJ barcode_field
unfolding first_broken leading every_byte weighed counts lift check_digit characters_fit id_fits number_of exists date_fits time_fits days_of_years day_number due_days folded factor_of same batch_of rules_of clean fields_of cut within boleto_rules collection_rules modulus_of rules_of_type rules_as type_rules line_rules rules_of_line sound step_of add left
with_check_9 p q at first last left right ne = record {
  file = neighbours_file;
  in_it = _;
  accepted = neighbours-file;
  before = 2;
  at = p;
  there = record {
    which = SegmentJ;
    read = refl;
    inside = omega arith;
    so =
        both_in_barcode {q = q} refl (record {
          not_one = λ e. let z : digit_byte 9 ≡ digit_byte 1 = e in omega arith;
          from_first = first;
          to_last = last;
          left_not_check = left;
          right_not_check = right;
        }) at;
  };
  read = refl;
  inside = (omega arith, omega arith);
  unlike = ne;
}

-- two free digits; and bank and currency
pub free_digits : UnequalIn SegmentJ barcode_field
free_digits = with_check_9 45 28 refl (lit≤ tt) (lit≤ tt) (λ e. omega arith) (λ e. omega arith) (λ e. let z : digit_byte 1 ≡ digit_byte 7 = e in omega arith)

pub bank_and_currency : UnequalIn SegmentJ barcode_field
bank_and_currency = with_check_9 20 3 refl (lit≤ tt) (lit≤ tt) (λ e. omega arith) (λ e. omega arith) (λ e. let z : digit_byte 5 ≡ digit_byte 9 = e in omega arith)
