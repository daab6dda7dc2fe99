-- Files that are accepted, computed: the paper's own of one credit of 100.00, a return of credits and boletos, with Z, and
-- that return with payments withdrawn. Assumes nothing.
use Rattle.std.specs.Prelude.{◌≡◌, refl, Bool, true, false, ◌&&◌, List, ◌++◌, ℕ, ◌+◌, ◌-◌, ◌*◌, eqb, length, take, drop, Err, Ok}
use Prim.Native.String.{String}
use Rattle.answer.specs.Rules.{first_broken}
use Rattle.answer.specs.declared.Refusal.{Refusal}
use Rattle.digits.specs.Digits.{bytes, digit_byte, leading, every_byte, weighed}
use Rattle.digits.specs.Numbers.{number_of}
use Rattle.digits.specs.Checks.{counts, lift, check_digit}
use Rattle.ids.specs.Ids.{characters_fit, id_fits}
use Rattle.calendar.specs.Calendar.{exists, date_fits, time_fits}
use Rattle.calendar.specs.Due.{days_of_years, day_number, due_days, folded, factor_of}
use Rattle.layout.specs.Kinds.{same}
use Rattle.layout.specs.Pairs.{batch_of}
use Rattle.layout.specs.Record.{rules_of, clean}
use Rattle.layout.specs.Table.{fields_of, movement_field}
use Rattle.checker.specs.Totals.{tally, no_payments, live, withdrawn, totals, add, withdrawal}
use Rattle.checker.specs.Line.{line_bytes, line_from, within, boleto_rules, rules_of_type, rules_as, type_rules, line_rules, rules_of_line}
use Rattle.checker.specs.Machine.{sound, step_of}
use Rattle.files.specs.File.{cut, steps, end_of, finish, check_file}
use Rattle.files.specs.File.{Outcome}
use Rattle.promises.specs.Guarded.{changed}

abbrev pub is_accepted : Outcome → Bool
is_accepted (Ok t) = true
is_accepted (Err r) = false

-- a refusal with this number, at this line and place
abbrev pub is_at : ℕ → ℕ → ℕ → Refusal → Bool
is_at n line place r = eqb r.number n && (eqb r.line.0 line && eqb r.place place)

-- a text over the bytes of a line, counted from 0, from a place on
abbrev pub overwritten : List ℕ → ℕ → ℕ → String → List ℕ
overwritten file line place s =
    let start = line * line_bytes + (place - 1) in
    take start file ++ bytes s ++ drop (start + length (bytes s)) file

abbrev pub credit_file : List ℕ
credit_file =
    line_from (bytes "08500000         212345678000195CONVENIO 004711     0010170000000043210 CLINICA BOA VISTA LTDA        BANCO DO VALE                           11611202614300000004210300000                                                                     ")
    ++ line_from (bytes "08500011C2041045 212345678000195CONVENIO 004711     0010170000000043210 CLINICA BOA VISTA LTDA        PAGAMENTO DE FORNECEDORES               RUA DAS FLORES                00120SALA 4         BLUMENAU            89010000SC                  ")
    ++ line_from (bytes "0850001300001A0000180010123410000000567895 OXIGENIO DO VALE LTDA         NF 000001           16112026BRL000000000000000000000000010000                    00000000000000000000000                                                               ")
    ++ line_from (bytes "0850001300002B   223456789000195RUA DAS PALMEIRAS             00077                              BLUMENAU            89010000SC                                                                                                                 ")
    ++ line_from (bytes "08500015         000004000000000000010000000000000000000000000000                                                                                                                                                                               ")
    ++ line_from (bytes "08599999         000001000006000000                                                                                                                                                                                                             ")

pub credit-file : check_file credit_file ≡ Ok (totals 1 6 (live (tally 1 10000)) (withdrawn no_payments))
unfolding first_broken leading every_byte weighed counts lift check_digit characters_fit id_fits number_of exists date_fits time_fits same batch_of rules_of clean fields_of cut steps end_of finish within rules_of_type rules_as type_rules line_rules rules_of_line sound step_of add
credit-file = refl

abbrev pub return_file : List ℕ
return_file =
    line_from (bytes "08500000         212345678000195CONVENIO 004711     0010170000000043210 CLINICA BOA VISTA LTDA        BANCO DO VALE                           21611202614300000004210300000                                                                     ")
    ++ line_from (bytes "08500011C2041045 212345678000195CONVENIO 004711     0010170000000043210 CLINICA BOA VISTA LTDA        PAGAMENTO DE FORNECEDORES               RUA DAS FLORES                00120SALA 4         BLUMENAU            89010000SC                  ")
    ++ line_from (bytes "0850001300001A0000180010123410000000567895 OXIGENIO DO VALE LTDA         NF 000001           16112026BRL000000000000000000000000315000                    00000000000000000000000                                                               ")
    ++ line_from (bytes "0850001300002B   223456789000195RUA DAS PALMEIRAS             00077                              BLUMENAU            89010000SC                                                                                                                 ")
    ++ line_from (bytes "0850001300003ZAUTENTICACAO 0000000001                                                                                                                                                                                                           ")
    ++ line_from (bytes "0850001300004A0000181040200110000000987655 MARIA APARECIDA LIMA          NF 000002           16112026BRL000000000000000000000000089990                    00000000000000000000000                                                               ")
    ++ line_from (bytes "0850001300005B   100012345678909TRAVESSA DO SOL               00077                              BLUMENAU            89010000SC                                                                                                                 ")
    ++ line_from (bytes "08500015         000007000000000000404990000000000000000000000000                                                                                                                                                                               ")
    ++ line_from (bytes "08500021C0131045 212345678000195CONVENIO 004711     0010170000000043210 CLINICA BOA VISTA LTDA        PAGAMENTO DE FORNECEDORES               RUA DAS FLORES                00120SALA 4         BLUMENAU            89010000SC                  ")
    ++ line_from (bytes "0850002300001J00008591162900000487500104080001111100000000401LAVANDERIA AGUA CLARA ME      1311202600000000004875000000000000000000000000000097516112026000000000049725000000000000000NF 000003                               09                ")
    ++ line_from (bytes "0850002300002J 00522012345678000195CLINICA BOA VISTA LTDA                  2034567890000130LAVANDERIA AGUA CLARA ME                0000000000000000                                                                                             ")
    ++ line_from (bytes "0850002300003J00008592163500000214350104080001111100000000401PAPELARIA CENTRAL LTDA        1911202600000000002143500000000000000000000000000000016112026000000000021435000000000000000NF 000004                               09                ")
    ++ line_from (bytes "0850002300004J 00522012345678000195CLINICA BOA VISTA LTDA                  2045678901000175PAPELARIA CENTRAL LTDA                  0000000000000000                                                                                             ")
    ++ line_from (bytes "0850002300005ZAUTENTICACAO 0000000004                                                                                                                                                                                                           ")
    ++ line_from (bytes "08500025         000007000000000000071160000000000000000000000000                                                                                                                                                                               ")
    ++ line_from (bytes "08599999         000002000016000000                                                                                                                                                                                                             ")

pub return-file : check_file return_file ≡ Ok (totals 2 16 (live (tally 4 476150)) (withdrawn no_payments))
unfolding first_broken leading every_byte weighed counts lift check_digit characters_fit id_fits number_of exists date_fits time_fits days_of_years day_number due_days folded factor_of same batch_of rules_of clean fields_of cut steps end_of finish within boleto_rules rules_of_type rules_as type_rules line_rules rules_of_line sound step_of add
return-file = refl

-- the same file with its second credit and its second boleto withdrawn (lines counted from 0): the trailers stay as they are
abbrev pub withdrawn_file : List ℕ
withdrawn_file = changed (changed return_file 5 movement_field.from (digit_byte withdrawal)) 11 movement_field.from (digit_byte withdrawal)

pub withdrawn-file : check_file withdrawn_file ≡ Ok (totals 2 16 (live (tally 2 364725)) (withdrawn (tally 2 111425)))
unfolding first_broken leading every_byte weighed counts lift check_digit characters_fit id_fits number_of exists date_fits time_fits days_of_years day_number due_days folded factor_of same batch_of rules_of clean fields_of cut steps end_of finish within boleto_rules rules_of_type rules_as type_rules line_rules rules_of_line sound step_of add
withdrawn-file = refl
