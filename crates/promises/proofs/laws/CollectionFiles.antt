-- Files of collections, computed: a water bill; a return with an O of no cents, and why the letter of such an O is not guarded in a return; and
-- what is refused where. Assumes nothing.
use Rattle.std.specs.Prelude.{◌≡◌, refl, true, List, [], ◌∷◌, ◌++◌, ℕ, T, get_or, Ok}
use Rattle.answer.specs.Rules.{accepts, first_broken}
use Rattle.digits.specs.Digits.{bytes, leading, every_byte, weighed}
use Rattle.digits.specs.Numbers.{number_of}
use Rattle.digits.specs.Checks.{counts, lift, check_digit}
use Rattle.ids.specs.Ids.{characters_fit, id_fits}
use Rattle.calendar.specs.Calendar.{exists, date_fits, time_fits}
use Rattle.boleto.specs.Collection.{modulus_of}
use Rattle.layout.specs.Kinds.{same}
use Rattle.layout.specs.Pairs.{batch_of}
use Rattle.layout.specs.Record.{rules_of, clean, record_rules}
use Rattle.layout.specs.Records.{letter_z}
use Rattle.layout.specs.Table.{segment_place, fields_of}
use Rattle.layout.specs.declared.Direction.TheVariants.{Remittance}
use Rattle.layout.specs.declared.Record.TheVariants.{SegmentO}
use Rattle.checker.specs.Totals.{tally, no_payments, live, withdrawn, totals, add}
use Rattle.checker.specs.Line.{line_from, record_in, within, collection_rules, rules_of_type, rules_as, type_rules, line_rules, rules_of_line}
use Rattle.checker.specs.Machine.{sound, step_of}
use Rattle.files.specs.File.{cut, steps, end_of, finish, check_file, lines_of}
use Rattle.promises.specs.Guarded.{changed}
use Rattle.promises.proofs.laws.AcceptedFiles.{credit_file}
use Rattle.promises.proofs.laws.Trials.{put, with_all, Changed, right, wrong, every_file}

abbrev pub collection_file : List ℕ
collection_file =
    line_from (bytes "08500000         212345678000195CONVENIO 004711     0010170000000043210 CLINICA BOA VISTA LTDA        BANCO DO VALE                           11611202614300000004210300000                                                                     ")
    ++ line_from (bytes "08500011C2911045 212345678000195CONVENIO 004711     0010170000000043210 CLINICA BOA VISTA LTDA        PAGAMENTO DE CONTAS E TRIBUTOS          RUA DAS FLORES                00120SALA 4         BLUMENAU            89010000SC                  ")
    ++ line_from (bytes "0850001300001O00082670000001874212342026112000000045678900001AGUAS DO VALE SA              2011202616112026000000000018742CONTA 000001                                                                                                          ")
    ++ line_from (bytes "08500015         000003000000000000018742000000000000000000000000                                                                                                                                                                               ")
    ++ line_from (bytes "08599999         000001000005000000                                                                                                                                                                                                             ")

pub collection-file : check_file collection_file ≡ Ok (totals 1 5 (live (tally 1 18742)) (withdrawn no_payments))
unfolding first_broken leading every_byte weighed counts lift check_digit characters_fit id_fits number_of exists date_fits time_fits same batch_of rules_of clean fields_of cut steps end_of finish within collection_rules modulus_of rules_of_type rules_as type_rules line_rules rules_of_line sound step_of add
collection-file = refl

-- two O, the second of no cents
abbrev pub zero_cents_file : List ℕ
zero_cents_file =
    line_from (bytes "08500000         212345678000195CONVENIO 004711     0010170000000043210 CLINICA BOA VISTA LTDA        BANCO DO VALE                           21711202619000000004210300000                                                                     ")
    ++ line_from (bytes "08500011C2911045 212345678000195CONVENIO 004711     0010170000000043210 CLINICA BOA VISTA LTDA        PAGAMENTO DE CONTAS E TRIBUTOS          RUA DAS FLORES                00120SALA 4         BLUMENAU            89010000SC                  ")
    ++ line_from (bytes "0850001300001O00082670000001874212342026112000000045678900001AGUAS DO VALE SA              2011202617112026000000000018742CONTA 000001        DEBITO 000771                                                                           00        ")
    ++ line_from (bytes "0850001300002O00082690000000000012342026122000000045678900002AGUAS DO VALE SA              2012202617112026000000000000000CONTA 000002                                                                                                00        ")
    ++ line_from (bytes "08500015         000004000000000000018742000000000000000000000000                                                                                                                                                                               ")
    ++ line_from (bytes "08599999         000001000006000000                                                                                                                                                                                                             ")

pub zero-cents-file : check_file zero_cents_file ≡ Ok (totals 1 6 (live (tally 2 18742)) (withdrawn no_payments))
unfolding first_broken leading every_byte weighed counts lift check_digit characters_fit id_fits number_of exists date_fits time_fits same batch_of rules_of clean fields_of cut steps end_of finish within collection_rules modulus_of rules_of_type rules_as type_rules line_rules rules_of_line sound step_of add
zero-cents-file = refl

-- the second O (lines counted from 0) read as a Z: the trailers are right all the same, with one payment less
pub as_z : check_file (changed zero_cents_file 3 segment_place letter_z) ≡ Ok (totals 1 6 (live (tally 1 18742)) (withdrawn no_payments))
unfolding first_broken leading every_byte weighed counts lift check_digit characters_fit id_fits number_of exists date_fits time_fits same batch_of rules_of clean fields_of cut steps end_of finish within collection_rules modulus_of rules_of_type rules_as type_rules line_rules rules_of_line sound step_of add
as_z = refl

-- ---- with other texts in them

-- the rules of the code come behind all fields of the line: product, identifier, general check. Nothing else of it is asked: not the issuer's
-- segment, not the value beside the amount, and no currency. By modulus 11 the check digit is 0 where a boleto's is 1
unfoldable pub table : List Changed
table =
    right collection_file (put 3 15 "9" ∷ [])
    ∷ right collection_file (put 3 18 "81800000000000000000000000000000000000000002" ∷ [])
    ∷ right collection_file (put 3 18 "81800000000000000000000000000000000000000008" ∷ [])
    ∷ right collection_file (put 3 18 "84980000001000000010408000111110000000004010" ∷ [])
    ∷ right collection_file (put 3 108 "000000000018743" ∷ put 4 24 "000000000000018743" ∷ [])
    ∷ right zero_cents_file (put 3 231 "00" ∷ [])
    ∷ wrong collection_file (put 3 18 "7" ∷ []) 52 3 18
    ∷ wrong collection_file (put 3 20 "5" ∷ []) 53 3 20
    ∷ wrong collection_file (put 3 21 "9" ∷ []) 55 3 21
    ∷ wrong collection_file (put 3 18 "81810000000000000000000000000000000000000002" ∷ []) 55 3 21
    ∷ wrong collection_file (put 3 18 "7" ∷ put 3 20 "5" ∷ []) 52 3 18
    ∷ wrong collection_file (put 3 20 "59" ∷ []) 53 3 20
    ∷ wrong collection_file (put 3 61 "A" ∷ []) 8 3 18
    ∷ wrong collection_file (put 3 18 "7" ∷ put 3 62 " " ∷ []) 13 3 62
    ∷ wrong collection_file (put 3 18 "7" ∷ put 3 100 "31022026" ∷ []) 15 3 100
    ∷ wrong collection_file (put 3 18 "7" ∷ put 3 108 "A" ∷ []) 8 3 108
    ∷ wrong collection_file (put 3 18 "7" ∷ put 3 230 "X" ∷ []) 12 3 163
    ∷ wrong collection_file (put 3 18 "7" ∷ put 3 231 "00" ∷ []) 12 3 231
    ∷ wrong collection_file (put 3 15 "5" ∷ []) 14 3 15
    ∷ wrong collection_file (put 3 108 "000000000018743" ∷ []) 22 4 24
    ∷ wrong collection_file (put 3 14 "A" ∷ []) 11 3 14
    ∷ wrong collection_file (put 3 14 "Z" ∷ []) 11 3 14
    ∷ wrong zero_cents_file (put 3 14 "Z" ∷ []) 11 3 14
    ∷ wrong credit_file (put 3 14 "O" ∷ []) 11 3 14
    ∷ wrong collection_file (put 2 12 "10" ∷ []) 14 2 10
    ∷ wrong collection_file (put 2 10 "20" ∷ []) 14 2 10
    ∷ []

pub table_holds : T (every_file table)
unfolding table with_all first_broken leading every_byte weighed counts lift check_digit characters_fit id_fits number_of exists date_fits time_fits same batch_of rules_of clean fields_of cut steps end_of finish within collection_rules modulus_of rules_of_type rules_as type_rules line_rules rules_of_line sound step_of add
table_holds = tt

-- one record alone is not asked for its code's rules: that O with another product
pub alone_accepted : accepts (first_broken (record_rules SegmentO Remittance (record_in (get_or (lines_of (with_all (put 3 18 "7" ∷ []) collection_file)) 2 [])))) ≡ true
unfolding with_all first_broken leading every_byte weighed counts lift check_digit characters_fit id_fits number_of exists date_fits time_fits same batch_of rules_of clean fields_of cut collection_rules modulus_of record_rules
alone_accepted = refl
