-- Files with other registration numbers than the accepted ones have, computed: accepted; refused with the fields, as 8 or, for a type, 14; or as 26 behind
-- all fields of the line, the leftmost number first. Assumes nothing.
use Rattle.std.specs.Prelude.{◌≡◌, refl, true, List, [], ◌∷◌, T, get_or}
use Rattle.answer.specs.Rules.{accepts, first_broken}
use Rattle.digits.specs.Digits.{leading, every_byte, weighed}
use Rattle.digits.specs.Numbers.{number_of}
use Rattle.digits.specs.Checks.{counts, lift, check_digit}
use Rattle.ids.specs.Ids.{characters_fit, id_fits}
use Rattle.calendar.specs.Calendar.{exists, date_fits, time_fits}
use Rattle.calendar.specs.Due.{days_of_years, day_number, due_days, folded, factor_of}
use Rattle.layout.specs.Kinds.{same}
use Rattle.layout.specs.Pairs.{batch_of}
use Rattle.layout.specs.Record.{rules_of, clean, record_rules}
use Rattle.layout.specs.Table.{fields_of}
use Rattle.layout.specs.declared.Direction.TheVariants.{Return}
use Rattle.layout.specs.declared.Record.TheVariants.{SegmentJ52}
use Rattle.checker.specs.Totals.{add}
use Rattle.checker.specs.Line.{record_in, within, boleto_rules, rules_of_type, rules_as, type_rules, line_rules, rules_of_line}
use Rattle.checker.specs.Machine.{sound, step_of}
use Rattle.files.specs.File.{cut, steps, end_of, finish, lines_of}
use Rattle.promises.proofs.laws.AcceptedFiles.{credit_file, return_file}
use Rattle.promises.proofs.laws.Trials.{Put, put, with_all, Changed, right, wrong, every_file}

-- the third number of a J52 alone, and all three
abbrev pub third : List Put
third = put 11 132 "2012ABC34501DE36" ∷ []

abbrev pub all_three : List Put
all_three = put 11 20 "2012345678000194" ∷ put 11 76 "2034567890000131" ∷ third

unfoldable pub table : List Changed
table =
    right credit_file (put 1 18 "212ABC34501DE35" ∷ put 2 18 "2126BC34501DE35" ∷ put 4 18 "212ABC34501DE35" ∷ [])
    ∷ right credit_file (put 1 18 "100000000000604" ∷ put 2 18 "100010000000604" ∷ put 4 18 "100052998224725" ∷ [])
    ∷ right credit_file (put 1 18 "012345678901234" ∷ put 2 18 "000000000000001" ∷ put 4 18 "099999999999999" ∷ [])
    ∷ right return_file (put 11 20 "2012ABC34501DE35" ∷ put 11 76 "1000052998224725" ∷ put 11 132 "0987654321012345" ∷ [])
    ∷ wrong credit_file (put 1 18 "212ABC34501DE36" ∷ []) 26 1 19
    ∷ wrong credit_file (put 1 18 "212ABC34501DE3A" ∷ []) 8 1 19
    ∷ wrong credit_file (put 1 18 "012ABC34501DE35" ∷ []) 8 1 19
    ∷ wrong credit_file (put 2 18 "212345678000194" ∷ []) 26 2 19
    ∷ wrong credit_file (put 4 18 "223456789000194" ∷ []) 26 4 19
    ∷ wrong credit_file (put 4 18 "110052998224725" ∷ []) 26 4 19
    ∷ wrong credit_file (put 4 18 "112ABC34501DE35" ∷ []) 8 4 19
    ∷ wrong credit_file (put 4 18 "323456789000194" ∷ []) 14 4 18
    ∷ wrong return_file third 26 11 133
    ∷ wrong return_file (put 11 20 "2012345678000194" ∷ []) 26 11 21
    ∷ wrong return_file (put 11 20 "1012345678000195" ∷ []) 26 11 21
    ∷ wrong return_file (put 11 76 "2134567890000130" ∷ []) 26 11 77
    ∷ wrong return_file (put 11 76 "2A34567890000130" ∷ []) 8 11 77
    ∷ wrong return_file all_three 26 11 21
    ∷ wrong return_file (put 11 188 "X" ∷ all_three) 12 11 188
    ∷ []

pub table_holds : T (every_file table)
unfolding table with_all first_broken leading every_byte weighed counts lift check_digit characters_fit id_fits number_of exists date_fits time_fits days_of_years day_number due_days folded factor_of same batch_of rules_of clean fields_of cut steps end_of finish within boleto_rules rules_of_type rules_as type_rules line_rules rules_of_line sound step_of add
table_holds = tt

-- one record alone is not asked for right numbers: that J52, with all three wrong
pub alone_accepted : accepts (first_broken (record_rules SegmentJ52 Return (record_in (get_or (lines_of (with_all all_three return_file)) 10 [])))) ≡ true
unfolding with_all first_broken leading every_byte weighed counts lift check_digit characters_fit id_fits number_of exists date_fits time_fits days_of_years day_number due_days folded factor_of same batch_of rules_of clean fields_of record_rules cut
alone_accepted = refl
