-- Fields of digits, of digits or blanks, and of registration numbers, computed: one statement over one table, in both directions. Assumes nothing.
use Rattle.std.specs.Prelude.{Bool, true, false, ◌&&◌, List, [], ◌∷◌, ◌++◌, ℕ, suc, T, eqb, length, Err, Ok}
use Prim.Native.String.{String}
use Rattle.answer.specs.Rules.{accepts, first_broken}
use Rattle.answer.specs.Rules.{Answer}
use Rattle.digits.specs.Digits.{bytes, leading, every_byte}
use Rattle.ids.specs.Ids.{characters_fit}
use Rattle.layout.specs.Field.{Kind, N, NOrBlank, Id}
use Rattle.layout.specs.Kinds.{a_part, means, same}
use Rattle.layout.specs.declared.Direction.{Direction}
use Rattle.layout.specs.declared.Direction.TheVariants.{Remittance, Return}

-- a field that is right, and one that is refused as 8 at its first place
pub data Example : Type 0 where
  right : Kind → String → Example
  wrong : Kind → String → Example
  -- a registration number, with its type before it
  rightId wrong_id : String → String → Example

abbrev pub somewhere : ℕ
somewhere = 155

abbrev pub answer : Kind → String → Direction → Answer
answer k s d = first_broken ((means k).rules (a_part somewhere (bytes s) [] d))

-- the type and the number stand at the record's first places
abbrev pub id_answer : String → String → Direction → Answer
id_answer t s d = first_broken ((means Id).rules (a_part (suc (length (bytes t))) (bytes s) (bytes t ++ bytes s) d))

abbrev pub refused_with : ℕ → ℕ → Answer → Bool
refused_with number place (Ok tt) = false
refused_with number place (Err r) = eqb r.number number && eqb r.place place

abbrev pub holds_in : Direction → Example → Bool
holds_in d (right k s) = accepts (answer k s d)
holds_in d (wrong k s) = refused_with 8 somewhere (answer k s d)
holds_in d (rightId t s) = accepts (id_answer t s d)
holds_in d (wrong_id t s) = refused_with 8 (suc (length (bytes t))) (id_answer t s d)

unfoldable pub table : List Example
table =
    right NOrBlank "17112026"
    ∷ right NOrBlank "00000000"
    ∷ right NOrBlank "        "
    ∷ wrong NOrBlank "    1234"
    ∷ wrong NOrBlank "1234    "
    ∷ wrong NOrBlank "       0"
    ∷ wrong NOrBlank "0       "
    ∷ wrong NOrBlank "1711 026"
    ∷ wrong NOrBlank "1711202X"
    ∷ right N "17112026"
    ∷ wrong N "        "
    ∷ wrong N "    1234"
    ∷ rightId "0" "12345678901234"
    ∷ rightId "1" "00012345678901"
    ∷ rightId "1" "10052998224725"
    ∷ rightId "2" "12345678901234"
    ∷ rightId "2" "12ABC34501DE35"
    ∷ rightId "2" "ZZZZZZZZZZZZ99"
    ∷ rightId "2" "012ABC34501DE35"
    ∷ rightId "2" "112ABC34501DE35"
    ∷ wrong_id "0" "12ABC34501DE35"
    ∷ wrong_id "1" "0001234567890A"
    ∷ wrong_id "2" "12ABC34501DE3A"
    ∷ wrong_id "2" "12ABC34501DEA5"
    ∷ wrong_id "2" "12abc34501de35"
    ∷ wrong_id "2" "12ABC34501DE3 "
    ∷ wrong_id "2" "A12ABC34501DE35"
    ∷ wrong_id "2" " 12ABC34501DE35"
    ∷ wrong_id "1" "012ABC34501DE35"
    ∷ []

abbrev pub every : List Example → Bool
every [] = true
every (x ∷ xs) = holds_in Remittance x && (holds_in Return x && every xs)

pub table_holds : T (every table)
unfolding table first_broken leading every_byte characters_fit same
table_holds = tt
