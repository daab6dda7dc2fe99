-- The rules of one record alone, in the paper's order. Assumes nothing.
use Rattle.std.specs.Prelude.{Bool, cond, ◌&&◌, List, [], ◌∷◌, ◌++◌, ℕ, suc, leb, eqb, length}
use Rattle.std.proofs.Math.Seq.{slice}
use Rattle.answer.specs.Rules.{Rule, rule}
use Rattle.layout.specs.Field.{Field, part}
use Rattle.layout.specs.Table.{marks, fields_of, record_bytes}
use Rattle.layout.specs.Kinds.{Part, a_part, means}
use Rattle.layout.specs.declared.Direction.{Direction}
use Rattle.layout.specs.declared.Record.{Record}

abbrev pub part_of : Field → Direction → List ℕ → Part
part_of f d rec = a_part f.from (part f rec) rec d

-- a field's rules
abbrev pub field_rules : Field → Direction → List ℕ → List Rule
field_rules f d rec = (means f.kind).rules (part_of f d rec)

-- those of fields, left to right
unfoldable pub rules_of : List Field → Direction → List ℕ → List Rule
rules_of [] d rec = []
rules_of (f ∷ fs) d rec = field_rules f d rec ++ rules_of fs d rec

abbrev pub printable : ℕ → Bool
printable b = leb 32 b && leb b 126

-- how many printable bytes a record begins with
unfoldable pub clean : List ℕ → ℕ
clean [] = 0
clean (b ∷ bs) = cond (printable b) (suc (clean bs)) 0

abbrev pub all_printable : List ℕ → Bool
all_printable bs = eqb (clean bs) (length bs)

-- the byte check names the first byte that is not
abbrev pub byte_rule : List ℕ → Rule
byte_rule rec = rule 4 (suc (clean rec)) (all_printable rec)

-- its length, its bytes, its type and its segment
abbrev pub first_rules : Record → Direction → List ℕ → List Rule
first_rules r d rec = rule 1 0 (eqb (length rec) record_bytes) ∷ byte_rule rec ∷ rules_of (marks r) d rec

-- then all fields
unfoldable pub record_rules : Record → Direction → List ℕ → List Rule
record_rules r d rec = first_rules r d rec ++ rules_of (fields_of r) d rec

-- the fields of a record from one index, counted from 0, up to another, of a record of the right length
abbrev pub some_rules : Record → Direction → ℕ → ℕ → List ℕ → List Rule
some_rules r d first past rec = rule 1 0 (eqb (length rec) record_bytes) ∷ rules_of (slice first past (fields_of r)) d rec
