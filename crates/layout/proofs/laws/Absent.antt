-- The numbers that may be not given: A's two, and none of any other record. Assumes nothing.
use Rattle.std.specs.Prelude.{◌≡◌, refl, cond, List, [], ◌∷◌, eqb, length}
use Rattle.std.proofs.Common.{eqb→eq}
use Rattle.layout.specs.Field.{Field, NOrBlank, field}
use Rattle.layout.specs.Records.{code}
use Rattle.layout.specs.Table.{fields_of}
use Rattle.layout.specs.Kinds.{may_be_absent, means}
use Rattle.layout.specs.declared.Record.{Record}
use Rattle.layout.specs.declared.Record.TheVariants.{SegmentA}
use Rattle.layout.proofs.laws.Records.{each}

-- those of fields
abbrev pub absent_of : List Field → List Field
absent_of [] = []
absent_of (f ∷ fs) = cond (may_be_absent (means f.kind).held) (f ∷ absent_of fs) (absent_of fs)

pub absent_two : absent_of (fields_of SegmentA) ≡ field 155 162 NOrBlank ∷ field 163 177 NOrBlank ∷ []
unfolding fields_of
absent_two = refl

pub absent_others : (r : Record) → length (absent_of (fields_of r)) ≡ cond (eqb (code r) (code SegmentA)) 2 0
unfolding fields_of
absent_others r = eqb→eq _ _ (each (λ r. eqb (length (absent_of (fields_of r))) (cond (eqb (code r) (code SegmentA)) 2 0)) tt r)
