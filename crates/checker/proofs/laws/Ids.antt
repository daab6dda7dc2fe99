-- Each registration number of each record is asked for once, left to right, and no other house rule has 26. Assumes nothing.
use Rattle.std.specs.Prelude.{◌≡◌, refl, cond, List, [], ◌∷◌, map, ℕ, eqb}
use Rattle.answer.specs.Rules.{Rule}
use Rattle.layout.specs.Field.{Field}
use Rattle.layout.specs.Table.{fields_of}
use Rattle.layout.proofs.laws.Ids.{ids_of}
use Rattle.layout.specs.declared.Record.{Record}
use Rattle.layout.specs.declared.Record.TheVariants.{FileHeader, BatchHeader, SegmentA, SegmentB, SegmentJ, SegmentJ52, SegmentZ, BatchTrailer, FileTrailer, SegmentO}
use Rattle.checker.specs.Line.{id_rule, house_rules, boleto_rules, collection_rules}
use Rattle.checker.proofs.laws.Listed.{id_refusal}

-- those of the rules that have this number
abbrev pub of_number : ℕ → List Rule → List Rule
of_number n [] = []
of_number n (r ∷ rs) = cond (eqb r.refused.number n) (r ∷ of_number n rs) (of_number n rs)

pub all_asked : (r : Record) (rec : List ℕ) → of_number id_refusal (house_rules r rec) ≡ map (λ (f : Field). id_rule f rec) (ids_of r)
unfolding fields_of boleto_rules collection_rules
all_asked FileHeader rec = refl
all_asked BatchHeader rec = refl
all_asked SegmentA rec = refl
all_asked SegmentB rec = refl
all_asked SegmentJ rec = refl
all_asked SegmentJ52 rec = refl
all_asked SegmentZ rec = refl
all_asked BatchTrailer rec = refl
all_asked FileTrailer rec = refl
all_asked SegmentO rec = refl
