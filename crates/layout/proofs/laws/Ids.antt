-- The registration numbers of each record, and their types. Assumes nothing.
use Rattle.std.specs.Prelude.{◌≡◌, refl, Bool, true, false, cond, List, [], ◌∷◌, map}
use Rattle.layout.specs.Field.{Kind, N, NOrBlank, Id, T, F, D, Time, K, O, Zeros, Exact, OneOf, Service, Form, Barcode, Code, RecordType, Segment, Field}
use Rattle.layout.specs.Table.{fields_of, id_type}
use Rattle.layout.specs.declared.Record.{Record}
use Rattle.layout.specs.declared.Record.TheVariants.{FileHeader, BatchHeader, SegmentA, SegmentB, SegmentJ, SegmentJ52, SegmentZ, BatchTrailer, FileTrailer, SegmentO}

abbrev pub is_id : Kind → Bool
is_id N = false
is_id NOrBlank = false
is_id Id = true
is_id T = false
is_id F = false
is_id D = false
is_id Time = false
is_id K = false
is_id O = false
is_id Zeros = false
is_id (Exact bs) = false
is_id (OneOf domain) = false
is_id Service = false
is_id Form = false
is_id Barcode = false
is_id Code = false
is_id (RecordType b) = false
is_id (Segment b) = false

-- the fields of that kind, left to right; and the fields that stand right before them
abbrev pub ids_in : List Field → List Field
ids_in [] = []
ids_in (f ∷ fs) = cond (is_id f.kind) (f ∷ ids_in fs) (ids_in fs)

abbrev pub before_ids : List Field → List Field
before_ids [] = []
before_ids (f ∷ []) = []
before_ids (f ∷ (g ∷ gs)) = cond (is_id g.kind) (f ∷ before_ids (g ∷ gs)) (before_ids (g ∷ gs))

abbrev pub ids_of : Record → List Field
ids_of r = ids_in (fields_of r)

-- right before each number stands its type
pub types_beside : (r : Record) → before_ids (fields_of r) ≡ map id_type (ids_of r)
unfolding fields_of
types_beside FileHeader = refl
types_beside BatchHeader = refl
types_beside SegmentA = refl
types_beside SegmentB = refl
types_beside SegmentJ = refl
types_beside SegmentJ52 = refl
types_beside SegmentZ = refl
types_beside BatchTrailer = refl
types_beside FileTrailer = refl
types_beside SegmentO = refl
