-- Every rule of a line names one of the paper's numbers, 1 to 23, 26, 52, 53 or 55, and no line; of one record alone 1 to 15. Assumes nothing.
use Rattle.std.specs.Prelude.{◌≡◌, refl, Bool, ◌&&◌, ◌||◌, List, [], ◌∷◌, ◌++◌, ℕ, ◌≤◌, T, leb, Err, None, Option, Some}
use Rattle.std.proofs.Common.{subst, arith, le-leb, leb→le}
use Rattle.answer.specs.Rules.{Rule, rule, no_line, Broken, first_broken}
use Rattle.answer.proofs.laws.Order.{refused_broken}
use Rattle.answer.specs.declared.Refusal.{Refusal}
use Rattle.digits.proofs.laws.Tests.{both}
use Rattle.layout.specs.Pairs.{among as oneAmong}
use Rattle.layout.specs.Field.{Kind, N, NOrBlank, Id, T as Text, F, D, Time, K, O, Zeros, Exact, OneOf, Service, Form, Barcode, Code, RecordType, Segment, Field}
use Rattle.layout.specs.Records.{shape_of}
use Rattle.layout.specs.Table.{marks, fields_of, segment_fields, segment_place, type_place, batch_records, file_batches, file_records}
use Rattle.layout.specs.Kinds.{Part, means, blank_in}
use Rattle.layout.specs.Record.{rules_of, part_of, record_rules}
use Rattle.layout.specs.declared.Direction.{Direction}
use Rattle.layout.specs.declared.Direction.TheVariants.{Remittance, Return}
use Rattle.layout.specs.declared.Record.{Record}
use Rattle.layout.specs.declared.shapes.LineType.{LineType}
use Rattle.layout.specs.declared.shapes.LineType.TheVariants.{FileFirst, BatchFirst, Detail, BatchLast, FileLast}
use Rattle.layout.specs.declared.shapes.House.{House}
use Rattle.layout.specs.declared.shapes.House.TheVariants.{RulesOfJ, OneId, ThreeIds, RulesOfO}
use Rattle.checker.specs.Line.{behind, between, house_by, boleto_rules, collection_rules, rules_of_type, rules_as, reading_rules, line_is, type_rules, line_rules, rules_of_line, record_in}
use Rattle.checker.specs.declared.Checker.{Checker}

-- the lowest and the highest number that a line is refused with, but for those that came behind document 01
abbrev pub first_number : ℕ
first_number = 1

abbrev pub last_number : ℕ
last_number = 23

abbrev pub id_refusal : ℕ
id_refusal = 26

-- a registration number; a collection code's product, its identifier and its general check
abbrev pub later_numbers : List ℕ
later_numbers = id_refusal ∷ 52 ∷ 53 ∷ 55 ∷ []

abbrev pub numbered : ℕ → Bool
numbered n = leb n last_number || oneAmong n later_numbers

-- the highest that a field is refused with
abbrev pub last_of_fields : ℕ
last_of_fields = 15

abbrev pub in_fields : ℕ → Bool
in_fields n = leb n last_of_fields

-- the lowest that a whole line is refused with before the file trailer
abbrev pub byte_number : ℕ
byte_number = 4

abbrev pub tabled : ℕ → (ℕ → Bool) → ℕ → Bool
tabled low among n = leb low n && among n

-- each of these rules names a number from a lowest one on, among some, and no line
pub data Listed (low : ℕ) (among : ℕ → Bool) : List Rule → Type 0 where
  none : Listed low among []
  more : {n p : ℕ} {kept : Bool} {rs : List Rule} → T (tabled low among n) → Listed low among rs → Listed low among (rule n p kept ∷ rs)

join : {low : ℕ} {among : ℕ → Bool} {xs ys : List Rule} → Listed low among xs → Listed low among ys → Listed low among (xs ++ ys)
join none b = b
join (more t a) b = more t (join a b)

-- what is listed among these numbers is listed among those
wider : {low low' : ℕ} {among among' : ℕ → Bool} {rs : List Rule} → ((n : ℕ) → T (tabled low among n) → T (tabled low' among' n)) → Listed low among rs → Listed low' among' rs
wider w none = none
wider w (more {n} t a) = more (w n t) (wider w a)

-- numbers from a higher one on are numbers from a lower one on; those of fields are numbers of a line
from_first : (among : ℕ → Bool) (n : ℕ) → T (tabled byte_number among n) → T (tabled first_number among n)
from_first among n t =
    let k = both (leb byte_number n) (among n) t in
    rw (le-leb first_number n (omega (arith, leb→le byte_number n k.0))) k.1

of_line : (n : ℕ) → T (tabled byte_number in_fields n) → T (tabled byte_number numbered n)
of_line n t =
    let k = both (leb byte_number n) (in_fields n) t in
    rw (le-leb byte_number n (leb→le byte_number n k.0), le-leb n last_number (omega (arith, leb→le n last_of_fields k.1))) tt

-- ---- the rules of a line are listed

one : {among : ℕ → Bool} {n p : ℕ} {kept : Bool} → T (tabled byte_number among n) → Listed byte_number among (rule n p kept ∷ [])
one t = more t none

blanks : (d : Direction) (p : Part) → Listed byte_number in_fields (blank_in d p)
blanks Remittance p = one tt
blanks Return p = none

kind : (k : Kind) (p : Part) → Listed byte_number in_fields ((means k).rules p)
kind N p = one tt
kind NOrBlank p = one tt
kind Id p = one tt
kind Text p = one tt
kind F p = none
kind D p = one tt
kind Time p = one tt
kind K p = one tt
kind O p = blanks p.direction p
kind Zeros p = one tt
kind (Exact bs) p = one tt
kind (OneOf domain) p = one tt
kind Service p = one tt
kind Form p = none
kind Barcode p = more tt (one tt)
kind Code p = one tt
kind (RecordType b) p = one tt
kind (Segment b) p = one tt

among_fields : (fs : List Field) (d : Direction) (rec : List ℕ) → Listed byte_number in_fields (rules_of fs d rec)
unfolding rules_of
among_fields [] d rec = none
among_fields (f ∷ fs) d rec = join (kind f.kind (part_of f d rec)) (among_fields fs d rec)

fields : (fs : List Field) (d : Direction) (rec : List ℕ) → Listed byte_number numbered (rules_of fs d rec)
fields fs d rec = wider of_line (among_fields fs d rec)

house : (h : Option House) (rec : List ℕ) → Listed byte_number numbered (house_by h rec)
unfolding boleto_rules collection_rules
house None rec = none
house (Some RulesOfJ) rec = more tt (more tt (more tt (one tt)))
house (Some OneId) rec = one tt
house (Some ThreeIds) rec = more tt (more tt (one tt))
house (Some RulesOfO) rec = more tt (more tt (one tt))

of_type : (t : LineType) (r : Record) (s : Checker) (rec : List ℕ) → Listed byte_number numbered (rules_of_type t r s rec)
unfolding rules_of_type
of_type FileFirst r s rec = more tt (more tt (fields (behind type_place r) s.dir rec))
of_type BatchFirst r s rec = more tt (more tt (more tt (fields (behind type_place r) s.dir rec)))
of_type Detail r s rec =
    join (more tt (more tt (more tt (fields (segment_fields r) s.dir rec)))) (more tt (fields (behind segment_place r) s.dir rec))
of_type BatchLast r s rec =
    join
    (join
    (more tt (more tt (fields (between type_place batch_records.to r) s.dir rec)))
    (more tt (fields (behind batch_records.to r) s.dir rec)))
    (more tt (one tt))
of_type FileLast r s rec =
    join
    (join
    (more tt (more tt (fields (between type_place file_batches.to r) s.dir rec)))
    (more tt (fields (between file_batches.to file_records.to r) s.dir rec)))
    (more tt (fields (behind file_records.to r) s.dir rec))

read : (r : Record) (s : Checker) (rec : List ℕ) → Listed byte_number numbered (rules_as r s rec)
unfolding rules_as
read r s rec = join (of_type (shape_of r).line r s rec) (house (shape_of r).house rec)

reading : (d : Option Record) (s : Checker) (rec : List ℕ) → Listed byte_number numbered (reading_rules d s rec)
reading (Some r) s rec = read r s rec
reading None s rec = none

-- those of a whole line before the file trailer, and all
pub whole_listed : (s : Checker) (line : List ℕ) → Listed byte_number numbered (line_rules s line)
unfolding line_rules type_rules
whole_listed s line = more tt (more tt (more tt (more tt (reading (line_is s (record_in line)) s (record_in line)))))

pub line_listed : (s : Checker) (line : List ℕ) → Listed first_number numbered (rules_of_line s line)
unfolding rules_of_line
line_listed s line = more tt (more tt (wider (from_first numbered) (whole_listed s line)))

-- those of one record alone, which is not asked what the house asks
pub alone_listed : (r : Record) (d : Direction) (rec : List ℕ) → Listed first_number in_fields (record_rules r d rec)
unfolding record_rules
alone_listed r d rec = more tt (more tt (wider (from_first in_fields) (join (among_fields (marks r) d rec) (among_fields (fields_of r) d rec))))

-- ---- what that says of a broken one

pub record InTable (lowest : ℕ) (among : ℕ → Bool) (r : Refusal) : Type 0 where
  pub on_no_line : r.line ≡ no_line
  pub low : lowest ≤ r.number
  pub is_among : T (among r.number)

in-front : {low : ℕ} {among : ℕ → Bool} {r : Rule} {rs : List Rule} → Listed low among (r ∷ rs) → InTable low among r.refused
in-front {low} {among} (more {n} t a) =
    let k = both (leb low n) (among n) t in
    record { on_no_line = refl; low = leb→le low n k.0; is_among = k.1 }

without_front : {low : ℕ} {among : ℕ → Bool} {r : Rule} {rs : List Rule} → Listed low among (r ∷ rs) → Listed low among rs
without_front (more t a) = a

inside : {low : ℕ} {among : ℕ → Bool} (xs : List Rule) (r : Rule) (ys : List Rule) → Listed low among (xs ++ r ∷ ys) → InTable low among r.refused
inside [] r ys a = in-front a
inside (x ∷ xs) r ys a = inside xs r ys (without_front a)

pub broken_listed : {low : ℕ} {among : ℕ → Bool} {rs : List Rule} {r : Refusal} → Listed low among rs → Broken rs r → InTable low among r
broken_listed {low} {among} a b = inside b.earlier _ b.later (subst (Listed low among) b.are a)

-- one record alone is refused with 1 to 15, and so never with a house rule's number
pub alone_number : (r : Record) (d : Direction) (rec : List ℕ) (x : Refusal) → first_broken (record_rules r d rec) ≡ Err x
    → (first_number ≤ x.number) × (x.number ≤ last_of_fields)
alone_number r d rec x e =
    let t = broken_listed (alone_listed r d rec) (refused_broken (record_rules r d rec) x e) in
    (t.low, leb→le x.number last_of_fields t.is_among)
