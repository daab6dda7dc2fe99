-- The numbers that a call is refused with. Assumes nothing.
use Rattle.std.specs.Prelude.{◌≡◌, refl, Bool, true, ◌&&◌, ◌||◌, List, [], ◌∷◌, ℕ, suc, ◌<◌, leb, eqb, length, get_or, drop, Err, Option, None, Some}
use Rattle.std.proofs.Common.{ap, ◌∙◌, zero-le, suc-le-suc}
use Rattle.answer.specs.Rules.{Rule, rules_on_line}
use Rattle.answer.proofs.laws.Only as only
use Rattle.answer.proofs.laws.Only.{Only, none, more, past, join, broken_so}
use Rattle.answer.specs.declared.LineNo.{LineNo}
use Rattle.answer.specs.declared.Refusal.{Refusal}
use Rattle.layout.specs.Field.{Kind, N, NOrBlank, Id, T as Text, F, D, Time, K, O, Zeros, Exact, OneOf, Service, Form, Barcode, Code, RecordType, Segment, Field, part, none as no_field}
use Rattle.layout.specs.Table.{fields_of}
use Rattle.layout.specs.Records.{shape_of, is_one_of}
use Rattle.layout.specs.Kinds.{Part, means, same, blank_in}
use Rattle.layout.specs.Record.{part_of, rules_of}
use Rattle.layout.proofs.laws.Bytes.{same_self}
use Rattle.layout.specs.declared.Direction.{Direction}
use Rattle.layout.specs.declared.Direction.TheVariants.{Remittance, Return}
use Rattle.layout.specs.declared.Record.{Record}
use Rattle.layout.specs.declared.shapes.House.{House}
use Rattle.layout.specs.declared.shapes.House.TheVariants.{RulesOfJ, OneId, ThreeIds, RulesOfO}
use Rattle.fields.specs.Values.{held_as, nth, rendered}
use Rattle.fields.proofs.laws.Parts.{holds}
use Rattle.fields.specs.declared.Fields.{Fields}
use Rattle.checker.specs.Line.{house_by, boleto_rules, collection_rules}
use Rattle.checker.specs.Machine.{line_of}
use Rattle.checker.specs.declared.Checker.{Checker}
use Rattle.writer.specs.Given.{Call, open_file, open_batch, pay, close_batch, close_file, records_of}
use Rattle.filling.specs.Filling.{filled, bytes_of}
use Rattle.writer.specs.Refusals.{turn_limits, expected_in, expected_now, given_rules, next_by, all_given, sum_rules, call_rules}
use Rattle.writer.specs.Outcome.{answer_of}
use Rattle.fields.specs.Values.{Whole}
use Rattle.writer.specs.Calls.{AllWhole, no_more, and_then}
use Rattle.writer.specs.declared.Writer.{Writer}
use Rattle.writer.proofs.laws.Lines.{full_text}
use Rattle.writer.proofs.laws.Answers.{call_refused}

-- 4, 8, 11 to 20, 23, 25, 26, 50 to 53 and 55
abbrev pub writes : ℕ → Bool
writes n = eqb n 4 || (eqb n 8 || ((leb 11 n && leb n 20) || (eqb n 23 || ((leb 25 n && leb n 26) || ((leb 50 n && leb n 53) || eqb n 55)))))

-- each rule names such a number, or is kept
abbrev Writes : List Rule → Type 0
Writes rs = Only (λ x. writes x.number ≡ true) rs

one : {r : Rule} → writes r.refused.number ≡ true → Writes (r ∷ [])
one e = more e none

on-line : (n : LineNo) {rs : List Rule} → Writes rs → Writes (rules_on_line n rs)
on-line n a = only.on-line n _ (λ x h. h) a

blanks : (d : Direction) (p : Part) → Writes (blank_in d p)
blanks Remittance p = one refl
blanks Return p = none

-- the type's rule alone names another number, 6, and is kept: the type is rendered
kind : (k : Kind) (p : Part) (n : Option ℕ) (text : List ℕ) → p.bytes ≡ rendered (means k).held n text → Writes ((means k).rules p)
kind N p n text e = one refl
kind NOrBlank p n text e = one refl
kind Id p n text e = one refl
kind Text p n text e = one refl
kind F p n text e = none
kind D p n text e = one refl
kind Time p n text e = one refl
kind K p n text e = one refl
kind O p n text e = blanks p.direction p
kind Zeros p n text e = one refl
kind (Exact bs) p n text e = one refl
kind (OneOf domain) p n text e = one refl
kind Service p n text e = one refl
kind Form p n text e = none
kind Barcode p n text e = more refl (one refl)
kind Code p n text e = one refl
kind (RecordType b) p n text e = past (ap (same (b ∷ [])) e ∙ same_self (b ∷ [])) none
kind (Segment b) p n text e = one refl

-- fields that are rendered from numbers and a text
fields : (fs : List Field) (d : Direction) (rec : List ℕ) (n : ℕ → Option ℕ) (text : List ℕ)
    → ((j : ℕ) → j < length fs → let f = get_or fs j no_field in part f rec ≡ rendered (held_as f) (n j) (part f text)) → Writes (rules_of fs d rec)
unfolding rules_of
fields [] d rec n text h = none
fields (f ∷ fs) d rec n text h =
    join (kind f.kind (part_of f d rec) (n 0) (part f text) (h 0 (suc-le-suc zero-le)))
    (fields fs d rec (λ j. n (suc j)) text (λ j l. h (suc j) (suc-le-suc l)))

house : (h : Option House) (rec : List ℕ) → Writes (house_by h rec)
unfolding boleto_rules collection_rules
house None rec = none
house (Some RulesOfJ) rec = more refl (more refl (more refl (one refl)))
house (Some OneId) rec = one refl
house (Some ThreeIds) rec = more refl (more refl (one refl))
house (Some RulesOfO) rec = more refl (more refl (one refl))

given : (expected : Bool) (s : Checker) (g : Fields) → Whole g → Writes (given_rules expected g.which s.dir (bytes_of s g))
unfolding given_rules
given expected s g whole =
    let v = filled g.which s g in
    let held = holds g.which v (full_text s g whole) in
    more refl
    (more refl (join (fields (fields_of g.which) s.dir (bytes_of s g) (λ j. nth j v) v.text held) (house (shape_of g.which).house (bytes_of s g))))

records : (expected : List (List Record)) (s : Checker) {gs : List Fields} → AllWhole gs → Writes (all_given expected s gs)
unfolding all_given
records expected s no_more = none
records expected s (and_then {g} whole rest) =
    join (on-line (line_of s) (given (is_one_of g.which (expected_now expected)) s g whole)) (records (drop 1 expected) (next_by s g) rest)

turn : (c : Call) (s : Checker) → Writes (turn_limits c s)
turn (open_file v) s = one refl
turn (open_batch v) s = more refl (more refl (one refl))
turn (pay p) s = more refl (more refl (one refl))
turn (close_batch v) s = one refl
turn (close_file v) s = one refl

sums : (c : Call) (s : Checker) → Writes (sum_rules c s)
sums (open_file v) s = none
sums (open_batch v) s = none
sums (pay p) s = one refl
sums (close_batch v) s = none
sums (close_file v) s = none

-- the writer never answers 1, 2, 3, 5, 6, 7, 9, 10, 21, 22 or 40 to 44
pub never_others : (w : Writer) (c : Call) (out : List ℕ) → AllWhole (records_of c) → (r : Refusal) → answer_of w c out ≡ Err r
    → writes r.number ≡ true
unfolding call_rules
never_others w c out whole r e =
    let s = w.checker in
    let each = records (expected_in c s) s whole in
    broken_so
    (join (more refl (on-line (line_of s) (turn c s))) (join each (on-line (line_of s) (join (sums c s) (one refl)))))
    ((call_refused w c out r).0 e)
