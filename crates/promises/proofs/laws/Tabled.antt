-- Every rule that a call is refused by names a number and a place of the table: the rules of a record, of a line, of digit strings and of the
-- writer's calls. Where all is known but the bytes, antt computes it. Assumes nothing.
use Rattle.std.specs.Prelude.{◌≡◌, refl, Bool, true, false, ◌&&◌, List, [], ◌∷◌, ◌++◌, ℕ, suc, ◌+◌, ◌≤◌, T, eqb, length, drop, None, Option, Some}
use Rattle.std.proofs.Common.{arith, eqb-true, le-leb, eqb→eq, lit≤, length-take}
use Rattle.std.proofs.lemmas.Bool.{eqb-false}
use Rattle.answer.specs.Rules.{Rule, rule, rules_on_line}
use Rattle.answer.proofs.laws.Only as only
use Rattle.answer.proofs.laws.Only.{Only, none, first, more, join}
use Rattle.answer.specs.declared.LineNo.{LineNo}
use Rattle.answer.specs.declared.Refusal.{Refusal}
use Rattle.digits.specs.Digits.{leading, all_digits}
use Rattle.digits.proofs.laws.Strings.{leading_le}
use Rattle.digits.proofs.laws.Tests.{both}
use Rattle.boleto.specs.Strings.{barcode_digits, line_digits}
use Rattle.boleto.specs.Parts.{string_rules}
use Rattle.boleto.specs.Rules as boleto
use Rattle.boleto.specs.Collection.{code_digits, code_line_digits}
use Rattle.boleto.specs.CollectionRules.{code_head_rules, code_rules, block_rules, code_line_rules}
use Rattle.layout.specs.Records.{is_one_of}
use Rattle.layout.specs.Table.{marks, fields_of, record_bytes, all, fields_of_each}
use Rattle.layout.specs.Record.{rules_of, byte_rule, clean, record_rules}
use Rattle.layout.proofs.laws.Bytes.{clean_le}
use Rattle.layout.specs.declared.Direction.{Direction}
use Rattle.layout.specs.declared.Direction.TheVariants.{Remittance, Return}
use Rattle.layout.specs.declared.Record.{Record}
use Rattle.layout.proofs.laws.Records.{each}
use Rattle.layout.specs.declared.pairs.Batch.{Batch}
use Rattle.checker.specs.Line.{within, boleto_rules, collection_rules, house_rules, rules_of_type, rules_as, record_in, line_is, reading_rules, type_rules, line_rules, rules_of_line}
use Rattle.checker.specs.Machine.{state, line_of}
use Rattle.layout.specs.declared.shapes.Phase.{Phase}
use Rattle.checker.specs.declared.totals.Totals.{Totals}
use Rattle.checker.specs.declared.Checker.{Checker}
use Rattle.writer.specs.Given.{Call, open_file, open_batch, pay, close_batch, close_file, records_of}
use Rattle.filling.specs.Filling.{bytes_of}
use Rattle.writer.specs.Refusals.{turn_limits, expected_in, expected_now, last_rules, given_rules, next_by, all_given, call_rules}
use Rattle.fields.specs.Values.{Whole}
use Rattle.writer.specs.Calls.{AllWhole, no_more, and_then}
use Rattle.writer.proofs.laws.Lines.{bytes_length}
use Rattle.fields.specs.declared.Fields.{Fields}
use Rattle.writer.specs.declared.Writer.{Writer}
use Rattle.promises.specs.Calls.{table, up_to, allowed, places_of, InTable}

-- ---- of the table, on no line

-- a refusal that is so
abbrev pub Alone : Refusal → Type 0
Alone r = (r.line.0 ≡ 0) × InTable r

-- the same as a test, of one refusal and of each rule's
abbrev alone : Refusal → Bool
alone r = eqb r.line.0 0 && allowed (places_of r.number table) r.place

abbrev pub all_alone : List Rule → Bool
all_alone [] = true
all_alone (x ∷ xs) = alone x.refused && all_alone xs

-- what the test says
pub tested : (rs : List Rule) → T (all_alone rs) → Only Alone rs
tested [] t = none
tested (x ∷ xs) t =
    let all = both (alone x.refused) (all_alone xs) t in
    let one = both (eqb x.refused.line.0 0) (allowed (places_of x.refused.number table) x.refused.place) all.0 in
    more (eqb→eq _ _ one.0, one.1) (tested xs all.1)

-- put on a line, they are of the table still
on-line : (l : LineNo) (rs : List Rule) → Only Alone rs → Only InTable (rules_on_line l rs)
on-line l rs a = only.on-line l rs (λ x h. h.1) a

-- ---- the first fault among bytes

-- behind so many good ones, which are not all, at a place from 1 to the last
first_fault : (p good last : ℕ) (bs : List ℕ) → p ≡ good + 1 → good ≤ length bs → eqb good (length bs) ≡ false → length bs ≤ last
    → T (allowed (up_to last) p)
first_fault p good last bs e some wrong short =
    let not-all = eqb-false good (length bs) wrong in
    rw (le-leb 1 p (omega arith), le-leb p last (omega arith)) tt

-- a record's bytes, and a string's digits
bytes : (rec : List ℕ) {rs : List Rule} → length rec ≤ record_bytes → Only Alone rs → Only Alone (byte_rule rec ∷ rs)
unfolding table
bytes rec short others =
    first (byte_rule rec) (λ q. (refl, first_fault (suc (clean rec)) (clean rec) record_bytes rec (omega arith) (clean_le rec) q short)) (λ q. others)

digits : (bs : List ℕ) {rs : List Rule} → length bs ≤ code_line_digits → Only Alone rs → Only Alone (rule 41 (leading bs + 1) (all_digits bs) ∷ rs)
unfolding table
digits bs short others =
    first (rule 41 (leading bs + 1) (all_digits bs))
    (λ q. (refl, first_fault (leading bs + 1) (leading bs) code_line_digits bs refl (leading_le bs) q short))
    (λ q. others)

-- ---- one record

-- its type, its segment and all its fields
marked : (r : Record) (d : Direction) (rec : List ℕ) → T (all_alone (rules_of (marks r) d rec ++ rules_of (fields_of r) d rec))
unfolding table all fields_of_each rules_of fields_of
marked r Remittance rec = each (λ r. all_alone (rules_of (marks r) Remittance rec ++ rules_of (fields_of r) Remittance rec)) tt r
marked r Return rec = each (λ r. all_alone (rules_of (marks r) Return rec ++ rules_of (fields_of r) Return rec)) tt r

-- the rules of one record alone
pub record-rules : (r : Record) (d : Direction) (rec : List ℕ) → Only Alone (record_rules r d rec)
unfolding record_rules table
record-rules r d rec =
    first (rule 1 0 (eqb (length rec) record_bytes))
    (λ q. (refl, tt))
    (λ q. bytes rec (omega (arith, eqb-true (length rec) record_bytes q)) (tested _ (marked r d rec)))

-- ---- a line

-- behind the type, by what the line is read as, in every state
read : (r : Record) (p : Phase) (d : Direction) (b : Option Batch) (n : ℕ) (x y : Totals) (rec : List ℕ) → T (all_alone (rules_as r (state p d b n x y) rec))
unfolding table all fields_of_each rules_of fields_of within boleto_rules collection_rules rules_of_type rules_as
read r p Remittance b n x y rec = each (λ r. all_alone (rules_as r (state p Remittance b n x y) rec)) tt r
read r p Return b n x y rec = each (λ r. all_alone (rules_as r (state p Return b n x y) rec)) tt r

-- whatever it is read as
reading : (d : Option Record) (s : Checker) (rec : List ℕ) → T (all_alone (reading_rules d s rec))
reading (Some r) s rec = read r s.phase s.dir s.batch s.bank s.closed s.current rec
reading None s rec = tt

-- the rules of a line
pub line-rules : (s : Checker) (line : List ℕ) → Only Alone (rules_of_line s line)
unfolding rules_of_line line_rules type_rules table
line-rules s line =
    let rec = record_in line in
    more (refl, tt) (more (refl, tt) (bytes rec (rw length-take (omega arith)) (tested _ (reading (line_is s rec) s rec))))

-- ---- digit strings

-- the length and the digits, then others
string-rules : (n : ℕ) (bs : List ℕ) (others : List Rule) → n ≤ code_line_digits → T (all_alone others) → Only Alone (string_rules n bs ++ others)
unfolding table
string-rules n bs others few t =
    first (rule 40 0 (eqb (length bs) n))
    (λ q. (refl, tt))
    (λ q. digits bs (omega (arith, eqb-true (length bs) n q)) (tested others t))

-- the rules of a barcode, and of a digit line
pub barcode-rules : (bar : List ℕ) → Only Alone (boleto.barcode_rules bar)
unfolding boleto.barcode_rules boleto.head_rules table
barcode-rules bar = string-rules barcode_digits bar _ (lit≤ tt) tt

pub digit-line-rules : (line : List ℕ) → Only Alone (boleto.digit_line_rules line)
unfolding boleto.digit_line_rules boleto.head_rules boleto.check_rules table
digit-line-rules line = string-rules line_digits line _ (lit≤ tt) tt

-- of a collection code, and of its line
pub code-rules : (code : List ℕ) → Only Alone (code_rules code)
unfolding code_rules code_head_rules table
code-rules code = string-rules code_digits code _ (lit≤ tt) tt

pub code-line-rules : (line : List ℕ) → Only Alone (code_line_rules line)
unfolding code_line_rules code_head_rules block_rules table
code-line-rules line = string-rules code_line_digits line _ (lit≤ tt) tt

-- ---- a call of the writer

-- all fields of a record, and what the house asks
given : (r : Record) (d : Direction) (rec : List ℕ) → T (all_alone (rules_of (fields_of r) d rec ++ house_rules r rec))
unfolding table all fields_of_each rules_of fields_of boleto_rules collection_rules
given r Remittance rec = each (λ r. all_alone (rules_of (fields_of r) Remittance rec ++ house_rules r rec)) tt r
given r Return rec = each (λ r. all_alone (rules_of (fields_of r) Return rec ++ house_rules r rec)) tt r

-- the rules of a record that is given, and of all of a call's
given-rules : (expected : Bool) (s : Checker) (g : Fields) → Whole g → Only Alone (given_rules expected g.which s.dir (bytes_of s g))
unfolding given_rules table
given-rules expected s g whole = bytes (bytes_of s g) (omega (arith, bytes_length s g whole)) (tested _ (given g.which s.dir (bytes_of s g)))

all-given : (expected : List (List Record)) (s : Checker) {gs : List Fields} → AllWhole gs → Only InTable (all_given expected s gs)
unfolding all_given
all-given expected s no_more = none
all-given expected s (and_then {g} whole rest) =
    join (on-line (line_of s) _ (given-rules (is_one_of g.which (expected_now expected)) s g whole)) (all-given (drop 1 expected) (next_by s g) rest)

-- what a call is asked before its records, and behind them
around : (w : Writer) (c : Call) (out : List ℕ) → T (all_alone (turn_limits c w.checker)) × T (all_alone (last_rules c w out))
unfolding table
around w (open_file v) out = (tt, tt)
around w (open_batch v) out = (tt, tt)
around w (pay p) out = (tt, tt)
around w (close_batch v) out = (tt, tt)
around w (close_file v) out = (tt, tt)

-- the rules of a call
pub call-rules : (w : Writer) (c : Call) (out : List ℕ) → AllWhole (records_of c) → Only InTable (call_rules w c out)
unfolding call_rules table
call-rules w c out whole =
    let s = w.checker in
    let t = around w c out in
    let each = all-given (expected_in c s) s whole in
    join (more tt (on-line (line_of s) (turn_limits c s) (tested _ t.0)))
    (join each (on-line (line_of s) (last_rules c w out) (tested _ t.1)))
