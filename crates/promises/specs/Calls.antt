-- How calls end: document 01's table of numbers with their places, and what is said of every call on the checker, on the checker in parts,
-- on the writer, with one record and with digit strings. Assumes nothing.
use Rattle.std.specs.Prelude.{◌≡◌, ◌⊎◌, ◌≢◌, Bool, false, cond, ◌&&◌, ◌||◌, List, [], ◌∷◌, ℕ, suc, ◌+◌, ◌≤◌, ◌<◌, T, leb, eqb, length, Result, Err, Ok}
use Rattle.answer.specs.Rules.{first_broken}
use Rattle.answer.specs.Output.{Writes}
use Rattle.answer.specs.declared.Refusal.{Refusal}
use Rattle.answer.specs.Rules.{Answer}
use Rattle.boleto.specs.Strings.{currency_place, barcode_check, line_check}
use Rattle.boleto.specs.Collection.{code_line_digits, product_place, identifier_place, code_check}
use Rattle.layout.specs.Pairs.{among}
use Rattle.layout.specs.Field.{Field}
use Rattle.layout.specs.Table.{record_bytes, type_place, segment_place, bank_field, batch_field, number_field, batch_records, batch_sum, file_records, all, holder_id, payer_id, payee_id, guarantor_id}
use Rattle.layout.specs.Records.{boleto_amount}
use Rattle.layout.specs.Record.{record_rules}
use Rattle.layout.specs.declared.Direction.{Direction}
use Rattle.layout.specs.declared.Record.{Record}
use Rattle.fields.specs.Values.{record_of, read_record}
use Rattle.fields.specs.declared.Fields.{Fields}
use Rattle.checker.specs.Line.{line_bytes, general_place, factor_place, cents_place, code_place}
use Rattle.checker.specs.Machine.{start, line_of, step_of}
use Rattle.files.specs.File.{lines_of, end_of, check_file}
use Rattle.files.specs.Parts.{arrived, part_call, end_call}
use Rattle.files.specs.Calls.{PartsCall, behind_call, fed}
use Rattle.checker.specs.Calls.{Reached}
use Rattle.checker.specs.declared.Checker.{Checker}
use Rattle.files.specs.declared.incoming.Status.{Status}
use Rattle.files.specs.declared.incoming.Status.TheVariants as status
use Rattle.files.specs.declared.incoming.Incoming.{Incoming}
use Rattle.writer.specs.Given.{Call, records_of}
use Rattle.writer.specs.Outcome.{new_writer, Wrote}
use Rattle.writer.specs.Calls.{AllWhole, Lent, WholeCalls, left}
use Rattle.writer.specs.declared.Writer.{Writer}
use Rattle.writer.specs.declared.Written.{Written}
use Rattle.promises.specs.Strings.{Family}

-- ---- the table

-- the places that a number may name: some of these, 0 being none; those from 1 to a last one; where a field begins
pub data Places : Type 0 where
  at : List ℕ → Places
  up_to : ℕ → Places
  field_start : Places

-- a row of the table: a number, and its places
pub record Row : Type 0 where
  pub number : ℕ
  pub places : Places

-- a row, written short
abbrev pub row : ℕ → Places → Row
row number places = record { number = number; places = places }

-- no place
abbrev pub nowhere : Places
nowhere = at (0 ∷ [])

-- the rows in the paper's order. 4 names a byte of a record, and 41 a digit of a string, which has 48 at most; 14 names the currency's place 21
-- of a barcode field too, and a field of A begins there; 23 names no place in the writer
unfoldable pub table : List Row
table =
    row 1 nowhere
    ∷ row 2 nowhere
    ∷ row 3 nowhere
    ∷ row 4 (up_to record_bytes)
    ∷ row 5 (at (suc record_bytes ∷ line_bytes ∷ []))
    ∷ row 6 (at (type_place ∷ []))
    ∷ row 7 (at (bank_field.from ∷ []))
    ∷ row 8 field_start
    ∷ row 9 (at (batch_field.from ∷ []))
    ∷ row 10 (at (number_field.from ∷ []))
    ∷ row 11 (at (segment_place ∷ []))
    ∷ row 12 field_start
    ∷ row 13 field_start
    ∷ row 14 field_start
    ∷ row 15 field_start
    ∷ row 16 (at (general_place ∷ []))
    ∷ row 17 (at (factor_place ∷ []))
    ∷ row 18 (at (cents_place ∷ []))
    ∷ row 19 (at (boleto_amount.from ∷ []))
    ∷ row 20 (at (type_place ∷ segment_place ∷ []))
    ∷ row 21 (at (batch_records.from ∷ file_records.from ∷ []))
    ∷ row 22 (at (batch_sum.from ∷ []))
    ∷ row 23 (at (batch_sum.from ∷ 0 ∷ []))
    ∷ row 25 nowhere
    ∷ row 26 (at (holder_id.from ∷ payer_id.from ∷ payee_id.from ∷ guarantor_id.from ∷ []))
    ∷ row 40 nowhere ∷ row 41 (up_to code_line_digits)
    ∷ row 42 (at (10 ∷ 21 ∷ 32 ∷ []))
    ∷ row 43 (at (currency_place ∷ [])) ∷ row 44 (at (line_check ∷ barcode_check ∷ []))
    ∷ row 50 nowhere
    ∷ row 51 nowhere
    ∷ row 52 (at (product_place ∷ code_place product_place ∷ []))
    ∷ row 53 (at (identifier_place ∷ code_place identifier_place ∷ []))
    ∷ row 54 (at (12 ∷ 24 ∷ 36 ∷ 48 ∷ []))
    ∷ row 55 (at (code_check ∷ code_place code_check ∷ []))
    ∷ []

-- one of these fields begins at the place
abbrev pub begins : ℕ → List Field → Bool
begins p [] = false
begins p (f ∷ fs) = eqb p f.from || begins p fs

-- a place is one of these places; `all` are the fields of all records
abbrev pub allowed : Places → ℕ → Bool
allowed (at ps) p = among p ps
allowed (up_to last) p = leb 1 p && leb p last
allowed field_start p = begins p all

-- the places of a number's row; a number without a row has none
abbrev pub places_of : ℕ → List Row → Places
places_of n [] = at []
places_of n (r ∷ rows) = cond (eqb n r.number) r.places (places_of n rows)

-- a refusal whose number has a row, at a place of that row
abbrev pub InTable : Refusal → Type 0
InTable r = T (allowed (places_of r.number table) r.place)

-- ---- how a call ends

-- it accepts; or it refuses with a number of the table, its place and its line, and leaves what it might change as it was
pub data Ends {A : Type 0} (before after : A) (OnLine : ℕ → Type 0) : Answer → Type 0 where
  accepted : Ends before after OnLine (Ok tt)
  refused : {r : Refusal} → InTable r → OnLine r.line.0 → after ≡ before → Ends before after OnLine (Err r)

-- the same of what gives something, as an end gives totals
pub data Concludes {A : Type 0} (OnLine : ℕ → Type 0) : Result A Refusal → Type 0 where
  accepted : {a : A} → Concludes OnLine (Ok a)
  refused : {r : Refusal} → InTable r → OnLine r.line.0 → Concludes OnLine (Err r)

-- ---- every call

-- one record alone and digit strings have no line, which is 0
abbrev pub OnNoLine : ℕ → Type 0
OnNoLine n = n ≡ 0

-- what a call changes that only answers
abbrev pub nothing : Unit {0}
nothing = tt

-- one of so many lines, the first of which is the one that is next in a state
abbrev pub OneOfNext : ℕ → Checker → ℕ → Type 0
OneOfNext lines s n = ((line_of s).0 ≤ n) × (n < (line_of s).0 + lines)

-- calls on the checker in a state: with a line, and for the end
pub record CheckerCalls (s : Checker) : Type 0 where
  pub line : (l : List ℕ) → Ends s (step_of s l).state (λ n. n ≡ (line_of s).0) (step_of s l).answer
  pub end : Concludes (λ n. n ≡ (line_of s).0) (end_of s)

-- a whole file
abbrev pub FileCalls : Type 0
FileCalls = (file : List ℕ) → Concludes (OneOfNext (suc (length (lines_of file))) start) (check_file file)

-- the states that public functions give are those that lines lead to: the start, behind a line, and those of the checker in parts and of the
-- writer behind any calls
pub record OnlyReached : Type 0 where
  pub at_start : Reached start
  pub by_line : {s : Checker} → Reached s → (l : List ℕ) → Reached (step_of s l).state
  pub in_parts : (cs : List PartsCall) → Reached (fed (arrived []) cs).machine
  pub in_writer : (ls : List Lent) → WholeCalls ls → Reached (left new_writer ls).checker

-- the line that is next in a state; or none, where the state is one that no calls lead to (51)
abbrev pub NextOrNone : Checker → ℕ → Type 0
NextOrNone s n = (n ≡ (line_of s).0) ⊎ (n ≡ 0)

-- calls on the checker in a state, whatever it is
pub record AnyCalls (s : Checker) : Type 0 where
  pub line : (l : List ℕ) → Ends s (step_of s l).state (NextOrNone s) (step_of s l).answer
  pub end : Concludes (NextOrNone s) (end_of s)

-- the line that a refusal of the checker in parts names: the one that is next in the machine, or none behind an accepted end
abbrev pub LineIn : Status → Checker → ℕ → Type 0
LineIn status.Open m n = n ≡ (line_of m).0
LineIn (status.Refused r) m n = n ≡ (line_of m).0
LineIn status.Ended m n = n ≡ 0

-- calls on the checker in parts, in a state: with a part, and for the end. A part that is refused changes the state, which is request 1's
-- exception: the state remembers the refusal, and the lines before it in that part stay counted. Behind that, and behind an end, no call
-- changes it
pub record IncomingCalls (s : Incoming) : Type 0 where
  pub part : (bytes : List ℕ) → let t = (part_call s bytes).state in Ends nothing nothing (LineIn t.status t.machine) (part_call s bytes).answer
  pub end : Concludes (LineIn s.status s.machine) (end_call s).outcome
  pub shut : s.status ≢ status.Open → (c : PartsCall) → behind_call s c ≡ s

-- calls on the writer in a state, each lent an output: they might change both
pub record WriterCalls (w : Writer) : Type 0 where
  pub call : {c : Call} {out after : List ℕ} {x : Written} → AllWhole (records_of c) → Wrote w c out after x
      → Ends {A = Writer × List ℕ} (w, out) (x.state, after) (OneOfNext (length (records_of c)) w.checker) x.answer

-- calls with one record: a check, a read, which gives fields where it accepts, and a write, which might change the output
pub record RecordCalls (r : Record) (d : Direction) : Type 0 where
  pub check : (rec : List ℕ) → Ends nothing nothing OnNoLine (first_broken (record_rules r d rec))
  pub read : (rec : List ℕ) → Concludes OnNoLine (read_record r d rec)
  pub write : (v : Fields) {out after : List ℕ} {a : Answer} → Writes (record_rules r d (record_of r v)) record_bytes (record_of r v) out a after
      → Ends out after OnNoLine a

-- calls with digit strings of a family: the check of a code and of a line, and the conversion of each into the other, which might change the output
pub record StringCalls (f : Family) : Type 0 where
  pub check_code : (code : List ℕ) → Ends nothing nothing OnNoLine (first_broken (f.code_rules code))
  pub check_line : (line : List ℕ) → Ends nothing nothing OnNoLine (first_broken (f.line_rules line))
  pub to_line : (code : List ℕ) {out after : List ℕ} {a : Answer} → Writes (f.code_rules code) f.line_digits (f.line_of code) out a after
      → Ends out after OnNoLine a
  pub to_code : (line : List ℕ) {out after : List ℕ} {a : Answer} → Writes (f.line_rules line) f.code_digits (f.code_of line) out a after
      → Ends out after OnNoLine a
