-- The reader's files and the writer's: a file's records given back as calls, and files that calls write and close. Assumes nothing.
use Rattle.std.specs.Prelude.{◌≡◌, List, [], ◌∷◌, ◌++◌, ℕ, length, drop, None, Ok, Option, Some}
use Rattle.fields.specs.Values.{fields_in}
use Rattle.checker.specs.Line.{record_in, line_is}
use Rattle.checker.specs.Machine.{start, step_of}
use Rattle.files.specs.File.{lines_of}
use Rattle.layout.specs.declared.Record.{Record}
use Rattle.layout.specs.declared.shapes.Phase.TheVariants.{Ended}
use Rattle.checker.specs.declared.totals.Totals.{Totals}
use Rattle.checker.specs.declared.Checker.{Checker}
use Rattle.writer.specs.Given.{Call, records_of}
use Rattle.writer.specs.Outcome.{new_writer, answer_of}
use Rattle.writer.specs.Calls.{Lent, WholeCalls, state_behind, left, file_of, put_in, lent_on, memory}
use Rattle.fields.specs.declared.Fields.{Fields}
use Rattle.writer.specs.declared.Writer.{Writer}

-- ---- a file's records, as they are read

-- the record that a line is read as, with its fields
abbrev pub record_read : Option Record → List ℕ → List Fields
record_read (Some r) rec = fields_in r rec ∷ []
record_read None rec = []

-- the records of lines, each read in the state that the lines before it leave
unfoldable pub records_read : Checker → List (List ℕ) → List Fields
records_read s [] = []
records_read s (l ∷ ls) = record_read (line_is s (record_in l)) (record_in l) ++ records_read (step_of s l).state ls

-- ---- calls

-- the records that calls are given, in their order
unfoldable pub records_given : List Call → List Fields
records_given [] = []
records_given (c ∷ cs) = records_of c ++ records_given cs

-- every call is accepted, each in the state that the calls before it leave
pub data AllAccepted : Writer → List Lent → Type 0 where
  none_refused : {w : Writer} → AllAccepted w []
  accepts : {w : Writer} {l : Lent} {ls : List Lent} → answer_of w l.call l.out ≡ Ok tt → AllAccepted (state_behind w l) ls → AllAccepted w (l ∷ ls)

-- ---- a file written back

-- calls that are given the file's records, are all accepted and close the file; the memory then holds the same file, and behind it what stood there
pub record WrittenBack (file out : List ℕ) : Type 0 where
  pub calls : List Call
  pub given_back : records_given calls ≡ records_read start (lines_of file)
  pub whole : WholeCalls (lent_on new_writer calls out)
  pub accepted : AllAccepted new_writer (lent_on new_writer calls out)
  pub closed : (left new_writer (lent_on new_writer calls out)).checker.phase ≡ Ended
  pub same_file : file_of (lent_on new_writer calls out) ≡ file
  pub same_memory : memory new_writer calls out ≡ file ++ drop (length file) out

-- a file that calls write and close, and what they put in, whatever memory each is lent and whatever is refused on the way
pub record WrittenBy (file : List ℕ) (t : Totals) : Type 0 where
  pub calls : List Lent
  pub whole : WholeCalls calls
  pub closed : (left new_writer calls).checker.phase ≡ Ended
  pub is : file_of calls ≡ file
  pub counted : put_in new_writer calls ≡ t
