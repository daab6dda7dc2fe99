-- A line that is written has 242 bytes, so the lines of some records have 242 for each. Assumes nothing.
use Rattle.std.specs.Prelude.{◌≡◌, refl, length}
use Rattle.std.proofs.Common.{ap, ◌∙◌, arith, length-append}
use mathlib.Core.List.{List, flatten}
use Rattle.layout.specs.Table.{record_bytes}
use Rattle.fields.proofs.laws.Parts.{record_length}
use Rattle.fields.specs.declared.Fields.{Fields}
use Rattle.checker.specs.Line.{line_bytes, line_from}
use Rattle.checker.specs.declared.Checker.{Checker}
use Rattle.filling.specs.Filling.{filled, bytes_of}
use Rattle.writer.specs.Refusals.{next_by, size}
use Rattle.writer.specs.Outcome.{lines_for}
use Rattle.fields.specs.Values.{Whole}
use Rattle.writer.specs.Calls.{AllWhole, no_more, and_then}
use Rattle.filling.proofs.laws.Filled.{filled_text}

module _ (s : Checker) (g : Fields) (whole : Whole g) where
  -- fields with what the writer fills have a whole text; so a record has 240 bytes, and its line 242
  pub full_text : length (filled g.which s g).text ≡ record_bytes
  full_text = ap length (filled_text g.which s g) ∙ whole.text

  pub bytes_length : length (bytes_of s g) ≡ record_bytes
  bytes_length = record_length g.which (filled g.which s g) full_text

  pub line_length : length (line_from (bytes_of s g)) ≡ line_bytes
  line_length = rw (length-append, bytes_length)

-- so many lines
pub lines_size : (s : Checker) {gs : List Fields} → AllWhole gs → length (flatten (lines_for s gs)) ≡ size (length gs)
unfolding lines_for flatten
lines_size s no_more = refl
lines_size s (and_then {g} whole rest) =
    length-append (line_from (bytes_of s g)) _ ∙ omega (arith, line_length s g whole, lines_size (next_by s g) rest)
