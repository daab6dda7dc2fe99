-- What the writer fills: the bank of every later record, the numbering, the counts and the sum. Types, segments and other fixed content are filled
-- wherever fields are written. Assumes nothing.
use Rattle.std.specs.Prelude.{List, ℕ, ◌+◌}
use Rattle.layout.specs.Table.{bank_field, batch_field, number_field, batch_records, batch_sum, file_batches, file_records}
use Rattle.layout.specs.Names.{index_of}
use Rattle.layout.specs.declared.Record.{Record}
use Rattle.layout.specs.declared.Record.TheVariants.{BatchTrailer, FileTrailer}
use Rattle.layout.specs.declared.shapes.LineType.{LineType}
use Rattle.layout.specs.declared.shapes.LineType.TheVariants.{FileFirst, BatchFirst, Detail, BatchLast, FileLast}
use Rattle.layout.specs.Records.{shape_of}
use Rattle.checker.specs.Totals.{batch_count, record_count, cent_sum}
use Rattle.fields.specs.Values.{record_of, set_nth}
use Rattle.fields.specs.declared.Fields.{Fields}
use Rattle.checker.specs.Line.{ordinal, header_batch, trailer_batch}
use Rattle.checker.specs.declared.Checker.{Checker}

-- where they stand among the fields of a record, from 0 on
abbrev pub bank_index : Record → ℕ
bank_index r = index_of r bank_field

abbrev pub batch_index : Record → ℕ
batch_index r = index_of r batch_field

abbrev pub number_index : Record → ℕ
number_index r = index_of r number_field

-- the trailers' counts and sum
abbrev pub batch_records_index : ℕ
batch_records_index = index_of BatchTrailer batch_records

abbrev pub batch_sum_index : ℕ
batch_sum_index = index_of BatchTrailer batch_sum

abbrev pub file_batches_index : ℕ
file_batches_index = index_of FileTrailer file_batches

abbrev pub file_records_index : ℕ
file_records_index = index_of FileTrailer file_records

-- a line: its bank and its batch
abbrev pub filled_line : Record → ℕ → ℕ → Fields → Fields
filled_line r bank batch v = set_nth (batch_index r) batch (set_nth (bank_index r) bank v)

-- a line of a batch; a detail, numbered from 1 by one
abbrev pub filled_in_batch : Record → Checker → Fields → Fields
filled_in_batch r s v = filled_line r s.bank (ordinal s) v

abbrev pub filled_detail : Record → Checker → Fields → Fields
filled_detail r s v = set_nth (number_index r) (record_count s.current) (filled_in_batch r s v)

-- the records of the batch with its header and its trailer, and the sum of its amounts
abbrev pub filled_batch_trailer : Checker → Fields → Fields
filled_batch_trailer s v =
    set_nth batch_sum_index (cent_sum s.current) (set_nth batch_records_index (record_count s.current + 1) (filled_in_batch BatchTrailer s v))

-- the batches, and all records of the file with this one
abbrev pub filled_file_trailer : Checker → Fields → Fields
filled_file_trailer s v =
    set_nth file_records_index (record_count s.closed + 1) (set_nth file_batches_index (batch_count s.closed) (filled_line FileTrailer s.bank trailer_batch v))

-- by the type of the record's line
abbrev pub filled_by : LineType → Record → Checker → Fields → Fields
filled_by FileFirst r s v = set_nth (batch_index r) header_batch v
filled_by BatchFirst r s v = filled_in_batch r s v
filled_by Detail r s v = filled_detail r s v
filled_by BatchLast r s v = filled_batch_trailer s v
filled_by FileLast r s v = filled_file_trailer s v

unfoldable pub filled : Record → Checker → Fields → Fields
filled r s v = filled_by (shape_of r).line r s v

-- the record that is written
abbrev pub bytes_of : Checker → Fields → List ℕ
bytes_of s g = record_of g.which (filled g.which s g)
