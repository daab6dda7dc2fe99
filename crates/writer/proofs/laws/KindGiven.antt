-- The kind of batch that is given is the one that the written batch header names. Assumes nothing.
use Rattle.std.specs.Prelude.{◌≡◌, refl, List, ◌≤◌, length, Option}
use Rattle.std.proofs.Common.{sym, arith, lt-ltb, le-ltb, lit≤}
use Rattle.layout.specs.Pairs.{batch_of}
use Rattle.layout.specs.Field.{part}
use Rattle.layout.specs.Table.{fields_of, service_field, form_field}
use Rattle.layout.specs.Names.{before, index_of}
use Rattle.layout.proofs.laws.Bytes.{batch_is}
use Rattle.layout.specs.declared.Record.{Record}
use Rattle.layout.specs.declared.Record.TheVariants.{BatchHeader}
use Rattle.layout.specs.declared.pairs.Batch.{Batch}
use Rattle.fields.specs.Values.{of_record}
use Rattle.fields.specs.declared.Fields.{Fields}
use Rattle.checker.specs.Order.{payment}
use Rattle.checker.proofs.laws.Payments.{known_paid}
use Rattle.checker.specs.declared.Checker.{Checker}
use Rattle.filling.specs.Filling.{bytes_of}
use Rattle.writer.specs.Refusals.{kind_given, least_details}
use Rattle.writer.proofs.laws.Accepted.{Right}
use Rattle.writer.proofs.laws.Reads.{stands_at, GivenAt, read_given}

service_given : GivenAt BatchHeader service_field
unfolding fields_of index_of before
service_given = record { stands = stands_at _ _ (lit≤ tt) refl; number = refl; unfilled = λ s. refl }

form_given : GivenAt BatchHeader form_field
unfolding fields_of index_of before
form_given = record { stands = stands_at _ _ (lit≤ tt) refl; number = refl; unfilled = λ s. refl }

pub kind_is : {expected : List Record} {s : Checker} (v : Fields) → let g = of_record BatchHeader v in Right expected s g
    → batch_of s.dir (part service_field (bytes_of s g)) (part form_field (bytes_of s g)) ≡ kind_given s.dir g
unfolding fields_of index_of before
kind_is {s = s} v t =
    let g = of_record BatchHeader v in
    sym (batch_is s.dir (part service_field (bytes_of s g)) (part form_field (bytes_of s g)) (sym (read_given v t.well service_given)) (sym (read_given v t.well form_given)))

-- the least details of a kind that has a payment, and of the other
pub least_named : (b : Option Batch) → 1 ≤ length (payment b) → length (payment b) ≡ least_details b
least_named b h = rw (known_paid b, lt-ltb 0 (length (payment b)) h)

pub least_unnamed : (b : Option Batch) → length (payment b) ≡ 0 → 2 ≡ least_details b
least_unnamed b h = rw (known_paid b, le-ltb 0 (length (payment b)) (omega arith))
