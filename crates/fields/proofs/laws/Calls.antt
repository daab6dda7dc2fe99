-- Reading and writing a record as calls, the one of what the other gave. Assumes nothing.
use Rattle.std.specs.Prelude.{◌≡◌, refl, List, ℕ, ◌≤◌, length, take, Err, Ok}
use Rattle.std.proofs.Common.{sym, ◌∙◌}
use Rattle.std.proofs.Math.Path.{ap}
use Rattle.answer.specs.Output.{Writes, written}
use Rattle.answer.proofs.laws.Frame.{was_accepted, is-accepted, left_new}
use Rattle.answer.specs.Rules.{Answer, first_broken}
use Rattle.layout.specs.Table.{record_bytes}
use Rattle.layout.specs.Record.{record_rules}
use Rattle.layout.specs.declared.Direction.{Direction}
use Rattle.layout.specs.declared.Record.{Record}
use Rattle.fields.specs.Values.{record_of, Puts, fields_in, fields_if, read_record}
use Rattle.fields.proofs.laws.Parts.{record_length}
use Rattle.fields.proofs.laws.Kept.{right_length}
use Rattle.fields.proofs.laws.RoundTrip.{given, read_then_written, written_then_read}
use Rattle.fields.specs.declared.Fields.{Fields}
use Rattle.fields.specs.declared.writing.Made.{Made}

read_if : (a : Answer) {w v : Fields} → fields_if a w ≡ Ok v → (a ≡ Ok tt) × (v ≡ w)
read_if (Ok tt) e = (refl, cc)
read_if (Err x) e = cc

-- an accepted read is of a right record, and gives its fields
pub read_fields : (r : Record) (d : Direction) (rec : List ℕ) {v : Fields} → read_record r d rec ≡ Ok v
    → (first_broken (record_rules r d rec) ≡ Ok tt) × (v ≡ fields_in r rec)
unfolding read_record
read_fields r d rec e = read_if _ e

module _ (r : Record) (d : Direction) {out after : List ℕ} {a : Answer} where
  -- what was read, written: the record again
  pub written_back : (rec : List ℕ) {v : Fields} → read_record r d rec ≡ Ok v → record_bytes ≤ length out → let new = record_of r v in
      Writes (record_rules r d new) record_bytes new out a after → (a ≡ Ok tt) × (take record_bytes after ≡ rec)
  written_back rec q room w =
      let read = read_fields r d rec q in
      let e = read.0 in
      let same = rw (read.1, read_then_written r d rec e) at w in
      let ok = is-accepted e room same in
      (ok, left_new (rw ok at same) (right_length r d rec e))

  -- what was written, read: what was given
  pub read_back : (v : Fields) → length v.text ≡ record_bytes → a ≡ Ok tt → Writes (record_rules r d (record_of r v)) record_bytes (record_of r v) out a after
      → (read : Fields) × (read_record r d (take record_bytes after) ≡ Ok read) × (given r read ≡ given r v)
  unfolding read_record
  read_back v full ok w =
      let w' = rw ok at w in
      let e = was_accepted w' in
      (fields_in r (record_of r v), rw (left_new w' (record_length r v full), e), written_then_read r d v full e)

-- a record put into the output: its answer and the output afterwards are determined
pub one_put : {m : Made} {out after after' : List ℕ} {a b : Answer} → Puts m out a after → Puts m out b after' → (a ≡ b) × (after ≡ after')
one_put {m} {out} p q =
    let same = p.answered ∙ sym q.answered in
    (same, p.memory ∙ ap (λ (x : Answer). written x (record_of m.fields.which m.fields) out) same ∙ sym q.memory)
