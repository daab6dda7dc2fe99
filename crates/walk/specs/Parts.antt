-- Some fields of a record in three parts. Assumes nothing.
use Rattle.std.specs.Prelude.{List, ℕ, length}
use Rattle.answer.specs.Rules.{first_broken}
use Rattle.layout.specs.Table.{fields_of}
use Rattle.layout.specs.Record.{some_rules}
use Rattle.layout.specs.declared.Direction.{Direction}
use Rattle.layout.specs.declared.Record.{Record}
use Rattle.walk.specs.declared.Parts.{Parts}

-- the fields from one index up to another, up to a third, and from there to the record's last
abbrev pub in_parts : Record → Direction → ℕ → ℕ → ℕ → List ℕ → Parts
in_parts r d first second third rec =
    record {
      front = first_broken (some_rules r d first second rec);
      middle = first_broken (some_rules r d second third rec);
      rest = first_broken (some_rules r d third (length (fields_of r)) rec);
    }
