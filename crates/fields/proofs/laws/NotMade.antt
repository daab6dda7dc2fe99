-- Where no record is made yet, what stands there is what is made of a Z of which nothing is given. Assumes nothing.
use Rattle.std.specs.Prelude.{◌≡◌, refl}
use Rattle.answer.specs.Rules.{first_broken}
use Rattle.digits.specs.Numbers.{numeral, last_digits}
use Rattle.layout.specs.Table.{fields_of}
use Rattle.layout.specs.Kinds.{same}
use Rattle.layout.specs.Record.{rules_of, clean, record_rules}
use Rattle.layout.specs.declared.Direction.{Direction}
use Rattle.layout.specs.declared.Record.TheVariants.{SegmentZ}
use Rattle.fields.specs.Values.{joined, record_of, made_of, no_fields, not_made}

pub none_made : (d : Direction) → made_of SegmentZ d (no_fields SegmentZ) ≡ not_made
unfolding made_of record_of joined numeral last_digits first_broken record_rules rules_of clean same fields_of
none_made d = refl
