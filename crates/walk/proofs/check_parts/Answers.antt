-- `walk::check_parts` meets its contract. Assumes nothing.
use mathlib.Core.Path.{◌≡◌, sym, ap, ◌∙◌}
use mathlib.Core.List.{List}
use Prim.Native.Nat.{ℕ}
use lib.ListN.{length, drop}
use lib.Seq.{slice, take-length}
use Rattle.answer.specs.Rules.{first_broken}
use Rattle.layout.specs.Field.{Field}
use Rattle.layout.specs.Record.{rules_of}
use Rattle.layout.specs.inner.Lent.{field_count}
use Rattle.layout.proofs.laws.Columns.{all_fields}
use Rattle.layout.specs.declared.Direction.{Direction}
use Rattle.layout.specs.declared.Record.{Record}
use Rattle.std.proofs.lemmas.Option.{MatchOption-at_none, MatchOption-at_some}
use borrow.Author.Tests.{eq-eqb, ne_eqb}
use Rattle.answer.proofs.laws.Order.{past, here}
use Rattle.layout.specs.Table.{fields_of}
use Rattle.walk.proofs.check_parts.Goals as goal

-- up to the record's last field
to_last : (r : Record) (d : Direction) (f : ℕ) (rec : List ℕ) → rules_of (slice f field_count (fields_of r)) d rec ≡ rules_of (slice f (length (fields_of r)) (fields_of r)) d rec
to_last r d f rec = ap (λ (fs : List Field). rules_of (drop f fs) d rec) (all_fields r ∙ sym (take-length (fields_of r)))

pub returns-in_default : goal.returns-in_default
returns-in_default c =
    let short = ne_eqb _ _ (MatchOption-at_none _ _ c.in_default.is c.as_array.ensures.cases) in
    let front = c.refused-refused.ensures ∙ here _ _ _ _ short in
    let middle = c.refused-refused.ensures ∙ here _ _ _ _ short in
    let rest = c.refused-refused.ensures ∙ here _ _ _ _ short in
    λ i. record { front = front i; middle = middle i; rest = rest i }

pub returns : goal.returns
returns c =
    let whole = MatchOption-at_some _ _ _ c.in-Some.is c.as_array.ensures.cases in
    let long = eq-eqb _ _ whole.long in
    let made = c.new-checked.ensures in
    let front = past _ _ _ _ _ long (c.check_fields.ensures ∙ rw (made.bytes, made.record, made.direction, whole.same)) in
    let middle = past _ _ _ _ _ long (c.check_fields-2.ensures ∙ rw (made.bytes, made.record, made.direction, whole.same)) in
    let rest =
    past _ _ _ _ _ long
    (c.check_fields-3.ensures
    ∙ rw (made.bytes, made.record, made.direction, whole.same) (ap first_broken (to_last c.args.which c.args.dir c.args.third c.args.rec.now))) in
    λ i. record { front = front i; middle = middle i; rest = rest i }
