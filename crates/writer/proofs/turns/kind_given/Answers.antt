-- `writer::turns::kind_given` meets its contract. Assumes nothing.
use mathlib.Core.Path.{sym, ◌∙◌}
use Rattle.layout.specs.Names.{before, index_of, name_of}
use Rattle.layout.specs.Pairs.{pairs}
use Rattle.layout.specs.Table.{fields_of, service_field}
use Rattle.layout.specs.declared.Record.TheVariants.{BatchHeader}
use Rattle.fields.specs.Values.{number_at}
use Rattle.layout.proofs.laws.Bytes.{no_form}
use Rattle.writer.proofs.turns.kind_given.Goals as goal

pub returns-in_err-service : goal.returns-in_err-service
unfolding fields_of index_of before
returns-in_err-service c = rw (c.from_residual.ensures, sym c.number_at.ensures ∙ c.in_err-service.was)

pub returns-in_err-form : goal.returns-in_err-form
unfolding fields_of index_of before
returns-in_err-form c =
    let a = c.args in
    rw (c.from_residual-in_err-form.ensures, sym c.number_at-2.ensures ∙ c.in_err-form.was)
    (sym (no_form (pairs a.dir) (number_at (name_of BatchHeader service_field) a.v)))

pub returns : goal.returns
unfolding fields_of index_of before
returns c = rw (sym c.number_at.ensures ∙ c.in_ok-service.was, sym c.number_at-2.ensures ∙ c.in_ok-form.was) c.batch_with.ensures
