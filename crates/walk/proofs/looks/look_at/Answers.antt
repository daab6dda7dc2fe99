-- `walk::looks::look_at` meets its contract: in each arm the kind's row computes. Assumes nothing.
use mathlib.Core.Path.{refl, ◌∙◌}
use mathlib.Core.List.{[], ◌∷◌}
use Rattle.answer.proofs.laws.Order.{done}
use Rattle.layout.specs.inner.Lent.{kind_count}
use Rattle.layout.specs.Kinds.{run, text, blank}
use Rattle.walk.specs.inner.Steps.{for_digits, tested}
use Rattle.layout.proofs.laws.Contents.{none_below, other_kind, run_is, exact_is}
use Rattle.layout.specs.declared.fixed.Content.TheVariants.{LetterC, Code09, Code52}
use Rattle.walk.proofs.Rows.{of_kind, at_key, for_blank, for_number_or_blank, for_fixed, for_mark}
use Rattle.walk.proofs.looks.look_at.Goals as goal

pub returns-then-k : goal.returns-then-k
returns-then-k c = for_mark c.args.k c.mark.ensures c.if-k.true c.requires.holds

pub returns-in-6 : goal.returns-in-6
returns-in-6 c = for_blank c.in-6.is c.text.ensures

pub returns-in-1 : goal.returns-in-1
returns-in-1 c = at_key c.in-1.is (tested (c.test.ensures ∙ rw c.date_fits.ensures))

pub returns-in-2 : goal.returns-in-2
returns-in-2 c = at_key c.in-2.is (tested (c.test-in-2.ensures ∙ rw c.time_fits.ensures))

pub returns-in-12 : goal.returns-in-12
returns-in-12 c = for_fixed 12 (run blank) c.in-12.is c.fixed.ensures c.requires.holds refl (λ w t. run_is blank w)

pub returns-in-Remittance : goal.returns-in-Remittance
returns-in-Remittance c = for_fixed 11 (run blank) c.in-11.is c.fixed-in-Remittance.ensures c.requires.holds (rw c.in-Remittance.is) (λ w t. run_is blank w)

pub returns-in-Return : goal.returns-in-Return
returns-in-Return c = at_key c.in-11.is (tested (rw c.in-Return.is done))

pub returns-in-13 : goal.returns-in-13
returns-in-13 c = for_fixed 13 (run 48) c.in-13.is c.fixed-in-13.ensures c.requires.holds refl (λ w t. run_is 48 w)

pub returns-in-14 : goal.returns-in-14
returns-in-14 c = for_fixed 14 (text (67 ∷ [])) c.in-14.is c.fixed-in-14.ensures c.requires.holds refl (exact_is LetterC (67 ∷ []) refl)

pub returns-in-15 : goal.returns-in-15
returns-in-15 c = for_fixed 15 (text (48 ∷ 57 ∷ [])) c.in-15.is c.fixed-in-15.ensures c.requires.holds refl (exact_is Code09 (48 ∷ 57 ∷ []) refl)

pub returns-in-16 : goal.returns-in-16
returns-in-16 c = for_fixed 16 (text (53 ∷ 50 ∷ [])) c.in-16.is c.fixed-in-16.ensures c.requires.holds refl (exact_is Code52 (53 ∷ 50 ∷ []) refl)

pub returns-in-8 : goal.returns-in-8
returns-in-8 c = at_key c.in-8.is (tested (c.test-in-8.ensures ∙ rw c.one_of.ensures))

pub returns-in-3 : goal.returns-in-3
returns-in-3 c = at_key c.in-3.is (tested (c.test-in-3.ensures ∙ rw c.one_of-in-3.ensures))

pub returns-in-9 : goal.returns-in-9
returns-in-9 c = at_key c.in-9.is (tested (c.test-in-9.ensures ∙ rw c.one_of-in-9.ensures))

pub returns-in-4 : goal.returns-in-4
returns-in-4 c = at_key c.in-4.is (tested c.pair.ensures)

pub returns-in-7 : goal.returns-in-7
returns-in-7 c = at_key c.in-7.is (tested done)

pub returns-in-5 : goal.returns-in-5
returns-in-5 c = at_key c.in-5.is (tested c.barcode.ensures)

pub returns-in-17 : goal.returns-in-17
returns-in-17 c = for_number_or_blank c.in-17.is c.number_or_blank.ensures

pub returns-in_default : goal.returns-in_default
returns-in_default c =
    let r = c.in_default.in_default-own.rest in
    let k = c.args.k in
    of_kind (other_kind k c.if-k.false (none_below k kind_count (r.0.0.0.0.0.0.0.0.0.0.0.0.0.0.0.0.0.0.1, (r.0.0.0.0.0.0.0.0.0.0.0.0.0.0.0.1, (r.0.0.0.0.0.0.0.0.0.0.0.0.0.0.1, (r.0.0.0.0.0.0.1, (r.0.0.0.0.1, (r.0.0.1, (r.0.0.0.0.0.0.0.0.0.0.0.0.0.0.0.0.1, (r.0.0.0.1, (r.0.0.0.0.0.0.0.1, (r.0.0.0.0.0.1, (r.0.0.0.0.0.0.0.0.0.0.0.0.0.0.0.0.0.1, (r.0.0.0.0.0.0.0.0.0.0.0.0.1, (r.0.0.0.0.0.0.0.0.0.0.0.0.0.1, (r.0.0.0.0.0.0.0.0.0.0.0.1, (r.0.0.0.0.0.0.0.0.0.0.1, (r.0.0.0.0.0.0.0.0.0.1, (r.0.0.0.0.0.0.0.0.1, (r.0.1, (r.1, tt))))))))))))))))))))) (tested done)

pub returns-in-0 : goal.returns-in-0
returns-in-0 c = at_key c.in-0.is (for_digits refl)

pub returns-in-10 : goal.returns-in-10
returns-in-10 c = at_key c.in-10.is (tested c.id.ensures)

pub returns-in-18 : goal.returns-in-18
returns-in-18 c = at_key c.in-18.is (for_digits refl)
