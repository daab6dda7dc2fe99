-- Service and form: which pairs there are, and the kind of batch of each. Assumes nothing.
use Rattle.std.specs.Prelude.{Bool, false, cond, ◌&&◌, ◌||◌, List, [], ◌∷◌, ℕ, eqb, Option, None, Some}
use Rattle.digits.specs.Numbers.{number_of}
use Rattle.calendar.specs.Calendar.{number_fits}
use Rattle.layout.specs.declared.Direction.{Direction}
use Rattle.layout.specs.declared.Direction.TheVariants.{Remittance, Return}
use Rattle.layout.specs.declared.pairs.Batch.{Batch}
use Rattle.layout.specs.declared.pairs.Batch.TheVariants.{Credit, Boleto, Collection}

pub record Pairs : Type 0 where
  pub service : ℕ
  pub forms : List ℕ
  pub batch : Batch

abbrev pub with_forms : ℕ → List ℕ → Batch → Pairs
with_forms service forms batch = record { service = service; forms = forms; batch = batch }

abbrev pub boleto_service : Direction → ℕ
boleto_service Remittance = 3
boleto_service Return = 1

abbrev pub pairs : Direction → List Pairs
pairs d =
    with_forms 20 (1 ∷ 10 ∷ 41 ∷ 45 ∷ []) Credit
    ∷ with_forms (boleto_service d) (30 ∷ 31 ∷ []) Boleto
    ∷ with_forms 29 (11 ∷ []) Collection
    ∷ []

abbrev pub among : ℕ → List ℕ → Bool
among n [] = false
among n (m ∷ ms) = eqb n m || among n ms

-- the kind of batch of a service and a form, or none
abbrev pub batch_among : List Pairs → Option ℕ → Option ℕ → Option Batch
batch_among [] service form = None
batch_among (p ∷ ps) service form =
    cond (number_fits (λ n. eqb n p.service) service && number_fits (λ n. among n p.forms) form) (Some p.batch) (batch_among ps service form)

-- that of the two digits of each, as they stand in a batch header
unfoldable pub batch_of : Direction → List ℕ → List ℕ → Option Batch
batch_of d service form = batch_among (pairs d) (number_of service) (number_of form)
