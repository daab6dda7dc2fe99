-- What all lines and all details begin with has the same index in each; where an amount is, a movement is. Assumes nothing.
use Rattle.std.specs.Prelude.{◌≡◌, refl, ◌⊎◌, ◌∷◌, eqb, drop, None}
use Rattle.std.proofs.Common.{inl, inr, eqb→eq}
use Rattle.layout.specs.Records.{shape_of}
use Rattle.layout.specs.Table.{bank_field, batch_field, number_field, movement_field, own, fields_of}
use Rattle.layout.specs.Names.{before, index_of}
use Rattle.layout.proofs.laws.Records.{each, by_amount}
use Rattle.layout.specs.declared.Record.{Record}

pub bank-index : (r : Record) → index_of r bank_field ≡ 0
unfolding index_of before fields_of
bank-index r = refl

pub batch-index : (r : Record) → index_of r batch_field ≡ 1
unfolding index_of before fields_of
batch-index r = refl

pub number-index : (r : Record) → index_of r number_field ≡ 3
unfolding index_of before fields_of
number-index r = eqb→eq _ _ (each (λ r. eqb (index_of r number_field) 3) tt r)

-- a record that has an amount has the movement of its payment, first behind its letter
pub with_movement : (r : Record) → ((shape_of r).amount ≡ None) ⊎ (own r ≡ movement_field ∷ drop 1 (own r))
with_movement = by_amount (λ r. ((shape_of r).amount ≡ None) ⊎ (own r ≡ movement_field ∷ drop 1 (own r))) (λ r e. inl e) (inr refl) (inr refl) (inr refl)
