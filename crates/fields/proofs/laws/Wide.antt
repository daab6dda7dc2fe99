-- How a number is refused that has more digits than its field. Assumes nothing.
use Rattle.std.specs.Prelude.{Bool, true, false, cond, ℕ}
use Rattle.layout.specs.Field.{Kind, N, NOrBlank, Id, T, F, D, Time, K, O, Zeros, Exact, OneOf, Service, Form, Barcode, Code, RecordType, Segment, Field}
use Rattle.layout.specs.Table.{service_field}

-- the refusal's number, and whether the rule is the pair's, which the service carries
pub record Wide : Type 0 where
  pub number : ℕ
  pub paired : Bool

-- the field's own rule
abbrev pub own_rule : ℕ → Wide
own_rule number = record { number = number; paired = false }

-- service or form
abbrev pub pairs_rule : Wide
pairs_rule = record { number = 14; paired = true }

-- 0 stands for the kinds that are not held as numbers
abbrev pub wide : Kind → Wide
wide N = own_rule 8
wide NOrBlank = own_rule 8
wide Id = own_rule 0
wide T = own_rule 0
wide F = own_rule 0
wide D = own_rule 15
wide Time = own_rule 15
wide K = own_rule 0
wide O = own_rule 0
wide Zeros = own_rule 0
wide (Exact bs) = own_rule 0
wide (OneOf domain) = own_rule 14
wide Service = pairs_rule
wide Form = pairs_rule
wide Barcode = own_rule 0
wide Code = own_rule 0
wide (RecordType b) = own_rule 0
wide (Segment b) = own_rule 0

abbrev pub wide_number : Kind → ℕ
wide_number k = (wide k).number

-- the field that carries a field's rule: every field its own, but a form, whose rule is the service's
abbrev pub carrier : Field → Field
carrier f = cond (wide f.kind).paired service_field f

abbrev pub wide_place : Field → ℕ
wide_place f = (carrier f).from
