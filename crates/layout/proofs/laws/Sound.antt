-- The table's other rule: a test that antt computes at each field of each record. The field's width is one that its kind may have, a number's
-- digits fit 64 bits, fixed content fills the field, a domain is of digits, and service and form stand at their own places. Assumes nothing.
use Rattle.std.specs.Prelude.{Bool, true, ◌&&◌, List, [], ◌∷◌, ℕ, ◌<◌, T, leb, eqb, length, get_or}
use Rattle.digits.specs.Digits.{leading, all_digits}
use Rattle.digits.specs.Numbers.{most_digits}
use Rattle.digits.proofs.laws.Tests.{both}
use Rattle.layout.specs.Field.{Kind, N, NOrBlank, Id, T as Text, F, D, Time, K, O, Zeros, Exact, OneOf, Service, Form, Barcode, Code, RecordType, Segment, Field, none}
use Rattle.layout.specs.Table.{service_field, form_field, fields_of}
use Rattle.layout.specs.Kinds.{Held, a_number, as_bytes, as_fixed, means}
use Rattle.layout.specs.inner.Lent.{may_be}
use Rattle.layout.proofs.laws.Tiling.{All, at}
use Rattle.layout.specs.declared.Record.{Record}
use Rattle.layout.proofs.laws.Records.{each}
use Rattle.layout.specs.inner.Entries.{width}

-- as a field is held: a number's digits fit 64 bits, fixed content has the field's width
abbrev pub fills : Held → ℕ → Bool
fills (a_number p) w = leb w most_digits
fills as_bytes w = true
fills (as_fixed content) w = eqb (length (content w)) w

-- two fields have the same places
abbrev pub stands : Field → Field → Bool
stands g f = eqb f.from g.from && eqb f.to g.to

-- what a kind asks besides
abbrev pub proper : Kind → Field → Bool
proper N f = true
proper NOrBlank f = true
proper Id f = true
proper Text f = true
proper F f = true
proper D f = true
proper Time f = true
proper K f = true
proper O f = true
proper Zeros f = true
proper (Exact bs) f = true
proper (OneOf domain) f = all_digits domain
proper Service f = stands service_field f
proper Form f = stands form_field f
proper Barcode f = true
proper Code f = true
proper (RecordType b) f = true
proper (Segment b) f = true

abbrev pub sound : Field → Bool
sound f = may_be f.kind (width f) && (fills (means f.kind).held (width f) && proper f.kind f)

unfoldable pub all_sound : List Field → Bool
all_sound [] = true
all_sound (f ∷ fs) = sound f && all_sound fs

all-sound : (r : Record) → T (all_sound (fields_of r))
unfolding all_sound fields_of leading
all-sound r = each (λ r. all_sound (fields_of r)) tt r

-- ---- at each field

pub record Sound (f : Field) : Type 0 where
  pub may : T (may_be f.kind (width f))
  pub filled : T (fills (means f.kind).held (width f))
  pub own : T (proper f.kind f)

each_sound : (fs : List Field) → T (all_sound fs) → All Sound fs
unfolding all_sound All
each_sound [] t = tt
each_sound (f ∷ fs) t =
    let a = both (sound f) (all_sound fs) t in
    let b = both (may_be f.kind (width f)) _ a.0 in
    let c = both (fills (means f.kind).held (width f)) _ b.1 in
    (record { may = b.0; filled = c.0; own = c.1 }, each_sound fs a.1)

pub sounds : (r : Record) → All Sound (fields_of r)
sounds r = each_sound (fields_of r) (all-sound r)

pub sound_at : (r : Record) (j : ℕ) → j < length (fields_of r) → Sound (get_or (fields_of r) j none)
sound_at r = at Sound (fields_of r) (sounds r)
