-- The masks of a record: a lowest and a highest byte for each place. Assumes nothing.
use Rattle.std.specs.Prelude.{◌≡◌, Bool, true, false, cond, ◌&&◌, List, [], ◌∷◌, ◌++◌, ℕ, zero, suc, ◌+◌, ◌≤◌, ◌<◌, leb, length, get_or, drop, Ok}
use Rattle.answer.specs.Rules.{first_broken}
use Rattle.digits.specs.Digits.{digit_byte}
use Rattle.digits.specs.inner.Rows.{tab}
use Rattle.layout.specs.Field.{Kind, N, NOrBlank, Id, T, F, D, Time, K, O, Zeros, Exact, OneOf, Service, Form, Barcode, Code, RecordType, Segment, Field, none}
use Rattle.layout.specs.Table.{all}
use Rattle.layout.specs.Kinds.{blank, same}
use Rattle.layout.specs.Record.{field_rules}
use Rattle.layout.specs.inner.Entries.{width}
use Rattle.layout.specs.declared.Direction.{Direction}
use Rattle.layout.specs.declared.Direction.TheVariants.{Remittance, Return}

-- at each place of a field, counted from 0; and whether all bytes between the two keep the field's rules, as digits keep those of a number that may be
-- not given, and of a registration number
pub record Mask : Type 0 where
  pub low : ℕ → ℕ
  pub high : Direction → ℕ → ℕ
  pub enough : Bool

abbrev pub between : ℕ → ℕ → Bool → Mask
between low high enough = record { low = λ i. low; high = λ d i. high; enough = enough }

-- any printable byte
abbrev pub tilde : ℕ
tilde = 126

abbrev pub free : Bool → Mask
free enough = between blank tilde enough

abbrev pub digits : Bool → Mask
digits enough = between (digit_byte 0) (digit_byte 9) enough

abbrev pub exactly : List ℕ → Mask
exactly bs = record { low = λ i. get_or bs i 0; high = λ d i. get_or bs i 0; enough = true }

-- n bytes in a row, from b on
abbrev pub bytes_from : ℕ → ℕ → List ℕ
bytes_from zero b = []
bytes_from (suc n) b = b ∷ bytes_from n (suc b)

-- a domain that is a row of bytes with no gap, as 0 to 2
abbrev pub domain_mask : List ℕ → Mask
domain_mask [] = free false
domain_mask (b ∷ bs) = cond (same (bytes_from (length bs) (suc b)) bs) (between b (b + length bs) true) (free false)

-- blank in a remittance, any byte in a return
abbrev pub highest_in : Direction → ℕ
highest_in Remittance = blank
highest_in Return = tilde

abbrev pub mask_of : Kind → Mask
mask_of N = digits true
mask_of NOrBlank = digits true
mask_of Id = digits true
mask_of T = free false
mask_of F = free true
mask_of D = free false
mask_of Time = free false
mask_of K = between blank blank true
mask_of O = record { low = λ i. blank; high = λ d i. highest_in d; enough = true }
mask_of Zeros = between (digit_byte 0) (digit_byte 0) true
mask_of (Exact bs) = exactly bs
mask_of (OneOf domain) = domain_mask domain
mask_of Service = free false
mask_of Form = free true
mask_of Barcode = digits false
mask_of Code = digits true
mask_of (RecordType b) = exactly (b ∷ [])
mask_of (Segment b) = exactly (b ∷ [])

-- those of fields, one behind the other
unfoldable pub lows_of : List Field → List ℕ
lows_of [] = []
lows_of (f ∷ fs) = tab (width f) (mask_of f.kind).low ++ lows_of fs

unfoldable pub highs_of : Direction → List Field → List ℕ
highs_of d [] = []
highs_of d (f ∷ fs) = tab (width f) ((mask_of f.kind).high d) ++ highs_of d fs

-- each byte lies between its lowest and its highest
unfoldable pub within : List ℕ → List ℕ → List ℕ → Bool
within low high [] = true
within low high (b ∷ bs) = (leb (get_or low 0 0) b && leb b (get_or high 0 0)) && within (drop 1 low) (drop 1 high) bs

-- a field's rules are kept, if its mask is all that they ask
abbrev pub Right : Direction → List ℕ → Field → Type 0
Right d rec f = (mask_of f.kind).enough ≡ true → first_broken (field_rules f d rec) ≡ Ok tt

-- so at each field of the table from one index up to another, if that is known
pub record Known (masked : Bool) (first past : ℕ) (d : Direction) (rec : List ℕ) : Type 0 where
  pub each : masked ≡ true → (g : ℕ) → first ≤ g → g < past → Right d rec (get_or all g none)
