-- Digit strings: lists of bytes, 48 to 57 being the digits 0 to 9; and strings of digits and capital letters.
-- Places count from 1. Assumes nothing.
use Rattle.std.specs.Prelude.{ℕ, suc, ◌+◌, ◌-◌, Bool, true, cond, ◌&&◌, ◌||◌, List, [], ◌∷◌, ◌++◌, length, take, drop, ◌==◌, nat_le, slice_index, slice_set}
use Prim.Native.Char.{code}
use Prim.Native.String.{String, [] as []ˢ, ◌∷◌ as ◌∷ˢ◌}

-- a text as its bytes
abbrev pub bytes : String → List ℕ
bytes []ˢ = []
bytes (c ∷ˢ s) = code c ∷ bytes s

abbrev pub is_digit : ℕ → Bool
is_digit b = nat_le 48 b && nat_le b 57

-- what a byte counts; one that is no digit counts 0
abbrev pub digit_of : ℕ → ℕ
digit_of b = cond (is_digit b) (b - 48) 0

-- a capital letter; a character of a number that may have letters
abbrev pub is_letter : ℕ → Bool
is_letter b = nat_le 65 b && nat_le b 90

abbrev pub is_character : ℕ → Bool
is_character b = is_digit b || is_letter b

-- what a character counts: its code less 48, so that a digit counts itself; any other byte counts 0
abbrev pub character_of : ℕ → ℕ
character_of b = cond (is_character b) (b - 48) 0

-- a digit as a byte
abbrev pub digit_byte : ℕ → ℕ
digit_byte d = 48 + d

-- how many digits a string begins with: all of it, or up to its first non-digit
unfoldable pub leading : List ℕ → ℕ
leading [] = 0
leading (b ∷ bs) = cond (is_digit b) (suc (leading bs)) 0

abbrev pub all_digits : List ℕ → Bool
all_digits bs = leading bs == length bs

-- a test passed by every byte
unfoldable pub every_byte : (ℕ → Bool) → List ℕ → Bool
every_byte test [] = true
every_byte test (b ∷ bs) = test b && every_byte test bs

abbrev pub all_characters : List ℕ → Bool
all_characters bs = every_byte is_character bs

-- the bytes at the places a to b, both included
abbrev pub places : ℕ → ℕ → List ℕ → List ℕ
places a b bs = take (b - (a - 1)) (drop (a - 1) bs)

-- the byte at place p
abbrev pub place : ℕ → List ℕ → ℕ
place p bs = slice_index bs (p - 1)

-- the bytes at place p and at the place behind it, swapped
abbrev pub swapped : ℕ → List ℕ → List ℕ
swapped p bs = slice_set (slice_set bs (p - 1) (place (suc p) bs)) p (place p bs)

-- all bytes but the one at place p
abbrev pub without : ℕ → List ℕ → List ℕ
without p bs = take (p - 1) bs ++ drop p bs

-- the sum of what each byte counts: f k (v b) for a byte b, by itself v b, that has k bytes to its right
unfoldable pub weighed : (ℕ → ℕ) → (ℕ → ℕ → ℕ) → List ℕ → ℕ
weighed v f [] = 0
weighed v f (b ∷ bs) = f (length bs) (v b) + weighed v f bs
