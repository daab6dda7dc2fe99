-- What the private steps of the walk leave, for their contracts. Assumes nothing.
use Rattle.std.specs.Prelude.{◌≡◌, cond, List, [], ◌∷◌, ℕ, ltb, eqb, length, get_or, Ok}
use Rattle.answer.specs.Rules.{rule, first_broken}
use Rattle.answer.specs.Rules.{Answer}
use Rattle.digits.specs.Digits.{all_digits}
use Rattle.layout.specs.inner.Lent.{first_letter, content_of}
use Rattle.layout.specs.Field.{Kind}
use Rattle.layout.specs.Kinds.{Part, means, same, blank}
use Rattle.layout.specs.declared.fixed.Content.{Content}
use Rattle.layout.specs.declared.fixed.Content.TheVariants.{Run}
use Rattle.walk.specs.declared.looks.Look.{Look}
use Rattle.walk.specs.declared.looks.Look.TheVariants.{Digits, Fixed, Tested}

-- how the walk is to look at a field: for digits, for fixed content, or not at all, the field being tested
pub data Looked (k : Kind) (p : Part) : Look → Type 0 where
  for_digits : (means k).rules p ≡ rule 8 p.place (all_digits p.bytes) ∷ [] → Looked k p Digits
  for_content : {number : ℕ} {c : Content} → (means k).rules p ≡ rule number p.place (same (content_of c (length p.bytes)) p.bytes) ∷ []
      → Looked k p (Fixed number c)
  tested : {a : Answer} → a ≡ first_broken ((means k).rules p) → Looked k p (Tested a)

-- how to look at a type or a segment, at text, and at a number that may be not given
abbrev pub mark_look : ℕ → Look
mark_look b = cond (ltb b first_letter) (Fixed 6 (Run b)) (Fixed 11 (Run b))

abbrev pub text_look : List ℕ → Look
text_look bs = cond (eqb (get_or bs 0 0) blank) (Fixed 13 (Run blank)) (Tested (Ok tt))

abbrev pub number_or_blank_look : List ℕ → Look
number_or_blank_look bs = cond (eqb (get_or bs 0 0) blank) (Fixed 8 (Run blank)) Digits
