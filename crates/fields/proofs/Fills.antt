-- What a field is filled with says how it is held. Assumes nothing.
use mathlib.Core.Path.{◌≡◌, refl, sym, ap, ◌∙◌}
use mathlib.Core.Bool.{false}
use mathlib.Core.List.{List}
use Prim.Native.Nat.{ℕ}
use native.Mathlib.Omega.{arith}
use lib.Dec.{T}
use Rattle.layout.specs.inner.Lent.{kind_of, content_of, fill_of, may_be}
use Rattle.layout.specs.Field.{Kind}
use Rattle.layout.specs.Kinds.{Presence, a_number, as_bytes, as_fixed, means}
use Rattle.layout.proofs.laws.Contents.{Filled, a-number, its_text, fixed, filled}
use Rattle.fields.specs.Values.{is_number}
use Rattle.layout.specs.declared.fixed.Content.{Content}
use Rattle.layout.specs.declared.kinds.Fill.{Fill}
use Rattle.layout.specs.declared.kinds.Fill.TheVariants.{Number, Text, Fixed}

-- a kind that is held as a number
pub record Numeric (k : Kind) : Type 0 where
  pub presence : Presence
  pub held : (means k).held ≡ a_number presence

-- a kind of fixed content, which is c at each width that the kind may have
pub record Holds (k : Kind) (c : Content) : Type 0 where
  pub content : ℕ → List ℕ
  pub held : (means k).held ≡ as_fixed content
  pub is : (w : ℕ) → T (may_be k w) → content_of c w ≡ content w

module _ {k : Kind} where
  number_held : {x : Fill} → Filled k x → x ≡ Number → Numeric k
  number_held (a-number {p = p} h) e = record { presence = p; held = h }
  number_held (its_text h) e = absurd (let z : ◌≡◌ {A = ℕ} 0 1 = cc in omega arith)
  number_held (fixed h t) e = absurd (let z : ◌≡◌ {A = ℕ} 0 1 = cc in omega arith)

  text_held : {x : Fill} → Filled k x → x ≡ Text → (means k).held ≡ as_bytes
  text_held (a-number h) e = absurd (let z : ◌≡◌ {A = ℕ} 0 1 = cc in omega arith)
  text_held (its_text h) e = h
  text_held (fixed h t) e = absurd (let z : ◌≡◌ {A = ℕ} 0 1 = cc in omega arith)

  no_number_held : {x : Fill} → Filled k x → (x ≡ Number → ⊥) → is_number (means k).held ≡ false
  no_number_held (a-number h) q = absurd (q refl)
  no_number_held (its_text h) q = ap is_number h
  no_number_held (fixed h t) q = ap is_number h

  content_held : {x : Fill} {c : Content} → Filled k x → x ≡ Fixed c → Holds k c
  content_held (a-number h) e = absurd (let z : ◌≡◌ {A = ℕ} 0 1 = cc in omega arith)
  content_held (its_text h) e = absurd (let z : ◌≡◌ {A = ℕ} 0 1 = cc in omega arith)
  content_held {c} (fixed {content = content} {c = c'} h t) e =
      let same-content : c' ≡ c = cc in
      record { content = content; held = h; is = λ w m. rw (← same-content) (t w m) }

-- a field whose kind has the number n
module _ (n : ℕ) {x : Fill} (e : x ≡ fill_of n) where
  pub as_number : x ≡ Number → Numeric (kind_of n)
  as_number q = number_held (filled n) (sym e ∙ q)

  pub as_text : x ≡ Text → (means (kind_of n)).held ≡ as_bytes
  as_text q = text_held (filled n) (sym e ∙ q)

  pub as-fixed : {c : Content} → x ≡ Fixed c → Holds (kind_of n) c
  as-fixed q = content_held (filled n) (sym e ∙ q)

  pub no_number : (x ≡ Number → ⊥) → is_number (means (kind_of n)).held ≡ false
  no_number q = no_number_held (filled n) (λ f. q (e ∙ f))
