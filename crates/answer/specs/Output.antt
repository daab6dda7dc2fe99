-- Output memory that the caller lends: the first bytes are written, the rest is kept; a refusal keeps all. Assumes nothing.
use Rattle.std.specs.Prelude.{◌≡◌, List, [], ◌∷◌, ◌++◌, ℕ, leb, length, drop, Err, Ok}
use Rattle.answer.specs.Rules.{Rule, rule, first_broken}
use Rattle.answer.specs.Rules.{Answer}

-- the last rule: the output has room for n bytes
abbrev pub room : ℕ → List ℕ → Rule
room n out = rule 50 0 (leb n (length out))

-- the output afterwards
abbrev pub written : Answer → List ℕ → List ℕ → List ℕ
written (Ok tt) new out = new ++ drop (length new) out
written (Err r) new out = out

-- a call that checks its input by rules, then writes n new bytes: its answer, and the output afterwards
pub record Writes (rules : List Rule) (n : ℕ) (new out : List ℕ) (answer : Answer) (after : List ℕ) : Type 0 where
  pub answered : answer ≡ first_broken (rules ++ room n out ∷ [])
  pub memory : after ≡ written answer new out

-- bytes copied over others, as many as both have
unfoldable pub over : List ℕ → List ℕ → List ℕ
over [] out = out
over (b ∷ bs) [] = []
over (b ∷ bs) (x ∷ out) = b ∷ over bs out
