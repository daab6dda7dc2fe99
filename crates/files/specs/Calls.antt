-- Calls with a file's parts, and for its end, one after the other in any order. Assumes nothing.
use Rattle.std.specs.Prelude.{Bool, true, false, List, [], ◌∷◌, ◌++◌, ℕ}
use Rattle.answer.specs.Rules.{Answer}
use Rattle.files.specs.Parts.{part_call, end_call}
use Rattle.files.specs.declared.incoming.Incoming.{Incoming}

pub data PartsCall : Type 0 where
  part : List ℕ → PartsCall
  end : PartsCall

abbrev pub behind_call : Incoming → PartsCall → Incoming
behind_call s (part bytes) = (part_call s bytes).state
behind_call s end = (end_call s).state

unfoldable pub fed : Incoming → List PartsCall → Incoming
fed s [] = s
fed s (c ∷ cs) = fed (behind_call s c) cs

-- the bytes so far: those of the parts before the first end, joined; and whether the end is declared
unfoldable pub bytes_of : List PartsCall → List ℕ
bytes_of [] = []
bytes_of (part bytes ∷ cs) = bytes ++ bytes_of cs
bytes_of (end ∷ cs) = []

unfoldable pub end_declared : List PartsCall → Bool
end_declared [] = false
end_declared (part bytes ∷ cs) = end_declared cs
end_declared (end ∷ cs) = true

-- the answers to parts one after the other
unfoldable pub answers_to : Incoming → List (List ℕ) → List Answer
answers_to s [] = []
answers_to s (p ∷ ps) = (part_call s p).answer ∷ answers_to (part_call s p).state ps
