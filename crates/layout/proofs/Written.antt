-- Content that is written byte by byte. Assumes nothing.
use mathlib.Core.Path.{◌≡◌}
use mathlib.Core.List.{List, ◌++◌}
use Prim.Native.Nat.{ℕ, ◌+◌, ◌<◌}
use native.Mathlib.Numerals.{add-one}
use lib.ListN.{length, take, drop, set}
use Rattle.answer.specs.Output.{over}
use Rattle.layout.specs.inner.Lent.{byte_at, content_of}
use Rattle.layout.proofs.laws.Bytes.{over_turn}
use Rattle.layout.proofs.laws.Contents.{length_tab, get_or_tab}
use Rattle.layout.specs.declared.fixed.Content.{Content}

-- what stands, and what is left to write, give all of it
pub written_more : (c : Content) (n : ℕ) (out : List ℕ) (i : ℕ) {b : ℕ} → b ≡ byte_at c i → i < n → i < length out
    → take (i + 1) (set out i b) ++ over (drop (i + 1) (content_of c n)) (drop (i + 1) (set out i b)) ≡ take i out ++ over (drop i (content_of c n)) (drop i out)
written_more c n out i e h k =
    rw (add-one, e, ← (get_or_tab n (byte_at c) i h)) (over_turn (content_of c n) out i (rw (length_tab n (byte_at c)) h) k)
