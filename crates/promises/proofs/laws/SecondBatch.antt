-- In a file of two batches or more a byte of the second is guarded, and who looks at the first only does not see it. Assumes nothing.
use Rattle.std.specs.Prelude.{◌≡◌, drop, set}
use Rattle.std.proofs.Math.Path.{refl, ap}
use Rattle.std.proofs.Common.{sym, ◌∙◌, inl, arith, lit≤, length-take, length-drop, length-set, take-append-drop}
use mathlib.Core.List.{List, [], ◌∷◌, ◌++◌, append_assoc, flatten}
use Prim.Native.Nat.{ℕ, suc, ◌+◌, ◌*◌, ◌-◌, ◌≤◌, ◌<◌}
use Rattle.std.proofs.Math.ListN.{length, take, length-append}
use Rattle.std.proofs.Math.Seq.{take_at}
use Rattle.std.proofs.lemmas.List.{take-set-le, drop-set-add, set-append_left}
use Rattle.layout.specs.declared.Direction.{Direction}
use Rattle.checker.specs.Totals.{add}
use Rattle.checker.specs.Line.{line_bytes}
use Rattle.files.specs.File.{lines_of}
use Rattle.checker.specs.declared.totals.Totals.{Totals}
use Rattle.files.specs.File.{Outcome}
use Rattle.promises.specs.Grammar.{RightBatch, Batches, no_batches, batch, Meets}
use Rattle.promises.specs.Guarded.{GuardedIn, changed}
use Rattle.promises.specs.WrongOnes.{FirstBatch, FirstBatchOnly}
use Rattle.promises.proofs.laws.Accepted.{lines_back, accepted_exactly}
use Rattle.promises.proofs.laws.Change.{joined_earlier}
use Rattle.promises.proofs.laws.EveryLine.{file_long, every_line_guarded}

-- the first of two batches or more, and the line behind it
record Second (d : Direction) (bank : ℕ) (ls : List (List ℕ)) : Type 0 where
  first : List (List ℕ)
  in_it : Totals
  header : List ℕ
  more : List (List ℕ)
  right : RightBatch d bank 1 first in_it
  lines : ls ≡ first ++ header ∷ more

second : {d : Direction} {bank : ℕ} {ls : List (List ℕ)} {t : Totals} → Batches d bank 0 ls t → 2 ≤ t.batches → Second d bank ls
unfolding add
second no_batches h = absurd (omega arith)
second (batch b no_batches) h = absurd (omega (arith, ap (λ (t : Totals). t.batches) b.are))
second (batch {ls = ls} b (batch {ms = ms} c on)) h =
    record { first = ls; in_it = _; header = c.header; more = (c.details ++ c.trailer ∷ []) ++ ms; right = b; lines = rw c.lines }

module _ (file : List ℕ) (t : Totals) (m : Meets file t) (two : 2 ≤ t.batches) where
  there : Second m.file.direction m.file.bank m.file.middle
  there = second m.file.batches_right (omega (arith, ap (λ (t : Totals). t.batches) m.file.are))

  -- the lines up to the end of the first batch, and those behind it
  abbrev up_to : List (List ℕ)
  up_to = m.file.header ∷ there.first

  abbrev rest : List (List ℕ)
  rest = there.header ∷ (there.more ++ m.file.trailer ∷ [])

  lines : lines_of file ≡ up_to ++ rest
  lines =
      sym (lines_back m)
      ∙ (m.file.lines
      ∙ ap (λ (ls : List (List ℕ)). m.file.header ∷ ls)
      (ap (λ (ls : List (List ℕ)). ls ++ m.file.trailer ∷ []) there.lines
      ∙ append_assoc there.first (there.header ∷ there.more) (m.file.trailer ∷ [])))

  -- so many lines come before the second batch; it and the file trailer come behind
  pub behind_first : ℕ
  behind_first = length up_to

  room : behind_first * line_bytes + (line_bytes + line_bytes) ≤ length file
  unfolding behind_first
  room =
      let count : length (lines_of file) ≡ behind_first + length rest = ap length lines ∙ length-append up_to rest in
      let more : length rest ≡ suc (length there.more + 1) = ap suc (length-append there.more (m.file.trailer ∷ [])) in
      omega (arith, file_long file t ((accepted_exactly file t).1 m))

  pub guarded_there : GuardedIn file behind_first 1
  guarded_there =
      every_line_guarded file t behind_first 1 ((accepted_exactly file t).1 m) (omega (arith, room, file_long file t ((accepted_exactly file t).1 m)))
      (inl (lit≤ tt, lit≤ tt))

  front : FirstBatch (take (behind_first * line_bytes) file)
  unfolding flatten behind_first
  front =
      let first : take behind_first (lines_of file) ≡ up_to = ap (take behind_first) lines ∙ take_at up_to rest behind_first refl in
      record {
        direction = m.file.direction;
        bank = m.file.bank;
        header = m.file.header;
        batch = there.first;
        in_it = there.in_it;
        header_right = m.file.header_right;
        batch_right = there.right;
        joined = ap flatten (sym first) ∙ joined_earlier behind_first file (omega (arith, room));
      }

  -- another byte there
  pub unseen : (check : List ℕ → Outcome) → FirstBatchOnly check → (b : ℕ) → check (changed file behind_first 1 b) ≡ check file
  unseen check only b =
      let k = behind_first * line_bytes in
      let back = drop k file in
      let j = length back - line_bytes in
      let later = take j back in
      let last = drop j back in
      let long : length back ≡ length file - k = length-drop k file in
      let some : 0 < length later = rw length-take (omega (arith, room)) in
      let is : take k file ++ (later ++ last) ≡ file = ap (λ (x : List ℕ). take k file ++ x) (take-append-drop j back) ∙ take-append-drop k file in
      let other : changed file behind_first 1 b ≡ take k file ++ (set later 0 b ++ last) =
      sym (take-append-drop k (set file (k + 0) b))
      ∙ rw (take-set-le k file (k + 0) b (omega arith), drop-set-add k file 0 b)
      (ap (λ (x : List ℕ). take k file ++ x) (ap (λ (x : List ℕ). set x 0 b) (sym (take-append-drop j back)) ∙ set-append_left later last 0 b some)) in
      ap check other ∙ (only (take k file) (set later 0 b) later last front (length-set later 0 b) (rw length-drop (omega (arith, room))) ∙ ap check is)
