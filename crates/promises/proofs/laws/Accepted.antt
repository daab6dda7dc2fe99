-- A file is accepted exactly if it meets the grammar, with the totals that the grammar counts. Assumes nothing.
use Rattle.std.specs.Prelude.{◌≡◌, ◌↔◌, List, ℕ, Ok}
use Rattle.std.proofs.Common.{sym, subst}
use Rattle.checker.specs.Machine.{start}
use Rattle.files.specs.File.{lines_of, check_file}
use Rattle.files.proofs.laws.Runs.{lines_joined, lines_are}
use Rattle.files.proofs.laws.Verdict.{Passed, through_lines, accepted_file}
use Rattle.checker.specs.declared.totals.Totals.{Totals}
use Rattle.promises.specs.Grammar.{RightFile, Meets}
use Rattle.promises.proofs.laws.Build.{built}
use Rattle.promises.proofs.laws.Parse.{parsed}

-- the lines that the grammar speaks of are the cut of the bytes, every 242
pub lines_back : {bytes : List ℕ} {t : Totals} (m : Meets bytes t) → m.lines ≡ lines_of bytes
lines_back {bytes} m = sym ((lines_are bytes m.lines).1 (through_lines (built m.file).through, m.joined))

-- what has passed meets the grammar, and what meets it passes
meets : {bytes : List ℕ} {t : Totals} → Passed start (lines_of bytes) t → Meets bytes t
meets {bytes} p =
    record {
      lines = lines_of bytes;
      joined = lines_joined bytes;
      file = subst (RightFile (lines_of bytes)) (sym p.counted) (parsed p.through p.at_end);
    }

passes : {bytes : List ℕ} {t : Totals} → Meets bytes t → Passed start (lines_of bytes) t
passes {t = t} m = subst (λ (ls : List (List ℕ)). Passed start ls t) (lines_back m) (built m.file)

-- the theorem: accepted with these totals exactly if it meets the grammar with them
pub accepted_exactly : (bytes : List ℕ) (t : Totals) → check_file bytes ≡ Ok t ↔ Meets bytes t
accepted_exactly bytes t = (λ e. meets ((accepted_file bytes t).0 e), λ m. (accepted_file bytes t).1 (passes m))
