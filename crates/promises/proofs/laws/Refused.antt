-- A file is refused with a number, a line and a place exactly if that line is the first to break a rule, and that rule the first it breaks. Assumes nothing.
use Rattle.std.specs.Prelude.{◌≡◌, ◌↔◌, List, ℕ, ◌+◌, length, Err}
use Rattle.std.proofs.Common.{sym, ap, ◌∙◌, arith}
use Rattle.answer.specs.Rules.{refusal}
use Rattle.answer.specs.declared.LineNo.{LineNo}
use Rattle.answer.specs.declared.Refusal.{Refusal}
use Rattle.checker.specs.Machine.{start, line_of}
use Rattle.files.specs.File.{lines_of, check_file}
use Rattle.checker.specs.Calls.{Through}
use Rattle.files.proofs.laws.Verdict.{Stopped, at_line, at_end, refused_file, line_named}
use Rattle.checker.specs.declared.Checker.{Checker}
use Rattle.promises.specs.Refusals.{behind_lines, RefusedWith, too_early}
use Rattle.promises.specs.Refusals as refusals

-- the line that is next is the accepted lines plus one
named : {s : Checker} {ls : List (List ℕ)} → Through start ls s → line_of s ≡ behind_lines ls
named {s} {ls} on = let e : (line_of s).0 ≡ length ls + 1 = omega (arith, line_named on) in λ i. record { 0 = e i }

module _ {file : List ℕ} {r : Refusal} where
  said : Stopped start (lines_of file) r → RefusedWith file r
  said (at_line earlier later l e on b) = refusals.at_line earlier later l e on b.broken (b.numbered ∙ named on)
  said (at_end on lacks e) = too_early on lacks (e ∙ ap (λ (n : LineNo). refusal 2 n 0) (named on))

  back : RefusedWith file r → Stopped start (lines_of file) r
  back (refusals.at_line earlier later l e on b n) = at_line earlier later l e on (record { broken = b; numbered = n ∙ sym (named on) })
  back (too_early on lacks e) = at_end on lacks (e ∙ ap (λ (n : LineNo). refusal 2 n 0) (sym (named on)))

pub refused_exactly : (file : List ℕ) (r : Refusal) → check_file file ≡ Err r ↔ RefusedWith file r
refused_exactly file r = (λ e. said ((refused_file file r).0 e), λ w. (refused_file file r).1 (back w))
