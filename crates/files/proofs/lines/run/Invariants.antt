use Rattle.std.proofs.Common.{◌≡◌}
use Rattle.std.specs.Slice.Iter.{chunks_rest, chunks_size}
use Rattle.checker.specs.Line.{line_bytes}
use Rattle.files.specs.File.{lines_of, steps}
use Rattle.files.proofs.lines.run.Given as goal

abbrev pub invariant-loop-line : goal.invariant-loop-line
invariant-loop-line l = (chunks_size l.line-iterator ≡ line_bytes) × (steps l.state (lines_of (chunks_rest l.line-iterator)) ≡ steps l.initial.state (lines_of l.part))
