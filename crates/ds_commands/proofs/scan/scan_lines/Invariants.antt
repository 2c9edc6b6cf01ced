use Rattle.std.proofs.Common.{◌≡◌, ◌≤◌, ◌+◌, length, None, []}
use Rattle.ds_commands.specs.Chains.{Kept, lines_of, scan}
use Rattle.ds_commands.proofs.scan.scan_lines.Given as goal

abbrev pub invariant-loop-rest : goal.invariant-loop-rest
invariant-loop-rest l = (l.line + length l.rest ≤ 16777218) × (scan l.line l.found (lines_of l.rest) ≡ scan l.initial.line (Kept [] None) (lines_of l.initial.rest))

abbrev pub decreases-loop-rest : goal.decreases-loop-rest
decreases-loop-rest l = length l.rest
