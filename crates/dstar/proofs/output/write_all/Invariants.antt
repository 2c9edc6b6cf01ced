use Rattle.std.proofs.Common.{length, take, ◌-◌, ◌≤◌}
use Rattle.ds_base.specs.Counts.{Appended}
use Rattle.dstar.proofs.output.write_all.Given as goal

abbrev pub invariant-loop-at : goal.invariant-loop-at
invariant-loop-at g l = record {
  within : l.at ≤ length l.text;
  faults : g.W.Sink.faults l.initial.out ≤ g.W.Sink.faults l.out;
  written : Appended (g.W.Sink.tells l.initial.out) (take l.at l.text) (g.W.Sink.tells l.out);
}

abbrev pub decreases-loop-at : goal.decreases-loop-at
decreases-loop-at g l = length l.text - l.at
