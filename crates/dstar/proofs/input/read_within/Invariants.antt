use Rattle.std.proofs.Common.{◌≡◌, ◌≤◌, ◌+◌, ◌-◌, length}
use Rattle.ds_base.specs.Counts.{Told}
use Rattle.dstar.proofs.input.read_within.Given as goal

abbrev pub invariant-loop-bytes : goal.invariant-loop-bytes
invariant-loop-bytes g l = record {
  room : length l.room ≡ length l.initial.room;
  within : length l.bytes.items ≤ l.limit + 1;
  faults : g.R.Source.faults l.initial.input ≤ g.R.Source.faults l.input;
  ends : g.R.Source.ends l.initial.input ≤ g.R.Source.ends l.input;
  told : Told (g.R.Source.tells l.initial.input) l.bytes.items (g.R.Source.tells l.input);
}

abbrev pub decreases-loop-bytes : goal.decreases-loop-bytes
decreases-loop-bytes g l = (l.limit + 1) - length l.bytes.items
