use Rattle.std.proofs.Common.{◌≡◌, ◌++◌, take, flat_map}
use Rattle.ds_summary.specs.Parts.{kept_lane_counts}
use Rattle.ds_summary.proofs.parts.push_lane_entries.Given as goal

abbrev pub invariant-loop-entry : goal.invariant-loop-entry
invariant-loop-entry l = l.out.items ≡ l.initial.out.items ++ flat_map kept_lane_counts (take l.entry-index l.entries)
