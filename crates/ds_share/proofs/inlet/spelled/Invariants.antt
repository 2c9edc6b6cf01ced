use Rattle.std.proofs.Common.{◌≡◌, map, take}
use Rattle.ds_share.specs.Entries.{inlet_spelled}
use Rattle.ds_share.proofs.inlet.spelled.Given as goal

abbrev pub invariant-loop-entry : goal.invariant-loop-entry
invariant-loop-entry l = l.out.items ≡ map inlet_spelled (take l.entry-index l.entries)
