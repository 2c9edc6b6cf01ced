use Rattle.std.proofs.Common.{◌≡◌, map, take}
use Rattle.ds_share.specs.Entries.{box_spelled}
use Rattle.ds_share.proofs.mailbox.spelled.Given as goal

abbrev pub invariant-loop-entry : goal.invariant-loop-entry
invariant-loop-entry l = l.out.items ≡ map box_spelled (take l.entry-index l.entries)
