use Rattle.std.proofs.Common.{◌≡◌, take}
use Rattle.ds_script.specs.Replay.{last_of}
use Rattle.ds_desk.specs.Desks.{stamp_of}
use Rattle.ds_share.proofs.desk.last_stamp_of.Given as goal

abbrev pub invariant-loop-entry : goal.invariant-loop-entry
invariant-loop-entry l = l.last ≡ last_of stamp_of l.desk.opening.before (take l.entry-index l.desk.history.items)
