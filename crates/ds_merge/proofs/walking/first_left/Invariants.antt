use Rattle.std.proofs.Common.{◌≡◌, drop}
use Rattle.ds_merge.specs.Tables.{seen}
use Rattle.ds_merge.specs.Walk.{first_left}
use Rattle.ds_merge.proofs.walking.first_left.Given as goal

abbrev pub invariant-loop-history : goal.invariant-loop-history
invariant-loop-history l = first_left l.histories (seen l.tables) ≡ first_left (drop l.history-index l.histories) (seen l.tables)
