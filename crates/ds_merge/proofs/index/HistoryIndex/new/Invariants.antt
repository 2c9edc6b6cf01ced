use Rattle.std.proofs.Common.{length, drop, ◌-◌}
use Rattle.ds_merge.specs.Tables.{Finds}
use Rattle.ds_merge.proofs.index.HistoryIndex.new.Given as goal

abbrev pub invariant-loop-behind : goal.invariant-loop-behind
invariant-loop-behind l = Finds l.places l.histories (drop (length l.histories - l.behind) l.histories)
