use Rattle.std.proofs.Common.{◌≡◌, take}
use Rattle.ds_merge.specs.Standing.{standing}
use Rattle.ds_merge.specs.Tables.{seen, events_of}
use Rattle.ds_merge.specs.Walk.{run, GoesPast}
use Rattle.ds_merge.proofs.walking.walk.Given as goal

abbrev pub invariant-loop-at : goal.invariant-loop-at
invariant-loop-at g l =
    (l.machine ≡ run g.M.Machine.after g.M.Machine.moves g.M.Machine.entry g.M.Machine.answer l.initial.machine (take l.at (events_of l.records l.places)))
    × GoesPast g.M.Machine.after g.M.Machine.moves g.M.Machine.entry g.M.Machine.answer l.initial.machine l.histories (events_of l.records l.places) l.at
    × (seen l.tables ≡ standing (take l.at (events_of l.records l.places)))
