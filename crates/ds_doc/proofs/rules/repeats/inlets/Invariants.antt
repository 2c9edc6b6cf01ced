use Rattle.std.proofs.Common.{◌≡◌, ◌++◌, [], take, drop}
use Rattle.ds_doc.specs.Rules.{repeats, same_inlet, inlet_place}
use Rattle.ds_doc.proofs.rules.repeats.inlets.Given as goal

abbrev pub invariant-loop-place : goal.invariant-loop-place
invariant-loop-place l =
    l.faults.items ++ repeats same_inlet inlet_place (take l.place l.inlets) (drop l.place l.inlets)
    ≡ l.initial.faults.items ++ repeats same_inlet inlet_place [] l.inlets
