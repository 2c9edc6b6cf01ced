use Rattle.std.proofs.Common.{◌≡◌, drop}
use Rattle.ds_doc.specs.Shapes.{least, lesser}
use Rattle.ds_doc.proofs.rules.noted.least_of.Given as goal

abbrev pub invariant-loop-fault : goal.invariant-loop-fault
invariant-loop-fault l = lesser l.found (least (drop l.fault-index l.faults)) ≡ least l.faults
