use Rattle.std.proofs.Common.{◌≡◌, ◌++◌, take, map}
use Rattle.ds_exporter.specs.HostStates.{inlet_of}
use Rattle.ds_report.specs.Printings.{printing_of, planned}
use Rattle.ds_report.specs.Hosts.{inlets_text}
use Rattle.ds_report.proofs.hosts.push_inlets.Given as goal

abbrev pub invariant-loop-inlet : goal.invariant-loop-inlet
invariant-loop-inlet l = l.out.items ≡ l.initial.out.items ++ inlets_text (printing_of l.doc) (planned l.doc) l.host (map inlet_of (take l.inlet-index l.inlets))
