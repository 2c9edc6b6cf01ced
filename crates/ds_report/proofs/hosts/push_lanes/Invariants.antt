use Rattle.std.proofs.Common.{◌≡◌, ◌++◌, drop, map}
use Rattle.ds_exporter.specs.HostStates.{lane_of}
use Rattle.ds_report.specs.Printings.{printing_of, planned}
use Rattle.ds_report.specs.Hosts.{lanes_text}
use Rattle.ds_report.proofs.hosts.push_lanes.Given as goal

abbrev pub invariant-loop-place : goal.invariant-loop-place
invariant-loop-place l =
    l.initial.out.items ++ lanes_text (printing_of l.doc) (planned l.doc) l.host 0 (map lane_of l.lanes)
    ≡ l.out.items ++ lanes_text (printing_of l.doc) (planned l.doc) l.host l.place (map lane_of (drop l.place l.lanes))
