use Rattle.std.proofs.Common.{◌≡◌, ◌++◌, map}
use Rattle.ds_exporter.specs.HostStates.{lane_of}
use Rattle.ds_exporter.specs.Sites.{cert_of}
use Rattle.ds_crew.specs.Crews.{begun_lane, lane_in}
use Rattle.ds_crew.proofs.objects.share_lanes.Given as goal

abbrev pub invariant-loop-part : goal.invariant-loop-part
invariant-loop-part l = record {
  lanes : l.lanes.items ++ map cert_of (map lane_of l.part-iterator.rest.items) ≡ map cert_of (map lane_of l.fn.parts.items);
  workers : map lane_in l.workers.items ++ map begun_lane (map lane_of l.part-iterator.rest.items) ≡ map begun_lane (map lane_of l.fn.parts.items);
}
