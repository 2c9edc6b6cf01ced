use Rattle.std.proofs.Common.{◌-◌, ◌≤◌, length, ap, arith}
use Rattle.std.proofs.lemmas.List.{length-map}
use Rattle.ds_exporter.specs.HostStates.{lane_of}
use Rattle.ds_hosts.proofs.Entering.{none_frames}
use Rattle.ds_hosts.proofs.framing.frame_of.Goals as goal

pub returns-then-lane-len-clause-entered : goal.returns-then-lane-len-clause-entered
returns-then-lane-len-clause-entered c =
    let e = c.args.exporter.now in
    let v = c.lanes.result.now in
    let le : length e.lanes ≤ c.args.lane - 1 = omega (arith, c.if-lane-len.true, c.len.ensures, v.ok, length-map v.items lane_of, ap length c.lanes.ensures) in
    none_frames e c.args.stamp (c.args.lane - 1) le
