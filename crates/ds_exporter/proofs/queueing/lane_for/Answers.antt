use Rattle.std.proofs.Common.{◌∙◌, ap}
use Rattle.std.specs.Prelude.{position}
use Rattle.ds_exporter.specs.HostStates.{lane_of}
use Rattle.ds_exporter.specs.Queueing.{is_lane_for}
use Rattle.ds_exporter.proofs.Queues.{position_seen}
use Rattle.ds_exporter.proofs.queueing.lane_for.Goals as goal

pub returns-clause-place : goal.returns-clause-place
returns-clause-place c =
    c.place_for.ensures.place
    ∙ (ap (position (λ l. is_lane_for c.args.to.now c.args.label.now (lane_of l))) c.as_slice.ensures.value
    ∙ position_seen lane_of (is_lane_for c.args.to.now c.args.label.now) c.args.lanes.now.items)
