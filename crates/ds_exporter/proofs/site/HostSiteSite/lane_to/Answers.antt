use Rattle.std.proofs.Common.{map, ◌∙◌}
use Rattle.ds_actor.specs.Sites.{is_lane_for}
use Rattle.ds_exporter.specs.HostStates.{lane_of}
use Rattle.ds_exporter.specs.Sites.{cert_of}
use Rattle.ds_exporter.proofs.Queues.{position_seen}
use Rattle.ds_exporter.proofs.site.HostSiteSite.lane_to.Goals as goal

pub returns-clause-place : goal.returns-clause-place
returns-clause-place c = c.lane_for.ensures.place ∙ position_seen cert_of (is_lane_for c.args.to.now c.args.label.now) (map lane_of c.args.self.now.lanes.now.items)
