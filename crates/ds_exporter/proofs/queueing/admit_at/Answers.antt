use Rattle.std.proofs.Common.{map}
use Rattle.ds_exporter.specs.HostStates.{lane_of}
use Rattle.ds_exporter.specs.Stamping.{IsLaneBefore}
use Rattle.ds_exporter.proofs.Places.{all_get, stands_now}
use Rattle.ds_exporter.proofs.queueing.admit_at.Goals as goal

pub admit-requires-clause-later : goal.admit-requires-clause-later
admit-requires-clause-later c =
    (all_get (IsLaneBefore c.args.stamp) (map lane_of c.args.lanes.now.items) c.args.place (lane_of c.index_mut.result.now) c.requires.later
    (stands_now lane_of c.args.lanes.now.items c.args.place c.index_mut.result.now c.requires.place c.index_mut.ensures.value)).last

pub admit-requires-clause-on : goal.admit-requires-clause-on
admit-requires-clause-on c =
    c.requires.on (lane_of c.index_mut.result.now) (stands_now lane_of c.args.lanes.now.items c.args.place c.index_mut.result.now c.requires.place c.index_mut.ensures.value)
