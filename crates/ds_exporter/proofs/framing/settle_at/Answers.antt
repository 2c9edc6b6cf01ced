use Rattle.ds_exporter.specs.HostStates.{lane_of}
use Rattle.ds_exporter.proofs.Places.{stands_now}
use Rattle.ds_exporter.proofs.framing.settle_at.Goals as goal

pub settle-requires : goal.settle-requires
settle-requires g c = record { some = c.requires.some (lane_of c.index_mut.result.now) (stands_now lane_of c.args.lanes.now.items c.args.place c.index_mut.result.now c.requires.place c.index_mut.ensures.value) }
