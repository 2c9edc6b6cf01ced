use Rattle.std.proofs.Common.{map}
use Rattle.ds_exporter.specs.HostStates.{box_of}
use Rattle.ds_exporter.proofs.DeliverVerdicts.{none_found}
use Rattle.ds_exporter.proofs.posting.post.Goals as goal

pub unreachable-requires : goal.unreachable-requires
unreachable-requires c = none_found (map box_of c.args.boxes.now.items) c.args.slot c.box_for.result c.box_for.ensures.place c.in_default-box_for.is c.requires.there
