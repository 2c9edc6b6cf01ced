use Rattle.std.proofs.Common.{option_map, ap}
use Rattle.ds_actor.specs.Sites.{BoxSite}
use Rattle.ds_turn.specs.Nodes.{box_site}
use Rattle.ds_turn.proofs.SeatPlaces.{stands_now}
use Rattle.ds_turn.proofs.node.NodeSite.box_owner.Goals as goal

pub returns : goal.returns
returns c = ap (option_map (λ (b : BoxSite). b.owner)) (stands_now box_site c.args.self.now.boxes.items c.args.place c.index.result.now c.requires c.index.ensures)
