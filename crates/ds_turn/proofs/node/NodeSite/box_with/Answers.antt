use Rattle.std.proofs.Common.{sym, ap, ◌∙◌}
use Rattle.std.specs.Prelude.{◌==◌, position}
use Rattle.ds_actor.specs.Sites.{BoxSite}
use Rattle.ds_actor.proofs.Sites.{position_map}
use Rattle.ds_turn.specs.Nodes.{box_site}
use Rattle.ds_turn.proofs.node.NodeSite.box_with.Goals as goal

pub returns-clause-place : goal.returns-clause-place
returns-clause-place c =
    c.box_for.ensures.place
    ∙ (ap (position (λ b. (box_site b).slot == c.args.slot)) c.as_slice.ensures.value
    ∙ sym (position_map box_site (λ (b : BoxSite). b.slot == c.args.slot) c.args.self.now.boxes.items))
