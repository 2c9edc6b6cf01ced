use Rattle.std.proofs.Common.{map, ◌∙◌}
use Rattle.std.specs.Prelude.{◌==◌}
use Rattle.ds_actor.specs.Sites.{BoxSite}
use Rattle.ds_exporter.specs.HostStates.{box_of}
use Rattle.ds_exporter.specs.Sites.{box_site}
use Rattle.ds_exporter.proofs.Queues.{position_seen}
use Rattle.ds_exporter.proofs.site.HostSiteSite.box_with.Goals as goal

pub returns-clause-place : goal.returns-clause-place
returns-clause-place c = c.box_for.ensures.place ∙ position_seen box_site (λ (b : BoxSite). b.slot == c.args.slot) (map box_of c.args.self.now.boxes.now.items)
