use Rattle.std.proofs.Common.{Some, option_map, sym, ap, ◌∙◌}
use Rattle.ds_actor.specs.Sites.{BoxSite}
use Rattle.ds_exporter.proofs.SiteParts.{box_there}
use Rattle.ds_exporter.proofs.site.HostSiteSite.box_owner.Goals as goal

pub returns : goal.returns
returns c = ap (option_map (λ (b : BoxSite). b.owner)) (box_there c.args.self.now.boxes.now.items c.args.place c.index.result.now c.requires c.index.ensures) ∙ ap (λ x. Some x) (sym c.owner.ensures)
