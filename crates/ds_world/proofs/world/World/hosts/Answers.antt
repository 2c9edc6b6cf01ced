use Rattle.std.proofs.Common.{◌≡◌, ◌∙◌, length, sym, ap}
use Rattle.ds_setup.specs.Plans.{plan_of}
use Rattle.ds_exporter.proofs.IfDone.{if_done}
use Rattle.ds_world.specs.Worlds.{WorldState}
use Rattle.ds_world.proofs.Counts.{hosts_planned}
use Rattle.ds_world.proofs.world.World.hosts.Goals as goal

pub returns : goal.returns
returns c = if_done (λ n. n ≡ c.len.result) (λ n. n ≡ length (plan_of c.args.self.now.doc).hosts) c.number.result
    (λ n e. e ∙ (c.len.ensures ∙ (ap (λ (w : WorldState). length w.doc.hosts) c.self.view_is ∙ sym (hosts_planned c.args.self.now.doc)))) c.number.ensures
