use Rattle.std.proofs.Common.{ap, ◌∙◌}
use Rattle.ds_world.specs.Worlds.{longer}
use Rattle.ds_world.proofs.Injected.{set_at}
use Rattle.ds_world.proofs.injecting.append_at.Goals as goal

pub returns-clause-ok : goal.returns-clause-ok
returns-clause-ok c = set_at (longer c.args.bytes.now) c.args.place c.args.links.now.items c.index_mut.result.now c.append.new.self c.requires (c.in_ok-append.ensures.ok ∙ ap (longer c.args.bytes.now) c.index_mut.ensures.value)
