use Rattle.std.proofs.Common.{map, sym, subst}
use Rattle.ds_plan.specs.Documents.{IsDocument}
use Rattle.ds_setup.specs.Events.{meant}
use Rattle.ds_sim.proofs.Begun.{without_is}
use Rattle.ds_views.proofs.Runs.{ends_so}
use Rattle.ds_views.proofs.running.run_of.Goals as goal

pub setup-requires : goal.setup-requires
setup-requires c = subst IsDocument (sym c.in_ok-copy.ensures) (without_is c.args.doc.now c.requires)

pub returns-clause-end : goal.returns-clause-end
returns-clause-end c =
    ends_so c.args.doc.now c.in_ok-copy.copy c.in_ok-world.world c.run.new.self (map meant c.args.events.now)
    c.in_ok-copy.ensures c.in_ok-world.ensures.doc c.in_ok-world.ensures.start c.in_ok-run.ensures.ok
