use Rattle.std.proofs.Common.{map}
use Rattle.ds_setup.specs.Events.{meant}
use Rattle.ds_views.proofs.Apart.{same_views}
use Rattle.ds_views.proofs.running.two_runs.Goals as goal

pub returns-clause-same : goal.returns-clause-same
returns-clause-same c = λ both apart.
    same_views c.args.category.now c.args.trusted.now c.args.first.now.doc (map meant c.args.one.now) c.args.second.now.doc (map meant c.args.two.now)
    c.requires.first_fresh.document c.requires.second_fresh.document both c.args.actor.now c.in_ok-seen_first.seen_first c.in_ok-seen_second.seen_second
    apart c.in_ok-seen_first.ensures c.in_ok-seen_second.ensures
