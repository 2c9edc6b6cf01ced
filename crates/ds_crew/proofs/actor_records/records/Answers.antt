use Rattle.std.proofs.Common.{sym, subst}
use Rattle.std.specs.List.{All}
use Rattle.std.proofs.lemmas.List.Elements.{All-nil}
use Rattle.ds_crew.specs.ActorEvents.{IsRising}
use Rattle.ds_crew.proofs.actor_records.records.Goals as goal

pub returns-clause-rising : goal.returns-clause-rising
returns-clause-rising c =
    c.in_ok-add_conns.ensures.rising (c.in_ok-add_lanes.ensures.rising (c.in_ok-add_procs.ensures.rising (subst (All IsRising) (sym c.new-out.ensures.items) (All-nil IsRising))))
