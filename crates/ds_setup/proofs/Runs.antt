-- Each document has a run, and one alone.
use Rattle.std.proofs.Common.{◌≡◌, List, map, Option, Some, None, refl, sym, ◌∙◌}
use Rattle.ds_model.specs.Schedule.{canonical, changes}
use Rattle.ds_model.specs.Step.{Event}
use Rattle.ds_model.proofs.Moves.{some_schedule}
use Rattle.ds_model.proofs.Schedules.{one_schedule}
use Rattle.ds_scheme.specs.TheScheme.{scheme}
use Rattle.ds_plan.specs.declared.event.Event.{Event as DocEvent}
use Rattle.ds_setup.specs.Plans.{plan_of}
use Rattle.ds_setup.specs.Starts.{start_of}
use Rattle.ds_setup.specs.Events.{meant, IsScheduledBy, EachHasARun, EachHasOneRun}

pub some_run : EachHasARun
some_run d = go d.events
  where
    go : (o : Option (List DocEvent)) → (events : List Event) × IsScheduledBy d o events
    go (Some given) = (map meant given, refl)
    go None = (canonical (changes scheme (plan_of d)) scheme (plan_of d) d.budget (start_of d), some_schedule scheme (plan_of d) d.budget (start_of d))

pub one_run : EachHasOneRun
one_run d one two = go d.events
  where
    go : (o : Option (List DocEvent)) → IsScheduledBy d o one → IsScheduledBy d o two → one ≡ two
    go (Some given) a b = a ∙ sym b
    go None a b = one_schedule scheme (plan_of d) d.budget (start_of d) one two a b
