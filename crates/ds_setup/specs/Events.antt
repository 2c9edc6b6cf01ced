-- Which events a document's run has, as the model has them.
use Rattle.std.specs.Prelude.{◌≡◌, ◌-◌, List, map, Option, Some, None}
use Rattle.ds_model.specs.Step.{Event, Step, Frame, Arrive, Accept, Deliver, Tick, Inject, Copy}
use Rattle.ds_model.specs.Schedule.{IsCanonical}
use Rattle.ds_scheme.specs.TheScheme.{scheme}
use Rattle.ds_plan.specs.declared.doc.Doc.{Doc}
use Rattle.ds_plan.specs.declared.event.Event.{Event as DocEvent}
use Rattle.ds_plan.specs.declared.event.Event.TheVariants as written
use Rattle.ds_setup.specs.Plans.{plan_of}
use Rattle.ds_setup.specs.Starts.{start_of}

-- a document numbers a host's lanes from 1; the model has them by their places, from 0
abbrev pub meant : DocEvent → Event
meant (written.Step host index) = Step host index
meant (written.Frame host lane) = Frame host (lane - 1)
meant (written.Arrive conn count) = Arrive conn count
meant (written.Accept conn) = Accept conn
meant (written.Deliver conn) = Deliver conn
meant (written.Tick host to) = Tick host to
meant (written.Inject conn bytes) = Inject conn bytes
meant (written.CopyBytes conn source from until) = Copy conn source from until

-- the events that are given; where none are, the canonical schedule
abbrev pub IsScheduledBy : Doc → Option (List DocEvent) → List Event → Type 0
IsScheduledBy d (Some given) events = events ≡ map meant given
IsScheduledBy d None events = IsCanonical scheme (plan_of d) d.budget (start_of d) events

abbrev pub IsScheduled : Doc → List Event → Type 0
IsScheduled d events = IsScheduledBy d d.events events

-- each document has a run, and one alone
abbrev pub EachHasARun : Type 0
EachHasARun = (d : Doc) → (events : List Event) × IsScheduled d events

abbrev pub EachHasOneRun : Type 0
EachHasOneRun = (d : Doc) (one two : List Event) → IsScheduled d one → IsScheduled d two → one ≡ two
