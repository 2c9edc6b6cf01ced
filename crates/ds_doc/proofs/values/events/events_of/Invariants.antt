use Rattle.std.proofs.Common.{◌≡◌, ◌++◌, drop, map}
use Rattle.ds_doc.specs.Values.{happening}
use Rattle.ds_doc.proofs.values.events.events_of.Given as goal

abbrev pub invariant-loop-event : goal.invariant-loop-event
invariant-loop-event l =
    l.list ++ map (happening) (drop l.event-index l.events)
    ≡ map (happening) l.events
