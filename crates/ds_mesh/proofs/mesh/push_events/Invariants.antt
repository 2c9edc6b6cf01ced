use Rattle.std.proofs.Common.{◌≡◌, ◌++◌, take, flat_map}
use Rattle.ds_report.specs.Events.{event_line}
use Rattle.ds_mesh.proofs.mesh.push_events.Given as goal

abbrev pub invariant-loop-event : goal.invariant-loop-event
invariant-loop-event l = l.out.items ≡ l.initial.out.items ++ flat_map (event_line l.doc) (take l.event-index l.events)
