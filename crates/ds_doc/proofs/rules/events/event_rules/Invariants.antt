use Rattle.std.proofs.Common.{◌≡◌, ◌++◌, take, flat_map}
use Rattle.ds_doc.specs.Rules.{event_rules}
use Rattle.ds_doc.proofs.rules.events.event_rules.Given as goal

abbrev pub invariant-loop-event : goal.invariant-loop-event
invariant-loop-event l = l.faults.items ≡ l.initial.faults.items ++ flat_map (event_rules l.facts) (take l.event-index l.events)
