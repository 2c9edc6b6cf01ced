use Rattle.std.proofs.Common.{◌≡◌, ◌++◌, drop}
use Rattle.ds_doc.specs.Rules.{each_place, no_room_at}
use Rattle.ds_doc.proofs.rules.addresses.no_room_in_each.Given as goal

abbrev pub invariant-loop-here : goal.invariant-loop-here
invariant-loop-here l =
    l.faults.items ++ each_place (no_room_at l.made l.given) l.here (drop l.here l.hosts)
    ≡ l.initial.faults.items ++ each_place (no_room_at l.made l.given) 0 l.hosts
