use Rattle.std.proofs.Common.{◌≡◌, ◌++◌, drop}
use Rattle.ds_doc.specs.Rules.{no_room}
use Rattle.ds_doc.proofs.rules.addresses.no_room.Given as goal

abbrev pub invariant-loop-cert : goal.invariant-loop-cert
invariant-loop-cert l =
    l.faults.items ++ no_room l.here l.kept (drop l.cert-index l.given) ≡ l.initial.faults.items ++ no_room l.here l.made l.given
