use Rattle.std.proofs.Common.{◌≡◌, ◌++◌, [], take, drop}
use Rattle.ds_doc.specs.Rules.{repeats, same_name, name_place}
use Rattle.ds_doc.proofs.rules.repeats.names.Given as goal

abbrev pub invariant-loop-place : goal.invariant-loop-place
invariant-loop-place l =
    l.faults.items ++ repeats same_name name_place (take l.place l.hosts) (drop l.place l.hosts)
    ≡ l.initial.faults.items ++ repeats same_name name_place [] l.hosts
