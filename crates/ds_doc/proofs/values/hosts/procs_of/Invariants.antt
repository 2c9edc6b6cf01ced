use Rattle.std.proofs.Common.{◌≡◌, ◌++◌, drop, map}
use Rattle.ds_doc.specs.Values.{process}
use Rattle.ds_doc.proofs.values.hosts.procs_of.Given as goal

abbrev pub invariant-loop-process : goal.invariant-loop-process
invariant-loop-process l =
    l.list ++ map (process l.keys) (drop l.process-index l.procs)
    ≡ map (process l.keys) l.procs
