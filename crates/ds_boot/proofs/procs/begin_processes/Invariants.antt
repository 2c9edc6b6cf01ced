use Rattle.std.proofs.Common.{◌≡◌, ◌++◌, drop, map}
use Rattle.ds_exporter.specs.HostStates.{process_of}
use Rattle.ds_boot.specs.Parts.{process_begun}
use Rattle.ds_boot.proofs.procs.begin_processes.Given as goal

abbrev pub invariant-loop-spec : goal.invariant-loop-spec
invariant-loop-spec l =
    map process_of l.procs.items ++ map (process_begun l.table.here l.table.rows) (drop l.spec-index l.specs) ≡ map (process_begun l.table.here l.table.rows) l.specs
