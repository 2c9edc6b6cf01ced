use Rattle.std.proofs.Common.{◌≡◌, ◌++◌, drop, map}
use Rattle.ds_exporter.specs.HostStates.{box_of}
use Rattle.ds_boot.specs.Parts.{box_begun}
use Rattle.ds_boot.proofs.procs.begin_boxes.Given as goal

abbrev pub invariant-loop-spec : goal.invariant-loop-spec
invariant-loop-spec l =
    map box_of l.boxes.items ++ map (box_begun l.table.here l.table.rows) (drop l.spec-index l.specs) ≡ map (box_begun l.table.here l.table.rows) l.specs
