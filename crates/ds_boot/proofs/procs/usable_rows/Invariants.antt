use Rattle.std.proofs.Common.{◌≡◌, ◌++◌, drop, map}
use Rattle.ds_boot.specs.Parts.{usable_of}
use Rattle.ds_boot.proofs.procs.usable_rows.Given as goal

abbrev pub invariant-loop-row : goal.invariant-loop-row
invariant-loop-row l =
    l.names ++ map (usable_of l.table.here l.table.rows) (drop l.row-index l.table.rows) ≡ map (usable_of l.table.here l.table.rows) l.table.rows
