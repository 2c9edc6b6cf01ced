use Rattle.std.proofs.Common.{◌≡◌, ◌≤◌, length, drop, map}
use Rattle.ds_label.specs.Flow.{union}
use Rattle.ds_label.specs.Names.{by_name}
use Rattle.ds_map.specs.Labels.{name_of, named}
use Rattle.ds_map.proofs.labels.names_in.Given as goal

abbrev pub invariant-loop-n : goal.invariant-loop-n
invariant-loop-n l = record {
  so_far : union by_name l.names (map (name_of l.table.here l.table.rows) (drop l.n-index l.members)) ≡ named l.table.here l.table.rows l.members;
  few : length l.names ≤ l.n-index;
}
