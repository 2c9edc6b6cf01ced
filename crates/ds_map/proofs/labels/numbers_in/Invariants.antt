use Rattle.std.proofs.Common.{◌≡◌, ◌≤◌, length, drop, map}
use Rattle.ds_label.specs.Flow.{union}
use Rattle.ds_label.specs.Numbers.{by_number}
use Rattle.ds_model.specs.Mapping.{number_of}
use Rattle.ds_map.specs.Labels.{numbered}
use Rattle.ds_map.proofs.labels.numbers_in.Given as goal

abbrev pub invariant-loop-c : goal.invariant-loop-c
invariant-loop-c l = record {
  so_far : union by_number l.numbers (map (number_of l.table.here l.table.rows) (drop l.c-index l.members)) ≡ numbered l.table.here l.table.rows l.members;
  few : length l.numbers ≤ l.c-index;
}
