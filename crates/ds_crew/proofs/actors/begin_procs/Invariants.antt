use Rattle.std.proofs.Common.{◌≡◌, ◌+◌, ◌≤◌, ◌++◌, length, map}
use Rattle.std.specs.Prelude.{◌^◌}
use Rattle.ds_exporter.specs.HostStates.{process_of}
use Rattle.ds_crew.specs.Crews.{begun_procs, proc_in}
use Rattle.ds_crew.proofs.actors.begin_procs.Given as goal

abbrev pub invariant-loop-part : goal.invariant-loop-part
invariant-loop-part l = record {
  procs : map proc_in l.procs.items ++ begun_procs l.host l.place (map process_of l.part-iterator.rest.items) ≡ begun_procs l.host 0 (map process_of l.fn.parts.items);
  few : l.place + length l.part-iterator.rest.items ≤ 2 ^ 30;
}
