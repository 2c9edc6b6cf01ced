use Rattle.std.proofs.Common.{◌≡◌, ◌++◌, map}
use Rattle.std.specs.Prelude.{All}
use Rattle.ds_crew.specs.ActorEvents.{IsRising, of_proc, of_record}
use Rattle.ds_crew.proofs.actor_records.add_procs.Given as goal

abbrev pub invariant-loop-process : goal.invariant-loop-process
invariant-loop-process l = record {
  records : map of_record l.out.items ++ map of_proc l.process-iterator.rest.items ≡ map of_record l.initial.out.items ++ map of_proc l.fn.procs.items;
  rising : All IsRising l.initial.out.items → All IsRising l.out.items;
}
