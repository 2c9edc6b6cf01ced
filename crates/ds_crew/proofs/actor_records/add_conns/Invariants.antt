use Rattle.std.proofs.Common.{◌≡◌, ◌++◌, map}
use Rattle.std.specs.Prelude.{All}
use Rattle.ds_crew.specs.ActorEvents.{IsRising, of_conn, of_record}
use Rattle.ds_crew.proofs.actor_records.add_conns.Given as goal

abbrev pub invariant-loop-conn : goal.invariant-loop-conn
invariant-loop-conn l = record {
  records : map of_record l.out.items ++ map of_conn l.conn-iterator.rest.items ≡ map of_record l.initial.out.items ++ map of_conn l.fn.conns.items;
  rising : All IsRising l.initial.out.items → All IsRising l.out.items;
}
