use Rattle.std.proofs.Common.{◌≡◌, ◌++◌, map}
use Rattle.ds_exporter.specs.HostStates.{connection_of}
use Rattle.ds_turn.specs.ConnRecords.{fresh_conn}
use Rattle.ds_crew.specs.Crews.{link_in}
use Rattle.ds_crew.proofs.actors.begin_conns.Given as goal

abbrev pub invariant-loop-part : goal.invariant-loop-part
invariant-loop-part l = map link_in l.conns.items ++ map fresh_conn (map connection_of l.part-iterator.rest.items) ≡ map fresh_conn (map connection_of l.fn.parts.items)
