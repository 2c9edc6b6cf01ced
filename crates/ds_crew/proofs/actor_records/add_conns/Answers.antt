use Rattle.std.proofs.Common.{map, ap}
use Rattle.ds_crew.specs.ActorEvents.{of_conn}
use Rattle.ds_crew.proofs.Growing.{records_on, rising_on}
use Rattle.ds_crew.proofs.actor_records.add_conns.Goals as goal

pub loop-conn-preserved : goal.loop-conn-preserved
loop-conn-preserved c = record {
  records = records_on c.loop-conn.out.items c.push.new.self.items c.into_record.result (of_conn c.in-Some.conn) (map of_conn c.loop-conn.conn-iterator.rest.items) (map of_conn c.next.new.self.rest.items) _
      c.in_ok-push.ensures.items (ap (map of_conn) c.in-Some.ensures.steps.0) c.into_record.ensures.who c.into_record.ensures.events c.loop-conn.invariant.records;
  rising = rising_on _ c.loop-conn.out.items c.push.new.self.items c.into_record.result c.in-Some.conn.link.events
      c.in_ok-push.ensures.items c.into_record.ensures.events c.into_record.ensures.rising c.loop-conn.invariant.rising;
}
