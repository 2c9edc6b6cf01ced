use Rattle.std.proofs.Common.{map, ap}
use Rattle.ds_crew.specs.ActorEvents.{of_proc}
use Rattle.ds_crew.proofs.Growing.{records_on, rising_on}
use Rattle.ds_crew.proofs.actor_records.add_procs.Goals as goal

pub loop-process-preserved : goal.loop-process-preserved
loop-process-preserved c = record {
  records = records_on c.loop-process.out.items c.push.new.self.items c.into_record.result (of_proc c.in-Some.process) (map of_proc c.loop-process.process-iterator.rest.items) (map of_proc c.next.new.self.rest.items) _
      c.in_ok-push.ensures.items (ap (map of_proc) c.in-Some.ensures.steps.0) c.into_record.ensures.who c.into_record.ensures.events c.loop-process.invariant.records;
  rising = rising_on _ c.loop-process.out.items c.push.new.self.items c.into_record.result c.in-Some.process.proc.events
      c.in_ok-push.ensures.items c.into_record.ensures.events c.into_record.ensures.rising c.loop-process.invariant.rising;
}
