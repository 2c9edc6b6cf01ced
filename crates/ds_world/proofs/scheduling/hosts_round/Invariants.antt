use Rattle.std.proofs.Common.{◌≡◌}
use Rattle.ds_model.specs.Lists.{gathered}
use Rattle.ds_model.specs.Schedule.{host_events}
use Rattle.ds_setup.specs.Plans.{plan_of}
use Rattle.ds_world.specs.Makings.{GoesOn, HasRoom, schedule_of, tries_all}
use Rattle.ds_world.proofs.scheduling.hosts_round.Given as goal

abbrev pub invariant-loop-host : goal.invariant-loop-host
invariant-loop-host l = record {
  made : schedule_of l.world l.making ≡ tries_all l.initial.world.doc (gathered (host_events (plan_of l.initial.world.doc)) l.host) (schedule_of l.initial.world l.initial.making);
  room : HasRoom l.world l.making;
  goes : GoesOn l.initial.world l.initial.making l.world l.making;
  doc : l.world.doc ≡ l.initial.world.doc;
}
