use Rattle.std.proofs.Common.{◌≡◌, ◌-◌}
use Rattle.ds_world.specs.Makings.{GoesOn, HasRoom, delivers, schedule_of}
use Rattle.ds_world.proofs.scheduling.deliveries.Given as goal

abbrev pub invariant-loop : goal.invariant-loop
invariant-loop l = record {
  made : delivers l.initial.world.doc l.conn (l.most - l.counter) (schedule_of l.world l.making) ≡ delivers l.initial.world.doc l.conn l.most (schedule_of l.initial.world l.initial.making);
  room : HasRoom l.world l.making;
  goes : GoesOn l.initial.world l.initial.making l.world l.making;
  doc : l.world.doc ≡ l.initial.world.doc;
}
