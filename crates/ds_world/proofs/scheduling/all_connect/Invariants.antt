use Rattle.std.proofs.Common.{◌≡◌}
use Rattle.ds_world.specs.Makings.{GoesOn, HasRoom, connects_all, schedule_of}
use Rattle.ds_world.proofs.scheduling.all_connect.Given as goal

abbrev pub invariant-loop-conn : goal.invariant-loop-conn
invariant-loop-conn l = record {
  made : schedule_of l.world l.making ≡ connects_all l.initial.world.doc l.budget l.conn (schedule_of l.initial.world l.initial.making);
  room : HasRoom l.world l.making;
  goes : GoesOn l.initial.world l.initial.making l.world l.making;
  doc : l.world.doc ≡ l.initial.world.doc;
}
