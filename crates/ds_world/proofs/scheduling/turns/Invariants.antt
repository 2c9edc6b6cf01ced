use Rattle.std.proofs.Common.{◌≡◌, ◌-◌}
use Rattle.ds_world.specs.Makings.{GoesOn, HasRoom, takes_turns, schedule_of}
use Rattle.ds_world.proofs.scheduling.turns.Given as goal

abbrev pub invariant-loop : goal.invariant-loop
invariant-loop l = record {
  made : takes_turns l.initial.world.doc l.conn l.budget (l.budget - l.counter) (schedule_of l.world l.making) ≡ takes_turns l.initial.world.doc l.conn l.budget l.budget (schedule_of l.initial.world l.initial.making);
  room : HasRoom l.world l.making;
  goes : GoesOn l.initial.world l.initial.making l.world l.making;
  doc : l.world.doc ≡ l.initial.world.doc;
}
