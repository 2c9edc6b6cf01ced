use Rattle.std.proofs.Common.{◌≡◌, ◌-◌}
use Rattle.ds_world.specs.Makings.{GoesOn, HasRoom, goes_rounds, schedule_of}
use Rattle.ds_world.proofs.scheduling.rounds.Given as goal

abbrev pub invariant-loop : goal.invariant-loop
invariant-loop l = record {
  made : goes_rounds l.initial.world.doc l.budget (l.most - l.counter) (schedule_of l.world l.making) ≡ goes_rounds l.initial.world.doc l.budget l.most (schedule_of l.initial.world l.initial.making);
  room : HasRoom l.world l.making;
  goes : GoesOn l.initial.world l.initial.making l.world l.making;
  doc : l.world.doc ≡ l.initial.world.doc;
}
