use Rattle.std.proofs.Common.{◌≡◌}
use Rattle.ds_model.specs.Lists.{gathered}
use Rattle.ds_world.specs.Makings.{GoesOn, HasRoom, schedule_of, tries_all}
use Rattle.ds_world.proofs.Tried.{steps_of}
use Rattle.ds_world.proofs.scheduling.steps.Given as goal

abbrev pub invariant-loop-index : goal.invariant-loop-index
invariant-loop-index l = record {
  made : schedule_of l.world l.making ≡ tries_all l.initial.world.doc (gathered (steps_of l.host) l.index) (schedule_of l.initial.world l.initial.making);
  room : HasRoom l.world l.making;
  goes : GoesOn l.initial.world l.initial.making l.world l.making;
  doc : l.world.doc ≡ l.initial.world.doc;
}
