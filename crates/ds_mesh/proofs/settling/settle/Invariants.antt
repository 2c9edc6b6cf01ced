use Rattle.std.proofs.Common.{◌≡◌, ◌≤◌, length}
use Rattle.ds_mesh.specs.Phases.{Went}
use Rattle.ds_mesh.proofs.settling.settle.Given as goal

abbrev pub invariant-loop : goal.invariant-loop
invariant-loop l = record {
  went : Went l.initial.world l.world l.initial.events.items l.events.items;
  few : length l.events.items ≤ l.budget;
  counted : l.world.count ≡ length l.events.items;
  more : l.counter ≤ length l.events.items;
}
