use Rattle.std.proofs.Common.{◌≡◌, ◌≤◌, length}
use Rattle.ds_mesh.specs.Phases.{Went}
use Rattle.ds_mesh.proofs.running.phases.Given as goal

abbrev pub invariant-loop : goal.invariant-loop
invariant-loop g l = record {
  went : Went l.fn.world l.world l.fn.events.items l.events.items;
  few : length l.events.items ≤ l.budget;
  counted : l.world.count ≡ length l.events.items;
}
