use Rattle.std.proofs.Common.{◌≡◌, ◌≤◌, length}
use Rattle.ds_mesh.specs.Phases.{Went}
use Rattle.ds_mesh.proofs.arriving.arrive_all.Given as goal

abbrev pub invariant-loop-conn : goal.invariant-loop-conn
invariant-loop-conn l = record {
  went : Went l.initial.world l.world l.initial.events.items l.events.items;
  few : length l.events.items ≤ l.budget;
  counted : l.world.count ≡ length l.events.items;
}
