use Rattle.std.proofs.Common.{◌≡◌, ◌++◌, map, flat_map}
use Rattle.ds_mesh.proofs.phase.gather.Given as goal

abbrev pub invariant-loop-task : goal.invariant-loop-task
invariant-loop-task l = record {
  nodes : l.nodes.items ++ map (λ t. t.node) l.task-iterator.rest.items ≡ map (λ t. t.node) l.fn.tasks.items;
  events : l.events.items ++ flat_map (λ t. t.events.items) l.task-iterator.rest.items ≡ l.fn.events.items ++ flat_map (λ t. t.events.items) l.fn.tasks.items;
}
