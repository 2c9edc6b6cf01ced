use Rattle.std.proofs.Common.{◌≡◌, ◌++◌, length, map}
use Rattle.ds_mesh.specs.Phases.{AreFreshTasks}
use Rattle.ds_mesh.proofs.phase.tasks_of.Given as goal

abbrev pub invariant-loop-node : goal.invariant-loop-node
invariant-loop-node l = record {
  nodes : map (λ t. t.node) l.tasks.items ++ l.node-iterator.rest.items ≡ l.fn.nodes.items;
  fresh : AreFreshTasks l.fn.stamp l.fn.left l.tasks.items;
  host : l.host ≡ length l.tasks.items;
}
