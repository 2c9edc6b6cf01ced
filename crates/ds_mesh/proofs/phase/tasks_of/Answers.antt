use Rattle.std.proofs.Common.{rules, refl}
use Rattle.ds_mesh.proofs.Phases.{fresh_more, more_nodes}
use Rattle.ds_mesh.proofs.phase.tasks_of.Goals as goal

pub loop-node-preserved : goal.loop-node-preserved
loop-node-preserved c = record {
  nodes = more_nodes c.loop-node.tasks.items c.push.new.self.items _ c.loop-node.node-iterator.rest.items c.next.new.self.rest.items c.args.nodes.items c.in_ok-push.ensures.items c.in-Some.ensures.steps.0 c.loop-node.invariant.nodes;
  fresh = fresh_more c.args.stamp c.args.left c.loop-node.tasks.items c.push.new.self.items _ c.in_ok-push.ensures.items c.loop-node.invariant.fresh
      (record { host_is = c.loop-node.invariant.host; stamp_is = refl; left_is = refl; events_none = c.new.ensures.items });
  host = search rules;
}
