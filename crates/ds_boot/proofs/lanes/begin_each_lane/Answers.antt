use Rattle.std.proofs.Common.{◌∙◌, ◌+◌, List, ap, drop, sym}
use Rattle.std.specs.Vec.Iter.{into_iter_items}
use Rattle.ds_plan.specs.declared.host.LaneSpec.{LaneSpec}
use Rattle.ds_setup.specs.Lists.{each}
use Rattle.ds_exporter.specs.HostStates.{lane_of}
use Rattle.ds_boot.specs.AllKeys.{lane_tree}
use Rattle.ds_boot.specs.Lanes.{lane_begun}
use Rattle.ds_boot.proofs.Lists.{each_step, next_of_each, rest_of_each, some_left}
use Rattle.ds_boot.proofs.lanes.begin_each_lane.Goals as goal

pub next_key-tree-requires : goal.next_key-tree-requires
next_key-tree-requires c =
    some_left (lane_tree c.args.host.now) c.args.lanes.now c.loop-place.place c.index-lanes-place.result (into_iter_items c.loop-place.trees) c.loop-place-test.true
    (c.loop-place.invariant.trees ∙ ap (λ (ls : List LaneSpec). drop c.loop-place.place (each (lane_tree c.args.host.now) ls)) (sym c.requires.lanes))

pub begin_lane-requires-clause-tree : goal.begin_lane-requires-clause-tree
begin_lane-requires-clause-tree c =
    next_of_each (lane_tree c.args.host.now) c.args.lanes.now c.loop-place.place _ c.index-lanes-place.result c.next_key-tree.result (into_iter_items c.loop-place.trees) _ c.loop-place-test.true c.index-lanes-place.is c.next_key-tree.ensures
    (c.loop-place.invariant.trees ∙ ap (λ (ls : List LaneSpec). drop c.loop-place.place (each (lane_tree c.args.host.now) ls)) (sym c.requires.lanes))

pub loop-place-preserved : goal.loop-place-preserved
loop-place-preserved c = record {
  lanes = each_step lane_of (lane_begun c.args.keys.now c.args.at c.args.host.now) c.args.lanes.now c.loop-place.place _ c.loop-place.begun.items c.push.new.self.items c.in_ok-begin_lane.field-0 c.index-lanes-place.result c.loop-place-test.true c.in_ok-push.ensures.items c.index-lanes-place.is c.in_ok-begin_lane.ensures.lane c.loop-place.invariant.lanes;
  signer = c.in_ok-begin_lane.ensures.signer;
  trees = rest_of_each (lane_tree c.args.host.now) c.args.lanes.now c.loop-place.place c.index-lanes-place.result c.next_key-tree.result (into_iter_items c.loop-place.trees) _ c.loop-place-test.true c.next_key-tree.ensures
      (c.loop-place.invariant.trees ∙ ap (λ (ls : List LaneSpec). drop c.loop-place.place (each (lane_tree c.args.host.now) ls)) (sym c.requires.lanes))
      ∙ ap (λ (ls : List LaneSpec). drop (c.loop-place.place + 1) (each (lane_tree c.args.host.now) ls)) c.requires.lanes;
}
