use Rattle.std.proofs.Common.{[], ◌∷◌, ◌++◌, ◌∙◌, ap}
use Rattle.lms_sig.specs.Keys.{Key}
use Rattle.ds_boot.specs.AllKeys.{lane_tree}
use Rattle.ds_boot.proofs.Lists.{each_grows}
use Rattle.ds_boot.proofs.trees.trees_of_lanes.Goals as goal

pub loop-place-preserved : goal.loop-place-preserved
loop-place-preserved c =
    each_grows (lane_tree c.args.host.now) c.args.lanes.now c.loop-place.place c.index-lanes-place.result c.loop-place.trees.items c.push.new.self.items c.index-lanes-place.result c.loop-place-test.true
    (c.in_ok-push.ensures.items ∙ ap (λ (k : Key). c.loop-place.trees.items ++ k ∷ []) c.in_ok-lane_tree.ensures) c.index-lanes-place.is c.loop-place.invariant
