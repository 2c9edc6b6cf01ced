use Rattle.std.proofs.Common.{◌∙◌}
use Rattle.ds_boot.specs.AllKeys.{lane_trees, trees_of}
use Rattle.ds_boot.proofs.Made.{each_is_map, made_each}
use Rattle.ds_boot.proofs.forked.each_lane_trees.Goals as goal

pub returns : goal.returns
returns g c =
    made_each trees_of (λ at. lane_trees) c.args.hosts.now c.in_ok-trees.trees.items c.in_ok-made.made.items c.in_ok-trees.ensures c.in_ok-made.ensures.count (λ i d h within. c.in_ok-made.ensures.each i d h within)
    ∙ each_is_map lane_trees c.args.hosts.now
