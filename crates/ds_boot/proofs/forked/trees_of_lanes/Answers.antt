use Rattle.std.proofs.Common.{◌∙◌, sym, arith}
use Rattle.ds_boot.specs.AllKeys.{lane_tree}
use Rattle.ds_boot.proofs.Made.{as_it_is, made_each}
use Rattle.ds_boot.proofs.forked.trees_of_lanes.Goals as goal

pub returns : goal.returns
returns g c =
    sym (as_it_is c.in_ok-trees.trees.items)
    ∙ made_each (λ tree. tree) (lane_tree c.args.host.now) c.args.host.now.lanes c.in_ok-trees.trees.items c.in_ok-made.made.items c.in_ok-trees.ensures (c.in_ok-made.ensures.count ∙ c.len.ensures)
    (λ i d lane within. c.in_ok-made.ensures.each i d (omega (arith, within, c.len.ensures)))
