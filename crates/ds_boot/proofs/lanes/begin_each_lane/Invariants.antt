use Rattle.std.proofs.Common.{◌≡◌, ◌+◌, drop, take, map}
use Rattle.std.specs.Vec.Iter.{into_iter_items}
use Rattle.ds_setup.specs.Lists.{each}
use Rattle.ds_setup.specs.Signed.{address_leaves}
use Rattle.ds_exporter.specs.HostStates.{lane_of}
use Rattle.ds_boot.specs.Signers.{identity_tree, signing_at}
use Rattle.ds_boot.specs.AllKeys.{lane_trees}
use Rattle.ds_boot.specs.Lanes.{lane_begun}
use Rattle.ds_boot.proofs.lanes.begin_each_lane.Given as goal

abbrev pub invariant-loop-place : goal.invariant-loop-place
invariant-loop-place l =
    record {
      lanes : map lane_of l.begun.items ≡ each (lane_begun l.keys l.at l.host) (take l.place l.lanes);
      signer : l.signer ≡ signing_at (address_leaves l.host + l.place) (identity_tree l.host);
      trees : into_iter_items l.trees ≡ drop l.place (lane_trees l.host);
    }
