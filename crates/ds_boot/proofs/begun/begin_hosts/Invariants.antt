use Rattle.std.proofs.Common.{◌≡◌, ◌≤◌, ℕ, take, map, slice_get, length, []}
use Rattle.ds_plan.specs.Keys.{identity_key}
use Rattle.ds_setup.specs.Lists.{each}
use Rattle.ds_setup.specs.Starts.{own_addresses}
use Rattle.ds_boot.specs.AllKeys.{lane_trees, trees_of}
use Rattle.ds_boot.specs.Signing.{signer_behind}
use Rattle.ds_boot.specs.Lanes.{lanes_begun, lanes_of}
use Rattle.ds_boot.proofs.begun.begin_hosts.Given as goal

abbrev pub invariant-loop-at : goal.invariant-loop-at
invariant-loop-at l =
    record {
      signers : l.begun.signers.items ≡ each (signer_behind []) (take l.at l.hosts);
      addresses : l.begun.addresses.items ≡ own_addresses (take l.at l.hosts);
      lanes : map lanes_of l.begun.lanes.items ≡ each (lanes_begun l.keys) (take l.at l.hosts);
      count : length l.trees ≡ length l.hosts;
      trees : (j : ℕ) → l.at ≤ j → slice_get l.trees j ≡ slice_get (map identity_key l.hosts) j;
      lane_count : length l.lane_keys ≡ length l.hosts;
      lane_keys : (j : ℕ) → l.at ≤ j → slice_get (map trees_of l.lane_keys) j ≡ slice_get (map lane_trees l.hosts) j;
    }
