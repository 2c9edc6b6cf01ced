use Rattle.std.proofs.Common.{◌≡◌, ◌∙◌, [], Some, ap, map, slice_get, sym, arith}
use Rattle.ds_plan.specs.declared.host.HostSpec.{HostSpec}
use Rattle.ds_setup.specs.Starts.{own_address}
use Rattle.ds_boot.specs.AllKeys.{lane_trees, trees_of}
use Rattle.ds_boot.specs.Signing.{signer_behind}
use Rattle.ds_boot.specs.Lanes.{lanes_begun, lanes_of}
use Rattle.ds_boot.proofs.Lists.{each_grows, flat_grows, behind_set, length_set, there_at}
use Rattle.ds_boot.proofs.Taken.{part_is, parts_left}
use Rattle.ds_boot.proofs.begun.begin_hosts.Goals as goal

pub begin_host-requires-clause-lanes : goal.begin_host-requires-clause-lanes
begin_host-requires-clause-lanes c =
    let there : slice_get c.args.hosts.now c.loop-at.at ≡ Some c.index-hosts-at.result = there_at c.args.hosts.now c.loop-at.at _ c.loop-at-test.true ∙ ap (λ (x : HostSpec). Some x) (sym c.index-hosts-at.is) in
    part_is trees_of lane_trees c.args.hosts.now c.loop-at.lane_keys c.loop-at.at c.take_lane_keys-own.result c.index-hosts-at.result there c.take_lane_keys-own.ensures.keys (c.loop-at.invariant.lane_keys c.loop-at.at (omega arith))

pub loop-at-preserved : goal.loop-at-preserved
loop-at-preserved c = record {
  signers = each_grows (signer_behind []) c.args.hosts.now c.loop-at.at _ c.loop-at.begun.signers.items c.begin_host.new.begun.signers.items c.index-hosts-at.result c.loop-at-test.true c.in_ok-begin_host.ensures.signers c.index-hosts-at.is c.loop-at.invariant.signers;
  addresses = flat_grows (λ (h : HostSpec). own_address h.identity h.secret h.address) c.args.hosts.now c.loop-at.at _ c.loop-at.begun.addresses.items c.begin_host.new.begun.addresses.items c.index-hosts-at.result c.loop-at-test.true c.in_ok-begin_host.ensures.addresses c.index-hosts-at.is c.loop-at.invariant.addresses;
  lanes = each_grows (lanes_begun c.args.keys.now) c.args.hosts.now c.loop-at.at _ (map lanes_of c.loop-at.begun.lanes.items) (map lanes_of c.begin_host.new.begun.lanes.items) c.index-hosts-at.result c.loop-at-test.true c.in_ok-begin_host.ensures.lanes c.index-hosts-at.is c.loop-at.invariant.lanes;
  count = rw c.take_tree-tree.ensures.rest (length_set c.loop-at.trees c.loop-at.at _ ∙ c.loop-at.invariant.count);
  trees = λ j le. rw c.take_tree-tree.ensures.rest (behind_set c.loop-at.trees c.loop-at.at j _ le ∙ c.loop-at.invariant.trees j (omega (arith, le)));
  lane_count = c.take_lane_keys-own.ensures.count ∙ c.loop-at.invariant.lane_count;
  lane_keys = λ j le. parts_left trees_of lane_trees c.loop-at.lane_keys c.take_lane_keys-own.new.lane_keys j (c.take_lane_keys-own.ensures.rest j le) ∙ c.loop-at.invariant.lane_keys j (omega (arith, le));
}
