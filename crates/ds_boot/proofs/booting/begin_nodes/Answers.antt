use Rattle.std.proofs.Common.{◌≡◌, ◌+◌, List, length, length-append, map, Some, None, slice_get, subst, sym, ap, ◌∙◌, arith}
use Rattle.std.specs.Prelude.{Option}
use Rattle.std.proofs.lemmas.List.{length-map}
use Rattle.std.proofs.lemmas.Option.{none-some}
use Rattle.lms_state.specs.Signers.{Signing}
use Rattle.ds_exporter.specs.HostStates.{HostLane}
use Rattle.ds_plan.specs.declared.host.HostSpec.{HostSpec}
use Rattle.ds_plan.specs.Keys.{host_keys}
use Rattle.ds_setup.proofs.Places.{length-each}
use Rattle.ds_hosts.specs.declared.node.Node.{Node}
use Rattle.ds_hosts.specs.Nodes.{node_of}
use Rattle.ds_boot.specs.Signing.{signer_behind}
use Rattle.ds_boot.specs.Lanes.{lanes_begun, lanes_of}
use Rattle.ds_boot.proofs.Lists.{behind_set, length_set, there_at}
use Rattle.ds_boot.proofs.Taken.{lanes_are, lanes_left, one_more_begun, taken_is}
use Rattle.ds_boot.proofs.booting.begin_nodes.Goals as goal

pub loop-place-init : goal.loop-place-init
loop-place-init c = record {
  count = ap (λ (xs : List Node). length xs) c.new-nodes.ensures.items;
  begun = λ place h x e q. absurd (none-some x (ap (λ (xs : List Node). slice_get (map node_of xs) place) (sym c.new-nodes.ensures.items) ∙ q));
  signer_count = ap (λ (xs : List (Option Signing)). length xs) c.requires.signers ∙ length-each (signer_behind c.args.doc.now.certs) c.args.doc.now.hosts;
  signers = λ j le. ap (λ (xs : List (Option Signing)). slice_get xs j) c.requires.signers;
  lane_count = sym (length-map {B = List HostLane} c.args.lanes.now lanes_of) ∙ (ap (λ (xs : List (List HostLane)). length xs) c.requires.lanes ∙ length-each (lanes_begun (host_keys c.args.doc.now.hosts)) c.args.doc.now.hosts);
  lanes = λ j le. ap (λ (xs : List (List HostLane)). slice_get xs j) c.requires.lanes;
}

pub begin_node-requires-clause-there : goal.begin_node-requires-clause-there
begin_node-requires-clause-there c = (subst (λ (xs : List HostSpec). slice_get xs c.loop-place.place ≡ Some c.index-hosts-place.result) c.requires.hosts (there_at c.args.hosts.now c.loop-place.place _ c.loop-place-test.true ∙ ap (λ (x : HostSpec). Some x) (sym c.index-hosts-place.is)))

pub begin_node-requires-clause-signer : goal.begin_node-requires-clause-signer
begin_node-requires-clause-signer c = c.take_signer-signer.ensures.signer ∙ taken_is (signer_behind c.args.doc.now.certs) c.args.doc.now.hosts c.loop-place.signers c.loop-place.place None c.index-hosts-place.result (subst (λ (xs : List HostSpec). slice_get xs c.loop-place.place ≡ Some c.index-hosts-place.result) c.requires.hosts (there_at c.args.hosts.now c.loop-place.place _ c.loop-place-test.true ∙ ap (λ (x : HostSpec). Some x) (sym c.index-hosts-place.is))) (c.loop-place.invariant.signers c.loop-place.place (omega arith))

pub begin_node-requires-clause-lanes : goal.begin_node-requires-clause-lanes
begin_node-requires-clause-lanes c = lanes_are (lanes_begun (host_keys c.args.doc.now.hosts)) c.args.doc.now.hosts c.loop-place.lanes c.loop-place.place c.take_lanes-own.result c.index-hosts-place.result (subst (λ (xs : List HostSpec). slice_get xs c.loop-place.place ≡ Some c.index-hosts-place.result) c.requires.hosts (there_at c.args.hosts.now c.loop-place.place _ c.loop-place-test.true ∙ ap (λ (x : HostSpec). Some x) (sym c.index-hosts-place.is))) c.take_lanes-own.ensures.lanes (c.loop-place.invariant.lanes c.loop-place.place (omega arith))

pub loop-place-preserved : goal.loop-place-preserved
loop-place-preserved c = record {
  count = ap (λ (xs : List Node). length xs) c.in_ok-push.ensures.items ∙ (length-append c.loop-place.nodes.items _ ∙ ap (λ n. n + 1) c.loop-place.invariant.count);
  begun = one_more_begun c.args.doc.now c.loop-place.place c.loop-place.nodes.items c.push.new.self.items c.index-hosts-place.result c.in_ok-begin_node.field-0 c.loop-place.invariant.count c.in_ok-push.ensures.items (subst (λ (xs : List HostSpec). slice_get xs c.loop-place.place ≡ Some c.index-hosts-place.result) c.requires.hosts (there_at c.args.hosts.now c.loop-place.place _ c.loop-place-test.true ∙ ap (λ (x : HostSpec). Some x) (sym c.index-hosts-place.is))) c.in_ok-begin_node.ensures c.loop-place.invariant.begun;
  signer_count = ap (λ (xs : List (Option Signing)). length xs) c.take_signer-signer.ensures.rest ∙ (length_set c.loop-place.signers c.loop-place.place _ ∙ c.loop-place.invariant.signer_count);
  signers = λ j le. ap (λ (xs : List (Option Signing)). slice_get xs j) c.take_signer-signer.ensures.rest ∙ (behind_set c.loop-place.signers c.loop-place.place j _ le ∙ c.loop-place.invariant.signers j (omega (arith, le)));
  lane_count = c.take_lanes-own.ensures.count ∙ c.loop-place.invariant.lane_count;
  lanes = λ j le. lanes_left c.loop-place.lanes c.take_lanes-own.new.lanes j (c.take_lanes-own.ensures.rest j le) ∙ c.loop-place.invariant.lanes j (omega (arith, le));
}
