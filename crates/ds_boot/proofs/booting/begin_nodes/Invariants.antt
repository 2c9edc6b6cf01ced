use Rattle.std.proofs.Common.{◌≡◌, ◌≤◌, ℕ, Some, slice_get, length, map}
use Rattle.ds_plan.specs.declared.host.HostSpec.{HostSpec}
use Rattle.ds_plan.specs.Keys.{host_keys}
use Rattle.ds_setup.specs.Lists.{each}
use Rattle.ds_hosts.specs.Nodes.{NodeState, node_of}
use Rattle.ds_boot.specs.Signing.{signer_behind}
use Rattle.ds_boot.specs.Lanes.{lanes_begun, lanes_of}
use Rattle.ds_boot.specs.Beginnings.{IsNodeBegun}
use Rattle.ds_boot.proofs.booting.begin_nodes.Given as goal

abbrev pub invariant-loop-place : goal.invariant-loop-place
invariant-loop-place l =
    record {
      count : length l.nodes.items ≡ l.place;
      begun : (place : ℕ) (h : HostSpec) (x : NodeState) → slice_get l.doc.hosts place ≡ Some h → slice_get (map node_of l.nodes.items) place ≡ Some x → IsNodeBegun l.doc place h x;
      signer_count : length l.signers ≡ length l.doc.hosts;
      signers : (j : ℕ) → l.place ≤ j → slice_get l.signers j ≡ slice_get (each (signer_behind l.doc.certs) l.doc.hosts) j;
      lane_count : length l.lanes ≡ length l.doc.hosts;
      lanes : (j : ℕ) → l.place ≤ j → slice_get (map lanes_of l.lanes) j ≡ slice_get (each (lanes_begun (host_keys l.doc.hosts)) l.doc.hosts) j;
    }
