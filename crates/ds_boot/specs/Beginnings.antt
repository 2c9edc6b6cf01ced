-- An exporter before the first event: its parts, as the document says them.
use Rattle.std.specs.Prelude.{◌≡◌, ℕ, true, false, List, length, map, slice_get, Some}
use Rattle.ds_desk.specs.Desks.{DeskView}
use Rattle.ds_exporter.specs.HostStates.{HostState}
use Rattle.ds_plan.specs.declared.doc.Doc.{Doc}
use Rattle.ds_plan.specs.declared.host.HostSpec.{HostSpec}
use Rattle.ds_plan.specs.Keys.{host_key, host_keys}
use Rattle.ds_plan.specs.Documents.{is_silent}
use Rattle.ds_setup.specs.Signed.{doc_certs}
use Rattle.ds_setup.specs.Plans.{inlets_of}
use Rattle.ds_setup.specs.Starts.{own_addresses}
use Rattle.ds_boot.specs.declared.hosts.Shared.{Shared}
use Rattle.ds_hosts.specs.Nodes.{NodeState, Running, Silent}
use Rattle.ds_boot.specs.Desks.{IsDeskOf}
use Rattle.ds_boot.specs.Lanes.{lanes_begun}
use Rattle.ds_boot.specs.Parts.{box_begun, conns_to, ends_of, inlet_begun, process_begun}

-- a running host at a place, with that desk
abbrev pub state_begun : Doc → (place : ℕ) → HostSpec → DeskView → HostState
state_begun d place h k = record {
  host = place;
  keys = host_keys d.hosts;
  desk = k;
  procs = map (process_begun (host_key h) h.map) h.procs;
  boxes = map (box_begun (host_key h) h.map) h.boxes;
  lanes = lanes_begun (host_keys d.hosts) place h;
  inlets = map inlet_begun (inlets_of d.hosts place h);
  conns = conns_to d place h;
}

-- the desk is what setup says, and all other parts are the document's
pub record IsBegun (d : Doc) (place : ℕ) (h : HostSpec) (e : HostState) : Type 0 where
  pub desk : IsDeskOf d place h e.desk
  pub state : e ≡ state_begun d place h e.desk

-- what hosts share is the document's
pub record IsShared (d : Doc) (s : Shared) : Type 0 where
  pub keys : s.keys.items ≡ host_keys d.hosts
  pub own : s.own.items ≡ own_addresses d.hosts
  pub certs : s.certs.items ≡ doc_certs d.hosts d.certs
  pub ends : s.ends.items ≡ ends_of d

-- a host that runs has begun as an exporter, and to a silent one there are the connections
abbrev pub IsNodeBegun : Doc → (place : ℕ) → HostSpec → NodeState → Type 0
IsNodeBegun d place h (Running e) = (is_silent h.secret ≡ false) × IsBegun d place h e
IsNodeBegun d place h (Silent conns) = (is_silent h.secret ≡ true) × (conns ≡ conns_to d place h)

-- and so have all
pub record AreBegun (d : Doc) (nodes : List NodeState) : Type 0 where
  pub count : length nodes ≡ length d.hosts
  pub each : (place : ℕ) (h : HostSpec) (node : NodeState) → slice_get d.hosts place ≡ Some h → slice_get nodes place ≡ Some node → IsNodeBegun d place h node
