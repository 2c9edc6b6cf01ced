-- The plan of a document: what no event changes.
use Rattle.std.specs.Prelude.{ℕ, suc, ◌==◌, if◌then◌else◌, List, [], ◌∷◌, ◌++◌, length, map}
use Rattle.ds_model.specs.Scheme.{InletName}
use Rattle.ds_model.specs.Plan.{BoxPlan, LanePlan, HostSetup, ConnPlan, Plan, Link, OfLane}
use Rattle.ds_plan.specs.declared.doc.Doc.{Doc}
use Rattle.ds_plan.specs.declared.host.HostSpec.{HostSpec}
use Rattle.ds_plan.specs.declared.host.LaneSpec.{LaneSpec}
use Rattle.ds_plan.specs.declared.host.InletSpec.{InletSpec}
use Rattle.ds_plan.specs.declared.process.BoxSpec.{BoxSpec}
use Rattle.ds_plan.specs.Keys.{host_key}
use Rattle.ds_plan.specs.Documents.{is_silent}
use Rattle.ds_setup.specs.Lists.{each, joined}
use Rattle.ds_setup.specs.Keys.{key_at, signing_key, lane_key}
use Rattle.ds_setup.specs.Signed.{signed_lane}

abbrev pub box_plan_of : BoxSpec → BoxPlan
box_plan_of b = record { slot = b.slot; owner = b.owner; label = b.label; room = b.room }

-- a lane's number is its place, from 1
abbrev pub lane_plan_of : List HostSpec → HostSpec → (place : ℕ) → LaneSpec → LanePlan
lane_plan_of hosts h place lane =
    record { cert = signed_lane hosts h (suc place) lane; signing = lane_key h (suc place); room = lane.room }

-- INLETS

-- the inlet of a sender's lane, where it leads here
abbrev pub lane_inlet : (here : ℕ) → HostSpec → (place : ℕ) → LaneSpec → List InletName
lane_inlet here sender place lane =
    if lane.to == here then record { exporter = host_key sender; lane = suc place } ∷ [] else []

-- those of all its lanes
abbrev pub inlets_from : (here : ℕ) → HostSpec → List InletName
inlets_from here sender = joined (each (lane_inlet here sender) sender.lanes)

abbrev pub declared_inlet : List HostSpec → InletSpec → InletName
declared_inlet hosts i = record { exporter = key_at hosts i.from; lane = i.lane }

-- of a running host: those of the document's lanes to it, in their order, and then the declared ones
abbrev pub inlets_of : List HostSpec → (here : ℕ) → HostSpec → List InletName
inlets_of hosts here h =
    if is_silent h.secret then [] else joined (map (inlets_from here) hosts) ++ map (declared_inlet hosts) h.inlets

-- HOSTS

abbrev pub host_setup_of : List HostSpec → (place : ℕ) → HostSpec → HostSetup
host_setup_of hosts place h = record {
  key = host_key h;
  silent = is_silent h.secret;
  signing = signing_key h;
  procs = length h.procs;
  boxes = map box_plan_of h.boxes;
  lanes = each (lane_plan_of hosts h) h.lanes;
  inlets = inlets_of hosts place h;
}

-- CONNECTIONS: first those of all hosts' lanes, then the links

abbrev pub lane_conns : (host : ℕ) → HostSpec → List ConnPlan
lane_conns host h = each (λ place lane. record { host = lane.to; source = OfLane host place }) h.lanes

abbrev pub conn_plans_of : List HostSpec → (links : List ℕ) → List ConnPlan
conn_plans_of hosts links = joined (each lane_conns hosts) ++ map (λ host. record { host = host; source = Link }) links

abbrev pub plan_of : Doc → Plan
plan_of d = record { hosts = each (host_setup_of d.hosts) d.hosts; conn_plans = conn_plans_of d.hosts d.links }
