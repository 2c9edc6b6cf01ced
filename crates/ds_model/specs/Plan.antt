-- The plan: what setup fixes and no event changes. Things are told apart by their places, from 0.
-- Where the plan has no such thing, a named one stands for it: it has no key, an empty label and no room.
use Rattle.std.specs.Prelude.{ℕ, ◌<◌, Bool, true, List, [], length, map, get_or}
use Rattle.ds_label.specs.declared.category.PubKey.{PubKey}
use Rattle.ds_label.specs.declared.category.Category.{Category}
use Rattle.ds_cert.specs.declared.lane.LaneCert.{LaneCert}
use Rattle.ds_model.specs.Keys.{no_key}
use Rattle.ds_model.specs.Scheme.{SigningKey, LaneKey, InletName}

-- a mailbox: its slot, the process that takes from it, its label, and how many messages may wait
pub record BoxPlan : Type 0 where
  pub slot : ℕ
  pub owner : ℕ
  pub label : List Category
  pub room : ℕ

-- a lane: its certificate, the key that signs its frames, and how many messages may wait
pub record LanePlan : Type 0 where
  pub cert : LaneCert
  pub signing : LaneKey
  pub room : ℕ

-- A host. A silent host is one for which outsiders act; `procs` is how many processes there are.
pub record HostSetup : Type 0 where
  pub key : PubKey
  pub silent : Bool
  pub signing : SigningKey
  pub procs : ℕ
  pub boxes : List BoxPlan
  pub lanes : List LanePlan
  pub inlets : List InletName

-- a host with the keys of all hosts, by their numbers in scripts
pub record HostPlan : Type 0 where
  pub key : PubKey
  pub silent : Bool
  pub signing : SigningKey
  pub keys : List PubKey
  pub procs : ℕ
  pub boxes : List BoxPlan
  pub lanes : List LanePlan
  pub inlets : List InletName

-- whose stream a connection reads: an outsider's, or that of a lane of a host
pub data Source : Type 0 where
  Link : Source
  OfLane : (host lane : ℕ) → Source

-- a connection: the host to which it leads, and its source
pub record ConnPlan : Type 0 where
  pub host : ℕ
  pub source : Source

-- hosts and connections, by their places
pub record Plan : Type 0 where
  pub hosts : List HostSetup
  pub conn_plans : List ConnPlan

-- the keys, hosts and things that stand where the plan has none
abbrev pub no_signing : SigningKey
no_signing = record { tree = 0; chains = 0; seed = []; identifier = [] }

-- no host: it is silent and has nothing
abbrev pub no_host : HostSetup
no_host = record { key = no_key; silent = true; signing = no_signing; procs = 0; boxes = []; lanes = []; inlets = [] }

-- no mailbox
abbrev pub no_box : BoxPlan
no_box = record { slot = 0; owner = 0; label = []; room = 0 }

-- no lane's certificate
abbrev pub no_cert : LaneCert
no_cert = record { exporter = no_key; lane = 0; receiver = no_key; label = []; key = no_key; from = 0; until = 0; signature = [] }

-- no lane
abbrev pub no_lane : LanePlan
no_lane = record { cert = no_cert; signing = no_signing; room = 0 }

-- no inlet
abbrev pub no_inlet : InletName
no_inlet = record { exporter = no_key; lane = 0 }

-- no connection
abbrev pub no_wire : ConnPlan
no_wire = record { host = 0; source = Link }

-- the keys of all hosts, one list for the whole plan
abbrev pub all_keys : Plan → List PubKey
all_keys plan = map (λ x. x.key) plan.hosts

-- a host with these keys
abbrev pub with_keys : List PubKey → HostSetup → HostPlan
with_keys keys x = record {
  key = x.key;
  silent = x.silent;
  signing = x.signing;
  keys = keys;
  procs = x.procs;
  boxes = x.boxes;
  lanes = x.lanes;
  inlets = x.inlets;
}

-- host h
abbrev pub host_plan : Plan → ℕ → HostPlan
host_plan plan h = with_keys (all_keys plan) (get_or plan.hosts h no_host)

-- connection k
abbrev pub conn_plan : Plan → ℕ → ConnPlan
conn_plan plan k = get_or plan.conn_plans k no_wire

-- the host to which connection k leads
abbrev pub receiving_host : Plan → ℕ → HostPlan
receiving_host plan k = host_plan plan (conn_plan plan k).host

-- mailbox b of a host
abbrev pub box_plan : HostPlan → ℕ → BoxPlan
box_plan plan b = get_or plan.boxes b no_box

-- lane l of a host
abbrev pub lane_plan : HostPlan → ℕ → LanePlan
lane_plan plan l = get_or plan.lanes l no_lane

-- inlet i of a host
abbrev pub inlet_name : HostPlan → ℕ → InletName
inlet_name plan i = get_or plan.inlets i no_inlet

-- the plan has this host, or this lane of it
abbrev pub IsHost : Plan → ℕ → Type 0
IsHost plan h = h < length plan.hosts

-- this lane of it
abbrev pub IsLane : Plan → ℕ → ℕ → Type 0
IsLane plan h l = l < length (host_plan plan h).lanes
