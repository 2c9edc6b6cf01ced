-- The same of hosts as code keeps them. A lane's senders and its worker keep their entries apart.
use Rattle.std.specs.Prelude.{◌≡◌, ℕ, List, [], ◌∷◌, ◌++◌, flat_map, get_or, slice_get, Option, Some, None}
use Rattle.ds_label.specs.Rules.{rule_number}
use Rattle.ds_label.specs.declared.rule.Rule.TheVariants.{LaneFull, BoxFull, Stale}
use Rattle.ds_box.specs.declared.entry.BoxAct.{BoxAct}
use Rattle.ds_box.specs.declared.entry.BoxAct.TheVariants as boxes
use Rattle.ds_box.specs.declared.entry.BoxEntry.{BoxEntry}
use Rattle.ds_lane.specs.declared.entry.LaneAct.{LaneAct}
use Rattle.ds_lane.specs.declared.entry.LaneAct.TheVariants as lanes
use Rattle.ds_lane.specs.declared.entry.LaneEntry.{LaneEntry}
use Rattle.ds_lane.specs.declared.worker_entry.WorkerAct.{WorkerAct}
use Rattle.ds_lane.specs.declared.worker_entry.WorkerAct.TheVariants as workers
use Rattle.ds_lane.specs.declared.worker_entry.WorkerEntry.{WorkerEntry}
use Rattle.ds_inlet.specs.declared.offer.ConnEntry.{ConnEntry}
use Rattle.ds_inlet.specs.declared.offer.ConnEntry.TheVariants as conns
use Rattle.ds_inlet.specs.Connections.{Connection}
use Rattle.ds_exporter.specs.HostStates.{HostProcess, HostBox, HostLane, HostState}
use Rattle.ds_hosts.specs.Nodes.{NodeState, Running, Silent, conns_of}
use Rattle.ds_world.specs.declared.route.Route.{Route}
use Rattle.ds_world.specs.Worlds.{WorldState, no_node, routes_of}
use Rattle.ds_summary.specs.declared.counted.Counted.{Counted}
use Rattle.ds_summary.specs.declared.counted.Counted.TheVariants.{Queued, Framed, Put, Took, Refused}
use Rattle.ds_summary.specs.Counts.{count, note_counts}

abbrev pub box_act_counts : BoxAct → List Counted
box_act_counts (boxes.Put m) = Put ∷ []
box_act_counts (boxes.Full m) = Refused (rule_number BoxFull) ∷ []
box_act_counts boxes.Took = Took ∷ []

abbrev pub kept_box_counts : BoxEntry → List Counted
kept_box_counts entry = box_act_counts entry.act

abbrev pub lane_act_counts : LaneAct → List Counted
lane_act_counts (lanes.Queued w) = Queued ∷ []
lane_act_counts (lanes.Full w) = Refused (rule_number LaneFull) ∷ []
lane_act_counts (lanes.Lifted n) = []

abbrev pub kept_lane_counts : LaneEntry → List Counted
kept_lane_counts entry = lane_act_counts entry.act

abbrev pub worker_act_counts : WorkerAct → List Counted
worker_act_counts (workers.Framed number n) = Framed ∷ []
worker_act_counts (workers.Dropped rule from slot) = Refused (rule_number rule) ∷ []

abbrev pub kept_worker_counts : WorkerEntry → List Counted
kept_worker_counts entry = worker_act_counts entry.act

abbrev pub kept_conn_counts : ConnEntry → List Counted
kept_conn_counts (conns.Frame number n) = []
kept_conn_counts (conns.Stale number) = Refused (rule_number Stale) ∷ []
kept_conn_counts (conns.Pass slot) = []
kept_conn_counts (conns.Drop rule slot) = Refused (rule_number rule) ∷ []

-- ---- hosts

abbrev pub process_part : HostProcess → List Counted
process_part x = flat_map note_counts x.process.course.notes

abbrev pub box_part : HostBox → List Counted
box_part b = flat_map kept_box_counts b.mailbox.history

abbrev pub lane_part : HostLane → List Counted
lane_part l = flat_map kept_lane_counts l.lane.history ++ flat_map kept_worker_counts l.worker.entries

abbrev pub host_part : HostState → List Counted
host_part e = flat_map process_part e.procs ++ (flat_map box_part e.boxes ++ flat_map lane_part e.lanes)

abbrev pub node_part : NodeState → List Counted
node_part (Running e) = host_part e
node_part (Silent conns) = []

-- ---- connections, each at its place on its host

abbrev pub conn_part : Connection → List Counted
conn_part k = flat_map kept_conn_counts k.entries

abbrev pub conn_if_there : Option Connection → List Counted
conn_if_there None = []
conn_if_there (Some k) = conn_part k

abbrev pub route_part : List NodeState → Route → List Counted
route_part nodes r = conn_if_there (slice_get (conns_of (get_or nodes r.host no_node)) r.place)

-- ---- all

abbrev pub world_part : WorldState → List Counted
world_part w = flat_map node_part w.nodes ++ flat_map (route_part w.nodes) (routes_of w.doc)

-- two lists have each thing equally often
abbrev pub SameCounts : List Counted → List Counted → Type 0
SameCounts xs ys = (one : Counted) → count xs one ≡ count ys one
