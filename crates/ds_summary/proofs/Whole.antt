-- What code counts of hosts and connections is what the plain world has.
use Rattle.std.proofs.Common.{◌≡◌, ◌∙◌, refl, sym, ap, ap₂}
use Rattle.std.specs.Prelude.{ℕ, zero, suc, ◌+◌, List, [], ◌∷◌, ◌++◌, map, flat_map, get_or, slice_get, None}
use Rattle.std.proofs.lemmas.Grind.{flat_map-append}
use Rattle.std.proofs.lemmas.List.Folds.{flat_map-map}
use Rattle.ds_label.specs.declared.category.PubKey.{PubKey}
use Rattle.ds_label.specs.declared.category.Category.{Category}
use Rattle.ds_model.specs.World.{Conn}
use Rattle.ds_box.specs.declared.entry.BoxAct.{BoxAct}
use Rattle.ds_box.specs.declared.entry.BoxAct.TheVariants as boxes
use Rattle.ds_lane.specs.declared.entry.LaneAct.{LaneAct}
use Rattle.ds_lane.specs.declared.entry.LaneAct.TheVariants as lanes
use Rattle.ds_lane.specs.declared.entry.LaneEntry.{LaneEntry}
use Rattle.ds_lane.specs.declared.worker_entry.WorkerAct.{WorkerAct}
use Rattle.ds_lane.specs.declared.worker_entry.WorkerAct.TheVariants as workers
use Rattle.ds_lane.specs.declared.worker_entry.WorkerEntry.{WorkerEntry}
use Rattle.ds_inlet.specs.declared.offer.ConnEntry.{ConnEntry}
use Rattle.ds_inlet.specs.declared.offer.ConnEntry.TheVariants as entries
use Rattle.ds_inlet.specs.Connections.{Connection}
use Rattle.ds_inlet.specs.PlainConnections.{plain_conn, line_of as conn_line_of}
use Rattle.ds_exporter.specs.HostStates.{HostBox, HostLane, HostState}
use Rattle.ds_exporter.specs.Merging.{Stamped, act_lines, entry_lines, line_of, merged, worker_line, worker_stamped}
use Rattle.ds_exporter.specs.PlainHosts.{conn_of, host_of, log_of, no_conn, plain_act, plain_box, plain_entry, plain_process}
use Rattle.ds_hosts.specs.Nodes.{NodeState, Running, Silent, conn_in, conns_of, plain_host}
use Rattle.ds_setup.specs.Lists.{each}
use Rattle.ds_world.specs.Worlds.{WorldState, conn_by, link_at, node_at, routes_of, world_of}
use Rattle.ds_summary.specs.declared.counted.Counted.{Counted}
use Rattle.ds_summary.specs.Counts.{box_entry_counts, conn_counts, conn_line_counts, count, host_counts, lane_counts, lane_line_counts, mailbox_counts, process_counts, world_counts}
use Rattle.ds_summary.specs.Parts as parts
use Rattle.ds_summary.specs.Parts.{SameCounts}
use Rattle.ds_summary.proofs.Adding.{count_both, equal_flat, merged_adds, same_both, same_equal, same_flat, same_then}

-- ---- mailboxes

act_is : (here : PubKey) (rows : List Category) (a : BoxAct) → box_entry_counts (plain_act here rows a) ≡ parts.box_act_counts a
act_is here rows (boxes.Put m) = refl
act_is here rows (boxes.Full m) = refl
act_is here rows boxes.Took = refl

box_is : (here : PubKey) (rows : List Category) (b : HostBox) → mailbox_counts (plain_box here rows b) ≡ parts.box_part b
box_is here rows b =
    flat_map-map box_entry_counts (plain_entry here rows) b.mailbox.history
    ∙ equal_flat (λ e. box_entry_counts (plain_entry here rows e)) parts.kept_box_counts (λ e. act_is here rows e.act) b.mailbox.history

-- ---- lanes

abbrev stamped_counts : Stamped → List Counted
stamped_counts x = lane_line_counts x.line

sender_is : (stamp : ℕ) (a : LaneAct) → flat_map stamped_counts (act_lines stamp a) ≡ parts.lane_act_counts a
sender_is stamp (lanes.Queued w) = refl
sender_is stamp (lanes.Full w) = refl
sender_is stamp (lanes.Lifted n) = refl

senders_are : (history : List LaneEntry) → flat_map stamped_counts (flat_map entry_lines history) ≡ flat_map parts.kept_lane_counts history
senders_are [] = refl
senders_are (e ∷ history) =
    flat_map-append stamped_counts (entry_lines e) (flat_map entry_lines history)
    ∙ ap₂ (λ a b. a ++ b) (sender_is e.stamp e.act) (senders_are history)

worker_is : (a : WorkerAct) → lane_line_counts (worker_line a) ≡ parts.worker_act_counts a
worker_is (workers.Framed number n) = refl
worker_is (workers.Dropped rule from slot) = refl

workers_are : (all : List WorkerEntry) → flat_map stamped_counts (map worker_stamped all) ≡ flat_map parts.kept_worker_counts all
workers_are all =
    flat_map-map stamped_counts worker_stamped all
    ∙ equal_flat (λ e. stamped_counts (worker_stamped e)) parts.kept_worker_counts (λ e. worker_is e.act) all

lane_is : (l : HostLane) → SameCounts (lane_counts (log_of l)) (parts.lane_part l)
lane_is l one =
    let first : List Stamped = flat_map entry_lines l.lane.history in
    let second : List Stamped = map worker_stamped l.worker.entries in
    ap (λ zs. count zs one) (flat_map-map lane_line_counts line_of (merged first second))
    ∙ merged_adds (λ xs. count (flat_map stamped_counts xs) one) (λ x. count (stamped_counts x) one) refl (λ x xs. count_both (stamped_counts x) (flat_map stamped_counts xs) one) first second
    ∙ ap₂ (λ a b. count a one + count b one) (senders_are l.lane.history) (workers_are l.worker.entries)
    ∙ sym (count_both (flat_map parts.kept_lane_counts l.lane.history) (flat_map parts.kept_worker_counts l.worker.entries) one)

-- ---- hosts

host_is : (e : HostState) → SameCounts (host_counts (host_of e)) (parts.host_part e)
host_is e =
    let here : PubKey = e.desk.here in
    let rows : List Category = e.desk.desk.rows in
    same_both
    (flat_map process_counts (map (plain_process here rows) e.procs)) (flat_map mailbox_counts (map (plain_box here rows) e.boxes) ++ flat_map lane_counts (map log_of e.lanes))
    (flat_map parts.process_part e.procs) (flat_map parts.box_part e.boxes ++ flat_map parts.lane_part e.lanes)
    (same_equal (flat_map process_counts (map (plain_process here rows) e.procs)) (flat_map parts.process_part e.procs) (flat_map-map process_counts (plain_process here rows) e.procs))
    (same_both
    (flat_map mailbox_counts (map (plain_box here rows) e.boxes)) (flat_map lane_counts (map log_of e.lanes))
    (flat_map parts.box_part e.boxes) (flat_map parts.lane_part e.lanes)
    (same_equal (flat_map mailbox_counts (map (plain_box here rows) e.boxes)) (flat_map parts.box_part e.boxes)
    (flat_map-map mailbox_counts (plain_box here rows) e.boxes ∙ equal_flat (λ b. mailbox_counts (plain_box here rows b)) parts.box_part (box_is here rows) e.boxes))
    (same_then (flat_map lane_counts (map log_of e.lanes)) (flat_map (λ l. lane_counts (log_of l)) e.lanes) (flat_map parts.lane_part e.lanes)
    (same_equal (flat_map lane_counts (map log_of e.lanes)) (flat_map (λ l. lane_counts (log_of l)) e.lanes) (flat_map-map lane_counts log_of e.lanes))
    (same_flat (λ l. lane_counts (log_of l)) parts.lane_part lane_is e.lanes)))

node_is : (x : NodeState) → SameCounts (host_counts (plain_host x)) (parts.node_part x)
node_is (Running e) = host_is e
node_is (Silent conns) = λ one. refl

-- ---- connections

entry_is : (e : ConnEntry) → conn_line_counts (conn_line_of e) ≡ parts.kept_conn_counts e
entry_is (entries.Frame number n) = refl
entry_is (entries.Stale number) = refl
entry_is (entries.Pass slot) = refl
entry_is (entries.Drop rule slot) = refl

lines_are : (k : Connection) → flat_map conn_line_counts (map conn_line_of k.entries) ≡ parts.conn_part k
lines_are k =
    flat_map-map conn_line_counts conn_line_of k.entries
    ∙ equal_flat (λ e. conn_line_counts (conn_line_of e)) parts.kept_conn_counts entry_is k.entries

at_place : (view : Connection → Conn) → ((k : Connection) → conn_counts (view k) ≡ parts.conn_part k) → (conns : List Connection) (place : ℕ)
    → conn_counts (get_or (map view conns) place no_conn) ≡ parts.conn_if_there (slice_get conns place)
at_place view is [] place = refl
at_place view is (k ∷ conns) zero = is k
at_place view is (k ∷ conns) (suc place) = at_place view is conns place

conn_is : (link : List ℕ) (place : ℕ) (x : NodeState) → conn_counts (conn_in link place x) ≡ parts.conn_if_there (slice_get (conns_of x) place)
conn_is link place (Running e) = at_place (conn_of e.desk.here e.desk.desk.rows link) lines_are e.conns place
conn_is link place (Silent conns) = at_place (plain_conn link None) lines_are conns place

each_is : {X Y : Type 0} (f : ℕ → X → Y) (h : Y → List Counted) (g : X → List Counted) → ((k : ℕ) (x : X) → h (f k x) ≡ g x) → (xs : List X)
    → flat_map h (each f xs) ≡ flat_map g xs
each_is f h g is [] = refl
each_is f h g is (x ∷ xs) = ap₂ (λ a b. a ++ b) (is 0 x) (each_is (λ k. f (suc k)) h g (λ k. is (suc k)) xs)

-- ---- all

pub world_is : (w : WorldState) → SameCounts (world_counts (world_of w)) (parts.world_part w)
world_is w =
    same_both (flat_map host_counts (map plain_host w.nodes)) (flat_map conn_counts (each (conn_by w) (routes_of w.doc)))
    (flat_map parts.node_part w.nodes) (flat_map (parts.route_part w.nodes) (routes_of w.doc))
    (same_then (flat_map host_counts (map plain_host w.nodes)) (flat_map (λ x. host_counts (plain_host x)) w.nodes) (flat_map parts.node_part w.nodes)
    (same_equal (flat_map host_counts (map plain_host w.nodes)) (flat_map (λ x. host_counts (plain_host x)) w.nodes) (flat_map-map host_counts plain_host w.nodes))
    (same_flat (λ x. host_counts (plain_host x)) parts.node_part node_is w.nodes))
    (same_equal (flat_map conn_counts (each (conn_by w) (routes_of w.doc))) (flat_map (parts.route_part w.nodes) (routes_of w.doc))
    (each_is (conn_by w) conn_counts (parts.route_part w.nodes) (λ k r. conn_is (link_at k w) r.place (node_at r.host w)) (routes_of w.doc)))

pub counts_are : (w : WorldState) (all : List Counted) → all ≡ parts.world_part w → count all ≡ count (world_counts (world_of w))
counts_are w all e = ap count e ∙ (λ i one. sym (world_is w one) i)
