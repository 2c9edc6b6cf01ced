-- A document's hosts in a run, and the world that they are. Connections are numbered as in the plan; each is one of the connections
-- to its host.
use Rattle.std.specs.Prelude.{◌≡◌, ℕ, ◌+◌, ◌<◌, ◌==◌, if◌then◌else◌, List, [], ◌∷◌, ◌++◌, length, map, take, get_or, slice_get, Some}
use Rattle.ds_model.specs.Plan.{ConnPlan, Source, Link, OfLane, host_plan}
use Rattle.ds_model.specs.World.{Conn, World}
use Rattle.ds_model.specs.Step.{stream_from, worker_at}
use Rattle.ds_plan.specs.declared.doc.Doc.{Doc}
use Rattle.ds_plan.specs.Documents.{IsDocument}
use Rattle.ds_setup.specs.Lists.{each}
use Rattle.ds_setup.specs.Plans.{conn_plans_of, plan_of}
use Rattle.ds_setup.specs.Starts.{start_of}
use Rattle.ds_hosts.specs.Nodes.{NodeState, Silent, IsPlanOf, IsUntil, arrived_in, conn_in, conns_of, plain_host}
use Rattle.ds_world.specs.declared.route.Feed.{Feed}
use Rattle.ds_world.specs.declared.route.Feed.TheVariants as feeds
use Rattle.ds_world.specs.declared.route.Route.{Route}

-- WHERE CONNECTIONS LEAD

-- how many of these connections lead to a host
abbrev pub leads_to : (host : ℕ) → ConnPlan → ℕ
leads_to host c = if c.host == host then 1 else 0

abbrev pub count_to : (host : ℕ) → List ConnPlan → ℕ
count_to host [] = 0
count_to host (c ∷ conns) = leads_to host c + count_to host conns

abbrev pub feed_of : Source → Feed
feed_of Link = feeds.Link
feed_of (OfLane host lane) = feeds.Lane host lane

-- the connection with number k: its host, its place among the connections to that host, and its source
abbrev pub route_at : List ConnPlan → (k : ℕ) → ConnPlan → Route
route_at conns k c = record { host = c.host; place = count_to c.host (take k conns); source = feed_of c.source }

abbrev pub routes_by : List ConnPlan → List Route
routes_by conns = each (route_at conns) conns

abbrev pub conns_in : Doc → List ConnPlan
conns_in d = conn_plans_of d.hosts d.links

abbrev pub routes_of : Doc → List Route
routes_of d = routes_by (conns_in d)

-- THE HOSTS

-- A document, its hosts, the stream of each connection's link, and how many events there were. A lane's connection has no link,
-- and nothing stands in its place.
pub record WorldState : Type 0 where
  pub doc : Doc
  pub nodes : List NodeState
  pub links : List (List ℕ)
  pub count : ℕ

-- no host
abbrev pub no_node : NodeState
no_node = Silent []

abbrev pub node_at : (host : ℕ) → WorldState → NodeState
node_at host w = get_or w.nodes host no_node

-- a link's stream
abbrev pub link_at : (k : ℕ) → WorldState → List ℕ
link_at k w = get_or w.links k []

-- the connection of number k
abbrev pub conn_by : WorldState → (k : ℕ) → Route → Conn
conn_by w k r = conn_in (link_at k w) r.place (node_at r.host w)

-- the world that they are
abbrev pub world_of : WorldState → World
world_of w = record { hosts = map plain_host w.nodes; conns = each (conn_by w) (routes_of w.doc) }

-- what arrived at a connection
abbrev pub arrived_by : WorldState → Route → List ℕ
arrived_by w r = arrived_in r.place (node_at r.host w)

-- the stream that a connection reads: its link's, or what its lane wrote
abbrev pub stream_by : WorldState → (k : ℕ) → Feed → List ℕ
stream_by w k feeds.Link = link_at k w
stream_by w k (feeds.Lane host lane) = stream_from (worker_at (slice_get (map plain_host w.nodes) host) lane)

-- with more bytes
abbrev pub longer : (bytes : List ℕ) → List ℕ → List ℕ
longer bytes stream = stream ++ bytes

-- WHAT THEY KEEP

-- bytes that stand at the front of others
abbrev pub IsFront : List ℕ → List ℕ → Type 0
IsFront front bytes = (later : List ℕ) × (bytes ≡ front ++ later)

-- what setup fixed, the connections to a host, and the stamps of its entries
pub record IsNodeAt (d : Doc) (count host : ℕ) (x : NodeState) : Type 0 where
  pub plan : IsPlanOf (host_plan (plan_of d) host) x
  pub conns : length (conns_of x) ≡ count_to host (conns_in d)
  pub stamps : IsUntil count x

-- a connection leads to a host, and what arrived is the front of what it reads
pub record IsRouteAt (w : WorldState) (k : ℕ) (r : Route) : Type 0 where
  pub leads : r.host < length w.nodes
  pub front : IsFront (arrived_by w r) (stream_by w k r.source)

pub record IsWorld (w : WorldState) : Type 0 where
  pub hosts : length w.nodes ≡ length w.doc.hosts
  pub links : length w.links ≡ length (routes_of w.doc)
  pub nodes : (host : ℕ) (x : NodeState) → slice_get w.nodes host ≡ Some x → IsNodeAt w.doc w.count host x
  pub routes : (k : ℕ) (r : Route) → slice_get (routes_of w.doc) k ≡ Some r → IsRouteAt w k r

-- the world of a document that was read, as setup makes it
pub record IsFresh (w : WorldState) : Type 0 where
  pub document : IsDocument w.doc
  pub start : world_of w ≡ start_of w.doc
