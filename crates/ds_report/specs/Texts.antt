-- The whole text, as code prints it.
use Rattle.std.specs.Prelude.{◌≡◌, ◌<◌, ℕ, List, [], ◌++◌, length, codes, slice_get, Option, Some, None}
use Rattle.ds_plan.specs.declared.doc.Doc.{Doc}
use Rattle.ds_model.specs.Plan.{Plan, host_plan}
use Rattle.ds_model.specs.Print.{Printing}
use Rattle.ds_setup.specs.Plans.{plan_of}
use Rattle.ds_hosts.specs.Nodes.{NodeState, Running, Silent, IsPlanOf, conns_of, conn_in, arrived_in}
use Rattle.ds_world.specs.declared.route.Route.{Route}
use Rattle.ds_world.specs.Worlds.{WorldState, routes_of}
use Rattle.ds_report.specs.Hosts.{texts, host_text}
use Rattle.ds_report.specs.Conns.{conn_text, source_of}

-- a host's sections, none of a silent one
abbrev pub node_text : Printing → Plan → (h : ℕ) → NodeState → List ℕ
node_text p plan h (Running e) = host_text p plan h e
node_text p plan h (Silent conns) = []

abbrev pub nodes_text : Printing → Plan → (h : ℕ) → List NodeState → List ℕ
nodes_text p plan h nodes = texts (node_text p plan) h nodes

-- a connection's section, none of one to a silent host; the stream of its link isn't printed
abbrev pub route_text : Printing → Plan → (k : ℕ) → Route → NodeState → List ℕ
route_text p plan k r (Running e) = conn_text p plan k (source_of r.source) r.host (conn_in [] r.place (Running e)) (arrived_in r.place (Running e))
route_text p plan k r (Silent conns) = []

abbrev pub route_text_to : Printing → Plan → (k : ℕ) → Route → Option NodeState → List ℕ
route_text_to p plan k r None = []
route_text_to p plan k r (Some x) = route_text p plan k r x

abbrev pub route_text_at : Printing → Plan → List NodeState → (k : ℕ) → Route → List ℕ
route_text_at p plan nodes k r = route_text_to p plan k r (slice_get nodes r.host)

abbrev pub conns_text : Printing → Plan → List NodeState → (k : ℕ) → List Route → List ℕ
conns_text p plan nodes k routes = texts (route_text_at p plan nodes) k routes

-- the whole text
abbrev pub world_text : Printing → Plan → WorldState → List ℕ
world_text p plan w = codes "dstar 1\n" ++ (nodes_text p plan 0 w.nodes ++ conns_text p plan w.nodes 0 (routes_of w.doc))

-- each host is as the plan has it, and has the connections of the routes
abbrev pub ArePlanned : Doc → List NodeState → Type 0
ArePlanned d nodes = (h : ℕ) (x : NodeState) → slice_get nodes h ≡ Some x → IsPlanOf (host_plan (plan_of d) h) x

abbrev pub HaveRoom : List NodeState → List Route → Type 0
HaveRoom nodes routes = (k : ℕ) (r : Route) (x : NodeState) → slice_get routes k ≡ Some r → slice_get nodes r.host ≡ Some x → r.place < length (conns_of x)
