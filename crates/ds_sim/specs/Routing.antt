-- Where connections lead, one after another as code makes them.
use Rattle.std.specs.Prelude.{ℕ, suc, ◌==◌, List, [], ◌∷◌, ◌++◌, length, filter}
use Rattle.ds_plan.specs.declared.host.HostSpec.{HostSpec}
use Rattle.ds_plan.specs.declared.host.LaneSpec.{LaneSpec}
use Rattle.ds_model.specs.Plan.{ConnPlan, Link, OfLane}
use Rattle.ds_world.specs.declared.route.Route.{Route}
use Rattle.ds_world.specs.Worlds.{feed_of}

-- how many of these lead to a host
abbrev pub leading_to : (host : ℕ) → List Route → ℕ
leading_to host routes = length (filter (λ r. r.host == host) routes)

-- the next one stands behind the others to its host
abbrev pub next_route : List Route → ConnPlan → Route
next_route routes c = record { host = c.host; place = leading_to c.host routes; source = feed_of c.source }

abbrev pub with_routes : List Route → List ConnPlan → List Route
with_routes routes [] = routes
with_routes routes (c ∷ later) = with_routes (routes ++ next_route routes c ∷ []) later

-- those of lanes from a place on, and of hosts
abbrev pub lanes_from : (host place : ℕ) → List LaneSpec → List ConnPlan
lanes_from host place [] = []
lanes_from host place (lane ∷ lanes) = record { host = lane.to; source = OfLane host place } ∷ lanes_from host (suc place) lanes

abbrev pub hosts_from : List Route → (place : ℕ) → List HostSpec → List Route
hosts_from routes place [] = routes
hosts_from routes place (h ∷ hosts) = hosts_from (with_routes routes (lanes_from place 0 h.lanes)) (suc place) hosts

abbrev pub link_plan : ℕ → ConnPlan
link_plan host = record { host = host; source = Link }
