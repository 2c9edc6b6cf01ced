-- The routes that code makes are the world's.
use Rattle.std.proofs.Common.{◌≡◌, ℕ, suc, ◌+◌, arith, Bool, true, false, cond, List, [], ◌∷◌, ◌++◌, refl, sym, ap, ap₂, ◌∙◌, map, length, take, append_assoc}
use Rattle.std.specs.Prelude.{◌==◌, filter, if◌then◌else◌}
use Rattle.std.proofs.lemmas.List.{append-nil, map-append, length-append}
use Rattle.std.proofs.Math.Seq.{take-append_seam}
use Rattle.ds_plan.specs.declared.doc.Doc.{Doc}
use Rattle.ds_plan.specs.declared.host.HostSpec.{HostSpec}
use Rattle.ds_plan.specs.declared.host.LaneSpec.{LaneSpec}
use Rattle.ds_model.specs.Plan.{ConnPlan, OfLane}
use Rattle.ds_setup.specs.Lists.{each, joined}
use Rattle.ds_setup.specs.Plans.{lane_conns}
use Rattle.ds_world.specs.declared.route.Route.{Route}
use Rattle.ds_world.specs.Worlds.{feed_of, leads_to, count_to, route_at, routes_by, routes_of, conns_in}
use Rattle.ds_sim.specs.Routing.{leading_to, next_route, with_routes, lanes_from, hosts_from, link_plan}

-- ONE LIST BEHIND ANOTHER

routes_append : (routes : List Route) (xs ys : List ConnPlan) → with_routes routes (xs ++ ys) ≡ with_routes (with_routes routes xs) ys
routes_append routes [] ys = refl
routes_append routes (c ∷ xs) ys = routes_append (routes ++ next_route routes c ∷ []) xs ys

lanes_are : (host n : ℕ) (f : ℕ → LaneSpec → ConnPlan) (lanes : List LaneSpec) → ((i : ℕ) (lane : LaneSpec) → f i lane ≡ record { host = lane.to; source = OfLane host (i + n) }) → each f lanes ≡ lanes_from host n lanes
lanes_are host n f [] same = refl
lanes_are host n f (lane ∷ lanes) same =
    ap₂ (λ (c : ConnPlan) (cs : List ConnPlan). c ∷ cs) (same 0 lane ∙ ap (λ (k : ℕ). record { host = lane.to; source = OfLane host k }) (omega arith))
    (lanes_are host (suc n) (λ i. f (suc i)) lanes (λ i l. same (suc i) l ∙ ap (λ (k : ℕ). record { host = l.to; source = OfLane host k }) (omega arith)))

hosts_are : (n : ℕ) (f : ℕ → HostSpec → List ConnPlan) (routes : List Route) (hosts : List HostSpec) → ((i : ℕ) (h : HostSpec) → f i h ≡ lanes_from (i + n) 0 h.lanes)
    → with_routes routes (joined (each f hosts)) ≡ hosts_from routes n hosts
hosts_are n f routes [] same = refl
hosts_are n f routes (h ∷ hosts) same =
    routes_append routes (f 0 h) (joined (each (λ i. f (suc i)) hosts))
    ∙ hosts_are (suc n) (λ i. f (suc i)) (with_routes routes (f 0 h)) hosts (λ i x. same (suc i) x ∙ ap (λ (k : ℕ). lanes_from k 0 x.lanes) (omega arith))
    ∙ ap (λ (plans : List ConnPlan). hosts_from (with_routes routes plans) (suc n) hosts) (same 0 h ∙ ap (λ (k : ℕ). lanes_from k 0 h.lanes) (omega arith))

-- BY THE PLACES IN THE PLAN

-- the routes of connections behind others
abbrev behind : (front : List ConnPlan) → List ConnPlan → List Route
behind front [] = []
behind front (c ∷ later) = record { host = c.host; place = count_to c.host front; source = feed_of c.source } ∷ behind (front ++ c ∷ []) later

abbrev host_of : Route → ℕ
host_of r = r.host

abbrev plan_host : ConnPlan → ℕ
plan_host c = c.host

-- how many of these numbers are one
abbrev count_in : (host : ℕ) → List ℕ → ℕ
count_in host [] = 0
count_in host (n ∷ ns) = (if n == host then 1 else 0) + count_in host ns

counted_routes : (host : ℕ) (routes : List Route) → leading_to host routes ≡ count_in host (map host_of routes)
counted_routes host [] = refl
counted_routes host (r ∷ routes) = by_head (r.host == host) (counted_routes host routes) where
  by_head : (b : Bool) → leading_to host routes ≡ count_in host (map host_of routes)
      → length (cond b (r ∷ filter (λ q. q.host == host) routes) (filter (λ q. q.host == host) routes)) ≡ (if b then 1 else 0) + count_in host (map host_of routes)
  by_head true h = ap suc h ∙ omega arith
  by_head false h = h ∙ omega arith

counted_plans : (host : ℕ) (plans : List ConnPlan) → count_to host plans ≡ count_in host (map plan_host plans)
counted_plans host [] = refl
counted_plans host (c ∷ plans) = ap (λ (n : ℕ). leads_to host c + n) (counted_plans host plans)

with_behind : (routes : List Route) (front plans : List ConnPlan) → map host_of routes ≡ map plan_host front → with_routes routes plans ≡ routes ++ behind front plans
with_behind routes front [] same = sym (append-nil routes)
with_behind routes front (c ∷ plans) same =
    let place : leading_to c.host routes ≡ count_to c.host front = counted_routes c.host routes ∙ ap (count_in c.host) same ∙ sym (counted_plans c.host front) in
    let hosts : map host_of (routes ++ next_route routes c ∷ []) ≡ map plan_host (front ++ c ∷ []) =
    map-append host_of routes (next_route routes c ∷ []) ∙ ap (λ (ns : List ℕ). ns ++ c.host ∷ []) same ∙ sym (map-append plan_host front (c ∷ [])) in
    with_behind (routes ++ next_route routes c ∷ []) (front ++ c ∷ []) plans hosts
    ∙ append_assoc routes (next_route routes c ∷ []) (behind (front ++ c ∷ []) plans)
    ∙ ap (λ (n : ℕ). routes ++ record { host = c.host; place = n; source = feed_of c.source } ∷ behind (front ++ c ∷ []) plans) place

placed : (all front : List ConnPlan) (n : ℕ) (f : ℕ → ConnPlan → Route) (plans : List ConnPlan) → all ≡ front ++ plans → n ≡ length front → ((i : ℕ) (c : ConnPlan) → f i c ≡ route_at all (i + n) c)
    → each f plans ≡ behind front plans
placed all front n f [] whole count same = refl
placed all front n f (c ∷ plans) whole count same =
    let before : take (0 + n) all ≡ front =
    ap₂ (λ (k : ℕ) (cs : List ConnPlan). take k cs) (let none : 0 + n ≡ length front = omega (arith, count) in none) whole ∙ take-append_seam front (c ∷ plans) in
    ap₂ (λ (r : Route) (rs : List Route). r ∷ rs)
    (same 0 c ∙ ap (λ (cs : List ConnPlan). record { host = c.host; place = count_to c.host cs; source = feed_of c.source }) before)
    (placed all (front ++ c ∷ []) (suc n) (λ i. f (suc i)) plans (whole ∙ sym (append_assoc front (c ∷ []) plans))
    (let more : length (front ++ c ∷ []) ≡ length front + 1 = length-append front (c ∷ []) in omega (arith, count, more))
    (λ i x. same (suc i) x ∙ ap (λ (k : ℕ). route_at all k x) (omega arith)))

by_places : (plans : List ConnPlan) → with_routes [] plans ≡ routes_by plans
by_places plans = with_behind [] [] plans refl ∙ sym (placed plans [] 0 (route_at plans) plans refl refl (λ i c. ap (λ (k : ℕ). route_at plans k c) (omega arith)))

-- those of the hosts' lanes, and then the links'
pub routes_are : (d : Doc) → routes_of d ≡ with_routes (hosts_from [] 0 d.hosts) (map link_plan d.links)
routes_are d =
    sym (by_places (conns_in d))
    ∙ routes_append [] (joined (each lane_conns d.hosts)) (map link_plan d.links)
    ∙ ap (λ (front : List Route). with_routes front (map link_plan d.links))
    (hosts_are 0 lane_conns [] d.hosts (λ i h. lanes_are i 0 (λ place lane. record { host = lane.to; source = OfLane i place }) h.lanes (λ j lane. ap (λ (k : ℕ). record { host = lane.to; source = OfLane i k }) (omega arith))
    ∙ ap (λ (k : ℕ). lanes_from k 0 h.lanes) (omega arith)))
