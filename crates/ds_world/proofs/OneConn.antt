-- A change of one connection of one host.
use Rattle.std.proofs.Common.{◌≡◌, ℕ, ◌<◌, List, [], Option, Some, None, length, map, take, get_or, slice_get, option_map, refl, sym, ap, ◌∙◌, subst}
use Rattle.std.specs.Prelude.{◌≢◌}
use native.Mathlib.Decide.{ℕ_discrete}
use Rattle.std.proofs.Math.Seq.{take-append_seam}
use Rattle.std.proofs.lemmas.Option.{get_or_from_slice_get, slice_get-map}
use Rattle.ds_model.specs.Lists.{at}
use Rattle.ds_model.specs.Plan.{ConnPlan, HostPlan, Plan, Source, Link, OfLane, conn_plan, host_plan}
use Rattle.ds_model.specs.World.{Conn}
use Rattle.ds_model.specs.Step.{arrived, stream_of, with_ends}
use Rattle.ds_model.proofs.Places.{at_each, at_here, at_other, some_is}
use Rattle.ds_setup.specs.Plans.{plan_of}
use Rattle.ds_inlet.specs.Connections.{Connection}
use Rattle.ds_inlet.specs.PlainConnections.{plain_conn}
use Rattle.ds_exporter.specs.PlainHosts.{arrived_of, conn_of, no_conn}
use Rattle.ds_exporter.proofs.Places.{there_is}
use Rattle.ds_hosts.specs.Nodes.{NodeState, Running, Silent, arrived_in, conn_in, conns_of, ends_in, plain_host}
use Rattle.ds_world.specs.declared.route.Route.{Route}
use Rattle.ds_world.specs.Worlds.{WorldState, IsWorld, arrived_by, conn_by, conns_in, feed_of, link_at, node_at, routes_of, stream_by, world_of}
use Rattle.ds_world.proofs.Routes.{conn_plan_is, host_is, place_within, route_conn, route_there, same_lists, source_is, two_places}
use Rattle.ds_world.proofs.Changes.{conn_none, conn_there, hosts_become, node_here, node_other, node_was, with_node}

-- WHAT STANDS AT A PLACE

pub stands : {Y : Type 0} (f : Connection → Y) (ks : List Connection) (i : ℕ) (k : Connection) (d : Y) → slice_get ks i ≡ Some k → get_or (map f ks) i d ≡ f k
stands f ks i k d h = get_or_from_slice_get (map f ks) i (f k) d (slice_get-map f ks i ∙ ap (option_map f) h)

-- its link is the one that it is given, and its count that of the bytes that arrived
module _ (link : List ℕ) (place : ℕ) where
  link_in : (f : Connection → Conn) (ks : List Connection) → ((k : Connection) → (f k).link ≡ link) → place < length ks → (get_or (map f ks) place no_conn).link ≡ link
  link_in f ks same within = there_is ((get_or (map f ks) place no_conn).link ≡ link) ks place within
      (λ k h. ap (λ (c : Conn). c.link) (stands f ks place k no_conn h) ∙ same k)

  pub link_is : (x : NodeState) → place < length (conns_of x) → (conn_in link place x).link ≡ link
  link_is (Running e) within = link_in (conn_of e.desk.here e.desk.desk.rows link) e.conns (λ k. refl) within
  link_is (Silent conns) within = link_in (plain_conn link None) conns (λ k. refl) within

  count_in : (f : Connection → Conn) (ks : List Connection) → ((k : Connection) → (f k).count ≡ length k.arrived) → place < length ks → (get_or (map f ks) place no_conn).count ≡ length (get_or (map arrived_of ks) place [])
  count_in f ks same within = there_is ((get_or (map f ks) place no_conn).count ≡ length (get_or (map arrived_of ks) place [])) ks place within
      (λ k h. ap (λ (c : Conn). c.count) (stands f ks place k no_conn h) ∙ (same k ∙ ap length (sym (stands arrived_of ks place k [] h))))

  pub count_is : (x : NodeState) → place < length (conns_of x) → (conn_in link place x).count ≡ length (arrived_in place x)
  count_is (Running e) within = count_in (conn_of e.desk.here e.desk.desk.rows link) e.conns (λ k. refl) within
  count_is (Silent conns) within = count_in (plain_conn link None) conns (λ k. refl) within

-- IN A WORLD

module _ (w : WorldState) (k : ℕ) (r : Route) (x : NodeState) (route : slice_get (routes_of w.doc) k ≡ Some r) (there : slice_get w.nodes r.host ≡ Some x) (is : IsWorld w) where
  abbrev plan : Plan
  plan = plan_of w.doc

  abbrev here : HostPlan
  here = host_plan plan r.host

  pub within : r.place < length (conns_of x)
  within = subst (λ (n : ℕ). r.place < n) (sym (is.nodes r.host x there).conns) (place_within (conns_in w.doc) k r route)

  pub conn_is : conn_by w k r ≡ conn_in (link_at k w) r.place x
  conn_is = ap (conn_in (link_at k w) r.place) (node_was w r.host x x there)

  pub arrived_is : arrived_by w r ≡ arrived_in r.place x
  arrived_is = ap (arrived_in r.place) (node_was w r.host x x there)

  pub conn_count : (conn_by w k r).count ≡ length (arrived_by w r)
  conn_count = ap (λ (c : Conn). c.count) conn_is ∙ (count_is (link_at k w) r.place x within ∙ ap length (sym arrived_is))

  pub conn_link : (conn_by w k r).link ≡ link_at k w
  conn_link = ap (λ (c : Conn). c.link) conn_is ∙ link_is (link_at k w) r.place x within

  -- the plan's connection
  pub planned : conn_plan plan k ≡ route_conn (conns_in w.doc) k r route
  planned = conn_plan_is plan k (route_conn (conns_in w.doc) k r route) (route_there (conns_in w.doc) k r route)

  pub planned_host : (conn_plan plan k).host ≡ r.host
  planned_host = ap (λ (c : ConnPlan). c.host) planned ∙ host_is (conns_in w.doc) k r route

  pub planned_source : feed_of (conn_plan plan k).source ≡ r.source
  planned_source = ap (λ (c : ConnPlan). feed_of c.source) planned ∙ source_is (conns_in w.doc) k r route

  -- what it reads
  pub stream_is : stream_of (world_of w) (conn_plan plan k).source (conn_by w k r) ≡ stream_by w k r.source
  stream_is = go (conn_plan plan k).source ∙ ap (stream_by w k) planned_source
    where
      go : (s : Source) → stream_of (world_of w) s (conn_by w k r) ≡ stream_by w k (feed_of s)
      go Link = conn_link
      go (OfLane h l) = refl

  pub bytes_are : arrived (world_of w) (conn_plan plan k).source (conn_by w k r) ≡ arrived_by w r
  bytes_are =
      let f = (is.routes k r route).front in
      (λ i. take (conn_count i) ((stream_is ∙ f.1) i)) ∙ take-append_seam (arrived_by w r) f.0

  -- WITH ANOTHER HOST, of which one connection alone changes

  module _ (y : NodeState) (others : (link : List ℕ) (other : ℕ) → other ≢ r.place → conn_in link other y ≡ conn_in link other x) where
    abbrev pub changed : WorldState
    changed = with_node w r.host x y there

    abbrev becomes : Conn
    becomes = conn_in (link_at k w) r.place y

    conn_after : conn_by changed k r ≡ becomes
    conn_after = ap (conn_in (link_at k w) r.place) (node_here w r.host x y there)

    other_conn : (j : ℕ) (q : Route) → slice_get (routes_of w.doc) j ≡ Some q → j ≢ k → conn_by changed j q ≡ conn_by w j q
    other_conn j q h apart = go (ℕ_discrete q.host r.host)
      where
        go : Dec (q.host ≡ r.host) → conn_by changed j q ≡ conn_by w j q
        go (yes same) =
            ap (conn_in (link_at j w) q.place) (ap (λ (n : ℕ). node_at n changed) same ∙ node_here w r.host x y there)
            ∙ (others (link_at j w) q.place (two_places (conns_in w.doc) k j r q route h same apart)
            ∙ sym (ap (conn_in (link_at j w) q.place) (ap (λ (n : ℕ). node_at n w) same ∙ node_was w r.host x y there)))
        go (no differ) = ap (conn_in (link_at j w) q.place) (node_other w r.host x y there q.host differ)

    other_place : (j : ℕ) → j ≢ k → (o : Option Route) → slice_get (routes_of w.doc) j ≡ o → slice_get (world_of changed).conns j ≡ slice_get (world_of w).conns j
    other_place j apart None h = conn_none changed j h ∙ sym (conn_none w j h)
    other_place j apart (Some q) h = conn_there changed j q h ∙ (ap (λ (c : Conn). Some c) (other_conn j q h apart) ∙ sym (conn_there w j q h))

    pub conns_become : (world_of changed).conns ≡ at k (λ _. becomes) (world_of w).conns
    conns_become = same_lists (world_of changed).conns (at k (λ _. becomes) (world_of w).conns)
        (λ j. at_each (λ (i : ℕ). slice_get (world_of changed).conns i ≡ slice_get (at k (λ _. becomes) (world_of w).conns) i) k
        (conn_there changed k r route ∙ (ap (λ (c : Conn). Some c) conn_after ∙ sym (at_here k (λ _. becomes) (world_of w).conns ∙ ap (option_map (λ _. becomes)) (conn_there w k r route))))
        (λ i apart. other_place i apart (slice_get (routes_of w.doc) i) refl ∙ sym (at_other k i (λ _. becomes) (world_of w).conns apart)) j)

    pub world_becomes : world_of changed ≡ with_ends (world_of w) r.host k (ends_in (link_at k w) r.place y)
    world_becomes = λ i. record { hosts = hosts_become w r.host x y there (λ _. plain_host y) refl i; conns = conns_become i }

    -- a connection that is the same in the world is the same
    pub conn_same : (world_of changed).conns ≡ (world_of w).conns → becomes ≡ conn_in (link_at k w) r.place x
    conn_same e = sym conn_after ∙ (some_is (conn_by changed k r) (conn_by w k r) (sym (conn_there changed k r route) ∙ (ap (λ (cs : List Conn). slice_get cs k) e ∙ conn_there w k r route)) ∙ conn_is)
