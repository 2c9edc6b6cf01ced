-- A world of which one host changes.
use Rattle.std.proofs.Common.{◌≡◌, ℕ, ◌+◌, ◌<◌, List, ◌++◌, Some, None, slice_get, option_map, refl, sym, ap, ◌∙◌, subst}
use Rattle.std.specs.Prelude.{◌≢◌}
use Rattle.std.proofs.lemmas.List.{append_assoc}
use Rattle.std.proofs.lemmas.Option.{get_or_from_slice_get, slice_get-map}
use Rattle.ds_model.specs.Lists.{at}
use Rattle.ds_model.specs.World.{Host}
use Rattle.ds_model.proofs.Places.{at_each, at_here, at_other, some_is}
use Rattle.ds_delivery.proofs.Lists.{Grows, grows_self}
use Rattle.ds_delivery.proofs.Arrivals.{HostGrows, at_grows}
use Rattle.ds_plan.specs.declared.doc.Doc.{Doc}
use Rattle.ds_setup.proofs.Places.{each_at}
use Rattle.ds_exporter.proofs.Places.{length_at, map_kept_at, map_over_at}
use Rattle.ds_exporter.proofs.Stamps.{below_more}
use Rattle.ds_hosts.specs.Nodes.{NodeState, Running, Silent, IsUntil, arrived_in, plain_host}
use Rattle.ds_hosts.proofs.Keeps.{get_alike}
use Rattle.ds_world.specs.declared.route.Feed.{Feed}
use Rattle.ds_world.specs.declared.route.Feed.TheVariants as feeds
use Rattle.ds_world.specs.declared.route.Route.{Route}
use Rattle.ds_world.specs.Worlds.{WorldState, IsFront, IsNodeAt, IsWorld, arrived_by, conn_by, no_node, node_at, routes_of, stream_by, world_of}
use Rattle.ds_world.specs.Afters.{counted}

-- LISTS THAT STAND AT THE FRONT

pub front_grows : (front bytes more : List ℕ) → IsFront front bytes → Grows bytes more → IsFront front more
front_grows front bytes more f g = (f.0 ++ g.0, g.1 ∙ (ap (λ (xs : List ℕ). xs ++ g.0) f.1 ∙ append_assoc front f.0 g.0))

pub front_same : (front other bytes : List ℕ) → other ≡ front → IsFront front bytes → IsFront other bytes
front_same front other bytes e f = subst (λ (xs : List ℕ). IsFront xs bytes) (sym e) f

-- STAMPS

pub until_more : (n : ℕ) (x : NodeState) → IsUntil n x → IsUntil (n + 1) x
until_more n (Running e) b = below_more (n + 1) e b
until_more n (Silent conns) b = tt

pub later_node : (d : Doc) (n host : ℕ) (x : NodeState) → IsNodeAt d n host x → IsNodeAt d (n + 1) host x
later_node d n host x is = record { plan = is.plan; conns = is.conns; stamps = until_more n x is.stamps }

-- A WORLD

pub conn_there : (w : WorldState) (k : ℕ) (r : Route) → slice_get (routes_of w.doc) k ≡ Some r → slice_get (world_of w).conns k ≡ Some (conn_by w k r)
conn_there w k r h = each_at (conn_by w) (routes_of w.doc) k ∙ ap (option_map (conn_by w k)) h

pub conn_none : (w : WorldState) (k : ℕ) → slice_get (routes_of w.doc) k ≡ None → slice_get (world_of w).conns k ≡ None
conn_none w k h = each_at (conn_by w) (routes_of w.doc) k ∙ ap (option_map (conn_by w k)) h

pub host_there : (w : WorldState) (host : ℕ) (x : NodeState) → slice_get w.nodes host ≡ Some x → slice_get (world_of w).hosts host ≡ Some (plain_host x)
host_there w host x h = slice_get-map plain_host w.nodes host ∙ ap (option_map plain_host) h

-- with another host at a place
module _ (w : WorldState) (host : ℕ) (x y : NodeState) (stands : slice_get w.nodes host ≡ Some x) where
  abbrev pub with_node : WorldState
  with_node = record w { nodes = at host (λ _. y) w.nodes }

  only : (z : NodeState) → slice_get w.nodes host ≡ Some z → z ≡ x
  only z h = some_is z x (sym h ∙ stands)

  stands_after : slice_get with_node.nodes host ≡ Some y
  stands_after = at_here host (λ _. y) w.nodes ∙ ap (option_map (λ _. y)) stands

  pub node_here : node_at host with_node ≡ y
  node_here = get_or_from_slice_get with_node.nodes host y no_node stands_after

  pub node_was : node_at host w ≡ x
  node_was = get_or_from_slice_get w.nodes host x no_node stands

  pub node_other : (other : ℕ) → other ≢ host → node_at other with_node ≡ node_at other w
  node_other other apart = get_alike with_node.nodes w.nodes other no_node (at_other host other (λ _. y) w.nodes apart)

  -- what is the same of that host is the same of each
  pub each_node : {A : Type 0} (f : NodeState → A) → f y ≡ f x → (other : ℕ) → f (node_at other with_node) ≡ f (node_at other w)
  each_node f same other = at_each (λ (h : ℕ). f (node_at h with_node) ≡ f (node_at h w)) host (ap f node_here ∙ (same ∙ sym (ap f node_was))) (λ h apart. ap f (node_other h apart)) other

  pub hosts_become : (f : Host → Host) → plain_host y ≡ f (plain_host x) → (world_of with_node).hosts ≡ at host f (world_of w).hosts
  hosts_become f e = map_over_at plain_host host (λ _. y) f w.nodes (λ z h. e ∙ ap (λ (n : NodeState). f (plain_host n)) (sym (only z h)))

  pub hosts_same : plain_host y ≡ plain_host x → (world_of with_node).hosts ≡ (world_of w).hosts
  hosts_same e = map_kept_at plain_host host (λ _. y) w.nodes (λ z h. e ∙ ap plain_host (sym (only z h)))

  -- and a host that is the same in the world is the same
  pub host_same : (world_of with_node).hosts ≡ (world_of w).hosts → plain_host y ≡ plain_host x
  host_same e = some_is (plain_host y) (plain_host x) (sym (host_there with_node host y stands_after) ∙ (ap (λ (hs : List Host). slice_get hs host) e ∙ host_there w host x stands))

  -- streams grow
  pub streams_grow : HostGrows (plain_host x) (plain_host y) → (k : ℕ) (feed : Feed) → Grows (stream_by w k feed) (stream_by with_node k feed)
  streams_grow g k feeds.Link = grows_self (stream_by w k feeds.Link)
  streams_grow g k (feeds.Lane h l) = at_grows (world_of w) (world_of with_node) host (λ _. plain_host y) (hosts_become (λ _. plain_host y) refl)
      (λ z is. subst (λ (a : Host). HostGrows a (plain_host y)) (some_is (plain_host x) z (sym (host_there w host x stands) ∙ is)) g) h l

  -- WHAT IT KEEPS

  pub world_kept : IsWorld w → IsNodeAt w.doc (w.count + 1) host y
      → ((k : ℕ) (r : Route) → slice_get (routes_of w.doc) k ≡ Some r → IsFront (arrived_by with_node r) (stream_by with_node k r.source))
      → IsWorld (counted w.count with_node)
  world_kept is node fronts = record {
    hosts = length_at host (λ _. y) w.nodes ∙ is.hosts;
    links = is.links;
    nodes = at_each (λ (h : ℕ). (z : NodeState) → slice_get with_node.nodes h ≡ Some z → IsNodeAt w.doc (w.count + 1) h z) host
        (λ z h. subst (IsNodeAt w.doc (w.count + 1) host) (some_is y z (sym stands_after ∙ h)) node)
        (λ j apart z h. later_node w.doc w.count j z (is.nodes j z (sym (at_other host j (λ _. y) w.nodes apart) ∙ h)));
    routes = λ k r h. record { leads = subst (λ (n : ℕ). r.host < n) (sym (length_at host (λ _. y) w.nodes)) (is.routes k r h).leads; front = fronts k r h };
  }

  -- where no byte arrived
  pub fronts_kept : IsWorld w → ((place : ℕ) → arrived_in place y ≡ arrived_in place x) → HostGrows (plain_host x) (plain_host y)
      → (k : ℕ) (r : Route) → slice_get (routes_of w.doc) k ≡ Some r → IsFront (arrived_by with_node r) (stream_by with_node k r.source)
  fronts_kept is arrived g k r h =
      front_same (arrived_by w r) (arrived_by with_node r) (stream_by with_node k r.source) (each_node (arrived_in r.place) (arrived r.place) r.host)
      (front_grows (arrived_by w r) (stream_by w k r.source) (stream_by with_node k r.source) (is.routes k r h).front (streams_grow g k r.source))
