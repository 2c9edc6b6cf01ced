-- What a document's hosts are in a run before its first event.
use Rattle.std.proofs.Common.{◌≡◌, ℕ, zero, suc, ◌+◌, ◌<◌, ◌≤◌, arith, Bool, true, false, cond, List, [], ◌∷◌, ◌++◌, Option, Some, None, refl, sym, ap, subst, ◌∙◌, map, length, replicate, slice_get, get_or, option_map}
use Rattle.std.specs.Prelude.{◌==◌, ◌&&◌, filter, if◌then◌else◌}
use Rattle.std.proofs.lemmas.List.{length-map, length-replicate}
use Rattle.std.proofs.lemmas.Bool.{ltb-true, leb-true, and_parts}
use Rattle.std.proofs.lemmas.Option.{none-some, same_Some, slice_get-map, slice_get_within, get_or_from_slice_get}
use Rattle.ds_label.specs.declared.category.PubKey.{PubKey}
use Rattle.ds_label.specs.declared.category.Category.{Category}
use Rattle.ds_msg.specs.declared.local.LocalMessage.{LocalMessage}
use Rattle.ds_plan.specs.declared.doc.Doc.{Doc}
use Rattle.ds_plan.specs.declared.host.HostSpec.{HostSpec}
use Rattle.ds_plan.specs.Documents.{IsDocument, events_of, has_at_most, is_between}
use Rattle.ds_plan.specs.Categories.{is_place}
use Rattle.ds_plan.specs.Keys.{host_key}
use Rattle.ds_model.specs.Plan.{ConnPlan, Link, OfLane}
use Rattle.ds_setup.specs.Lists.{each, joined}
use Rattle.ds_setup.specs.Plans.{lane_conns, inlets_of}
use Rattle.ds_setup.specs.Starts.{start_of, start_host, new_conn}
use Rattle.ds_setup.proofs.Places.{Every, every_append, every_joined, every_each, every_map, from_each, length-each, test_at, inside}
use Rattle.ds_setup.proofs.Facts as facts
use Rattle.ds_inlet.specs.Connections.{Connection, new_connection}
use Rattle.ds_inlet.specs.PlainConnections.{plain_conn}
use Rattle.ds_exporter.specs.PlainHosts.{conn_of, plain_passed, arrived_of, no_conn}
use Rattle.ds_hosts.specs.Nodes.{NodeState, Running, Silent, plain_host, conns_of, conn_in, arrived_in}
use Rattle.ds_boot.specs.Nodes.{AreHostsOf}
use Rattle.ds_sim.specs.Sims.{without_events, begun_with, EachBeginsAsSetup}
use Rattle.ds_boot.specs.Parts.{conn_actor, conn_begun, conns_to, ends_of}
use Rattle.ds_boot.proofs.Planned.{conns_are_planned}
use Rattle.ds_world.specs.declared.route.Route.{Route}
use Rattle.ds_world.specs.Worlds.{WorldState, IsNodeAt, IsRouteAt, IsWorld, no_node, node_at, conn_by, arrived_by, stream_by, world_of, conns_in, route_at, routes_of, count_to}

-- CONNECTIONS TO A HOST: nothing arrived, nothing passed

pub record IsNewConn (k : Connection) : Type 0 where
  pub arrived : k.arrived ≡ []
  pub passed : k.passed ≡ None
  pub plain : plain_conn [] None k ≡ new_conn

begun : (d : Doc) (place : ℕ) (h : HostSpec) → Every IsNewConn (conns_to d place h)
begun d place h =
    every_joined IsNewConn (each (conn_begun place (host_key h) (inlets_of d.hosts place h)) (ends_of d))
    (every_each (Every IsNewConn) (conn_begun place (host_key h) (inlets_of d.hosts place h)) (ends_of d) (λ n to e. by_end n (to == place)))
  where
    by_end : (n : ℕ) (b : Bool) → Every IsNewConn (if b then new_connection (conn_actor place n) (host_key h) (inlets_of d.hosts place h) ∷ [] else [])
    by_end n false i x e = absurd (none-some x e)
    by_end n true zero x e = subst IsNewConn (same_Some (new_connection (conn_actor place n) (host_key h) (inlets_of d.hosts place h)) x e) (record { arrived = refl; passed = refl; plain = refl })
    by_end n true (suc i) x e = absurd (none-some x e)

-- so each place has a new one
new_arrived : (ks : List Connection) (n : ℕ) → Every IsNewConn ks → get_or (map arrived_of ks) n [] ≡ []
new_arrived [] n new = refl
new_arrived (k ∷ ks) zero new = (new 0 k refl).arrived
new_arrived (k ∷ ks) (suc n) new = new_arrived ks n (λ i x e. new (suc i) x e)

new_running : (here : PubKey) (rows : List Category) (ks : List Connection) (n : ℕ) → Every IsNewConn ks → get_or (map (conn_of here rows []) ks) n no_conn ≡ new_conn
new_running here rows [] n new = refl
new_running here rows (k ∷ ks) zero new = ap (λ (o : Option (ℕ × LocalMessage)). plain_conn [] (plain_passed here rows o) k) (new 0 k refl).passed ∙ (new 0 k refl).plain
new_running here rows (k ∷ ks) (suc n) new = new_running here rows ks n (λ i x e. new (suc i) x e)

new_silent : (ks : List Connection) (n : ℕ) → Every IsNewConn ks → get_or (map (plain_conn [] None) ks) n no_conn ≡ new_conn
new_silent [] n new = refl
new_silent (k ∷ ks) zero new = (new 0 k refl).plain
new_silent (k ∷ ks) (suc n) new = new_silent ks n (λ i x e. new (suc i) x e)

new_in : (x : NodeState) (n : ℕ) → Every IsNewConn (conns_of x) → conn_in [] n x ≡ new_conn
new_in (Running e) n new = new_running e.desk.here e.desk.desk.rows e.conns n new
new_in (Silent ks) n new = new_silent ks n new

-- how many connections lead to a host
count_filter : (host : ℕ) (plans : List ConnPlan) → count_to host plans ≡ length (filter (λ c. c.host == host) plans)
count_filter host [] = refl
count_filter host (c ∷ plans) = by_head (c.host == host) (count_filter host plans) where
  by_head : (b : Bool) → count_to host plans ≡ length (filter (λ x. x.host == host) plans)
      → (if b then 1 else 0) + count_to host plans ≡ length (cond b (c ∷ filter (λ x. x.host == host) plans) (filter (λ x. x.host == host) plans))
  by_head true h = let more : 1 + count_to host plans ≡ suc (count_to host plans) = omega arith in more ∙ ap suc h
  by_head false h = let none : 0 + count_to host plans ≡ count_to host plans = omega arith in none ∙ h

each_const : {X Y Z : Type 0} (f : ℕ → X → Z) (z : Z) (xs : List X) (ys : List Y) → length xs ≡ length ys → ((i : ℕ) (x : X) → slice_get xs i ≡ Some x → f i x ≡ z) → each f xs ≡ map (λ y. z) ys
each_const f z [] [] n same = refl
each_const f z [] (y ∷ ys) n same = absurd (omega (arith, n))
each_const f z (x ∷ xs) [] n same = absurd (omega (arith, n))
each_const f z (x ∷ xs) (y ∷ ys) n same = λ i. same 0 x refl i ∷ each_const (λ j. f (suc j)) z xs ys (let m : length xs ≡ length ys = omega (arith, n) in m) (λ j q e. same (suc j) q e) i

abbrev pub no_bytes : List ℕ
no_bytes = []

get_replicate : (n k : ℕ) → get_or (replicate n no_bytes) k no_bytes ≡ no_bytes
get_replicate zero k = refl
get_replicate (suc n) zero = refl
get_replicate (suc n) (suc k) = get_replicate n k

-- THE RUN

module _ (d : Doc) (is : IsDocument d) (all : List NodeState) (begin : AreHostsOf d all) where
  abbrev pub begins : WorldState
  begins = begun_with d all

  hosts_count : length all ≡ length d.hosts
  hosts_count = sym (length-map all plain_host) ∙ ap length begin.hosts ∙ length-each (start_host d) d.hosts

  -- the connections of a host
  conns_at : (place : ℕ) (x : NodeState) → slice_get all place ≡ Some x → (h : HostSpec) × (slice_get d.hosts place ≡ Some h) × (conns_of x ≡ conns_to d place h)
  conns_at place x e =
      let there : slice_get (each (conns_to d) d.hosts) place ≡ Some (conns_of x) =
      ap (λ (xs : List (List Connection)). slice_get xs place) (sym begin.conns) ∙ slice_get-map conns_of all place ∙ ap (option_map conns_of) e in
      let m = from_each (conns_to d) d.hosts place (conns_of x) there in
      (m.0, m.1, sym m.2)

  new_at : (place : ℕ) (x : NodeState) → slice_get all place ≡ Some x → Every IsNewConn (conns_of x)
  new_at place x e = let m = conns_at place x e in subst (Every IsNewConn) (sym m.2) (begun d place m.0)

  node_there : (place : ℕ) (x : NodeState) → slice_get all place ≡ Some x → IsNodeAt d 0 place x
  node_there place x e =
      let c = conns_at place x e in
      record {
        plan = (begin.nodes place x e).plan;
        conns = ap length c.2 ∙ (conns_are_planned d place c.0).count ∙ sym (count_filter place (conns_in d));
        stamps = (begin.nodes place x e).stamps;
      }

  -- each connection leads to a host of the document
  leads_somewhere : Every (λ (c : ConnPlan). c.host < length d.hosts) (conns_in d)
  leads_somewhere =
      every_append (λ (c : ConnPlan). c.host < length d.hosts) (joined (each lane_conns d.hosts)) (map (λ host. record { host = host; source = Link }) d.links)
      (every_joined (λ (c : ConnPlan). c.host < length d.hosts) (each lane_conns d.hosts)
      (every_each (Every (λ (c : ConnPlan). c.host < length d.hosts)) lane_conns d.hosts
      (λ i h e. every_each (λ (c : ConnPlan). c.host < length d.hosts) (λ place lane. record { host = lane.to; source = OfLane i place }) h.lanes
      (λ j lane q. let m = facts.leads d is i j h lane e q in slice_get_within d.hosts lane.to m.0 m.1))))
      (every_map (λ (c : ConnPlan). c.host < length d.hosts) (λ host. record { host = host; source = Link }) d.links
      (λ i host e. ltb-true host (length d.hosts) (test_at (λ n. is_place n d.hosts) d.links i host is.links e)))

  route_there : (k : ℕ) (r : Route) → slice_get (routes_of d) k ≡ Some r → IsRouteAt begins k r
  route_there k r e =
      let m = from_each (route_at (conns_in d)) (conns_in d) k r e in
      let leads : r.host < length d.hosts = subst (λ (q : Route). q.host < length d.hosts) m.2 (leads_somewhere k m.0 m.1) in
      let within : r.host < length all = subst (λ (n : ℕ). r.host < n) (sym hosts_count) leads in
      let x = inside all r.host within in
      let none : arrived_by begins r ≡ [] =
      ap (arrived_in r.place) (get_or_from_slice_get all r.host x.0 no_node x.1) ∙ new_arrived (conns_of x.0) r.place (new_at r.host x.0 x.1) in
      record { leads = within; front = (stream_by begins k r.source, ap (λ (front : List ℕ). front ++ stream_by begins k r.source) (sym none)) }

  pub world_begins : IsWorld begins
  world_begins = record { hosts = hosts_count; links = length-replicate (length (routes_of d)) []; nodes = node_there; routes = route_there }

  -- and it is the world of setup
  conn_begins : (k : ℕ) (r : Route) → slice_get (routes_of d) k ≡ Some r → conn_by begins k r ≡ new_conn
  conn_begins k r e =
      let x = inside all r.host (route_there k r e).leads in
      ap (λ (link : List ℕ). conn_in link r.place (node_at r.host begins)) (get_replicate (length (routes_of d)) k)
      ∙ ap (conn_in [] r.place) (get_or_from_slice_get all r.host x.0 no_node x.1)
      ∙ new_in x.0 r.place (new_at r.host x.0 x.1)

  pub setup_is : world_of begins ≡ start_of d
  setup_is =
      let ends : each (conn_by begins) (routes_of d) ≡ (start_of d).conns =
      each_const (conn_by begins) new_conn (routes_of d) (conns_in d) (length-each (route_at (conns_in d)) (conns_in d)) conn_begins in
      λ i. record { hosts = begin.hosts i; conns = ends i }

-- a document without its events is one
pub without_is : (d : Doc) → IsDocument d → IsDocument (without_events d)
without_is d is =
    let m = and_parts (has_at_most 16 d.hosts && is_between 1 20000 d.budget && has_at_most 256 d.certs && has_at_most 16 d.links) (has_at_most 20000 (events_of d.events)) is.sizes in
    record {
      sizes = ap (λ (b : Bool). b && true) m.0;
      host_sizes = is.host_sizes;
      labels = is.labels;
      given = is.given;
      scripts = is.scripts;
      names = is.names;
      keys = is.keys;
      slots = is.slots;
      lanes = is.lanes;
      inlets = is.inlets;
      hosts = is.hosts;
      cert_hosts = is.cert_hosts;
      links = is.links;
      owners = is.owners;
      events = refl;
      known = is.known;
      cert_known = is.cert_known;
      made = is.made;
      mapped = is.mapped;
      rows = is.rows;
      leaves = is.leaves;
      addresses = is.addresses;
      silent = is.silent;
      signers = is.signers;
    }

-- at most so many events are given
pub few_events : (d : Doc) → IsDocument d → length (events_of d.events) ≤ 20000
few_events d is =
    leb-true (length (events_of d.events)) 20000 (and_parts (has_at_most 16 d.hosts && is_between 1 20000 d.budget && has_at_most 256 d.certs && has_at_most 16 d.links) (has_at_most 20000 (events_of d.events)) is.sizes).1

pub begins_as_setup : EachBeginsAsSetup
begins_as_setup d all is begin = record { kept = world_begins d is all begin; start = setup_is d is all begin }
