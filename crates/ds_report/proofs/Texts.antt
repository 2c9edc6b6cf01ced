-- The whole text is the model's.
use Rattle.std.proofs.Common.{◌≡◌, ℕ, zero, suc, ◌+◌, ◌<◌, ◌≤◌, arith, Bool, true, false, List, [], ◌∷◌, ◌++◌, Option, Some, None, refl, sym, ap, ap₂, subst, ◌∙◌, map, length, take, slice_get, get_or, option_map}
use Rattle.std.specs.Prelude.{codes, if◌then◌else◌}
use Rattle.std.proofs.lemmas.List.{append-nil, length-map}
use Rattle.std.proofs.lemmas.Option.{none-some, same_Some, slice_get-map, slice_get_past, get_or_from_slice_get}
use Rattle.std.proofs.Math.Seq.{take-append_seam}
use Rattle.ds_label.specs.declared.category.PubKey.{PubKey}
use Rattle.ds_label.specs.declared.category.Category.{Category}
use Rattle.ds_plan.specs.declared.doc.Doc.{Doc}
use Rattle.ds_model.specs.Lists.{gathered}
use Rattle.ds_model.specs.Plan.{Plan, HostSetup, HostPlan, ConnPlan, Source, Link, OfLane, host_plan, conn_plan, no_host}
use Rattle.ds_model.specs.World.{Host, Conn, World}
use Rattle.ds_model.specs.Step.{arrived, stream_of}
use Rattle.ds_model.specs.Text.{section, joined, host_sections, sections_at, conn_sections, conn_section, text_of, nothing_hidden}
use Rattle.ds_model.specs.Print.{Printing, printed}
use Rattle.ds_setup.specs.Lists.{each}
use Rattle.ds_setup.specs.Plans.{plan_of, host_setup_of}
use Rattle.ds_setup.proofs.Places.{each_at, each_past, length-each, past}
use Rattle.ds_exporter.specs.HostStates.{HostState}
use Rattle.ds_exporter.specs.PlainHosts.{host_of, site_of, conn_of, plain_passed, arrived_of, no_conn}
use Rattle.ds_inlet.specs.PlainConnections.{plain_conn}
use Rattle.ds_inlet.specs.Connections.{Connection}
use Rattle.ds_hosts.specs.Nodes.{NodeState, Running, Silent, plain_host, conns_of, conn_in, arrived_in, IsPlanOf}
use Rattle.ds_world.specs.declared.route.Route.{Route}
use Rattle.ds_world.specs.declared.route.Feed.{Feed}
use Rattle.ds_world.specs.Worlds.{WorldState, IsWorld, world_of, node_at, link_at, conn_by, arrived_by, feed_of, conns_in, route_at, routes_of}
use Rattle.ds_world.proofs.OneConn as conns
use Rattle.ds_report.specs.Printings.{planned}
use Rattle.ds_report.specs.Hosts.{texts, host_text}
use Rattle.ds_report.specs.Conns.{conn_text, source_of}
use Rattle.ds_report.specs.Texts.{node_text, nodes_text, route_text, route_text_to, route_text_at, conns_text, world_text, ArePlanned, HaveRoom}
use Rattle.ds_report.proofs.Sections.{joined_append, gathered_first, texts_later, sections_are}

-- sections that are gathered by the places of a list's things
gathered_texts : {X : Type 0} (F : ℕ → List (List ℕ)) (G : ℕ → X → List ℕ) (xs : List X) → ((i : ℕ) (x : X) → slice_get xs i ≡ Some x → joined (F i) ≡ G i x)
    → joined (gathered F (length xs)) ≡ texts G 0 xs
gathered_texts F G [] same = refl
gathered_texts F G (x ∷ xs) same =
    ap joined (gathered_first F (length xs)) ∙ joined_append (F 0) (gathered (λ i. F (suc i)) (length xs))
    ∙ (λ i. same 0 x refl i ++ gathered_texts (λ j. F (suc j)) (λ j. G (suc j)) xs (λ j y e. same (suc j) y e) i)
    ∙ ap (λ more. G 0 x ++ more) (texts_later G 0 xs)

-- what a connection's section doesn't say: the stream of its link
text_alike : (p : Printing) (plan : Plan) (k : ℕ) (source : Source) (host : ℕ) (x y : Conn) (bytes : List ℕ) → x.failed ≡ y.failed → x.lines ≡ y.lines
    → conn_text p plan k source host x bytes ≡ conn_text p plan k source host y bytes
text_alike p plan k source host x y bytes e f = λ i. conn_text p plan k source host (record x { failed = e i; lines = f i }) bytes

-- past its end a list has nothing
not_there : {X : Type 0} (xs : List X) (n : ℕ) → slice_get xs n ≡ None → length xs ≤ n
not_there [] n e = omega arith
not_there (x ∷ xs) zero e = absurd (none-some x (sym e))
not_there (x ∷ xs) (suc n) e = let le : length xs ≤ n = not_there xs n e in omega (arith, le)

module _ (here : PubKey) (rows : List Category) (link : List ℕ) where
  failed_alike : (conns : List Connection) (n : ℕ) → (get_or (map (conn_of here rows link) conns) n no_conn).failed ≡ (get_or (map (conn_of here rows []) conns) n no_conn).failed
  failed_alike [] n = refl
  failed_alike (x ∷ xs) zero = refl
  failed_alike (x ∷ xs) (suc n) = failed_alike xs n

  lines_alike : (conns : List Connection) (n : ℕ) → (get_or (map (conn_of here rows link) conns) n no_conn).lines ≡ (get_or (map (conn_of here rows []) conns) n no_conn).lines
  lines_alike [] n = refl
  lines_alike (x ∷ xs) zero = refl
  lines_alike (x ∷ xs) (suc n) = lines_alike xs n

  count_is : (conns : List Connection) (n : ℕ) → (get_or (map (conn_of here rows link) conns) n no_conn).count ≡ length (get_or (map arrived_of conns) n [])
  count_is [] n = refl
  count_is (x ∷ xs) zero = refl
  count_is (x ∷ xs) (suc n) = count_is xs n

same_source : (s : Source) → source_of (feed_of s) ≡ s
same_source Link = refl
same_source (OfLane host lane) = refl

-- the plan that a route has
abbrev plan_by : Route → ConnPlan
plan_by r = record { host = r.host; source = source_of r.source }

module _ (p : Printing) (w : WorldState) (kept : IsWorld w) where
  abbrev plan : Plan
  plan = plan_of w.doc

  -- HOSTS

  host_at : (h : ℕ) (x : NodeState) → IsPlanOf (host_plan plan h) x → joined (sections_at (printed p plan) nothing_hidden (host_plan plan h) h (Some (plain_host x))) ≡ node_text p plan h x
  host_at h (Running e) site =
      ap (λ (b : Bool). joined (if b then [] else host_sections (printed p plan) nothing_hidden (host_plan plan h) h (host_of e))) (ap (λ (q : HostPlan). q.silent) (sym site))
      ∙ sections_are p plan h e site
  host_at h (Silent conns) silent =
      ap (λ (b : Bool). joined (if b then [] else host_sections (printed p plan) nothing_hidden (host_plan plan h) h (plain_host (Silent conns)))) silent

  hosts_count : length plan.hosts ≡ length w.nodes
  hosts_count = length-each (host_setup_of w.doc.hosts) w.doc.hosts ∙ sym kept.hosts

  hosts_are : joined (gathered (λ h. sections_at (printed p plan) nothing_hidden (host_plan plan h) h (slice_get (world_of w).hosts h)) (length plan.hosts)) ≡ nodes_text p plan 0 w.nodes
  hosts_are =
      ap (λ (n : ℕ). joined (gathered (λ h. sections_at (printed p plan) nothing_hidden (host_plan plan h) h (slice_get (world_of w).hosts h)) n)) hosts_count
      ∙ gathered_texts (λ h. sections_at (printed p plan) nothing_hidden (host_plan plan h) h (slice_get (world_of w).hosts h)) (node_text p plan) w.nodes
      (λ h x e. ap (λ (o : Option Host). joined (sections_at (printed p plan) nothing_hidden (host_plan plan h) h o)) (slice_get-map plain_host w.nodes h ∙ ap (option_map plain_host) e)
      ∙ host_at h x (kept.nodes h x e).plan)

  -- CONNECTIONS

  -- a connection's section, by its part of the plan
  abbrev shown : (k : ℕ) → ConnPlan → Option Conn → List (List ℕ)
  shown k c None = []
  shown k c (Some y) = conn_text p plan k c.source c.host y (take y.count (stream_of (world_of w) c.source y)) ∷ []

  shown_is : (k : ℕ) (o : Option Conn) → conn_section (printed p plan) plan (world_of w) k o ≡ shown k (conn_plan plan k) o
  shown_is k None = refl
  shown_is k (Some y) = refl

  -- by the place of its host
  abbrev shown_by : (k : ℕ) → Route → Bool → List ℕ
  shown_by k r silent = joined (if silent then [] else shown k (plan_by r) (Some (conn_by w k r)))

  by_route : (k : ℕ) (r : Route) → slice_get (routes_of w.doc) k ≡ Some r → conn_plan plan k ≡ plan_by r
      → joined (conn_sections (printed p plan) plan (world_of w) k) ≡ shown_by k r (host_plan plan r.host).silent
  by_route k r e planned =
      let there : slice_get (world_of w).conns k ≡ Some (conn_by w k r) = each_at (conn_by w) (routes_of w.doc) k ∙ ap (option_map (conn_by w k)) e in
      ap (λ (s : List (List ℕ)). joined (if (host_plan plan (conn_plan plan k).host).silent then [] else s)) (shown_is k (slice_get (world_of w).conns k))
      ∙ ap₂ (λ (c : ConnPlan) (o : Option Conn). joined (if (host_plan plan c.host).silent then [] else shown k c o)) planned there

  source_is : (k : ℕ) (r : Route) (x : NodeState) → slice_get (routes_of w.doc) k ≡ Some r → slice_get w.nodes r.host ≡ Some x → (conn_plan plan k).source ≡ source_of r.source
  source_is k r x e there = sym (same_source (conn_plan plan k).source) ∙ ap source_of (conns.planned_source w k r x e there kept)

  planned_is : (k : ℕ) (r : Route) (x : NodeState) → slice_get (routes_of w.doc) k ≡ Some r → slice_get w.nodes r.host ≡ Some x → conn_plan plan k ≡ plan_by r
  planned_is k r x e there = λ i. record { host = conns.planned_host w k r x e there kept i; source = source_is k r x e there i }

  running_text : (k : ℕ) (r : Route) (x : HostState) → slice_get (routes_of w.doc) k ≡ Some r → slice_get w.nodes r.host ≡ Some (Running x) → shown_by k r false ≡ route_text p plan k r (Running x)
  running_text k r x e there =
      let node : node_at r.host w ≡ Running x = get_or_from_slice_get w.nodes r.host (Running x) (Silent []) there in
      let bytes : arrived (world_of w) (source_of r.source) (conn_by w k r) ≡ arrived_by w r =
      ap (λ (s : Source). arrived (world_of w) s (conn_by w k r)) (sym (source_is k r (Running x) e there)) ∙ conns.bytes_are w k r (Running x) e there kept in
      append-nil (conn_text p plan k (source_of r.source) r.host (conn_by w k r) (arrived (world_of w) (source_of r.source) (conn_by w k r)))
      ∙ ap (conn_text p plan k (source_of r.source) r.host (conn_by w k r)) bytes
      ∙ ap (λ (n : NodeState). conn_text p plan k (source_of r.source) r.host (conn_in (link_at k w) r.place n) (arrived_in r.place n)) node
      ∙ text_alike p plan k (source_of r.source) r.host (conn_in (link_at k w) r.place (Running x)) (conn_in [] r.place (Running x)) (arrived_in r.place (Running x))
      (failed_alike x.desk.here x.desk.desk.rows (link_at k w) x.conns r.place) (lines_alike x.desk.here x.desk.desk.rows (link_at k w) x.conns r.place)

  by_node : (k : ℕ) (r : Route) (o : Option NodeState) → slice_get (routes_of w.doc) k ≡ Some r → slice_get w.nodes r.host ≡ o
      → joined (conn_sections (printed p plan) plan (world_of w) k) ≡ route_text_to p plan k r o
  by_node k r None e there =
      let leads : r.host < length w.nodes = (kept.routes k r e).leads in
      let none : length w.nodes ≤ r.host = not_there w.nodes r.host there in
      absurd (omega (arith, leads, none))
  by_node k r (Some (Silent ks)) e there = by_route k r e (planned_is k r (Silent ks) e there) ∙ ap (shown_by k r) (kept.nodes r.host (Silent ks) there).plan
  by_node k r (Some (Running x)) e there =
      by_route k r e (planned_is k r (Running x) e there)
      ∙ ap (shown_by k r) (ap (λ (q : HostPlan). q.silent) (sym (kept.nodes r.host (Running x) there).plan))
      ∙ running_text k r x e there

  conns_are : joined (gathered (λ k. conn_sections (printed p plan) plan (world_of w) k) (length plan.conn_plans)) ≡ conns_text p plan w.nodes 0 (routes_of w.doc)
  conns_are =
      ap (λ (n : ℕ). joined (gathered (λ k. conn_sections (printed p plan) plan (world_of w) k) n)) (sym (length-each (route_at (conns_in w.doc)) (conns_in w.doc)))
      ∙ gathered_texts (λ k. conn_sections (printed p plan) plan (world_of w) k) (route_text_at p plan w.nodes) (routes_of w.doc)
      (λ k r e. by_node k r (slice_get w.nodes r.host) e refl)

  pub texts_are : text_of (printed p plan) plan (world_of w) ≡ world_text p plan w
  texts_are =
      let hosts = gathered (λ h. sections_at (printed p plan) nothing_hidden (host_plan plan h) h (slice_get (world_of w).hosts h)) (length plan.hosts) in
      let conns = gathered (λ k. conn_sections (printed p plan) plan (world_of w) k) (length plan.conn_plans) in
      ap (λ more. codes "dstar 1\n" ++ more) (joined_append hosts conns)
      ∙ (λ i. codes "dstar 1\n" ++ (hosts_are i ++ conns_are i))

-- the section of a connection that is there
pub route_is : (p : Printing) (plan : Plan) (k : ℕ) (r : Route) (e : HostState) (x : Connection) → slice_get e.conns r.place ≡ Some x
    → route_text p plan k r (Running e) ≡ conn_text p plan k (source_of r.source) r.host (plain_conn [] (plain_passed e.desk.here e.desk.desk.rows x.passed) x) x.arrived
route_is p plan k r e x there =
    ap₂ (λ (y : Conn) (bytes : List ℕ). conn_text p plan k (source_of r.source) r.host y bytes)
    (get_or_from_slice_get (map (conn_of e.desk.here e.desk.desk.rows []) e.conns) r.place (conn_of e.desk.here e.desk.desk.rows [] x) no_conn
    (slice_get-map (conn_of e.desk.here e.desk.desk.rows []) e.conns r.place ∙ ap (option_map (conn_of e.desk.here e.desk.desk.rows [])) there))
    (get_or_from_slice_get (map arrived_of e.conns) r.place x.arrived [] (slice_get-map arrived_of e.conns r.place ∙ ap (option_map arrived_of) there))

-- connections have room at their hosts
pub rooms_are : (w : WorldState) → IsWorld w → HaveRoom w.nodes (routes_of w.doc)
rooms_are w kept k r x e there = conns.within w k r x e there kept

-- each host is as the plan has it
pub planned_are : (w : WorldState) → IsWorld w → ArePlanned w.doc w.nodes
planned_are w kept h x e = (kept.nodes h x e).plan

-- the plan, opened
pub plan_is : (d : Doc) → planned d ≡ plan_of d
unfolding planned
plan_is d = refl
