-- A connection that asks something of its host.
use Rattle.std.proofs.Common.{◌≡◌, ℕ, ◌+◌, List, Option, Some, None, slice_get, refl, sym, ap, ◌∙◌, subst}
use Rattle.std.specs.Prelude.{Result, Ok, Err, IfOk}
use Rattle.std.specs.declared.alloc.AllocError.{AllocError}
use Rattle.ds_model.specs.Plan.{HostPlan, conn_plan, host_plan, receiving_host}
use Rattle.ds_model.specs.World.{Conn, Host, World}
use Rattle.ds_model.specs.ConnectionStep.{ConnAsk}
use Rattle.ds_model.specs.Step.{Event, HostAndConn, arrived, perform_conn, step, step_conn, with_ends}
use Rattle.ds_model.proofs.Places.{at_still, some_is}
use Rattle.ds_delivery.proofs.Arrivals.{HostGrows, conn_grows}
use Rattle.ds_setup.specs.Plans.{plan_of}
use Rattle.ds_scheme.specs.TheScheme.{scheme}
use Rattle.ds_exporter.specs.declared.moved.Moved.{Moved}
use Rattle.ds_exporter.specs.declared.moved.Moved.TheVariants.{Still}
use Rattle.ds_exporter.specs.Moving.{Moves}
use Rattle.ds_exporter.proofs.Places.{there_is}
use Rattle.ds_hosts.specs.Nodes.{NodeState, arrived_in, conn_in, ends_in, plain_host}
use Rattle.ds_world.specs.declared.route.Route.{Route}
use Rattle.ds_world.specs.Worlds.{WorldState, IsWorld, conn_by, link_at, routes_of, world_of}
use Rattle.ds_world.specs.Afters.{IsAfter, IsAnswered, IsAnsweredAt, counted}
use Rattle.ds_world.proofs.Changes.{conn_none, conn_there, fronts_kept, host_same, host_there, with_node, world_kept}
use Rattle.ds_world.proofs.OneHost.{nothing_after}
use Rattle.ds_world.proofs.OneConn.{arrived_is, bytes_are, conn_is, conn_same, planned_host, world_becomes}

-- the event of a connection with that number, which asks this
abbrev pub asked : (HostPlan → Conn → List ℕ → ConnAsk) → ℕ → WorldState → World
asked asks k w = step_conn scheme (plan_of w.doc) (world_of w) (conn_plan (plan_of w.doc) k).host k
    (λ (conn : Conn). asks (receiving_host (plan_of w.doc) k) conn (arrived (world_of w) (conn_plan (plan_of w.doc) k).source conn))
    (slice_get (world_of w).hosts (conn_plan (plan_of w.doc) k).host) (slice_get (world_of w).conns k)

-- where there is none nothing happens
nobody : (w : WorldState) (h k : ℕ) (asks : Conn → ConnAsk) (o : Option Host) (c : Option Conn) → c ≡ None → step_conn scheme (plan_of w.doc) (world_of w) h k asks o c ≡ world_of w
nobody w h k asks o c e = subst (λ (d : Option Conn). step_conn scheme (plan_of w.doc) (world_of w) h k asks o d ≡ world_of w) (sym e) (go o)
  where
    go : (o : Option Host) → step_conn scheme (plan_of w.doc) (world_of w) h k asks o None ≡ world_of w
    go None = refl
    go (Some x) = refl

pub none_asks : (asks : HostPlan → Conn → List ℕ → ConnAsk) (w : WorldState) (k : ℕ) → slice_get (routes_of w.doc) k ≡ None → asked asks k w ≡ world_of w
none_asks asks w k h = nobody w (conn_plan (plan_of w.doc) k).host k
    (λ (conn : Conn). asks (receiving_host (plan_of w.doc) k) conn (arrived (world_of w) (conn_plan (plan_of w.doc) k).source conn))
    (slice_get (world_of w).hosts (conn_plan (plan_of w.doc) k).host) (slice_get (world_of w).conns k) (conn_none w k h)

module _ (asks : HostPlan → Conn → List ℕ → ConnAsk) (w : WorldState) (k : ℕ) (r : Route) (x y : NodeState) (route : slice_get (routes_of w.doc) k ≡ Some r) (there : slice_get w.nodes r.host ≡ Some x) (is : IsWorld w)
    (moved : Moved) (answered : IsAnswered asks moved (w.count + 1) r.place x y) where
  abbrev here : HostPlan
  here = host_plan (plan_of w.doc) r.host

  abbrev link : List ℕ
  link = link_at k w

  abbrev performed : HostAndConn
  performed = perform_conn scheme here (plain_host x) (conn_in link r.place x) (asks here (conn_in link r.place x) (arrived_in r.place x))

  -- the event is what the host's connection asks
  event_is : asked asks k w ≡ with_ends (world_of w) r.host k performed
  event_is =
      let p = planned_host w k r x route there is in
      (λ i. step_conn scheme (plan_of w.doc) (world_of w) (p i) k
      (λ (conn : Conn). asks (host_plan (plan_of w.doc) (p i)) conn (arrived (world_of w) (conn_plan (plan_of w.doc) k).source conn))
      (slice_get (world_of w).hosts (p i)) (slice_get (world_of w).conns k))
      ∙ ((λ i. step_conn scheme (plan_of w.doc) (world_of w) r.host k
      (λ (conn : Conn). asks here conn (arrived (world_of w) (conn_plan (plan_of w.doc) k).source conn))
      (host_there w r.host x there i) (conn_there w k r route i))
      ∙ ((λ i. with_ends (world_of w) r.host k (perform_conn scheme here (plain_host x) (conn_by w k r) (asks here (conn_by w k r) ((bytes_are w k r x route there is ∙ arrived_is w k r x route there is) i))))
      ∙ (λ i. with_ends (world_of w) r.host k (perform_conn scheme here (plain_host x) (conn_is w k r x route there is i) (asks here (conn_is w k r x route there is i) (arrived_in r.place x))))))

  moves_ends : Moves moved (ends_in link r.place x) (ends_in link r.place y) performed
  moves_ends = answered.moves link here (is.nodes r.host x there).plan

  abbrev after : WorldState
  after = with_node w r.host x y there

  moves_world : Moves moved (world_of w) (world_of after) (asked asks k w)
  moves_world = (
    world_becomes w k r x route there is y answered.others ∙ (ap (with_ends (world_of w) r.host k) moves_ends.0 ∙ sym event_is),
    (
      λ still. ap (λ (ns : List NodeState). world_of (record w { nodes = ns }))
          (at_still r.host (λ _. y) w.nodes (λ z h. answered.still still ∙ sym (same_node z h))),
      λ same. moves_ends.1.1 (λ i. record {
        host = host_same w r.host x y there (ap (λ (v : World). v.hosts) same) i;
        conn = conn_same w k r x route there is y answered.others (ap (λ (v : World). v.conns) same) i;
      }),
    ),
  )
    where
      same_node : (z : NodeState) → slice_get w.nodes r.host ≡ Some z → z ≡ x
      same_node z h = some_is z x (sym h ∙ there)

  grows : HostGrows (plain_host x) (plain_host y)
  grows = subst (HostGrows (plain_host x)) (sym (ap (λ (e : HostAndConn). e.host) moves_ends.0)) (conn_grows scheme here (plain_host x) (conn_in link r.place x) (asks here (conn_in link r.place x) (arrived_in r.place x)))

  pub answered_after : (e : Event) → step scheme (plan_of w.doc) (world_of w) e ≡ asked asks k w → IsAfter moved e w (counted w.count after)
  answered_after e event =
      let n = is.nodes r.host x there in
      record {
        moves = (moves_world.0 ∙ sym event, moves_world.1);
        world = world_kept w r.host x y there is (record { plan = answered.plan here n.plan; conns = answered.count ∙ n.conns; stamps = answered.stamps }) (fronts_kept w r.host x y there is answered.arrived grows);
        doc = refl;
        count = refl;
      }

-- as the code's calls say
module _ (asks : HostPlan → Conn → List ℕ → ConnAsk) (w : WorldState) (k : ℕ) (e : Event) (event : step scheme (plan_of w.doc) (world_of w) e ≡ asked asks k w) (is : IsWorld w) where
  pub no_conn_asks : slice_get (routes_of w.doc) k ≡ None → IsAfter Still e w (counted w.count w)
  no_conn_asks none = nothing_after w e is (event ∙ none_asks asks w k none)

  pub conn_asks : (r : Route) → slice_get (routes_of w.doc) k ≡ Some r → (nodes : List NodeState) (moved : Moved) → IsAnsweredAt asks moved (w.count + 1) r.host r.place w.nodes nodes
      → IsAfter moved e w (counted w.count (record w { nodes = nodes }))
  conn_asks r route nodes moved answered = there_is (IsAfter moved e w (counted w.count (record w { nodes = nodes }))) w.nodes r.host (is.routes k r route).leads
      (λ x h.
      let q = answered x h in
      subst (λ (ns : List NodeState). IsAfter moved e w (counted w.count (record w { nodes = ns }))) (sym q.1) (answered_after asks w k r x q.0 route h is moved q.2 e event))

  pub conn_asks_if : (r : Route) → slice_get (routes_of w.doc) k ≡ Some r → (nodes : List NodeState) (result : Result Moved AllocError) → IfOk result (λ moved. IsAnsweredAt asks moved (w.count + 1) r.host r.place w.nodes nodes)
      → IfOk result (λ moved. IsAfter moved e w (counted w.count (record w { nodes = nodes })))
  conn_asks_if r route nodes (Ok moved) answered = conn_asks r route nodes moved answered
  conn_asks_if r route nodes (Err x) answered = tt
