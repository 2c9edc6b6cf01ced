-- An event of one host alone.
use Rattle.std.proofs.Common.{◌≡◌, ℕ, ◌+◌, ◌<◌, ◌≤◌, List, Some, length, slice_get, refl, sym, ap, ◌∙◌, subst}
use Rattle.std.specs.Prelude.{Result, Ok, Err, IfOk}
use Rattle.std.specs.declared.alloc.AllocError.{AllocError}
use Rattle.std.proofs.lemmas.List.{length-map}
use Rattle.std.proofs.lemmas.Option.{none-some, slice_get_past}
use Rattle.ds_model.specs.Plan.{HostPlan, host_plan}
use Rattle.ds_model.specs.World.{Conn, Host, World}
use Rattle.ds_model.specs.Step.{Event, on_host, step}
use Rattle.ds_model.proofs.Places.{at_still}
use Rattle.ds_delivery.proofs.Arrivals.{HostGrows}
use Rattle.ds_setup.specs.Lists.{each}
use Rattle.ds_setup.specs.Plans.{plan_of}
use Rattle.ds_scheme.specs.TheScheme.{scheme}
use Rattle.ds_exporter.specs.declared.moved.Moved.{Moved}
use Rattle.ds_exporter.specs.declared.moved.Moved.TheVariants.{Still}
use Rattle.ds_exporter.specs.Moving.{Moves}
use Rattle.ds_exporter.proofs.Places.{there_is}
use Rattle.ds_hosts.specs.Nodes.{NodeState, conn_in, plain_host}
use Rattle.ds_world.specs.declared.route.Route.{Route}
use Rattle.ds_world.specs.Worlds.{WorldState, IsWorld, link_at, routes_of, world_of}
use Rattle.ds_world.specs.Afters.{IsAfter, IsStepped, IsSteppedAt, counted}
use Rattle.ds_world.proofs.Changes.{each_node, fronts_kept, host_same, hosts_become, hosts_same, later_node, with_node, world_kept}

-- NOTHING HAPPENS

-- one event more
pub counted_world : (w : WorldState) → IsWorld w → IsWorld (counted w.count w)
counted_world w is = record {
  hosts = is.hosts;
  links = is.links;
  nodes = λ h x stands. later_node w.doc w.count h x (is.nodes h x stands);
  routes = λ k r stands. record { leads = (is.routes k r stands).leads; front = (is.routes k r stands).front };
}

pub nothing_after : (w : WorldState) (e : Event) → IsWorld w → step scheme (plan_of w.doc) (world_of w) e ≡ world_of w → IsAfter Still e w (counted w.count w)
nothing_after w e is same = record { moves = (sym same, (λ still. refl, λ again. refl)); world = counted_world w is; doc = refl; count = refl }

-- where there is no such host
pub no_host : (w : WorldState) (host : ℕ) (f : Host → Host) → length w.nodes ≤ host → on_host host f (world_of w) ≡ world_of w
no_host w host f past = λ i. record { hosts = at_still host f (world_of w).hosts none i; conns = (world_of w).conns }
  where
    none : (x : Host) → slice_get (world_of w).hosts host ≡ Some x → f x ≡ x
    none x h = absurd (none-some x (sym (slice_get_past (world_of w).hosts host (subst (λ (n : ℕ). n ≤ host) (sym (length-map w.nodes plain_host)) past)) ∙ h))

-- ONE HOST STEPS

module _ (w : WorldState) (host : ℕ) (x y : NodeState) (stands : slice_get w.nodes host ≡ Some x) (becomes : HostPlan → Host → Host) (moved : Moved)
    (stepped : IsStepped becomes moved (w.count + 1) x y) (is : IsWorld w) where
  abbrev after : WorldState
  after = with_node w host x y stands

  abbrev plan : HostPlan
  plan = host_plan (plan_of w.doc) host

  moves_host : Moves moved (plain_host x) (plain_host y) (becomes plan (plain_host x))
  moves_host = stepped.moves plan (is.nodes host x stands).plan

  conns_same : (world_of after).conns ≡ (world_of w).conns
  conns_same = ap (λ (f : ℕ → Route → Conn). each f (routes_of w.doc))
      (λ i k r. each_node w host x y stands (conn_in (link_at k w) r.place) (stepped.same.conns (link_at k w) r.place) r.host i)

  pub moves_world : Moves moved (world_of w) (world_of after) (on_host host (becomes plan) (world_of w))
  moves_world =
      let hosts = hosts_become w host x y stands (becomes plan) moves_host.0 in (
        λ i. record { hosts = hosts i; conns = conns_same i },
        (
          λ still. λ i. record { hosts = hosts_same w host x y stands (moves_host.1.0 still) i; conns = conns_same i },
          λ same. moves_host.1.1 (host_same w host x y stands (ap (λ (v : World). v.hosts) same)),
        ),
      )

  pub world_after : HostGrows (plain_host x) (plain_host y) → IsWorld (counted w.count after)
  world_after g =
      let n = is.nodes host x stands in
      world_kept w host x y stands is (record { plan = stepped.plan plan n.plan; conns = stepped.count ∙ n.conns; stamps = stepped.stamps })
      (fronts_kept w host x y stands is stepped.same.arrived g)

-- what it becomes by the plan lets streams grow
abbrev pub StreamsGrow : (HostPlan → Host → Host) → Type 0
StreamsGrow becomes = (plan : HostPlan) (x : Host) → HostGrows x (becomes plan x)

pub one_host : (w : WorldState) (host : ℕ) (nodes : List NodeState) (becomes : HostPlan → Host → Host) (moved : Moved) (e : Event) → IsWorld w → host < length w.nodes → StreamsGrow becomes
    → step scheme (plan_of w.doc) (world_of w) e ≡ on_host host (becomes (host_plan (plan_of w.doc) host)) (world_of w)
    → IsSteppedAt becomes moved (w.count + 1) host w.nodes nodes → IsAfter moved e w (counted w.count (record w { nodes = nodes }))
one_host w host nodes becomes moved e is within grow event stepped = there_is (IsAfter moved e w (counted w.count (record w { nodes = nodes }))) w.nodes host within
    (λ x h.
    let q = stepped x h in
    let plan = host_plan (plan_of w.doc) host in
    let m = moves_world w host x q.0 h becomes moved q.2 is in
    subst (λ (ns : List NodeState). IsAfter moved e w (counted w.count (record w { nodes = ns }))) (sym q.1)
    (record {
      moves = (m.0 ∙ sym event, m.1);
      world = world_after w host x q.0 h becomes moved q.2 is (subst (HostGrows (plain_host x)) (sym (moves_host w host x q.0 h becomes moved q.2 is).0) (grow plan (plain_host x)));
      doc = refl;
      count = refl;
    }))

-- the same of a call's result
pub one_host_if : (w : WorldState) (host : ℕ) (nodes : List NodeState) (becomes : HostPlan → Host → Host) (r : Result Moved AllocError) (e : Event) → IsWorld w → host < length w.nodes → StreamsGrow becomes
    → step scheme (plan_of w.doc) (world_of w) e ≡ on_host host (becomes (host_plan (plan_of w.doc) host)) (world_of w)
    → IfOk r (λ moved. IsSteppedAt becomes moved (w.count + 1) host w.nodes nodes) → IfOk r (λ moved. IsAfter moved e w (counted w.count (record w { nodes = nodes })))
one_host_if w host nodes becomes (Ok moved) e is within grow event stepped = one_host w host nodes becomes moved e is within grow event stepped
one_host_if w host nodes becomes (Err x) e is within grow event stepped = tt

-- what was done was still
pub still_is : (moved : Moved) → moved ≡ Still → ◌≡◌ {A = Result Moved AllocError} (Ok moved) (Ok Still)
still_is moved e = ap (λ (m : Moved). Ok m) e
