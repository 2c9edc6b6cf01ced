-- How many things a plan has, and how many bytes are left.
use Rattle.std.proofs.Common.{◌≡◌, ℕ, ◌-◌, Some, None, length, slice_get, sym, ap, ◌∙◌}
use Rattle.std.specs.Prelude.{Option}
use Rattle.ds_model.specs.Plan.{HostPlan, host_plan}
use Rattle.ds_model.specs.World.{Conn}
use Rattle.ds_model.specs.Step.{stream_at}
use Rattle.ds_model.specs.Schedule.{bytes_left, count_of}
use Rattle.ds_plan.specs.declared.doc.Doc.{Doc}
use Rattle.ds_plan.specs.declared.host.HostSpec.{HostSpec}
use Rattle.ds_setup.specs.Plans.{host_setup_of, lane_plan_of, plan_of}
use Rattle.ds_setup.proofs.Places.{length-each}
use Rattle.ds_setup.proofs.Setups.{no_plan_host, plan_host}
use Rattle.ds_exporter.proofs.Places.{there_is}
use Rattle.ds_world.specs.declared.route.Route.{Route}
use Rattle.ds_world.specs.Worlds.{WorldState, IsWorld, arrived_by, conn_by, conns_in, route_at, routes_of, stream_by, world_of}
use Rattle.ds_world.proofs.Changes.{conn_none, conn_there}
use Rattle.ds_world.proofs.OneConn.{conn_count, stream_is}

pub hosts_planned : (d : Doc) → length (plan_of d).hosts ≡ length d.hosts
hosts_planned d = length-each (host_setup_of d.hosts) d.hosts

pub conns_planned : (d : Doc) → length (plan_of d).conn_plans ≡ length (routes_of d)
conns_planned d = sym (length-each (route_at (conns_in d)) (conns_in d))

module _ (d : Doc) (h : ℕ) where
  pub procs_planned : (x : HostSpec) → slice_get d.hosts h ≡ Some x → (host_plan (plan_of d) h).procs ≡ length x.procs
  procs_planned x e = ap (λ (p : HostPlan). p.procs) (plan_host d h x e)

  pub lanes_planned : (x : HostSpec) → slice_get d.hosts h ≡ Some x
      → length (host_plan (plan_of d) h).lanes ≡ length x.lanes
  lanes_planned x e = ap (λ (p : HostPlan). length p.lanes) (plan_host d h x e) ∙ length-each (lane_plan_of d.hosts x) x.lanes

  pub none_planned : slice_get d.hosts h ≡ None
      → ((host_plan (plan_of d) h).procs ≡ 0) × (length (host_plan (plan_of d) h).lanes ≡ 0)
  none_planned e = (ap (λ (p : HostPlan). p.procs) (no_plan_host d h e), ap (λ (p : HostPlan). length p.lanes) (no_plan_host d h e))

-- BYTES

pub none_left_of_none : (w : WorldState) (k : ℕ) → slice_get (routes_of w.doc) k ≡ None
    → bytes_left (plan_of w.doc) (world_of w) k ≡ 0
none_left_of_none w k none = ap (λ (o : Option Conn). length (stream_at (world_of w) (plan_of w.doc) k o) - count_of o) (conn_none w k none)

pub bytes_left_of : (w : WorldState) (k : ℕ) (r : Route) → slice_get (routes_of w.doc) k ≡ Some r → IsWorld w
    → bytes_left (plan_of w.doc) (world_of w) k ≡ length (stream_by w k r.source) - length (arrived_by w r)
bytes_left_of w k r route is = ap (λ (o : Option Conn). length (stream_at (world_of w) (plan_of w.doc) k o) - count_of o) (conn_there w k r route)
    ∙ there_is (length (stream_at (world_of w) (plan_of w.doc) k (Some (conn_by w k r))) - count_of (Some (conn_by w k r)) ≡ length (stream_by w k r.source) - length (arrived_by w r)) w.nodes r.host (is.routes k r route).leads
    (λ x there. λ i. length (stream_is w k r x route there is i) - conn_count w k r x route there is i)
