-- A run keeps its actors: which hosts run and how many processes they have is in the document.
use Rattle.std.proofs.Common.{◌≡◌, ℕ, ◌<◌, arith, true, false, Option, Some, None, refl, sym, ap, ◌∙◌, map, length, slice_get, option_map}
use Rattle.std.proofs.lemmas.List.{length-map}
use Rattle.std.proofs.lemmas.Option.{none-some, slice_get-map, slice_get_within}
use Rattle.ds_script.specs.declared.actor.ActorKind.{ActorKind}
use Rattle.ds_script.specs.declared.actor.ActorKind.TheVariants as kinds
use Rattle.ds_model.specs.Plan.{HostPlan, host_plan}
use Rattle.ds_model.specs.World.{Process, Host}
use Rattle.ds_model.specs.Views.{proc_in}
use Rattle.ds_plan.specs.declared.doc.Doc.{Doc}
use Rattle.ds_setup.specs.Plans.{plan_of}
use Rattle.ds_setup.proofs.Places.{inside}
use Rattle.ds_exporter.specs.HostStates.{HostState}
use Rattle.ds_exporter.specs.PlainHosts.{plain_process, site_of}
use Rattle.ds_hosts.specs.Nodes.{NodeState, Running, Silent, plain_host}
use Rattle.ds_world.specs.Worlds.{WorldState, IsWorld, world_of}
use Rattle.ds_sim.specs.Sims.{without_events}
use Rattle.ds_views.specs.Views.{HasOne}

-- the running host of a process
record ProcHost (w : WorldState) (h i : ℕ) : Type 0 where
  host : HostState
  node : slice_get w.nodes h ≡ Some (Running host)
  within : i < length host.procs

proc_host : (w : WorldState) (h i : ℕ) (o : Option NodeState) → slice_get w.nodes h ≡ o → (x : Process) → proc_in (option_map plain_host o) i ≡ Some x → ProcHost w h i
proc_host w h i None e x there = absurd (none-some x there)
proc_host w h i (Some (Silent ks)) e x there = absurd (none-some x there)
proc_host w h i (Some (Running host)) e x there =
    let within : i < length (map (plain_process host.desk.here host.desk.desk.rows) host.procs) = slice_get_within (map (plain_process host.desk.here host.desk.desk.rows) host.procs) i x there in
    record { host = host; node = e; within = omega (arith, within, length-map host.procs (plain_process host.desk.here host.desk.desk.rows)) }

module _ (v w : WorldState) (is_v : IsWorld v) (is_w : IsWorld w) (copied : w.doc ≡ without_events v.doc) where
  plan_is : (h : ℕ) → host_plan (plan_of w.doc) h ≡ host_plan (plan_of v.doc) h
  plan_is h = ap (λ (d : Doc). host_plan (plan_of d) h) copied

  as_many : length v.nodes ≡ length w.nodes
  as_many = is_v.hosts ∙ sym (ap (λ (d : Doc). length d.hosts) copied) ∙ sym is_w.hosts

  proc_stays : (h i : ℕ) (host : HostState) → slice_get v.nodes h ≡ Some (Running host) → i < length host.procs → (x : NodeState) → slice_get w.nodes h ≡ Some x
      → (y : Process) × (proc_in (option_map plain_host (Some x)) i ≡ Some y)
  proc_stays h i host before within (Silent ks) there =
      let silent : (host_plan (plan_of v.doc) h).silent ≡ true = ap (λ (q : HostPlan). q.silent) (sym (plan_is h)) ∙ (is_w.nodes h (Silent ks) there).plan in
      let runs : (host_plan (plan_of v.doc) h).silent ≡ false = ap (λ (q : HostPlan). q.silent) (sym (is_v.nodes h (Running host) before).plan) in
      let wrong : true ≡ false = sym silent ∙ runs in
      absurd cc
  proc_stays h i host before within (Running e) there =
      let site : site_of e ≡ site_of host = (is_w.nodes h (Running e) there).plan ∙ plan_is h ∙ sym (is_v.nodes h (Running host) before).plan in
      let count : length e.procs ≡ length host.procs = ap (λ (q : HostPlan). q.procs) site in
      inside (map (plain_process e.desk.here e.desk.desk.rows) e.procs) i (omega (arith, within, count, length-map e.procs (plain_process e.desk.here e.desk.desk.rows)))

  pub stays : (k : ActorKind) (h i : ℕ) → HasOne (world_of v) k h i → HasOne (world_of w) k h i
  stays kinds.Clock h i has =
      let within : h < length (map plain_host v.nodes) = slice_get_within (map plain_host v.nodes) h has.0 has.1 in
      inside (map plain_host w.nodes) h (omega (arith, within, as_many, length-map v.nodes plain_host, length-map w.nodes plain_host))
  stays kinds.Proc h i has =
      let at_host : ProcHost v h i = proc_host v h i (slice_get v.nodes h) refl has.0 (ap (λ (o : Option Host). proc_in o i) (sym (slice_get-map plain_host v.nodes h)) ∙ has.1) in
      let within : h < length v.nodes = slice_get_within v.nodes h (Running at_host.host) at_host.node in
      let node : (x : NodeState) × (slice_get w.nodes h ≡ Some x) = inside w.nodes h (omega (arith, within, as_many)) in
      let found : (y : Process) × (proc_in (option_map plain_host (Some node.0)) i ≡ Some y) = proc_stays h i at_host.host at_host.node at_host.within node.0 node.1 in
      let same : proc_in (slice_get (map plain_host w.nodes) h) i ≡ proc_in (option_map plain_host (Some node.0)) i =
      ap (λ (o : Option Host). proc_in o i) (slice_get-map plain_host w.nodes h ∙ ap (option_map plain_host) node.1) in
      (found.0, same ∙ found.1)
  stays kinds.Lane h i has = has
  stays kinds.Conn h i has = has
