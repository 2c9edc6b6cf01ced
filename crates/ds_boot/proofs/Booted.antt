-- Hosts that have begun are the document's hosts before the first event.
use Rattle.std.proofs.Common.{◌≡◌, ℕ, suc, ◌<◌, List, [], ◌∷◌, length, map, Some, slice_get, refl, sym, ◌∙◌, ap, subst, arith}
use Rattle.std.specs.Prelude.{All}
use Rattle.std.proofs.lemmas.Option.{slice_get_within}
use Rattle.ds_model.specs.Plan.{HostPlan, host_plan}
use Rattle.ds_exporter.specs.HostStates.{HostState}
use Rattle.ds_exporter.specs.PlainHosts.{host_of, site_of}
use Rattle.ds_exporter.specs.Stamping.{IsBefore}
use Rattle.ds_plan.specs.declared.doc.Doc.{Doc}
use Rattle.ds_plan.specs.declared.host.HostSpec.{HostSpec}
use Rattle.ds_plan.specs.declared.host.LaneSpec.{LaneSpec}
use Rattle.ds_plan.specs.Documents.{IsDocument, has_host_sizes, is_silent}
use Rattle.ds_setup.specs.Lists.{each}
use Rattle.ds_setup.specs.Plans.{plan_of}
use Rattle.ds_setup.specs.Starts.{start_host}
use Rattle.ds_setup.proofs.Places.{inside, test_at}
use Rattle.ds_setup.proofs.Facts.{enough_leaves, leads}
use Rattle.ds_setup.proofs.Setups.{plan_host}
use Rattle.ds_hosts.specs.Nodes.{NodeState, Running, Silent, conns_of, plain_host}
use Rattle.ds_boot.specs.Lanes.{MayBegin}
use Rattle.ds_boot.specs.Parts.{conns_to}
use Rattle.ds_boot.specs.Beginnings.{AreBegun, IsNodeBegun}
use Rattle.ds_boot.specs.Nodes.{AreHostsOf, IsNodeOf}
use Rattle.ds_boot.proofs.Fitting.{host_sizes}
use Rattle.ds_boot.proofs.Named.{every_all}
use Rattle.ds_boot.proofs.Rooms.{own_facts}
use Rattle.ds_boot.proofs.Started.{before_now, host_now, silent_lanes, silent_now, site_now}

same_lists : {X Y Z : Type 0} (f : X → Z) (g : ℕ → Y → Z) (xs : List X) (ys : List Y) → length xs ≡ length ys → ((i : ℕ) (x : X) (y : Y) → slice_get xs i ≡ Some x → slice_get ys i ≡ Some y → f x ≡ g i y) → map f xs ≡ each g ys
same_lists f g [] [] size same = refl
same_lists f g [] (y ∷ ys) size same = absurd (omega (arith, size))
same_lists f g (x ∷ xs) [] size same = absurd (omega (arith, size))
same_lists f g (x ∷ xs) (y ∷ ys) size same = λ j. same 0 x y refl refl j ∷ same_lists f (λ i. g (suc i)) xs ys (omega (arith, size)) (λ i a b e q. same (suc i) a b e q) j

module _ (d : Doc) (is : IsDocument d) where
  one_host : (place : ℕ) (h : HostSpec) (node : NodeState) → slice_get d.hosts place ≡ Some h → IsNodeBegun d place h node → plain_host node ≡ start_host d place h
  one_host place h (Running e) there begun = ap host_of begun.1.state ∙ host_now d is place h there begun.0 e.desk begun.1.desk
  one_host place h (Silent conns) there begun = sym (silent_now d is place h there begun.0)

  one_list : (place : ℕ) (h : HostSpec) (node : NodeState) → slice_get d.hosts place ≡ Some h → IsNodeBegun d place h node → conns_of node ≡ conns_to d place h
  one_list place h (Running e) there begun = ap (λ (x : HostState). x.conns) begun.1.state
  one_list place h (Silent conns) there begun = begun.1

  silence : (place : ℕ) (h : HostSpec) → slice_get d.hosts place ≡ Some h → (host_plan (plan_of d) place).silent ≡ is_silent h.secret
  silence place h there = ap (λ (p : HostPlan). p.silent) (plan_host d place h there)

  one_node : (place : ℕ) (h : HostSpec) (node : NodeState) → slice_get d.hosts place ≡ Some h → IsNodeBegun d place h node → IsNodeOf d place node
  one_node place h (Running e) there begun = record {
    plan = ap site_of begun.1.state ∙ site_now d is place h there begun.0 e.desk begun.1.desk;
    host = ap (λ (x : HostState). x.host) begun.1.state;
    stamps = subst (IsBefore 1) (sym begun.1.state) (before_now d is place h there begun.0 e.desk begun.1.desk);
  }
  one_node place h (Silent conns) there begun = record { plan = silence place h there ∙ begun.0; host = tt; stamps = tt }

  pub booted : (nodes : List NodeState) → AreBegun d nodes → AreHostsOf d nodes
  booted nodes begun = record {
    hosts = same_lists plain_host (start_host d) nodes d.hosts begun.count (λ place node h at there. one_host place h node there (begun.each place h node there at));
    nodes = λ place node at.
        let h : (h : HostSpec) × (slice_get d.hosts place ≡ Some h) = inside d.hosts place (subst (λ n. place < n) begun.count (slice_get_within nodes place node at)) in
        one_node place h.0 node h.1 (begun.each place h.0 node h.1 at);
    conns = same_lists conns_of (conns_to d) nodes d.hosts begun.count (λ place node h at there. one_list place h node there (begun.each place h node there at));
  }

  -- what each host needs to sign its address and its lanes
  pub may_begin : All (MayBegin (length d.hosts)) d.hosts
  may_begin = every_all (MayBegin (length d.hosts)) d.hosts (λ place h there.
      let size = test_at has_host_sizes d.hosts place h is.host_sizes there in
      record {
        address = (own_facts h size).address;
        few = (host_sizes h size).lanes;
        to = every_all (λ (l : LaneSpec). l.to < length d.hosts) h.lanes (λ l lane at. let to = leads d is place l h lane there at in slice_get_within d.hosts lane.to to.0 to.1);
        leaves = λ runs. let enough = enough_leaves d is place h there runs in omega (arith, enough);
        silent = silent_lanes d is place h there;
      })
