-- Documents that agree have one plan, and worlds at the start that are equal but for what is high.
use Rattle.std.proofs.Common.{◌≡◌, ℕ, suc, true, false, cond, List, [], ◌∷◌, ◌++◌, length, map, Option, Some, None, slice_get, option_map, refl, sym, ◌∙◌, ap, ap₂, subst₂, inl, inr}
use Rattle.std.specs.List.{flat_map}
use Rattle.std.proofs.lemmas.Option.{none-some, same_Some, slice_get-map}
use Rattle.ds_label.specs.declared.category.Category.{Category}
use Rattle.ds_cert.specs.declared.address.Address.{Address}
use Rattle.ds_model.specs.Plan.{ConnPlan}
use Rattle.ds_model.specs.Desk.{Desk}
use Rattle.ds_model.specs.World.{Process, Worker, Host}
use Rattle.ds_model.specs.Inlet.{Inlet}
use Rattle.ds_model.specs.Scheme.{InletName}
use Rattle.ds_model.specs.Views.{proc_in, proc_at}
use Rattle.ds_noninterference.specs.High.{is_in, high_at}
use Rattle.ds_noninterference.specs.Alike.{Alike, AlikeAt, AlikeHosts, AlikeWorlds}
use Rattle.ds_plan.specs.declared.doc.Doc.{Doc}
use Rattle.ds_plan.specs.declared.host.HostSpec.{HostSpec}
use Rattle.ds_plan.specs.declared.process.ProcSpec.{ProcSpec}
use Rattle.ds_plan.specs.declared.cert.CertSpec.{CertSpec}
use Rattle.ds_plan.specs.Documents.{is_silent}
use Rattle.ds_setup.specs.Lists.{each}
use Rattle.ds_setup.specs.Signed.{DocCert, doc_certs, leaf_behind}
use Rattle.ds_setup.specs.Plans.{plan_of, host_setup_of, conn_plans_of}
use Rattle.ds_setup.specs.Starts.{start_of, start_host, start_desk, empty_desk, process_of, kept_at, issued_by, delegations_in, addresses_in, delegations_once, addresses_once, new_conn}
use Rattle.ds_setup.proofs.Places.{each_at}
use Rattle.ds_law.specs.TwoDocuments.{without_procs, spec_in, spec_at, high_at_setup, AgreeDocs, AgreeingSetups}
use Rattle.ds_law.proofs.Same.{each_alike, addresses_same, conns_same, workers_same, inlets_same, host_same, certs_same}

-- lists that end at one place are equally long
same_length : {X : Type 0} (xs ys : List X) → ((p : ℕ) → (slice_get xs p ≡ None → slice_get ys p ≡ None) × (slice_get ys p ≡ None → slice_get xs p ≡ None)) → length xs ≡ length ys
same_length [] [] ends = refl
same_length [] (y ∷ ys) ends = absurd (none-some y (sym ((ends 0).0 refl)))
same_length (x ∷ xs) [] ends = absurd (none-some x (sym ((ends 0).1 refl)))
same_length (x ∷ xs) (y ∷ ys) ends = ap suc (same_length xs ys (λ p. ends (suc p)))

module _ (d : Doc) (h : ℕ) (x : HostSpec) (there : slice_get d.hosts h ≡ Some x) where
  pub host_at_start : slice_get (start_of d).hosts h ≡ Some (start_host d h x)
  host_at_start = each_at (start_host d) d.hosts h ∙ ap (option_map (start_host d h)) there

  pub proc_at_start : (p : ℕ) → proc_at (start_of d) h p ≡ slice_get (map (process_of x.map) x.procs) p
  proc_at_start p = ap (λ (o : Option Host). proc_in o p) host_at_start

  pub spec_there : (p : ℕ) → spec_at d h p ≡ slice_get x.procs p
  spec_there p = ap (λ (o : Option HostSpec). spec_in o p) there

module _ (c : Category) (trusted : List ℕ) (d e : Doc) (docs : AgreeDocs c trusted d e) where
  same_hosts : map without_procs d.hosts ≡ map without_procs e.hosts
  same_hosts = ap (λ (z : Doc). z.hosts) docs.rest

  same_moment : d.moment ≡ e.moment
  same_moment = ap (λ (z : Doc). z.moment) docs.rest

  same_specs : d.certs ≡ e.certs
  same_specs = ap (λ (z : Doc). z.certs) docs.rest

  same_links : d.links ≡ e.links
  same_links = ap (λ (z : Doc). z.links) docs.rest

  module _ (h : ℕ) (x y : HostSpec) (one : slice_get d.hosts h ≡ Some x) (two : slice_get e.hosts h ≡ Some y) where
    -- processes are the same, or high
    alike_specs : (p : ℕ) → Alike (high_at c (is_in trusted h) (slice_get (map (process_of x.map) x.procs) p)) (high_at c (is_in trusted h) (slice_get (map (process_of y.map) y.procs) p)) (slice_get x.procs p) (slice_get y.procs p)
    alike_specs p =
        subst₂ (λ (a b : Option Process). Alike (high_at c (is_in trusted h) a) (high_at c (is_in trusted h) b) (slice_get x.procs p) (slice_get y.procs p)) (proc_at_start d h x one p) (proc_at_start e h y two p)
        (subst₂ (λ (a b : Option ProcSpec). Alike (high_at_setup c trusted d h p) (high_at_setup c trusted e h p) a b) (spec_there d h x one p) (spec_there e h y two p) (docs.procs h p))

    not_high : (rows : List Category) (procs : List ProcSpec) (p : ℕ) → slice_get procs p ≡ None → high_at c (is_in trusted h) (slice_get (map (process_of rows) procs) p) ≡ true → ⊥
    not_high rows procs p none high =
        let gone : slice_get (map (process_of rows) procs) p ≡ None = slice_get-map (process_of rows) procs p ∙ ap (option_map (process_of rows)) none in
        let clash : false ≡ true = sym (ap (λ (o : Option Process). high_at c (is_in trusted h) o) gone) ∙ high in
        absurd cc

    same_ends : (p : ℕ) → (slice_get x.procs p ≡ None → slice_get y.procs p ≡ None) × (slice_get y.procs p ≡ None → slice_get x.procs p ≡ None)
    same_ends p = go (alike_specs p)
      where
        go : Alike (high_at c (is_in trusted h) (slice_get (map (process_of x.map) x.procs) p)) (high_at c (is_in trusted h) (slice_get (map (process_of y.map) y.procs) p)) (slice_get x.procs p) (slice_get y.procs p) → (slice_get x.procs p ≡ None → slice_get y.procs p ≡ None) × (slice_get y.procs p ≡ None → slice_get x.procs p ≡ None)
        go (inl same) = (λ none. sym same ∙ none, λ none. same ∙ none)
        go (inr high) = (λ none. absurd (not_high x.map x.procs p none high.0), λ none. absurd (not_high y.map y.procs p none high.1))

    pub same_count : length x.procs ≡ length y.procs
    same_count = same_length x.procs y.procs same_ends

  -- ---- the plan

  pub plan_same : plan_of d ≡ plan_of e
  plan_same = λ i. record { hosts = hosts i; conn_plans = conns i }
    where
      hosts : each (host_setup_of d.hosts) d.hosts ≡ each (host_setup_of e.hosts) e.hosts
      hosts = each_alike (host_setup_of d.hosts) (host_setup_of e.hosts) d.hosts e.hosts same_hosts
          (λ h x y one two same. host_same d.hosts e.hosts same_hosts h x y same (same_count h x y one two))

      conns : conn_plans_of d.hosts d.links ≡ conn_plans_of e.hosts e.links
      conns = conns_same d.hosts e.hosts same_hosts d.links ∙ ap (conn_plans_of e.hosts) same_links

  -- ---- the world

  abbrev no_frame : List InletName → List Inlet
  no_frame names = map (λ i. None) names

  desk_by : (host moment : ℕ) → List DocCert → List Address → List CertSpec → HostSpec → Desk
  desk_by host moment all own specs x = cond (is_silent x.secret) empty_desk (record {
    moment = moment;
    rows = x.map;
    store = delegations_once (flat_map delegations_in (kept_at host all));
    addresses = addresses_once (own ++ flat_map addresses_in (kept_at host all));
    issued = issued_by host all;
    leaf = leaf_behind x host specs;
  })

  same_certs : doc_certs d.hosts d.certs ≡ doc_certs e.hosts e.certs
  same_certs = certs_same d.hosts e.hosts same_hosts [] d.certs ∙ ap (doc_certs e.hosts) same_specs

  desk_same : (h : ℕ) (x y : HostSpec) → without_procs x ≡ without_procs y → start_desk d h x ≡ start_desk e h y
  unfolding desk_by
  desk_same h x y same = λ i. desk_by h (same_moment i) (same_certs i) (addresses_same d.hosts e.hosts same_hosts i) (same_specs i) (same i)

  module _ (h : ℕ) (x y : HostSpec) (one : slice_get d.hosts h ≡ Some x) (two : slice_get e.hosts h ≡ Some y) (same : without_procs x ≡ without_procs y) where
    same_procs : (p : ℕ) → Alike (high_at c (is_in trusted h) (slice_get (map (process_of x.map) x.procs) p)) (high_at c (is_in trusted h) (slice_get (map (process_of y.map) y.procs) p)) (slice_get (map (process_of x.map) x.procs) p) (slice_get (map (process_of y.map) y.procs) p)
    same_procs p = go (alike_specs h x y one two p)
      where
        go : Alike (high_at c (is_in trusted h) (slice_get (map (process_of x.map) x.procs) p)) (high_at c (is_in trusted h) (slice_get (map (process_of y.map) y.procs) p)) (slice_get x.procs p) (slice_get y.procs p) → Alike (high_at c (is_in trusted h) (slice_get (map (process_of x.map) x.procs) p)) (high_at c (is_in trusted h) (slice_get (map (process_of y.map) y.procs) p)) (slice_get (map (process_of x.map) x.procs) p) (slice_get (map (process_of y.map) y.procs) p)
        go (inl specs) = inl (slice_get-map (process_of x.map) x.procs p ∙ (ap₂ (λ (z : HostSpec) (o : Option ProcSpec). option_map (process_of z.map) o) same specs ∙ sym (slice_get-map (process_of y.map) y.procs p)))
        go (inr high) = inr high

    pub alike_host : AlikeHosts c trusted (plan_of d) h (start_host d h x) (start_host e h y)
    alike_host = record {
      desk = desk_same h x y same;
      procs = same_procs;
      boxes = λ b. inl (ap (λ (z : HostSpec). slice_get (start_host d h z).boxes b) same);
      queues = λ l. inl (ap (λ (z : HostSpec). slice_get (start_host d h z).queues l) same);
      workers = λ l. inl (ap (λ (all : List Worker). slice_get all l) (workers_same d.hosts e.hosts same_hosts x y same));
      logs = λ l. inl (ap (λ (z : HostSpec). slice_get (start_host d h z).logs l) same);
      inlets = λ j. inl (ap (λ (names : List InletName). slice_get (no_frame names) j) (inlets_same d.hosts e.hosts same_hosts h x y same));
    }

  alike_at : (h : ℕ) → AlikeAt c trusted (plan_of d) h (slice_get (start_of d).hosts h) (slice_get (start_of e).hosts h)
  alike_at h = subst₂ (AlikeAt c trusted (plan_of d) h) (sym (each_at (start_host d) d.hosts h)) (sym (each_at (start_host e) e.hosts h)) (go (slice_get d.hosts h) (slice_get e.hosts h) refl refl both)
    where
      both : option_map without_procs (slice_get d.hosts h) ≡ option_map without_procs (slice_get e.hosts h)
      both = sym (slice_get-map without_procs d.hosts h) ∙ (ap (λ (hosts : List HostSpec). slice_get hosts h) same_hosts ∙ slice_get-map without_procs e.hosts h)

      go : (a b : Option HostSpec) → slice_get d.hosts h ≡ a → slice_get e.hosts h ≡ b → option_map without_procs a ≡ option_map without_procs b → AlikeAt c trusted (plan_of d) h (option_map (start_host d h) a) (option_map (start_host e h) b)
      go None None one two same = tt
      go None (Some y) one two same = absurd (none-some (without_procs y) same)
      go (Some x) None one two same = absurd (none-some (without_procs x) (sym same))
      go (Some x) (Some y) one two same = alike_host h x y one two (same_Some (without_procs x) (without_procs y) same)

  pub alike_starts : AlikeWorlds c trusted (plan_of d) (start_of d) (start_of e)
  alike_starts = record {
    hosts = alike_at;
    conns = λ k. inl (ap (λ (plans : List ConnPlan). slice_get (map (λ (z : ConnPlan). new_conn) plans) k) (conns_same d.hosts e.hosts same_hosts d.links ∙ ap (conn_plans_of e.hosts) same_links));
  }

pub agreeing : AgreeingSetups
agreeing c trusted d e docs = (plan_same c trusted d e docs, alike_starts c trusted d e docs)
