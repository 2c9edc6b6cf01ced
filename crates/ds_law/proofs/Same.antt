-- What setup makes of a document without its processes.
use Rattle.std.proofs.Common.{◌≡◌, ℕ, suc, cond, List, [], ◌∷◌, ◌++◌, length, map, get_or, Option, Some, None, slice_get, option_map, refl, sym, ◌∙◌, ap, ap₂}
use Rattle.std.specs.List.{flat_map}
use Rattle.std.proofs.lemmas.Option.{same_Some, slice_get-map}
use Rattle.ds_label.specs.declared.category.PubKey.{PubKey}
use Rattle.ds_cert.specs.declared.cert.Cert.TheVariants.{Delegation}
use Rattle.ds_cert.specs.declared.lane.LaneCert.{LaneCert}
use Rattle.ds_model.specs.Keys.{no_key}
use Rattle.ds_model.specs.Scheme.{InletName, delegation_by}
use Rattle.ds_model.specs.Plan.{LanePlan, HostSetup, ConnPlan, Link}
use Rattle.ds_model.specs.World.{Worker}
use Rattle.ds_scheme.specs.TheScheme.{scheme}
use Rattle.ds_plan.specs.declared.host.HostSpec.{HostSpec}
use Rattle.ds_plan.specs.declared.host.LaneSpec.{LaneSpec}
use Rattle.ds_plan.specs.declared.host.InletSpec.{InletSpec}
use Rattle.ds_plan.specs.declared.cert.CertSpec.{CertSpec}
use Rattle.ds_plan.specs.declared.cert.CertSpec.TheVariants.{Made, Given}
use Rattle.ds_plan.specs.Keys.{host_key, host_keys}
use Rattle.ds_plan.specs.Documents.{is_silent}
use Rattle.ds_setup.specs.Lists.{each, joined}
use Rattle.ds_setup.specs.Keys.{key_at}
use Rattle.ds_setup.specs.Signed.{DocCert, unsigned_lane, signed_lane, lane_signature, leaf_in, signing_in, doc_cert, doc_certs_behind}
use Rattle.ds_setup.specs.Plans.{host_setup_of, lane_plan_of, inlets_of, inlets_from, lane_conns, conn_plans_of}
use Rattle.ds_setup.specs.Starts.{own_address, own_addresses, worker_of}
use Rattle.ds_law.specs.TwoDocuments.{without_procs}

-- ---- lists of hosts without processes

module _ {Y : Type 0} where
  pub map_same : (f : HostSpec → Y) → ((x : HostSpec) → f (without_procs x) ≡ f x) → (hosts : List HostSpec) → map f (map without_procs hosts) ≡ map f hosts
  map_same f same [] = refl
  map_same f same (x ∷ hosts) = ap₂ (λ (y : Y) (ys : List Y). y ∷ ys) (same x) (map_same f same hosts)

  pub flat_same : (f : HostSpec → List Y) → ((x : HostSpec) → f (without_procs x) ≡ f x) → (hosts : List HostSpec) → flat_map f (map without_procs hosts) ≡ flat_map f hosts
  flat_same f same [] = refl
  flat_same f same (x ∷ hosts) = ap₂ (λ (y : List Y) (ys : List Y). y ++ ys) (same x) (flat_same f same hosts)

  pub each_same : (f : ℕ → HostSpec → Y) → ((i : ℕ) (x : HostSpec) → f i (without_procs x) ≡ f i x) → (hosts : List HostSpec) → each f (map without_procs hosts) ≡ each f hosts
  each_same f same [] = refl
  each_same f same (x ∷ hosts) = ap₂ (λ (y : Y) (ys : List Y). y ∷ ys) (same 0 x) (each_same (λ i. f (suc i)) (λ i. same (suc i)) hosts)

  -- what is the same without processes is the same of two lists that differ in processes alone
  pub of_both : (F : List HostSpec → Y) → ((hosts : List HostSpec) → F (map without_procs hosts) ≡ F hosts) → (xs ys : List HostSpec) → map without_procs xs ≡ map without_procs ys → F xs ≡ F ys
  of_both F same xs ys rest = sym (same xs) ∙ (ap F rest ∙ same ys)

  pub each_alike : (f g : ℕ → HostSpec → Y) (xs ys : List HostSpec) → map without_procs xs ≡ map without_procs ys →
      ((i : ℕ) (x y : HostSpec) → slice_get xs i ≡ Some x → slice_get ys i ≡ Some y → without_procs x ≡ without_procs y → f i x ≡ g i y) → each f xs ≡ each g ys
  each_alike f g [] [] rest same = refl
  each_alike f g [] (y ∷ ys) rest same = absurd cc
  each_alike f g (x ∷ xs) [] rest same = absurd cc
  each_alike f g (x ∷ xs) (y ∷ ys) rest same =
      let first : without_procs x ≡ without_procs y = same_Some (without_procs x) (without_procs y) (ap (λ (hosts : List HostSpec). slice_get hosts 0) rest) in
      let later : map without_procs xs ≡ map without_procs ys = ap tail rest in
      ap₂ (λ (z : Y) (zs : List Y). z ∷ zs) (same 0 x y refl refl first) (each_alike (λ i. f (suc i)) (λ i. g (suc i)) xs ys later (λ i. same (suc i)))
    where
      tail : List HostSpec → List HostSpec
      tail [] = []
      tail (z ∷ zs) = zs

-- ---- hosts that differ in processes alone

module _ (xs ys : List HostSpec) (rest : map without_procs xs ≡ map without_procs ys) where
  pub keys_same : host_keys xs ≡ host_keys ys
  keys_same = of_both host_keys (map_same host_key (λ x. refl)) xs ys rest

  pub key_same : (place : ℕ) → key_at xs place ≡ key_at ys place
  key_same place = ap (λ (keys : List PubKey). get_or keys place no_key) keys_same

  pub addresses_same : own_addresses xs ≡ own_addresses ys
  addresses_same = of_both own_addresses (flat_same (λ (h : HostSpec). own_address h.identity h.secret h.address) (λ x. refl)) xs ys rest

  pub conns_same : (links : List ℕ) → conn_plans_of xs links ≡ conn_plans_of ys links
  conns_same links = of_both (λ hosts. conn_plans_of hosts links) (λ hosts. ap (λ (lists : List (List ConnPlan)). joined lists ++ map (λ host. record { host = host; source = Link }) links) (each_same lane_conns (λ i x. refl) hosts)) xs ys rest

  -- ---- lanes

  with_receiver : LaneCert → PubKey → LaneCert
  with_receiver lane key = record lane { receiver = key }

  signed_to : HostSpec → (number : ℕ) → LaneSpec → PubKey → LaneCert
  signed_to h number lane key = record (unsigned_lane [] h number lane) { receiver = key; signature = lane_signature h number (record (unsigned_lane [] h number lane) { receiver = key }) }

  pub lane_same : (h : HostSpec) (number : ℕ) (lane : LaneSpec) → signed_lane xs h number lane ≡ signed_lane ys h number lane
  unfolding signed_to
  lane_same h number lane = ap (signed_to h number lane) (key_same lane.to)

  lanes_one : (h : HostSpec) → each (lane_plan_of xs h) h.lanes ≡ each (lane_plan_of ys h) h.lanes
  lanes_one h = ap (λ (f : ℕ → LaneSpec → LanePlan). each f h.lanes) (λ i place lane. record (lane_plan_of xs h place lane) { cert = lane_same h (suc place) lane i })

  pub lanes_same : (x y : HostSpec) → without_procs x ≡ without_procs y → each (lane_plan_of xs x) x.lanes ≡ each (lane_plan_of ys y) y.lanes
  lanes_same x y same = lanes_one x ∙ ap (λ (h : HostSpec). each (lane_plan_of ys h) h.lanes) same

  workers_one : (h : HostSpec) → each (worker_of xs h) h.lanes ≡ each (worker_of ys h) h.lanes
  workers_one h = ap (λ (f : ℕ → LaneSpec → Worker). each f h.lanes) (λ i place lane. record { hand = []; leaf = 0; stream = scheme.hello (lane_same h (suc place) lane i) })

  pub workers_same : (x y : HostSpec) → without_procs x ≡ without_procs y → each (worker_of xs x) x.lanes ≡ each (worker_of ys y) y.lanes
  workers_same x y same = workers_one x ∙ ap (λ (h : HostSpec). each (worker_of ys h) h.lanes) same

  -- ---- inlets

  senders_same : (here : ℕ) → map (inlets_from here) xs ≡ map (inlets_from here) ys
  senders_same here = of_both (λ hosts. map (inlets_from here) hosts) (map_same (inlets_from here) (λ x. refl)) xs ys rest

  inlets_by : List (List InletName) → List PubKey → HostSpec → List InletName
  inlets_by senders keys h = cond (is_silent h.secret) [] (joined senders ++ map (λ (i : InletSpec). record { exporter = get_or keys i.from no_key; lane = i.lane }) h.inlets)

  pub inlets_same : (here : ℕ) (x y : HostSpec) → without_procs x ≡ without_procs y → inlets_of xs here x ≡ inlets_of ys here y
  unfolding inlets_by
  inlets_same here x y same = λ i. inlets_by (senders_same here i) (keys_same i) (same i)

  -- ---- hosts

  setup_by : (procs : ℕ) → List LanePlan → List InletName → HostSpec → HostSetup
  setup_by procs lanes inlets h = record (host_setup_of [] 0 h) { procs = procs; lanes = lanes; inlets = inlets }

  pub host_same : (place : ℕ) (x y : HostSpec) → without_procs x ≡ without_procs y → length x.procs ≡ length y.procs → host_setup_of xs place x ≡ host_setup_of ys place y
  unfolding setup_by
  host_same place x y same many = λ i. setup_by (many i) (lanes_same x y same i) (inlets_same place x y same i) (same i)

  -- ---- certificates

  signing_one : (o : Option HostSpec) → signing_in (option_map without_procs o) ≡ signing_in o
  signing_one None = refl
  signing_one (Some h) = refl

  signing_same : (by : ℕ) → signing_in (slice_get xs by) ≡ signing_in (slice_get ys by)
  signing_same by = of_both (λ hosts. signing_in (slice_get hosts by)) (λ hosts. ap signing_in (slice_get-map without_procs hosts by) ∙ signing_one (slice_get hosts by)) xs ys rest

  leaf_one : (o : Option HostSpec) (by : ℕ) (before : List CertSpec) → leaf_in (option_map without_procs o) by before ≡ leaf_in o by before
  leaf_one None by before = refl
  leaf_one (Some h) by before = refl

  leaf_same : (by : ℕ) (before : List CertSpec) → leaf_in (slice_get xs by) by before ≡ leaf_in (slice_get ys by) by before
  leaf_same by before = of_both (λ hosts. leaf_in (slice_get hosts by) by before) (λ hosts. ap (λ (o : Option HostSpec). leaf_in o by before) (slice_get-map without_procs hosts by) ∙ leaf_one (slice_get hosts by) by before) xs ys rest

  cert_same : (before : List CertSpec) (c : CertSpec) → doc_cert xs before c ≡ doc_cert ys before c
  cert_same before (Given cert at) = refl
  cert_same before (Made by category to from until at) = λ i. record {
    cert = Delegation (delegation_by scheme (signing_same by i) (leaf_same by before i) (key_same by i) category (key_same to i) from until);
    at = at;
    by = Some by;
  }

  pub certs_same : (before specs : List CertSpec) → doc_certs_behind xs before specs ≡ doc_certs_behind ys before specs
  certs_same before [] = refl
  certs_same before (c ∷ later) = ap₂ (λ (new : DocCert) (news : List DocCert). new ∷ news) (cert_same before c) (certs_same (before ++ c ∷ []) later)
