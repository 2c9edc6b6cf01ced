-- What setup makes of a document that was read fits what the theorems about runs ask.
use Rattle.std.proofs.Common.{◌≡◌, ℕ, suc, ◌<◌, ◌≤◌, true, false, List, [], ◌∷◌, length, map, Option, Some, None, slice_get, option_map, refl, sym, ◌∙◌, ap, ap₂, subst, arith}
use Rattle.std.proofs.lemmas.Option.{slice_get-map, slice_get_within, get_or_from_slice_get}
use Rattle.std.proofs.lemmas.Slice.Eq.{bytes_eq-Decides}
use Rattle.lms_sig.specs.declared.params.Params.{Params}
use Rattle.lms_sig.specs.Keys.{derived_seed, derived_id}
use Rattle.ds_label.specs.declared.category.PubKey.{PubKey}
use Rattle.ds_cert.specs.Ranges.{KeyFits, LaneCertFits}
use Rattle.ds_cert.specs.Spelling.{signed_part_of_lane_cert}
use Rattle.ds_model.specs.Plan.{HostSetup, LanePlan, ConnPlan, Link, OfLane, IsHost, IsLane, all_keys, with_keys, host_plan, lane_plan, conn_plan, no_host, no_lane, no_wire}
use Rattle.ds_model.specs.World.{Process, Queue, Worker, Conn, Host}
use Rattle.ds_model.specs.Setup.{IsSetup}
use Rattle.ds_noninterference.specs.Premises.{Fits}
use Rattle.ds_scheme.specs.Spelled.{HasSpelledLanes}
use Rattle.ds_scheme.specs.TheScheme.{scheme}
use Rattle.ds_scheme.proofs.Owns.{signature_fits}
use Rattle.ds_plan.specs.declared.doc.Doc.{Doc}
use Rattle.ds_plan.specs.declared.host.HostSpec.{HostSpec}
use Rattle.ds_plan.specs.declared.host.LaneSpec.{LaneSpec}
use Rattle.ds_plan.specs.declared.host.Secret.{Secret}
use Rattle.ds_plan.specs.declared.host.Secret.TheVariants.{Seed, Key}
use Rattle.ds_plan.specs.Keys.{host_key, host_keys, same_key}
use Rattle.ds_plan.specs.Signed.{signature_by}
use Rattle.ds_plan.specs.Documents.{IsDocument, is_silent}
use Rattle.ds_setup.specs.Lists.{each, joined}
use Rattle.ds_setup.specs.Keys.{lane_tree_of, public_or_none}
use Rattle.ds_setup.specs.Signed.{unsigned_lane, lane_leaf}
use Rattle.ds_setup.specs.Plans.{plan_of, host_setup_of, lane_plan_of, lane_conns, conn_plans_of}
use Rattle.ds_setup.specs.Starts.{start_of, start_host, process_of, worker_of, new_conn}
use Rattle.ds_setup.specs.Setups.{SetupFits}
use Rattle.ds_setup.proofs.Places.{length-each, each_there, each_past, from_each, past, inside, Every, every_append, every_joined, every_each, every_map, one_place}
use Rattle.ds_setup.proofs.Facts.{sizes_at, host_key_fits, key_there, leads, label_fits, has_seed, public_fits, id_length}

module _ (d : Doc) where
  -- ---- the plan by places

  keys_are : all_keys (plan_of d) ≡ host_keys d.hosts
  keys_are = go (host_setup_of d.hosts) d.hosts (λ i x. refl)
    where
      go : (f : ℕ → HostSpec → HostSetup) (hosts : List HostSpec) → ((i : ℕ) (x : HostSpec) → (f i x).key ≡ host_key x) → map (λ x. x.key) (each f hosts) ≡ host_keys hosts
      go f [] same = refl
      go f (x ∷ hosts) same = ap₂ (λ (k : PubKey) (ks : List PubKey). k ∷ ks) (same 0 x) (go (λ j. f (suc j)) hosts (λ j. same (suc j)))

  pub plan_host : (h : ℕ) (x : HostSpec) → slice_get d.hosts h ≡ Some x → host_plan (plan_of d) h ≡ with_keys (all_keys (plan_of d)) (host_setup_of d.hosts h x)
  plan_host h x e = ap (with_keys (all_keys (plan_of d))) (each_there (host_setup_of d.hosts) d.hosts h x no_host e)

  pub no_plan_host : (h : ℕ) → slice_get d.hosts h ≡ None → host_plan (plan_of d) h ≡ with_keys (all_keys (plan_of d)) no_host
  no_plan_host h e = ap (with_keys (all_keys (plan_of d))) (each_past (host_setup_of d.hosts) d.hosts h no_host e)

  pub plan_lane : (h l : ℕ) (x : HostSpec) (lane : LaneSpec) → slice_get d.hosts h ≡ Some x → slice_get x.lanes l ≡ Some lane → lane_plan (host_plan (plan_of d) h) l ≡ lane_plan_of d.hosts x l lane
  plan_lane h l x lane e q = ap (λ p. lane_plan p l) (plan_host h x e) ∙ each_there (lane_plan_of d.hosts x) x.lanes l lane no_lane q

  -- a lane of the plan is one of the document
  pub record LaneOf (h l : ℕ) : Type 0 where
    pub host : HostSpec
    pub lane : LaneSpec
    pub host_there : slice_get d.hosts h ≡ Some host
    pub lane_there : slice_get host.lanes l ≡ Some lane

  pub lane_of : (h l : ℕ) → IsLane (plan_of d) h l → LaneOf h l
  lane_of h l is = go (slice_get d.hosts h) refl
    where
      inner : (x : HostSpec) → slice_get d.hosts h ≡ Some x → (lane : LaneSpec) × (slice_get x.lanes l ≡ Some lane) → LaneOf h l
      inner x e q = record { host = x; lane = q.0; host_there = e; lane_there = q.1 }

      go : (o : Option HostSpec) → slice_get d.hosts h ≡ o → LaneOf h l
      go None e = let none : l < 0 = subst (λ p. l < length p.lanes) (no_plan_host h e) is in absurd (omega (arith, none))
      go (Some x) e =
          let some : l < length (each (lane_plan_of d.hosts x) x.lanes) = subst (λ p. l < length p.lanes) (plan_host h x e) is in
          inner x e (inside x.lanes l (omega (arith, some, length-each (lane_plan_of d.hosts x) x.lanes)))

  pub is_lane : (h l : ℕ) (x : HostSpec) (lane : LaneSpec) → slice_get d.hosts h ≡ Some x → slice_get x.lanes l ≡ Some lane → IsLane (plan_of d) h l
  is_lane h l x lane e q =
      let lt : l < length x.lanes = slice_get_within x.lanes l lane q in
      let there : l < length (each (lane_plan_of d.hosts x) x.lanes) = omega (arith, lt, length-each (lane_plan_of d.hosts x) x.lanes) in
      subst (λ p. l < length p.lanes) (sym (plan_host h x e)) there

  pub is_host : (h : ℕ) (x : HostSpec) → slice_get d.hosts h ≡ Some x → IsHost (plan_of d) h
  is_host h x e = omega (arith, slice_get_within d.hosts h x e, length-each (host_setup_of d.hosts) d.hosts)

  -- a claim of each connection, and of none
  pub each_conn : (P : ConnPlan → Type 0)
      → ((h l : ℕ) (x : HostSpec) (lane : LaneSpec) → slice_get d.hosts h ≡ Some x → slice_get x.lanes l ≡ Some lane → P (record { host = lane.to; source = OfLane h l }))
      → ((host : ℕ) → P (record { host = host; source = Link })) → (k : ℕ) → P (conn_plan (plan_of d) k)
  each_conn P lanes links k = go (slice_get (conn_plans_of d.hosts d.links) k) refl
    where
      every : Every P (conn_plans_of d.hosts d.links)
      every = every_append P (joined (each lane_conns d.hosts)) (map (λ host. record { host = host; source = Link }) d.links)
          (every_joined P (each lane_conns d.hosts) (every_each (Every P) lane_conns d.hosts
          (λ h x e. every_each P (λ l (lane : LaneSpec). record { host = lane.to; source = OfLane h l }) x.lanes (λ l lane q. lanes h l x lane e q))))
          (every_map P (λ host. record { host = host; source = Link }) d.links (λ i host e. links host))

      go : (o : Option ConnPlan) → slice_get (conn_plans_of d.hosts d.links) k ≡ o → P (conn_plan (plan_of d) k)
      go None e = subst P (sym (past (conn_plans_of d.hosts d.links) k no_wire e)) (links 0)
      go (Some c) e = subst P (sym (get_or_from_slice_get (conn_plans_of d.hosts d.links) k c no_wire e)) (every k c e)

module _ (d : Doc) (is : IsDocument d) where
  -- ---- certificates of lanes

  lane_key_fits : (lanekey : Params) (secret : Secret) (number : ℕ) → is_silent secret ≡ false → KeyFits (public_or_none (lane_tree_of lanekey secret number))
  lane_key_fits lanekey (Seed secret) number runs = public_fits lanekey (derived_seed secret number) (derived_id secret number) (id_length secret number)
  lane_key_fits lanekey (Key key) number runs = absurd cc

  short : (identity : Params) (secret : Secret) (leaf : ℕ) (message : List ℕ) → length (signature_by identity secret leaf message) ≤ 2508
  short identity (Seed secret) leaf message = (signature_fits (record { params = identity; seed = derived_seed secret 0; id = derived_id secret 0 }) leaf message).most
  short identity (Key key) leaf message = omega arith

  lane_fits : (h l : ℕ) → LaneOf d h l → LaneCertFits (lane_plan (host_plan (plan_of d) h) l).cert
  lane_fits h l at =
      let x = at.host in
      let lane = at.lane in
      let to = leads d is h l x lane at.host_there at.lane_there in
      let lt : l < length x.lanes = slice_get_within x.lanes l lane at.lane_there in
      let few = (sizes_at d is h x at.host_there).lanes in
      subst (λ p. LaneCertFits p.cert) (sym (plan_lane d h l x lane at.host_there at.lane_there)) (record {
        exporter = host_key_fits d is h x at.host_there;
        receiver = ap (λ (key : PubKey). length key.0) (key_there d.hosts lane.to to.0 to.1) ∙ host_key_fits d is lane.to to.0 to.1;
        label = label_fits d is h l x lane at.host_there at.lane_there;
        key = lane_key_fits x.lanekey x.secret (suc l) (has_seed d is h l x lane at.host_there at.lane_there);
        from = omega arith;
        until = (sizes_at d is h x at.host_there).ends l lane at.lane_there;
        range = record {
          first = omega arith;
          last = omega (arith, lt, few);
          signature = short x.identity x.secret (lane_leaf x (suc l)) (signed_part_of_lane_cert (unsigned_lane d.hosts x (suc l) lane));
        };
      })

  pub spelled_lanes : HasSpelledLanes (plan_of d)
  spelled_lanes h l there = lane_fits h l (lane_of d h l there)

  -- ---- connections

  abbrev Ends : ConnPlan → Type 0
  Ends k = (h l : ℕ) → k.source ≡ OfLane h l → IsLane (plan_of d) h l × IsHost (plan_of d) k.host × ((host_plan (plan_of d) k.host).key ≡ (lane_plan (host_plan (plan_of d) h) l).cert.receiver)

  link_source : (h l : ℕ) → Link ≡ OfLane h l → ⊥
  link_source h l e = absurd cc

  lane_end : (h l : ℕ) (x : HostSpec) (lane : LaneSpec) → slice_get d.hosts h ≡ Some x → slice_get x.lanes l ≡ Some lane → Ends (record { host = lane.to; source = OfLane h l })
  lane_end h l x lane e q g j source =
      let same_host : h ≡ g = cc in
      let same_lane : l ≡ j = cc in
      let to = leads d is h l x lane e q in
      let key : (host_plan (plan_of d) lane.to).key ≡ (lane_plan (host_plan (plan_of d) h) l).cert.receiver =
      ap (λ p. p.key) (plan_host d lane.to to.0 to.1) ∙ (sym (key_there d.hosts lane.to to.0 to.1) ∙ ap (λ (p : LanePlan). p.cert.receiver) (sym (plan_lane d h l x lane e q))) in (
        subst (λ i. IsLane (plan_of d) i j) same_host (subst (λ i. IsLane (plan_of d) h i) same_lane (is_lane d h l x lane e q)),
        is_host d lane.to to.0 to.1,
        subst (λ i. (host_plan (plan_of d) lane.to).key ≡ (lane_plan (host_plan (plan_of d) i) j).cert.receiver) same_host (subst (λ i. (host_plan (plan_of d) lane.to).key ≡ (lane_plan (host_plan (plan_of d) h) i).cert.receiver) same_lane key),
      )

  ends : (k : ℕ) → Ends (conn_plan (plan_of d) k)
  ends = each_conn d Ends (λ h l x lane e q. lane_end h l x lane e q) (λ host h l source. absurd (link_source h l source))

  -- ---- exporter and number

  same_keys : (a b : PubKey) → a ≡ b → same_key a b ≡ true
  same_keys a b e = (bytes_eq-Decides a.0 b.0).1 (ap (λ (key : PubKey). key.0) e)

  one_host : (g h : ℕ) (x y : HostSpec) → slice_get d.hosts g ≡ Some x → slice_get d.hosts h ≡ Some y → host_key x ≡ host_key y → g ≡ h
  one_host g h x y e q same = one_place same_key (host_keys d.hosts) g h (host_key x) (host_key y) is.keys
      (slice_get-map host_key d.hosts g ∙ ap (option_map host_key) e) (slice_get-map host_key d.hosts h ∙ ap (option_map host_key) q)
      (same_keys (host_key x) (host_key y) same) (same_keys (host_key y) (host_key x) (sym same))

  exporter_is : (h l : ℕ) (at : LaneOf d h l) → (lane_plan (host_plan (plan_of d) h) l).cert.exporter ≡ host_key at.host
  exporter_is h l at = ap (λ (p : LanePlan). p.cert.exporter) (plan_lane d h l at.host at.lane at.host_there at.lane_there)

  number_is : (h l : ℕ) (at : LaneOf d h l) → (lane_plan (host_plan (plan_of d) h) l).cert.lane ≡ suc l
  number_is h l at = ap (λ (p : LanePlan). p.cert.lane) (plan_lane d h l at.host at.lane at.host_there at.lane_there)

  pub plan_fits : Fits (plan_of d)
  plan_fits = record {
    ends = λ k h l e. ends k h l e;
    by = λ h l there. let at = lane_of d h l there in exporter_is h l at ∙ ap (λ p. p.key) (sym (plan_host d h at.host at.host_there));
    lanes = λ h l g j one two same number.
        let a = lane_of d h l one in
        let b = lane_of d g j two in
        let numbers : suc l ≡ suc j = sym (number_is h l a) ∙ (number ∙ number_is g j b) in
        (one_host h g a.host b.host a.host_there b.host_there (sym (exporter_is h l a) ∙ (same ∙ exporter_is g j b)), omega (arith, numbers));
  }

  -- ---- the world

  host_there : (h : ℕ) (x : Host) → slice_get (start_of d).hosts h ≡ Some x → (spec : HostSpec) × (slice_get d.hosts h ≡ Some spec) × (start_host d h spec ≡ x)
  host_there h x e = from_each (start_host d) d.hosts h x e

  worker_start : (h l : ℕ) (spec : HostSpec) (w : Worker) → slice_get d.hosts h ≡ Some spec → slice_get (each (worker_of d.hosts spec) spec.lanes) l ≡ Some w → (w.hand ≡ []) × (w.stream ≡ scheme.hello (lane_plan (host_plan (plan_of d) h) l).cert)
  worker_start h l spec w e q =
      let m : (lane : LaneSpec) × (slice_get spec.lanes l ≡ Some lane) × (worker_of d.hosts spec l lane ≡ w) = from_each (worker_of d.hosts spec) spec.lanes l w q in
      (ap (λ (z : Worker). z.hand) (sym m.2), ap (λ (z : Worker). z.stream) (sym m.2) ∙ ap (λ (p : LanePlan). scheme.hello p.cert) (sym (plan_lane d h l spec m.0 e m.1)))

  pub start_fits : IsSetup scheme (plan_of d) (start_of d)
  start_fits = record {
    conn_plans = λ k h l e. (ends k h l e).0;
    procs = λ h x p y there e. let m = host_there h x there in
        every_map (λ (z : Process). z.hand ≡ None) (process_of m.0.map) m.0.procs (λ i z q. refl) p y (ap (λ (z : Host). slice_get z.procs p) m.2 ∙ e);
    queues = λ h x l q there e. let m = host_there h x there in
        every_map (λ (z : Queue). z ≡ []) (λ (lane : LaneSpec). []) m.0.lanes (λ i z q. refl) l q (ap (λ (z : Host). slice_get z.queues l) m.2 ∙ e);
    workers = λ h x l w there e. let m = host_there h x there in worker_start h l m.0 w m.1 (ap (λ (z : Host). slice_get z.workers l) m.2 ∙ e);
    conns = λ k y e. every_map (λ (z : Conn). (z.hand ≡ []) × (z.passed ≡ None)) (λ (c : ConnPlan). new_conn) (conn_plans_of d.hosts d.links) (λ i z q. (refl, refl)) k y e;
  }

  pub setup_fits : SetupFits d
  setup_fits = record { lanes = spelled_lanes; plan = plan_fits; start = start_fits }
