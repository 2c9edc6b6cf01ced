-- The host that an exporter begins as is setup's.
use Rattle.std.proofs.Common.{◌≡◌, ℕ, zero, suc, ◌+◌, ◌<◌, Bool, true, false, List, [], ◌∷◌, length, map, Some, None, slice_get, refl, sym, ◌∙◌, ap, subst, arith}
use Rattle.std.specs.Prelude.{◌||◌, All, nat_eq, not, replicate}
use Rattle.std.proofs.lemmas.Bool.{and_parts, cond-false, cond-true, eqb-true}
use Rattle.lms_sig.specs.declared.params.Params.{Params}
use Rattle.lms_state.specs.Signers.{next_signature}
use Rattle.ds_cert.specs.Spelling.{signed_part_of_lane_cert}
use Rattle.ds_label.specs.declared.category.PubKey.{PubKey}
use Rattle.ds_label.specs.declared.category.Category.{Category}
use Rattle.ds_cert.specs.declared.lane.LaneCert.{LaneCert}
use Rattle.ds_model.specs.Desk.{Desk}
use Rattle.ds_model.specs.Plan.{all_keys, host_plan}
use Rattle.ds_map.specs.Table.{IsTable}
use Rattle.ds_script.specs.Replay.{last_of}
use Rattle.ds_desk.specs.declared.act.DeskEntry.{DeskEntry}
use Rattle.ds_desk.specs.Desks.{DeskView, stamp_of}
use Rattle.ds_desk.specs.Signing.{signing_of}
use Rattle.ds_exporter.specs.PlainHosts.{category_of, host_of, log_of, name_of_inlet, plain_box, plain_inlet, plain_process, plain_queue, plain_worker, plan_of_box, plan_of_lane, site_of}
use Rattle.ds_exporter.specs.Stamping.{IsBefore, IsBoxBefore, IsInletBefore, IsLaneBefore}
use Rattle.ds_scheme.specs.TheScheme.{scheme}
use Rattle.ds_plan.specs.declared.doc.Doc.{Doc}
use Rattle.ds_plan.specs.declared.host.HostSpec.{HostSpec}
use Rattle.ds_plan.specs.declared.host.LaneSpec.{LaneSpec}
use Rattle.ds_plan.specs.declared.host.Secret.{Secret}
use Rattle.ds_plan.specs.declared.host.Secret.TheVariants.{Seed, Key as Public}
use Rattle.ds_plan.specs.declared.process.ProcSpec.{ProcSpec}
use Rattle.ds_plan.specs.declared.process.BoxSpec.{BoxSpec}
use Rattle.ds_plan.specs.Keys.{host_key, host_keys, identity_of}
use Rattle.ds_plan.specs.Signed.{signature_by}
use Rattle.ds_plan.specs.Documents.{IsDocument, is_bare, is_bare_if_silent, is_silent}
use Rattle.ds_setup.specs.Lists.{each}
use Rattle.ds_setup.specs.Keys.{lane_tree_of, signing_key, signing_or_none}
use Rattle.ds_setup.specs.Signed.{address_leaves, lane_leaf, signed_lane, unsigned_lane}
use Rattle.ds_setup.specs.Plans.{box_plan_of, host_setup_of, inlets_of, lane_plan_of, plan_of}
use Rattle.ds_setup.specs.Starts.{empty_desk, process_of, running_desk, start_desk, start_host, worker_of}
use Rattle.ds_setup.proofs.Places.{test_at}
use Rattle.ds_setup.proofs.Setups.{plan_host}
use Rattle.ds_boot.specs.Signers.{identity_tree, signing_at, tree_or_none}
use Rattle.ds_boot.specs.Signing.{lane_by}
use Rattle.ds_boot.specs.Lanes.{lane_begun, lane_cert, lanes_begun}
use Rattle.ds_boot.specs.Desks.{IsDeskOf}
use Rattle.ds_boot.specs.Parts.{box_begun, inlet_begun, process_begun, usable_of}
use Rattle.ds_boot.specs.Beginnings.{state_begun}
use Rattle.ds_hosts.specs.Nodes.{silent_host}
use Rattle.ds_boot.proofs.Inlets.{inlets_silent}
use Rattle.ds_boot.proofs.Named.{box_label, names_back, proc_labels}

-- ---- lists of things that are seen through functions

pub map_twice : {A B C : Type 0} (f : B → C) (g : A → B) (k : A → C) (xs : List A) → ((i : ℕ) (x : A) → slice_get xs i ≡ Some x → f (g x) ≡ k x) → map f (map g xs) ≡ map k xs
map_twice f g k [] same = refl
map_twice f g k (x ∷ xs) same = λ j. same 0 x refl j ∷ map_twice f g k xs (λ i y e. same (suc i) y e) j

pub map_each : {A B C : Type 0} (f : B → C) (g : ℕ → A → B) (k : ℕ → A → C) (xs : List A) → ((i : ℕ) (x : A) → slice_get xs i ≡ Some x → f (g i x) ≡ k i x) → map f (each g xs) ≡ each k xs
map_each f g k [] same = refl
map_each f g k (x ∷ xs) same = λ j. same 0 x refl j ∷ map_each f (λ i. g (suc i)) (λ i. k (suc i)) xs (λ i y e. same (suc i) y e) j

pub map_each_plain : {A B C : Type 0} (f : B → C) (g : ℕ → A → B) (k : A → C) (xs : List A) → ((i : ℕ) (x : A) → slice_get xs i ≡ Some x → f (g i x) ≡ k x) → map f (each g xs) ≡ map k xs
map_each_plain f g k [] same = refl
map_each_plain f g k (x ∷ xs) same = λ j. same 0 x refl j ∷ map_each_plain f (λ i. g (suc i)) k xs (λ i y e. same (suc i) y e) j

pub map_same : {A : Type 0} (xs : List A) → map (λ x. x) xs ≡ xs
map_same [] = refl
map_same (x ∷ xs) = ap (λ ys. x ∷ ys) (map_same xs)

length_mapped : {A B : Type 0} (f : A → B) (xs : List A) → length (map f xs) ≡ length xs
length_mapped f [] = refl
length_mapped f (x ∷ xs) = ap suc (length_mapped f xs)

-- ---- a lane's certificate is setup's

signed_same : (identity : Params) (s : Secret) (leaf other : ℕ) (message : List ℕ) → is_silent s ≡ false → leaf ≡ other →
    signature_by identity s leaf message ≡ next_signature (signing_at other (tree_or_none (identity_of identity s))) message
signed_same identity (Seed secret) leaf other message runs e = ap (λ l. signature_by identity (Seed secret) l message) e
signed_same identity (Public key) leaf other message runs e = absurd cc

pub cert_is : (hosts : List HostSpec) (h : HostSpec) (place : ℕ) (lane : LaneSpec) → is_silent h.secret ≡ false → lane_cert (host_keys hosts) h place lane ≡ signed_lane hosts h (suc place) lane
cert_is hosts h place lane runs =
    let number : place + 1 ≡ suc place = omega arith in
    let leaf : lane_leaf h (suc place) ≡ address_leaves h + place = omega arith in
    ap (λ n. lane_by (signing_at (address_leaves h + place) (identity_tree h)) (unsigned_lane hosts h n lane)) number
    ∙ ap (λ (made : List ℕ). record (unsigned_lane hosts h (suc place) lane) { signature = made }) (sym (signed_same h.identity h.secret (lane_leaf h (suc place)) (address_leaves h + place) (signed_part_of_lane_cert (unsigned_lane hosts h (suc place) lane)) runs leaf))

-- ---- what holds of each

pub every_map : {A B : Type 0} (P : B → Type 0) (f : A → B) (xs : List A) → ((i : ℕ) (x : A) → slice_get xs i ≡ Some x → P (f x)) → All P (map f xs)
every_map P f [] at i d lt = absurd (omega (arith, lt))
every_map P f (x ∷ xs) at zero d lt = at 0 x refl
every_map P f (x ∷ xs) at (suc i) d lt = every_map P f xs (λ j y e. at (suc j) y e) i d (omega (arith, lt))

pub every_each : {A B : Type 0} (P : B → Type 0) (f : ℕ → A → B) (xs : List A) → ((i : ℕ) (x : A) → slice_get xs i ≡ Some x → P (f i x)) → All P (each f xs)
every_each P f [] at i d lt = absurd (omega (arith, lt))
every_each P f (x ∷ xs) at zero d lt = at 0 x refl
every_each P f (x ∷ xs) at (suc i) d lt = every_each P (λ j. f (suc j)) xs (λ j y e. at (suc j) y e) i d (omega (arith, lt))

none_left : {A : Type 0} (xs : List A) → length xs ≡ 0 → xs ≡ []
none_left [] e = refl
none_left (x ∷ xs) e = absurd (omega (arith, e))

-- a silent host has nothing
record Bare (h : HostSpec) : Type 0 where
  procs : h.procs ≡ []
  boxes : h.boxes ≡ []
  lanes : h.lanes ≡ []

bare_of : (h : HostSpec) → is_bare h ≡ true → Bare h
bare_of h all =
    let a = and_parts _ _ all in
    let m = and_parts _ _ a.0 in
    let i = and_parts _ _ m.0 in
    let l = and_parts _ _ i.0 in
    let b = and_parts (nat_eq (length h.procs) 0) (nat_eq (length h.boxes) 0) l.0 in
    record {
      procs = none_left h.procs (eqb-true (length h.procs) 0 b.0);
      boxes = none_left h.boxes (eqb-true (length h.boxes) 0 b.1);
      lanes = none_left h.lanes (eqb-true (length h.lanes) 0 l.1);
    }

bare_now : (d : Doc) → IsDocument d → (place : ℕ) (h : HostSpec) → slice_get d.hosts place ≡ Some h → is_silent h.secret ≡ true → Bare h
bare_now d is place h there silent = bare_of h (go (is_silent h.secret) silent (test_at is_bare_if_silent d.hosts place h is.silent there))
  where
    go : (b : Bool) → b ≡ true → (not b || is_bare h) ≡ true → is_bare h ≡ true
    go true e t = t
    go false e t = absurd cc

pub silent_lanes : (d : Doc) → IsDocument d → (place : ℕ) (h : HostSpec) → slice_get d.hosts place ≡ Some h → is_silent h.secret ≡ true → h.lanes ≡ []
silent_lanes d is place h there silent = (bare_now d is place h there silent).lanes

-- ---- a running host

module _ (d : Doc) (is : IsDocument d) (place : ℕ) (h : HostSpec) (there : slice_get d.hosts place ≡ Some h) (runs : is_silent h.secret ≡ false) where
  abbrev here : PubKey
  here = host_key h

  -- ---- processes and mailboxes

  usable_names : (rows cs : List Category) → map category_of (map (usable_of here rows) cs) ≡ cs
  usable_names rows [] = refl
  usable_names rows (c ∷ cs) = ap (λ (ys : List Category). c ∷ ys) (usable_names rows cs)

  module _ (table : IsTable here h.map) where
    process_is : (i : ℕ) (p : ProcSpec) → slice_get h.procs i ≡ Some p → plain_process here h.map (process_begun here h.map p) ≡ process_of h.map p
    process_is i p at =
        let l = proc_labels d is place h there i p at in
        let label = names_back here h.map table p.label l.label_up l.label in
        let own = names_back here h.map table p.own l.own_up l.own in
        let clear = names_back here h.map table p.clear l.clear_up l.clear in
        λ j. record {
          script = p.script;
          course = record { place = 0; registers = replicate 8 []; notes = [] };
          label = label j;
          own = own j;
          clear = clear j;
          names = usable_names h.map h.map j;
          made = p.made;
          hand = None;
        }

    box_plan_is : (i : ℕ) (b : BoxSpec) → slice_get h.boxes i ≡ Some b → plan_of_box here h.map (box_begun here h.map b) ≡ box_plan_of b
    box_plan_is i b at =
        let l = box_label d is place h there i b at in
        let label = names_back here h.map table b.label l.up l.label in
        λ j. record { slot = b.slot; owner = b.owner; label = label j; room = b.room }

  -- ---- lanes

  worker_is : (i : ℕ) (lane : LaneSpec) → slice_get h.lanes i ≡ Some lane → plain_worker (lane_begun (host_keys d.hosts) place h i lane) ≡ worker_of d.hosts h i lane
  worker_is i lane at = ap (λ (cert : LaneCert). record { hand = []; leaf = 0; stream = scheme.hello cert }) (cert_is d.hosts h i lane runs)

  lane_signs : (lanekey : Params) (s : Secret) (number other : ℕ) → is_silent s ≡ false → number ≡ other → signing_of (tree_or_none (lane_tree_of lanekey s number)) ≡ signing_or_none (lane_tree_of lanekey s other)
  lane_signs lanekey (Seed secret) number other loud e = ap (λ n. signing_or_none (lane_tree_of lanekey (Seed secret) n)) e
  lane_signs lanekey (Public key) number other loud e = absurd cc

  lane_plan_is : (i : ℕ) (lane : LaneSpec) → slice_get h.lanes i ≡ Some lane → plan_of_lane (lane_begun (host_keys d.hosts) place h i lane) ≡ lane_plan_of d.hosts h i lane
  lane_plan_is i lane at =
      let cert = cert_is d.hosts h i lane runs in
      let number : i + 1 ≡ suc i = omega arith in
      let signing = lane_signs h.lanekey h.secret (i + 1) (suc i) runs number in
      λ j. record { cert = cert j; signing = signing j; room = lane.room }

  -- ---- the whole host

  pub host_now : (k : DeskView) → IsDeskOf d place h k → host_of (state_begun d place h k) ≡ start_host d place h
  host_now k desk =
      let rows : k.desk.rows ≡ h.map = ap (λ (x : Desk). x.rows) desk.desk in
      let start : k.desk ≡ start_desk d place h = desk.desk ∙ sym (cond-false (is_silent h.secret) empty_desk (running_desk d place h) runs) in
      let procs = map_twice (plain_process here h.map) (process_begun here h.map) (process_of h.map) h.procs (process_is desk.rows) in
      let boxes : map (plain_box here h.map) (map (box_begun here h.map) h.boxes) ≡ map (λ b. record { waiting = []; entries = [] }) h.boxes = map_twice (plain_box here h.map) (box_begun here h.map) (λ b. record { waiting = []; entries = [] }) h.boxes (λ i b at. refl) in
      let workers = map_each plain_worker (lane_begun (host_keys d.hosts) place h) (worker_of d.hosts h) h.lanes worker_is in
      (λ j. record {
        desk = start j;
        procs = map (plain_process (desk.here j) (rows j)) (map (process_begun here h.map) h.procs);
        boxes = map (plain_box (desk.here j) (rows j)) (map (box_begun here h.map) h.boxes);
        queues = map plain_queue (lanes_begun (host_keys d.hosts) place h);
        workers = map plain_worker (lanes_begun (host_keys d.hosts) place h);
        logs = map log_of (lanes_begun (host_keys d.hosts) place h);
        inlets = map plain_inlet (map inlet_begun (inlets_of d.hosts place h));
      })
      ∙ (λ j. record {
        desk = start_desk d place h;
        procs = procs j;
        boxes = boxes j;
        queues = map_each_plain plain_queue (lane_begun (host_keys d.hosts) place h) (λ l. []) h.lanes (λ i lane at. refl) j;
        workers = workers j;
        logs = map_each_plain log_of (lane_begun (host_keys d.hosts) place h) (λ l. []) h.lanes (λ i lane at. refl) j;
        inlets = map_twice plain_inlet inlet_begun (λ i. None) (inlets_of d.hosts place h) (λ i name at. refl) j;
      })

  -- ---- what setup fixed

  identity_signs : (identity : Params) (s : Secret) → is_silent s ≡ false → signing_of (tree_or_none (identity_of identity s)) ≡ signing_or_none (identity_of identity s)
  identity_signs identity (Seed secret) loud = refl
  identity_signs identity (Public key) loud = absurd cc

  keys_are : all_keys (plan_of d) ≡ host_keys d.hosts
  keys_are = map_each_plain (λ x. x.key) (host_setup_of d.hosts) host_key d.hosts (λ i x at. refl)

  pub site_now : (k : DeskView) → IsDeskOf d place h k → site_of (state_begun d place h k) ≡ host_plan (plan_of d) place
  site_now k desk =
      let rows : k.desk.rows ≡ h.map = ap (λ (x : Desk). x.rows) desk.desk in
      let loud : false ≡ is_silent h.secret = sym runs in
      let keys_back : host_keys d.hosts ≡ all_keys (plan_of d) = sym keys_are in
      let signing : signing_of k.key ≡ signing_key h = ap signing_of desk.key ∙ identity_signs h.identity h.secret runs in
      let boxes = map_twice (plan_of_box here h.map) (box_begun here h.map) box_plan_of h.boxes (box_plan_is desk.rows) in
      let boxes_from : map (plan_of_box k.here k.desk.rows) (map (box_begun here h.map) h.boxes) ≡ map box_plan_of h.boxes = (λ j. map (plan_of_box (desk.here j) (rows j)) (map (box_begun here h.map) h.boxes)) ∙ boxes in
      let lanes = map_each plan_of_lane (lane_begun (host_keys d.hosts) place h) (lane_plan_of d.hosts h) h.lanes lane_plan_is in
      let names : map name_of_inlet (map inlet_begun (inlets_of d.hosts place h)) ≡ inlets_of d.hosts place h = map_twice name_of_inlet inlet_begun (λ x. x) (inlets_of d.hosts place h) (λ i name at. refl) ∙ map_same (inlets_of d.hosts place h) in
      (λ j. record {
        key = desk.here j;
        silent = loud j;
        signing = signing j;
        keys = keys_back j;
        procs = length_mapped (process_begun here h.map) h.procs j;
        boxes = boxes_from j;
        lanes = lanes j;
        inlets = names j;
      })
      ∙ sym (plan_host d place h there)

  -- ---- nothing is entered

  pub before_now : (k : DeskView) → IsDeskOf d place h k → IsBefore 1 (state_begun d place h k)
  before_now k desk = record {
    desk = subst (λ n. n < 1) (sym (last_is k.opening.before k.history desk.before desk.history)) (omega arith);
    boxes = every_map (IsBoxBefore 1) (box_begun here h.map) h.boxes (λ i b at. omega arith);
    lanes = every_each (IsLaneBefore 1) (lane_begun (host_keys d.hosts) place h) h.lanes (λ i lane at. record { last = omega arith; senders = λ i d lt. absurd (omega (arith, lt)); worker = λ i d lt. absurd (omega (arith, lt)) });
    inlets = every_map (IsInletBefore 1) inlet_begun (inlets_of d.hosts place h) (λ i name at. omega arith);
  }
    where
      last_is : (before : ℕ) (history : List DeskEntry) → before ≡ 0 → history ≡ [] → last_of stamp_of before history ≡ 0
      last_is before history b e = ap (λ (xs : List DeskEntry). last_of stamp_of before xs) e ∙ b

-- ---- a silent host

pub silent_now : (d : Doc) → IsDocument d → (place : ℕ) (h : HostSpec) → slice_get d.hosts place ≡ Some h → is_silent h.secret ≡ true → start_host d place h ≡ silent_host
silent_now d is place h there silent =
    let bare = bare_now d is place h there silent in
    let desk : start_desk d place h ≡ empty_desk = cond-true (is_silent h.secret) empty_desk (running_desk d place h) silent in
    let inlets : inlets_of d.hosts place h ≡ [] = sym (inlets_silent d.hosts place h [] silent refl) in
    λ j. record {
      desk = desk j;
      procs = map (process_of h.map) (bare.procs j);
      boxes = map (λ b. record { waiting = []; entries = [] }) (bare.boxes j);
      queues = map (λ l. []) (bare.lanes j);
      workers = each (worker_of d.hosts h) (bare.lanes j);
      logs = map (λ l. []) (bare.lanes j);
      inlets = map (λ i. None) (inlets j);
    }
