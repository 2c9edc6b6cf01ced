-- What a document that was read keeps, host by host.
use Rattle.std.proofs.Common.{◌≡◌, ℕ, suc, ◌+◌, ◌/◌, ◌%◌, ◌^◌, ◌<◌, ◌≤◌, Bool, true, false, List, [], ◌∷◌, ◌++◌, length, length-append, map, Option, Some, None, slice_get, option_map, refl, sym, ◌∙◌, ap, subst, arith}
use Rattle.std.specs.Prelude.{◌&&◌, ◌||◌, not, nat_le, nat_lt, is_some, cond, min}
use Rattle.std.proofs.lemmas.List.{length-take}
use Rattle.std.specs.List.{list_all, AllByRecursion}
use Rattle.std.proofs.lemmas.Bool.{and_parts, ltb-true, leb-true, eqb-true}
use Rattle.std.proofs.lemmas.Option.{none-some, same_Some, slice_get-map, slice_get_within, get_or_from_slice_get}
use Rattle.std.proofs.lemmas.Slice.Eq.{bytes_eq-Decides}
use Rattle.lms_sig.specs.declared.params.Params.{Params}
use Rattle.lms_sig.specs.Keys.{derived_seed, derived_id}
use Rattle.lms_sig.specs.Merkle.{T, public_key}
use Rattle.lms_sig.specs.Parameters.{lms_code, ots_code, height, leaf_count}
use Rattle.lms_sig.specs.Strings.{u32str}
use Rattle.lms_sig.proofs.Lengths.{length-T, length-sha256, length-u32str}
use Rattle.ds_label.specs.declared.category.PubKey.{PubKey}
use Rattle.ds_label.specs.declared.category.Category.{Category}
use Rattle.ds_cert.specs.Ranges.{KeyFits, CategoryFits, LabelFits}
use Rattle.ds_plan.specs.declared.doc.Doc.{Doc}
use Rattle.ds_plan.specs.declared.host.HostSpec.{HostSpec}
use Rattle.ds_plan.specs.declared.host.LaneSpec.{LaneSpec}
use Rattle.ds_plan.specs.declared.host.Secret.{Secret}
use Rattle.ds_plan.specs.declared.host.Secret.TheVariants.{Seed, Key}
use Rattle.ds_plan.specs.declared.maker.Maker.{Maker}
use Rattle.ds_plan.specs.Keys.{key_of, host_key, host_keys, same_key}
use Rattle.ds_plan.specs.Categories.{Origin, origin, place_of_key, is_in_range, has_maker, host_maker, is_place}
use Rattle.ds_plan.specs.Documents.{IsDocument, IsLabel, HasLabels, has_secret_length, has_host_sizes, is_between, named_hosts, script_hosts, state_categories, lane_categories, script_categories, is_known_in, makers, is_silent, is_bare, is_bare_if_silent, host_has_leaves, signers_of, signatures}
use Rattle.ds_setup.specs.Keys.{key_at}
use Rattle.ds_setup.proofs.Places.{test_at, test_append, test_flat, all_at, place_at, inside, from_map}

-- keys

pub id_length : (secret : List ℕ) (index : ℕ) → length (derived_id secret index) ≡ 16
unfolding derived_id
id_length secret index = length-take 16 _ ∙ ap (λ (n : ℕ). min 16 n) (length-sha256 _)

pub public_fits : (params : Params) (seed id : List ℕ) → length id ≡ 16 → length (public_key params seed id) ≡ 56
unfolding public_key
public_fits params seed id size =
    let lms = u32str (lms_code params.lms) in
    let ots = u32str (ots_code params.ots) in
    let root = T params seed id (height params.lms) 1 in
    omega (arith, length-append (lms ++ ots ++ id) root, length-append (lms ++ ots) id, length-append lms ots, length-u32str (lms_code params.lms), length-u32str (ots_code params.ots), length-T params seed id (height params.lms) 1, size)

pub key_fits : (identity : Params) (secret : Secret) → has_secret_length secret ≡ true → KeyFits (key_of identity secret)
key_fits identity (Seed secret) size = public_fits identity (derived_seed secret 0) (derived_id secret 0) (id_length secret 0)
key_fits identity (Key key) size = eqb-true (length key.0) 56 size

pub key_there : (hosts : List HostSpec) (place : ℕ) (h : HostSpec) → slice_get hosts place ≡ Some h → key_at hosts place ≡ host_key h
key_there hosts place h e = get_or_from_slice_get (host_keys hosts) place (host_key h) _ (slice_get-map host_key hosts place ∙ ap (option_map host_key) e)

-- the sizes of a host
pub record Sizes (h : HostSpec) : Type 0 where
  pub secret : has_secret_length h.secret ≡ true
  pub lanes : length h.lanes ≤ 32
  pub ends : (l : ℕ) (lane : LaneSpec) → slice_get h.lanes l ≡ Some lane → lane.until < 2 ^ 64

lane_ends : (h : HostSpec) → list_all (λ l. is_between 1 256 l.room && nat_lt l.until (2 ^ 64)) h.lanes ≡ true → (l : ℕ) (lane : LaneSpec) → slice_get h.lanes l ≡ Some lane → lane.until < 2 ^ 64
lane_ends h all l lane e = ltb-true lane.until (2 ^ 64) (and_parts (is_between 1 256 lane.room) (nat_lt lane.until (2 ^ 64)) (test_at (λ (l : LaneSpec). is_between 1 256 l.room && nat_lt l.until (2 ^ 64)) h.lanes l lane all e)).1

pub sizes : (h : HostSpec) → has_host_sizes h ≡ true → Sizes h
sizes h all =
    let i = and_parts _ _ all in
    let l = and_parts _ _ i.0 in
    let b = and_parts _ _ l.0 in
    let p = and_parts _ _ b.0 in
    let a = and_parts _ _ p.0 in
    let s = and_parts _ _ a.0 in
    let n = and_parts _ _ s.0 in
    let inl' = and_parts _ _ n.0 in
    let lns = and_parts _ _ inl'.0 in
    record { secret = s.1; lanes = leb-true (length h.lanes) 32 lns.1; ends = lane_ends h l.1 }

-- the first key that is the same, where there is one
pub found_key : (keys : List PubKey) (key found : PubKey) → slice_get keys (place_of_key keys key) ≡ Some found → same_key found key ≡ true
found_key [] key found e = absurd (none-some found e)
found_key (k ∷ keys) key found e = go (found_key keys key found) (same_key k key) refl e
  where
    go : (slice_get keys (place_of_key keys key) ≡ Some found → same_key found key ≡ true) → (b : Bool) → same_key k key ≡ b → slice_get (k ∷ keys) (cond b 0 (suc (place_of_key keys key))) ≡ Some found → same_key found key ≡ true
    go later true s r = subst (λ z. same_key z key ≡ true) (same_Some k found r) s
    go later false s r = later r

bare_lanes : (h : HostSpec) → is_bare h ≡ true → length h.lanes ≡ 0
bare_lanes h all =
    let a = and_parts _ _ all in
    let m = and_parts _ _ a.0 in
    let i = and_parts _ _ m.0 in
    let lanes = and_parts _ _ i.0 in
    eqb-true (length h.lanes) 0 lanes.1

module _ (d : Doc) (is : IsDocument d) where
  pub sizes_at : (place : ℕ) (h : HostSpec) → slice_get d.hosts place ≡ Some h → Sizes h
  sizes_at place h e = sizes h (test_at has_host_sizes d.hosts place h is.host_sizes e)

  pub host_key_fits : (place : ℕ) (h : HostSpec) → slice_get d.hosts place ≡ Some h → KeyFits (host_key h)
  host_key_fits place h e = key_fits h.identity h.secret (sizes_at place h e).secret

  -- where a lane leads there is a host
  pub leads : (place l : ℕ) (h : HostSpec) (lane : LaneSpec) → slice_get d.hosts place ≡ Some h → slice_get h.lanes l ≡ Some lane → (to : HostSpec) × (slice_get d.hosts lane.to ≡ Some to)
  leads place l h lane e q =
      let named : list_all (λ n. is_place n d.hosts) (named_hosts h) ≡ true = test_at (λ (h : HostSpec). list_all (λ n. is_place n d.hosts) (named_hosts h)) d.hosts place h is.hosts e in
      let front = (test_append (λ n. is_place n d.hosts) (map (λ (l : LaneSpec). l.to) h.lanes ++ map (λ i. i.from) h.inlets) (script_hosts h) named).0 in
      let first = (test_append (λ n. is_place n d.hosts) (map (λ (l : LaneSpec). l.to) h.lanes) (map (λ i. i.from) h.inlets) front).0 in
      let there : slice_get (map (λ (l : LaneSpec). l.to) h.lanes) l ≡ Some lane.to = slice_get-map (λ (l : LaneSpec). l.to) h.lanes l ∙ ap (option_map (λ (l : LaneSpec). l.to)) q in
      inside d.hosts lane.to (ltb-true lane.to (length d.hosts) (test_at (λ n. is_place n d.hosts) (map (λ (l : LaneSpec). l.to) h.lanes) l lane.to first there))

  -- labels

  has_host : (o : Origin) (m : Option Maker) → has_maker o m ≡ true → (x : Maker) × (m ≡ Some x)
  has_host o None e = absurd cc
  has_host o (Some x) e = (x, refl)

  category_fits : (c : Category) → is_known_in d c ≡ true → CategoryFits c
  category_fits c known =
      let o = origin (host_keys d.hosts) c in
      let both = and_parts (is_in_range o) (has_maker o (slice_get (makers d) o.host)) known in
      let range = and_parts (nat_le o.process 1000000) (nat_le o.number 2147483647) both.0 in
      let high : c.number / 2 ^ 32 ≤ 1000000 = leb-true _ _ range.0 in
      let low : c.number % 2 ^ 32 ≤ 2147483647 = leb-true _ _ range.1 in
      let m = has_host o (slice_get (makers d) o.host) both.1 in
      let h : (x : HostSpec) × (slice_get d.hosts o.host ≡ Some x) × (host_maker x ≡ m.0) = from_map host_maker d.hosts o.host m.0 m.1 in
      let there : slice_get (host_keys d.hosts) o.host ≡ Some (host_key h.0) = slice_get-map host_key d.hosts o.host ∙ ap (option_map host_key) h.1 in
      let same : (host_key h.0).0 ≡ c.creator.0 = (bytes_eq-Decides (host_key h.0).0 c.creator.0).0 (found_key (host_keys d.hosts) c.creator (host_key h.0) there) in
      record {
        creator = sym (ap (λ (key : List ℕ). length key) same) ∙ host_key_fits o.host h.0 h.1;
        number = omega (arith, high, low);
      }

  each_fits : (members : List Category) → list_all (is_known_in d) members ≡ true → AllByRecursion CategoryFits members
  each_fits [] all = tt
  each_fits (c ∷ members) all = let both = and_parts (is_known_in d c) (list_all (is_known_in d) members) all in (category_fits c both.0, each_fits members both.1)

  pub label_fits : (place l : ℕ) (h : HostSpec) (lane : LaneSpec) → slice_get d.hosts place ≡ Some h → slice_get h.lanes l ≡ Some lane → LabelFits lane.label
  label_fits place l h lane e q =
      let label : IsLabel lane.label = all_at (λ (l : LaneSpec). IsLabel l.label) h.lanes l lane (all_at HasLabels d.hosts place h is.labels e).lanes q in
      let known : list_all (is_known_in d) (h.map ++ state_categories h ++ lane_categories h ++ script_categories h) ≡ true = test_at (λ (h : HostSpec). list_all (is_known_in d) (h.map ++ state_categories h ++ lane_categories h ++ script_categories h)) d.hosts place h is.known e in
      let front = (test_append (is_known_in d) (h.map ++ state_categories h ++ lane_categories h) (script_categories h) known).0 in
      let lanes = (test_append (is_known_in d) (h.map ++ state_categories h) (lane_categories h) front).1 in
      record { count = label.0; each = each_fits lane.label (test_flat (is_known_in d) (λ (l : LaneSpec). l.label) h.lanes l lane lanes q); rising = label.1 }

  -- a host with a lane runs
  pub has_seed : (place l : ℕ) (h : HostSpec) (lane : LaneSpec) → slice_get d.hosts place ≡ Some h → slice_get h.lanes l ≡ Some lane → is_silent h.secret ≡ false
  has_seed place l h lane e q = go (is_silent h.secret) (test_at is_bare_if_silent d.hosts place h is.silent e)
    where
      some : length h.lanes ≡ 0 → ⊥
      some none = let lt : l < length h.lanes = slice_get_within h.lanes l lane q in omega (arith, none, lt)

      go : (b : Bool) → (not b || is_bare h) ≡ true → b ≡ false
      go false t = refl
      go true t = absurd (some (bare_lanes h t))

  -- its key has a leaf for each signature
  pub enough_leaves : (place : ℕ) (h : HostSpec) → slice_get d.hosts place ≡ Some h → is_silent h.secret ≡ false → signatures (signers_of d.certs) place (is_some h.address) (length h.lanes) ≤ leaf_count h.identity.lms
  enough_leaves place h e runs = go (is_silent h.secret) runs (place_at (host_has_leaves (signers_of d.certs)) 0 d.hosts place h is.leaves e)
    where
      go : (b : Bool) → b ≡ false → (b || nat_le (signatures (signers_of d.certs) (0 + place) (is_some h.address) (length h.lanes)) (leaf_count h.identity.lms)) ≡ true → signatures (signers_of d.certs) place (is_some h.address) (length h.lanes) ≤ leaf_count h.identity.lms
      go true f t = absurd cc
      go false f t = subst (λ k. signatures (signers_of d.certs) k (is_some h.address) (length h.lanes) ≤ leaf_count h.identity.lms) (let same : 0 + place ≡ place = omega arith in same) (leb-true _ _ t)
