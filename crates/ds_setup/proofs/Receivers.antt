-- A running host to which a lane leads is the lane's receiver.
use Rattle.std.proofs.Common.{◌≡◌, ℕ, zero, suc, ◌+◌, ◌<◌, Bool, true, false, cond, List, [], ◌∷◌, ◌++◌, length, map, Some, None, slice_get, option_map, refl, sym, ◌∙◌, ap, subst, arith, eqb, eq-eqb}
use Rattle.std.specs.Prelude.{◌&&◌, ◌||◌, not, nat_lt, position}
use Rattle.std.specs.List.{list_any, position_or_len}
use Rattle.std.proofs.lemmas.Bool.{and_from, or_left, or_right, lt-ltb, cond-true}
use Rattle.std.proofs.lemmas.List.Folds.{list_any-append}
use Rattle.std.proofs.lemmas.Option.{none-some, same_Some, slice_get-map, slice_get_within}
use Rattle.std.proofs.lemmas.Slice.Eq.{bytes_eq-Decides}
use Rattle.lms_sig.specs.declared.params.Params.{Params}
use Rattle.lms_sig.specs.Keys.{Key as TreeKey, derived_seed, derived_id}
use Rattle.lms_sig.specs.Merkle.{public_key}
use Rattle.lms_sig.specs.Parameters.{leaf_count}
use Rattle.lms_sig.proofs.Goods.{signature-good}
use Rattle.ds_label.specs.declared.category.PubKey.{PubKey}
use Rattle.ds_cert.specs.Ranges.{LaneCertFits}
use Rattle.ds_cert.specs.Spelling.{signed_part_of_lane_cert}
use Rattle.ds_frame.proofs.Goods.{test_from_good}
use Rattle.ds_frame.specs.Checks.{is_good}
use Rattle.ds_model.specs.Keys.{same_key}
use Rattle.ds_model.specs.Scheme.{InletName}
use Rattle.ds_model.specs.Plan.{HostPlan, LanePlan, ConnPlan, Link, OfLane, all_keys, with_keys, host_plan, lane_plan, conn_plan}
use Rattle.ds_desk.specs.Signing.{key_of as tree_of}
use Rattle.ds_desk.proofs.Grows.{key_again}
use Rattle.ds_scheme.specs.Receivers.{IsReceiver}
use Rattle.ds_scheme.specs.TheScheme.{scheme}
use Rattle.ds_plan.specs.declared.doc.Doc.{Doc}
use Rattle.ds_plan.specs.declared.host.HostSpec.{HostSpec}
use Rattle.ds_plan.specs.declared.host.LaneSpec.{LaneSpec}
use Rattle.ds_plan.specs.declared.host.Secret.{Secret}
use Rattle.ds_plan.specs.declared.host.Secret.TheVariants.{Seed, Key}
use Rattle.ds_plan.specs.Keys.{key_of, host_key}
use Rattle.ds_plan.specs.Signed.{signature_by}
use Rattle.ds_plan.specs.Documents.{IsDocument, is_silent}
use Rattle.ds_setup.specs.Lists.{each, joined}
use Rattle.ds_setup.specs.Keys.{lane_tree_of, public_or_none, signing_or_none}
use Rattle.ds_setup.specs.Signed.{unsigned_lane, signed_lane, lane_leaf}
use Rattle.ds_setup.specs.Plans.{plan_of, host_setup_of, lane_plan_of, inlets_of, inlets_from, lane_inlet, declared_inlet}
use Rattle.ds_setup.specs.Setups.{EachLaneIsReceived}
use Rattle.ds_setup.proofs.Places.{each_at}
use Rattle.ds_setup.proofs.Facts.{key_there, leads, has_seed, enough_leaves, id_length}
use Rattle.ds_setup.proofs.Setups.{plan_host, plan_lane, is_lane, spelled_lanes, each_conn}

-- ---- a place that passes

module _ {X : Type 0} (p : X → Bool) where
  any_there : (xs : List X) (i : ℕ) (x : X) → slice_get xs i ≡ Some x → p x ≡ true → list_any p xs ≡ true
  any_there [] i x e t = absurd (none-some x e)
  any_there (y ∷ xs) zero x e t = or_left (p y) (list_any p xs) (subst (λ z. p z ≡ true) (sym (same_Some y x e)) t)
  any_there (y ∷ xs) (suc i) x e t = or_right (p y) (list_any p xs) (any_there xs i x e t)

  any_joined : (xss : List (List X)) (i : ℕ) (xs : List X) → slice_get xss i ≡ Some xs → list_any p xs ≡ true → list_any p (joined xss) ≡ true
  any_joined [] i xs e t = absurd (none-some xs e)
  any_joined (ys ∷ xss) zero xs e t = list_any-append p ys (joined xss) ∙ or_left (list_any p ys) (list_any p (joined xss)) (subst (λ z. list_any p z ≡ true) (sym (same_Some ys xs e)) t)
  any_joined (ys ∷ xss) (suc i) xs e t = list_any-append p ys (joined xss) ∙ or_right (list_any p ys) (list_any p (joined xss)) (any_joined xss i xs e t)

  any_front : (xs ys : List X) → list_any p xs ≡ true → list_any p (xs ++ ys) ≡ true
  any_front xs ys t = list_any-append p xs ys ∙ or_left (list_any p xs) (list_any p ys) t

  before_end : (xs : List X) → list_any p xs ≡ true → position_or_len p xs < length xs
  before_end [] t = absurd cc
  before_end (x ∷ xs) t = go (before_end xs) (p x) t
    where
      go : (list_any p xs ≡ true → position_or_len p xs < length xs) → (b : Bool) → (b || list_any p xs) ≡ true → cond (not b) (1 + position_or_len p xs) 0 < suc (length xs)
      go later true t = omega arith
      go later false t = omega (arith, later t)

  some_position : (xs : List X) → list_any p xs ≡ true → position p xs ≡ Some (position_or_len p xs)
  some_position xs t = cond-true (nat_lt (position_or_len p xs) (length xs)) (Some (position_or_len p xs)) None (lt-ltb (position_or_len p xs) (length xs) (before_end xs t))

-- ---- keys and signatures

good_by : (identity : Params) (secret : Secret) (leaf : ℕ) (part : List ℕ) → is_silent secret ≡ false → leaf < leaf_count identity.lms → is_good (key_of identity secret).0 part (signature_by identity secret leaf part) ≡ true
good_by identity (Seed secret) leaf part runs below =
    test_from_good _ part _ (signature-good identity (derived_seed secret 0) (derived_id secret 0) part leaf (id_length secret 0) below)
good_by identity (Key key) leaf part runs below = absurd cc

-- what a certificate's signature is over doesn't hang on the signature
same_part : (hosts : List HostSpec) (h : HostSpec) (number : ℕ) (lane : LaneSpec) → signed_part_of_lane_cert (unsigned_lane hosts h number lane) ≡ signed_part_of_lane_cert (signed_lane hosts h number lane)
unfolding signed_part_of_lane_cert
same_part hosts h number lane = refl

-- a lane's certificate names the public key of the key that signs its frames
signs_by : (lanekey : Params) (secret : Secret) (number : ℕ) → is_silent secret ≡ false →
    (public_or_none (lane_tree_of lanekey secret number)).0 ≡ public_key (tree_of (signing_or_none (lane_tree_of lanekey secret number))).params (signing_or_none (lane_tree_of lanekey secret number)).seed (signing_or_none (lane_tree_of lanekey secret number)).identifier
signs_by lanekey (Seed secret) number runs =
    let key : TreeKey = record { params = lanekey; seed = derived_seed secret number; id = derived_id secret number } in
    ap (λ (k : TreeKey). public_key k.params (derived_seed secret number) (derived_id secret number)) (sym (key_again key))
signs_by lanekey (Key key) number runs = absurd cc

sixteen : (lanekey : Params) (secret : Secret) (number : ℕ) → is_silent secret ≡ false → length (signing_or_none (lane_tree_of lanekey secret number)).identifier ≡ 16
sixteen lanekey (Seed secret) number runs = id_length secret number
sixteen lanekey (Key key) number runs = absurd cc

module _ (d : Doc) (is : IsDocument d) where
  -- ---- inlets

  abbrev counts : PubKey → ℕ → InletName → Bool
  counts exporter number i = same_key i.exporter exporter && eqb i.lane number

  same_name : (x : HostSpec) (l : ℕ) → counts (host_key x) (suc l) (record { exporter = host_key x; lane = suc l }) ≡ true
  same_name x l = and_from (same_key (host_key x) (host_key x)) (eqb (suc l) (suc l)) ((bytes_eq-Decides (host_key x).0 (host_key x).0).1 refl) (eq-eqb (suc l) (suc l) refl)

  own_inlet : (x : HostSpec) (l : ℕ) (lane : LaneSpec) → list_any (counts (host_key x) (suc l)) (lane_inlet lane.to x l lane) ≡ true
  own_inlet x l lane =
      subst (λ (names : List InletName). list_any (counts (host_key x) (suc l)) names ≡ true) (sym (cond-true (eqb lane.to lane.to) (record { exporter = host_key x; lane = suc l } ∷ []) [] (eq-eqb lane.to lane.to refl)))
      (or_left (counts (host_key x) (suc l) (record { exporter = host_key x; lane = suc l })) false (same_name x l))

  has_inlet : (h l : ℕ) (x to : HostSpec) (lane : LaneSpec) → slice_get d.hosts h ≡ Some x → slice_get x.lanes l ≡ Some lane → is_silent to.secret ≡ false → list_any (counts (host_key x) (suc l)) (inlets_of d.hosts lane.to to) ≡ true
  has_inlet h l x to lane e q runs =
      let test : InletName → Bool = counts (host_key x) (suc l) in
      let all : List InletName = joined (map (inlets_from lane.to) d.hosts) ++ map (declared_inlet d.hosts) to.inlets in
      let from : list_any test (inlets_from lane.to x) ≡ true =
      any_joined test (each (lane_inlet lane.to x) x.lanes) l (lane_inlet lane.to x l lane) (each_at (lane_inlet lane.to x) x.lanes l ∙ ap (option_map (lane_inlet lane.to x l)) q) (own_inlet x l lane) in
      let lanes : list_any test (joined (map (inlets_from lane.to) d.hosts)) ≡ true =
      any_joined test (map (inlets_from lane.to) d.hosts) h (inlets_from lane.to x) (slice_get-map (inlets_from lane.to) d.hosts h ∙ ap (option_map (inlets_from lane.to)) e) from in
      subst (λ (b : Bool). list_any test (cond b [] all) ≡ true) (sym runs) (any_front test (joined (map (inlets_from lane.to) d.hosts)) (map (declared_inlet d.hosts) to.inlets) lanes)

  -- ---- the receiver

  below : (h l : ℕ) (x : HostSpec) (lane : LaneSpec) → slice_get d.hosts h ≡ Some x → slice_get x.lanes l ≡ Some lane → lane_leaf x (suc l) < leaf_count x.identity.lms
  below h l x lane e q =
      let lt : l < length x.lanes = slice_get_within x.lanes l lane q in
      let enough = enough_leaves d is h x e (has_seed d is h l x lane e q) in
      omega (arith, lt, enough)

  good_lane : (h l : ℕ) (x : HostSpec) (lane : LaneSpec) → slice_get d.hosts h ≡ Some x → slice_get x.lanes l ≡ Some lane → scheme.good_lane (signed_lane d.hosts x (suc l) lane) ≡ true
  good_lane h l x lane e q =
      let cert = signed_lane d.hosts x (suc l) lane in
      ap (λ (part : List ℕ). is_good cert.exporter.0 part cert.signature) (sym (same_part d.hosts x (suc l) lane))
      ∙ good_by x.identity x.secret (lane_leaf x (suc l)) (signed_part_of_lane_cert (unsigned_lane d.hosts x (suc l) lane)) (has_seed d is h l x lane e q) (below h l x lane e q)

  receiver : (h l : ℕ) (x to : HostSpec) (lane : LaneSpec) → slice_get d.hosts h ≡ Some x → slice_get x.lanes l ≡ Some lane → slice_get d.hosts lane.to ≡ Some to → is_silent to.secret ≡ false →
      IsReceiver (host_plan (plan_of d) lane.to) (lane_plan (host_plan (plan_of d) h) l)
  receiver h l x to lane e q there runs =
      let here = with_keys (all_keys (plan_of d)) (host_setup_of d.hosts lane.to to) in
      let own = lane_plan_of d.hosts x l lane in
      let seed = has_seed d is h l x lane e q in
      let found : IsReceiver here own = record {
        fits = subst (λ (p : LanePlan). LaneCertFits p.cert) (plan_lane d h l x lane e q) (spelled_lanes d is h l (is_lane d h l x lane e q));
        good = good_lane h l x lane e q;
        named = key_there d.hosts lane.to to there;
        inlet = position_or_len (counts (host_key x) (suc l)) here.inlets;
        declared = some_position (counts (host_key x) (suc l)) here.inlets (has_inlet h l x to lane e q runs);
        signs = signs_by x.lanekey x.secret (suc l) seed;
        identifier = sixteen x.lanekey x.secret (suc l) seed;
      } in
      subst (λ (p : HostPlan). IsReceiver p (lane_plan (host_plan (plan_of d) h) l)) (sym (plan_host d lane.to to there)) (subst (λ (p : LanePlan). IsReceiver here p) (sym (plan_lane d h l x lane e q)) found)

  abbrev Received : ConnPlan → Type 0
  Received c = (h l : ℕ) → c.source ≡ OfLane h l → (host_plan (plan_of d) c.host).silent ≡ false → IsReceiver (host_plan (plan_of d) c.host) (lane_plan (host_plan (plan_of d) h) l)

  of_lane : (h l : ℕ) (x : HostSpec) (lane : LaneSpec) → slice_get d.hosts h ≡ Some x → slice_get x.lanes l ≡ Some lane → Received (record { host = lane.to; source = OfLane h l })
  of_lane h l x lane e q g j source runs =
      let same_host : h ≡ g = cc in
      let same_lane : l ≡ j = cc in
      let to = leads d is h l x lane e q in
      let loud : is_silent to.0.secret ≡ false = sym (ap (λ (p : HostPlan). p.silent) (plan_host d lane.to to.0 to.1)) ∙ runs in
      subst (λ i. IsReceiver (host_plan (plan_of d) lane.to) (lane_plan (host_plan (plan_of d) i) j)) same_host
      (subst (λ i. IsReceiver (host_plan (plan_of d) lane.to) (lane_plan (host_plan (plan_of d) h) i)) same_lane (receiver h l x to.0 lane e q to.1 loud))

  link_source : (h l : ℕ) → Link ≡ OfLane h l → ⊥
  link_source h l e = absurd cc

  received : (k : ℕ) → Received (conn_plan (plan_of d) k)
  received = each_conn d Received (λ h l x lane e q. of_lane h l x lane e q) (λ host h l source. absurd (link_source h l source))

pub lanes_are_received : EachLaneIsReceived
lanes_are_received d is k h l source runs = received d is k h l source runs
