-- A host's inlets are told apart.
use Rattle.std.proofs.Common.{◌≡◌, ◌≢◌, ℕ, zero, suc, ◌+◌, ◌-◌, ◌<◌, Bool, true, false, cond, List, [], ◌∷◌, ◌++◌, length, map, Option, Some, slice_get, option_map, refl, sym, ◌∙◌, ap, subst, arith, eqb, eqb-true, eq-eqb}
use Rattle.std.specs.Prelude.{not}
use Rattle.std.specs.List.{list_all}
use Rattle.std.proofs.lemmas.Bool.{and_from, and_parts, cond-false, not-true, ltb-true}
use Rattle.std.proofs.lemmas.Option.{none-some, same_Some, slice_get-map}
use Rattle.std.proofs.lemmas.Slice.Eq.{bytes_eq-Decides}
use Rattle.ds_label.specs.declared.category.PubKey.{PubKey}
use Rattle.ds_model.specs.Scheme.{InletName}
use Rattle.ds_plan.specs.declared.doc.Doc.{Doc}
use Rattle.ds_plan.specs.declared.host.HostSpec.{HostSpec}
use Rattle.ds_plan.specs.declared.host.LaneSpec.{LaneSpec}
use Rattle.ds_plan.specs.declared.host.InletSpec.{InletSpec}
use Rattle.ds_plan.specs.Keys.{host_key, host_keys, same_key}
use Rattle.ds_plan.specs.Categories.{is_place}
use Rattle.ds_plan.specs.Documents.{IsDocument, are_different, are_inlets_new, comes_by_lane, lane_leads, leads_to, is_silent, named_hosts, receivers, same_inlet, script_hosts}
use Rattle.ds_setup.specs.Lists.{each, joined}
use Rattle.ds_setup.specs.Plans.{declared_inlet, inlets_from, inlets_of, lane_inlet}
use Rattle.ds_setup.proofs.Places.{from_each, from_map, inside, one_place, place_at, test_append, test_at}
use Rattle.ds_setup.proofs.Facts.{key_there}
use Rattle.ds_boot.proofs.Pairs.{Pairs, differ, in_joined, pairs_append, pairs_joined, pairs_map}

-- two names are of two exporters, or of two lanes
abbrev pub Differ : InletName → InletName → Type 0
Differ a b = a.exporter ≡ b.exporter → a.lane ≢ b.lane

same_bytes : (a b : PubKey) → a ≡ b → same_key a b ≡ true
same_bytes a b e = (bytes_eq-Decides a.0 b.0).1 (ap (λ (k : PubKey). k.0) e)

-- two hosts with one key stand at one place
pub one_host : (d : Doc) → IsDocument d → (i j : ℕ) (x y : HostSpec) → slice_get d.hosts i ≡ Some x → slice_get d.hosts j ≡ Some y → host_key x ≡ host_key y → i ≡ j
one_host d is i j x y e q same = one_place same_key (host_keys d.hosts) i j (host_key x) (host_key y) is.keys
    (slice_get-map host_key d.hosts i ∙ ap (option_map host_key) e) (slice_get-map host_key d.hosts j ∙ ap (option_map host_key) q) (same_bytes (host_key x) (host_key y) same) (same_bytes (host_key y) (host_key x) (sym same))

-- the inlet of a lane, where there is one
record OfLane (here : ℕ) (x : HostSpec) (l : ℕ) (lane : LaneSpec) (n : InletName) : Type 0 where
  leads : lane.to ≡ here
  name : n ≡ record { exporter = host_key x; lane = suc l }

of_lane : (here : ℕ) (x : HostSpec) (l : ℕ) (lane : LaneSpec) (i : ℕ) (n : InletName) → slice_get (lane_inlet here x l lane) i ≡ Some n → OfLane here x l lane n
of_lane here x l lane i n e = go (eqb lane.to here) refl i e
  where
    go : (b : Bool) → eqb lane.to here ≡ b → (i : ℕ) → slice_get (cond b (record { exporter = host_key x; lane = suc l } ∷ []) []) i ≡ Some n → OfLane here x l lane n
    go true is zero e = record { leads = eqb-true lane.to here is; name = sym (same_Some (record { exporter = host_key x; lane = suc l }) n e) }
    go true is (suc i) e = absurd (none-some n e)
    go false is i e = absurd (none-some n e)

single : (here : ℕ) (x : HostSpec) (l : ℕ) (lane : LaneSpec) → Pairs Differ (lane_inlet here x l lane)
single here x l lane i j a b lt e q = go (eqb lane.to here) i j lt e q
  where
    go : (c : Bool) → (i j : ℕ) → i < j → slice_get (cond c (record { exporter = host_key x; lane = suc l } ∷ []) []) i ≡ Some a → slice_get (cond c (record { exporter = host_key x; lane = suc l } ∷ []) []) j ≡ Some b → Differ a b
    go true i zero lt e q = absurd (omega (arith, lt))
    go true i (suc j) lt e q = absurd (none-some b q)
    go false i j lt e q = absurd (none-some a e)

-- of one host's lanes
host_inlets : (here : ℕ) (x : HostSpec) → Pairs Differ (inlets_from here x)
host_inlets here x = pairs_joined Differ (each (lane_inlet here x) x.lanes)
    (λ l xs at. let m = from_each (lane_inlet here x) x.lanes l xs at in subst (Pairs Differ) m.2 (single here x l m.0))
    (λ l m i j xs ys a b lt at there one two exporter lane.
    let p = from_each (lane_inlet here x) x.lanes l xs at in
    let q = from_each (lane_inlet here x) x.lanes m ys there in
    let first = of_lane here x l p.0 i a (subst (λ (zs : List InletName). slice_get zs i ≡ Some a) (sym p.2) one) in
    let second = of_lane here x m q.0 j b (subst (λ (zs : List InletName). slice_get zs j ≡ Some b) (sym q.2) two) in
    let same : suc l ≡ suc m = sym (ap (λ (n : InletName). n.lane) first.name) ∙ (lane ∙ ap (λ (n : InletName). n.lane) second.name) in
    omega (arith, lt, same))

-- where an inlet of a lane comes from
record FromLane (d : Doc) (here : ℕ) (n : InletName) : Type 0 where
  s : ℕ
  l : ℕ
  x : HostSpec
  lane : LaneSpec
  host : slice_get d.hosts s ≡ Some x
  at : slice_get x.lanes l ≡ Some lane
  leads : lane.to ≡ here
  name : n ≡ record { exporter = host_key x; lane = suc l }

from_host : (d : Doc) (here s : ℕ) (x : HostSpec) → slice_get d.hosts s ≡ Some x → (k : ℕ) (n : InletName) → slice_get (inlets_from here x) k ≡ Some n → FromLane d here n
from_host d here s x host k n e =
    let j = in_joined (each (lane_inlet here x) x.lanes) k n e in
    let m = from_each (lane_inlet here x) x.lanes j.h j.xs j.list in
    let o = of_lane here x j.h m.0 j.l n (subst (λ (zs : List InletName). slice_get zs j.l ≡ Some n) (sym m.2) j.here) in
    record { s = s; l = j.h; x = x; lane = m.0; host = host; at = m.1; leads = o.leads; name = o.name }

from_lane : (d : Doc) (here k : ℕ) (n : InletName) → slice_get (joined (map (inlets_from here) d.hosts)) k ≡ Some n → FromLane d here n
from_lane d here k n e =
    let j = in_joined (map (inlets_from here) d.hosts) k n e in
    let m = from_map (inlets_from here) d.hosts j.h j.xs j.list in
    from_host d here j.h m.0 m.1 j.l n (subst (λ (zs : List InletName). slice_get zs j.l ≡ Some n) (sym m.2) j.here)

module _ (d : Doc) (is : IsDocument d) (here : ℕ) where
  -- of all hosts' lanes
  lane_inlets : Pairs Differ (joined (map (inlets_from here) d.hosts))
  lane_inlets = pairs_joined Differ (map (inlets_from here) d.hosts)
      (λ h xs at. let m = from_map (inlets_from here) d.hosts h xs at in subst (Pairs Differ) m.2 (host_inlets here m.0))
      (λ h g i j xs ys a b lt at there one two exporter lane.
      let p = from_map (inlets_from here) d.hosts h xs at in
      let q = from_map (inlets_from here) d.hosts g ys there in
      let first = key_of_host h p.0 p.1 i a (subst (λ (zs : List InletName). slice_get zs i ≡ Some a) (sym p.2) one) in
      let second = key_of_host g q.0 q.1 j b (subst (λ (zs : List InletName). slice_get zs j ≡ Some b) (sym q.2) two) in
      let same : h ≡ g = one_host d is h g p.0 q.0 p.1 q.1 (sym first ∙ (exporter ∙ second)) in
      omega (arith, lt, same))
    where
      key_of_host : (s : ℕ) (x : HostSpec) → slice_get d.hosts s ≡ Some x → (k : ℕ) (n : InletName) → slice_get (inlets_from here x) k ≡ Some n → n.exporter ≡ host_key x
      key_of_host s x host k n e =
          let j = in_joined (each (lane_inlet here x) x.lanes) k n e in
          let m = from_each (lane_inlet here x) x.lanes j.h j.xs j.list in
          let o = of_lane here x j.h m.0 j.l n (subst (λ (zs : List InletName). slice_get zs j.l ≡ Some n) (sym m.2) j.here) in
          ap (λ (n : InletName). n.exporter) o.name

  module _ (h : HostSpec) (there : slice_get d.hosts here ≡ Some h) where
    new_inlets : are_inlets_new (receivers d.hosts) here h ≡ true
    new_inlets = subst (λ k. are_inlets_new (receivers d.hosts) k h ≡ true) (let same : 0 + here ≡ here = omega arith in same) (place_at (are_inlets_new (receivers d.hosts)) 0 d.hosts here h is.inlets there)

    parts : (are_different same_inlet h.inlets ≡ true) × (list_all (λ i. not (comes_by_lane (receivers d.hosts) here i.from i.lane)) h.inlets ≡ true)
    parts = and_parts (are_different same_inlet h.inlets) (list_all (λ i. not (comes_by_lane (receivers d.hosts) here i.from i.lane)) h.inlets) new_inlets

    -- the host of a declared inlet
    from_there : (i : ℕ) (inlet : InletSpec) → slice_get h.inlets i ≡ Some inlet → (x : HostSpec) × (slice_get d.hosts inlet.from ≡ Some x)
    from_there i inlet at =
        let named : list_all (λ n. is_place n d.hosts) (named_hosts h) ≡ true = test_at (λ (h : HostSpec). list_all (λ n. is_place n d.hosts) (named_hosts h)) d.hosts here h is.hosts there in
        let front = (test_append (λ n. is_place n d.hosts) (map (λ (l : LaneSpec). l.to) h.lanes ++ map (λ (i : InletSpec). i.from) h.inlets) (script_hosts h) named).0 in
        let all = (test_append (λ n. is_place n d.hosts) (map (λ (l : LaneSpec). l.to) h.lanes) (map (λ (i : InletSpec). i.from) h.inlets) front).1 in
        inside d.hosts inlet.from (ltb-true inlet.from (length d.hosts) (test_at (λ n. is_place n d.hosts) (map (λ (i : InletSpec). i.from) h.inlets) i inlet.from all
        (slice_get-map (λ (i : InletSpec). i.from) h.inlets i ∙ ap (option_map (λ (i : InletSpec). i.from)) at)))

    same_both : (a b : InletSpec) → a.from ≡ b.from → a.lane ≡ b.lane → same_inlet a b ≡ true
    same_both a b from lane = and_from (eqb a.from b.from) (eqb a.lane b.lane) (eq-eqb a.from b.from from) (eq-eqb a.lane b.lane lane)

    -- declared ones
    declared_inlets : Pairs Differ (map (declared_inlet d.hosts) h.inlets)
    declared_inlets = pairs_map Differ (declared_inlet d.hosts) h.inlets (λ i j a b lt e q exporter lane.
        let x = from_there i a e in
        let y = from_there j b q in
        let from : a.from ≡ b.from = one_host d is a.from b.from x.0 y.0 x.1 y.1 (sym (key_there d.hosts a.from x.0 x.1) ∙ (exporter ∙ key_there d.hosts b.from y.0 y.1)) in
        absurd (differ same_inlet h.inlets i j a b parts.0 lt e q (same_both a b from lane) (same_both b a (sym from) (sym lane))))

    -- a declared one isn't a lane's
    comes : (s l : ℕ) (x : HostSpec) (lane : LaneSpec) (number : ℕ) → slice_get d.hosts s ≡ Some x → slice_get x.lanes l ≡ Some lane → lane.to ≡ here → number ≡ suc l → comes_by_lane (receivers d.hosts) here s number ≡ true
    comes s l x lane number host at leads n =
        let before : number - 1 ≡ l = omega (arith, n) in
        let tos : slice_get (receivers d.hosts) s ≡ Some (map (λ (l : LaneSpec). l.to) x.lanes) = slice_get-map (λ (h : HostSpec). map (λ (l : LaneSpec). l.to) h.lanes) d.hosts s ∙ ap (option_map (λ (h : HostSpec). map (λ (l : LaneSpec). l.to) h.lanes)) host in
        let to : slice_get (map (λ (l : LaneSpec). l.to) x.lanes) (number - 1) ≡ Some lane.to =
        ap (λ k. slice_get (map (λ (l : LaneSpec). l.to) x.lanes) k) before ∙ (slice_get-map (λ (l : LaneSpec). l.to) x.lanes l ∙ ap (option_map (λ (l : LaneSpec). l.to)) at) in
        ap (λ (o : Option (List ℕ)). lane_leads here number o) tos ∙ (ap (λ (o : Option ℕ). leads_to here o) to ∙ eq-eqb lane.to here leads)

    crossing : (i j : ℕ) (a b : InletName) → slice_get (joined (map (inlets_from here) d.hosts)) i ≡ Some a → slice_get (map (declared_inlet d.hosts) h.inlets) j ≡ Some b → Differ a b
    crossing i j a b e q exporter lane =
        let f = from_lane d here i a e in
        let m = from_map (declared_inlet d.hosts) h.inlets j b q in
        let x = from_there j m.0 m.1 in
        let key : host_key f.x ≡ host_key x.0 = sym (ap (λ (n : InletName). n.exporter) f.name) ∙ (exporter ∙ (sym (ap (λ (n : InletName). n.exporter) m.2) ∙ key_there d.hosts m.0.from x.0 x.1)) in
        let from : f.s ≡ m.0.from = one_host d is f.s m.0.from f.x x.0 f.host x.1 key in
        let number : m.0.lane ≡ suc f.l = ap (λ (n : InletName). n.lane) m.2 ∙ (sym lane ∙ ap (λ (n : InletName). n.lane) f.name) in
        let yes : comes_by_lane (receivers d.hosts) here m.0.from m.0.lane ≡ true = subst (λ k. comes_by_lane (receivers d.hosts) here k m.0.lane ≡ true) from (comes f.s f.l f.x f.lane m.0.lane f.host f.at f.leads number) in
        let no : comes_by_lane (receivers d.hosts) here m.0.from m.0.lane ≡ false = not-true (comes_by_lane (receivers d.hosts) here m.0.from m.0.lane) (test_at (λ (i : InletSpec). not (comes_by_lane (receivers d.hosts) here i.from i.lane)) h.inlets j m.0 parts.1 m.1) in
        let clash : true ≡ false = sym yes ∙ no in
        absurd cc

    pub inlets_differ : is_silent h.secret ≡ false → Pairs Differ (inlets_of d.hosts here h)
    inlets_differ runs = subst (Pairs Differ) (sym (cond-false (is_silent h.secret) [] (joined (map (inlets_from here) d.hosts) ++ map (declared_inlet d.hosts) h.inlets) runs))
        (pairs_append Differ (joined (map (inlets_from here) d.hosts)) (map (declared_inlet d.hosts) h.inlets) lane_inlets declared_inlets crossing)
