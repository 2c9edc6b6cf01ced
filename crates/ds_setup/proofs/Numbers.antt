-- Connections by their numbers: the lanes of all hosts in order, and then the links.
use Rattle.std.proofs.Common.{◌≡◌, ℕ, zero, suc, ◌+◌, List, [], ◌∷◌, ◌++◌, length, length-append, take, map, sum, Option, Some, None, slice_get, option_map, refl, sym, ◌∙◌, ap, subst, ◌⊎◌, inl, inr, arith}
use Rattle.std.proofs.lemmas.List.{length-map}
use Rattle.std.proofs.lemmas.List.Sums.{sum_by-cons}
use Rattle.std.proofs.lemmas.Option.{none-some, same_Some, slice_get-map, get_or_from_slice_get}
use Rattle.ds_model.specs.Plan.{ConnPlan, Link, OfLane, conn_plan, no_wire}
use Rattle.ds_plan.specs.declared.doc.Doc.{Doc}
use Rattle.ds_plan.specs.declared.host.HostSpec.{HostSpec}
use Rattle.ds_plan.specs.declared.host.LaneSpec.{LaneSpec}
use Rattle.ds_plan.specs.Documents.{lane_counts}
use Rattle.ds_setup.specs.Lists.{each, joined}
use Rattle.ds_setup.specs.Plans.{plan_of, lane_conns}
use Rattle.ds_setup.specs.Setups.{ConnsAreInOrder, lanes_before}
use Rattle.ds_setup.proofs.Places.{each_at, length-each, from_each, past}
use Rattle.ds_setup.proofs.Setups.{LaneOf, lane_of}

-- ---- two lists, one behind the other

module _ {X : Type 0} where
  pub in_front : (xs ys : List X) (i : ℕ) (x : X) → slice_get xs i ≡ Some x → slice_get (xs ++ ys) i ≡ Some x
  in_front [] ys i x e = absurd (none-some x e)
  in_front (y ∷ xs) ys zero x e = e
  in_front (y ∷ xs) ys (suc i) x e = in_front xs ys i x e

  pub behind : (xs ys : List X) (i : ℕ) → slice_get (xs ++ ys) (length xs + i) ≡ slice_get ys i
  behind [] ys i = let same : 0 + i ≡ i = omega arith in ap (λ k. slice_get ys k) same
  behind (x ∷ xs) ys i =
      let same : suc (length xs) + i ≡ suc (length xs + i) = omega arith in
      ap (λ k. slice_get (x ∷ (xs ++ ys)) k) same ∙ behind xs ys i

  pub in_either : (xs ys : List X) (k : ℕ) (x : X) → slice_get (xs ++ ys) k ≡ Some x → (slice_get xs k ≡ Some x) ⊎ ((i : ℕ) × (k ≡ length xs + i) × (slice_get ys i ≡ Some x))
  in_either [] ys k x e = inr (k, let same : k ≡ 0 + k = omega arith in same, e)
  in_either (y ∷ xs) ys zero x e = inl e
  in_either (y ∷ xs) ys (suc k) x e = go (in_either xs ys k x e)
    where
      go : (slice_get xs k ≡ Some x) ⊎ ((i : ℕ) × (k ≡ length xs + i) × (slice_get ys i ≡ Some x)) → (slice_get xs k ≡ Some x) ⊎ ((i : ℕ) × (suc k ≡ suc (length xs) + i) × (slice_get ys i ≡ Some x))
      go (inl there) = inl there
      go (inr (i, same, there)) = inr (i, omega (arith, same), there)

sum_more : (n : ℕ) (ns : List ℕ) → sum (n ∷ ns) ≡ n + sum ns
sum_more n ns = sum_by-cons (λ x. x) n ns

-- ---- joined lists, of which the lengths are known

module _ {X Y : Type 0} (count : X → ℕ) where
  length-joined : (f : ℕ → X → List Y) (xs : List X) → ((i : ℕ) (x : X) → length (f i x) ≡ count x) → length (joined (each f xs)) ≡ sum (map count xs)
  length-joined f [] sizes = refl
  length-joined f (x ∷ xs) sizes =
      let later : length (joined (each (λ i. f (suc i)) xs)) ≡ sum (map count xs) = length-joined (λ i. f (suc i)) xs (λ i y. sizes (suc i) y) in
      omega (arith, length-append (f 0 x) (joined (each (λ i. f (suc i)) xs)), sizes 0 x, later, sum_more (count x) (map count xs))

  in_joined : (f : ℕ → X → List Y) (xs : List X) → ((i : ℕ) (x : X) → length (f i x) ≡ count x) → (h l : ℕ) (x : X) (y : Y) → slice_get xs h ≡ Some x → slice_get (f h x) l ≡ Some y → slice_get (joined (each f xs)) (sum (take h (map count xs)) + l) ≡ Some y
  in_joined f [] sizes h l x y e q = absurd (none-some x e)
  in_joined f (z ∷ xs) sizes zero l x y e q =
      let none : l ≡ 0 + l = omega arith in
      subst (λ k. slice_get (f 0 z ++ joined (each (λ i. f (suc i)) xs)) k ≡ Some y) none (in_front (f 0 z) (joined (each (λ i. f (suc i)) xs)) l y (subst (λ w. slice_get (f 0 w) l ≡ Some y) (sym (same_Some z x e)) q))
  in_joined f (z ∷ xs) sizes (suc h) l x y e q =
      let later : slice_get (joined (each (λ i. f (suc i)) xs)) (sum (take h (map count xs)) + l) ≡ Some y = in_joined (λ i. f (suc i)) xs (λ i w. sizes (suc i) w) h l x y e q in
      let place : length (f 0 z) + (sum (take h (map count xs)) + l) ≡ sum (count z ∷ take h (map count xs)) + l = omega (arith, sizes 0 z, sum_more (count z) (take h (map count xs))) in
      subst (λ k. slice_get (f 0 z ++ joined (each (λ i. f (suc i)) xs)) k ≡ Some y) place (behind (f 0 z) (joined (each (λ i. f (suc i)) xs)) (sum (take h (map count xs)) + l) ∙ later)

  pub record Joined (f : ℕ → X → List Y) (xs : List X) (k : ℕ) (y : Y) : Type 0 where
    pub h : ℕ
    pub l : ℕ
    pub x : X
    pub there : slice_get xs h ≡ Some x
    pub here : slice_get (f h x) l ≡ Some y
    pub place : k ≡ sum (take h (map count xs)) + l

  from_joined : (f : ℕ → X → List Y) (xs : List X) → ((i : ℕ) (x : X) → length (f i x) ≡ count x) → (k : ℕ) (y : Y) → slice_get (joined (each f xs)) k ≡ Some y → Joined f xs k y
  from_joined f [] sizes k y e = absurd (none-some y e)
  from_joined f (z ∷ xs) sizes k y e = go (λ i there. from_joined (λ i. f (suc i)) xs (λ i w. sizes (suc i) w) i y there) (in_either (f 0 z) (joined (each (λ i. f (suc i)) xs)) k y e)
    where
      one_on : (i : ℕ) → k ≡ length (f 0 z) + i → Joined (λ i. f (suc i)) xs i y → Joined f (z ∷ xs) k y
      one_on i same j = record {
        h = suc j.h;
        l = j.l;
        x = j.x;
        there = j.there;
        here = j.here;
        place = omega (arith, same, j.place, sizes 0 z, sum_more (count z) (take j.h (map count xs)));
      }

      go : ((i : ℕ) → slice_get (joined (each (λ i. f (suc i)) xs)) i ≡ Some y → Joined (λ i. f (suc i)) xs i y) → (slice_get (f 0 z) k ≡ Some y) ⊎ ((i : ℕ) × (k ≡ length (f 0 z) + i) × (slice_get (joined (each (λ i. f (suc i)) xs)) i ≡ Some y)) → Joined f (z ∷ xs) k y
      go later (inl here) = record { h = 0; l = k; x = z; there = refl; here = here; place = let none : k ≡ 0 + k = omega arith in none }
      go later (inr (i, same, there)) = one_on i same (later i there)

-- ---- connections

module _ (d : Doc) where
  abbrev lanes_of : HostSpec → ℕ
  lanes_of h = length h.lanes

  abbrev lane_list : List ConnPlan
  lane_list = joined (each lane_conns d.hosts)

  abbrev link_list : List ConnPlan
  link_list = map (λ host. record { host = host; source = Link }) d.links

  sizes : (h : ℕ) (x : HostSpec) → length (lane_conns h x) ≡ lanes_of x
  sizes h x = length-each (λ l (lane : LaneSpec). record { host = lane.to; source = OfLane h l }) x.lanes

  many : length lane_list ≡ sum (lane_counts d)
  many = length-joined lanes_of lane_conns d.hosts sizes

  lane_there : (h l : ℕ) (x : HostSpec) (lane : LaneSpec) → slice_get d.hosts h ≡ Some x → slice_get x.lanes l ≡ Some lane → slice_get (plan_of d).conn_plans (lanes_before d h l) ≡ Some (record { host = lane.to; source = OfLane h l })
  lane_there h l x lane e q = in_front lane_list link_list (lanes_before d h l) _
      (in_joined lanes_of lane_conns d.hosts sizes h l x _ e (each_at (λ l (lane : LaneSpec). record { host = lane.to; source = OfLane h l }) x.lanes l ∙ ap (option_map (λ (lane : LaneSpec). record { host = lane.to; source = OfLane h l })) q))

  has : (h l : ℕ) → LaneOf d h l → (conn_plan (plan_of d) (lanes_before d h l)).source ≡ OfLane h l
  has h l at = ap (λ (c : ConnPlan). c.source) (get_or_from_slice_get (plan_of d).conn_plans (lanes_before d h l) _ no_wire (lane_there h l at.host at.lane at.host_there at.lane_there))

  link_source : (h l : ℕ) → Link ≡ OfLane h l → ⊥
  link_source h l e = absurd cc

  in_lanes : (k h l : ℕ) (c : ConnPlan) → c.source ≡ OfLane h l → Joined lanes_of lane_conns d.hosts k c → k ≡ lanes_before d h l
  in_lanes k h l c source j =
      let m = from_each (λ l (lane : LaneSpec). record { host = lane.to; source = OfLane j.h l }) j.x.lanes j.l c j.here in
      let same : OfLane j.h j.l ≡ OfLane h l = ap (λ (c : ConnPlan). c.source) m.2 ∙ source in
      let hosts : j.h ≡ h = cc in
      let lanes : j.l ≡ l = cc in
      j.place ∙ (ap (λ i. sum (take i (lane_counts d)) + j.l) hosts ∙ ap (λ i. sum (take h (lane_counts d)) + i) lanes)

  one_of : (k h l : ℕ) (c : ConnPlan) → c.source ≡ OfLane h l → slice_get (plan_of d).conn_plans k ≡ Some c → k ≡ lanes_before d h l
  one_of k h l c source e = go (in_either lane_list link_list k c e)
    where
      no_link : (i : ℕ) → slice_get link_list i ≡ Some c → ⊥
      no_link i there = of_link (slice_get d.links i) (sym (slice_get-map (λ (host : ℕ). record { host = host; source = Link }) d.links i) ∙ there)
        where
          of_link : (o : Option ℕ) → option_map (λ (host : ℕ). record { host = host; source = Link }) o ≡ Some c → ⊥
          of_link None e = none-some c e
          of_link (Some host) e = link_source h l (ap (λ (z : ConnPlan). z.source) (same_Some (record { host = host; source = Link }) c e) ∙ source)

      go : (slice_get lane_list k ≡ Some c) ⊎ ((i : ℕ) × (k ≡ length lane_list + i) × (slice_get link_list i ≡ Some c)) → k ≡ lanes_before d h l
      go (inl there) = in_lanes k h l c source (from_joined lanes_of lane_conns d.hosts sizes k c there)
      go (inr (i, same, there)) = absurd (no_link i there)

  one : (k h l : ℕ) → (conn_plan (plan_of d) k).source ≡ OfLane h l → k ≡ lanes_before d h l
  one k h l source = go (slice_get (plan_of d).conn_plans k) refl
    where
      go : (o : Option ConnPlan) → slice_get (plan_of d).conn_plans k ≡ o → k ≡ lanes_before d h l
      go None e = absurd (link_source h l (sym (ap (λ (c : ConnPlan). c.source) (past (plan_of d).conn_plans k no_wire e)) ∙ source))
      go (Some c) e = one_of k h l c (sym (ap (λ (c : ConnPlan). c.source) (get_or_from_slice_get (plan_of d).conn_plans k c no_wire e)) ∙ source) e

  links : (k host : ℕ) → slice_get d.links k ≡ Some host → slice_get (plan_of d).conn_plans (sum (lane_counts d) + k) ≡ Some (record { host = host; source = Link })
  links k host e =
      subst (λ n. slice_get (lane_list ++ link_list) (n + k) ≡ Some (record { host = host; source = Link })) many
      (behind lane_list link_list k ∙ (slice_get-map (λ (host : ℕ). record { host = host; source = Link }) d.links k ∙ ap (option_map (λ (host : ℕ). record { host = host; source = Link })) e))

  pub in_order : ConnsAreInOrder d
  in_order = record {
    has = λ h l is. has h l (lane_of d h l is);
    one = one;
    links = links;
    count = omega (arith, length-append lane_list link_list, many, length-map {B = ConnPlan} d.links (λ (host : ℕ). record { host = host; source = Link }));
  }
