-- Where connections lead: two connections to one host have two places, below the number of those that lead there.
use Rattle.std.proofs.Common.{◌≡◌, ℕ, zero, suc, ◌+◌, ◌<◌, ◌≤◌, List, [], ◌∷◌, Some, take, slice_get, refl, sym, ap, ◌∙◌, subst, arith}
use Rattle.std.specs.Prelude.{◌≢◌, ◌==◌}
use native.Mathlib.Decide.{dec_lt}
use Rattle.std.proofs.lemmas.Bool.{cond-true}
use Rattle.std.proofs.lemmas.Bool.Decides.{nat_tests}
use Rattle.std.proofs.lemmas.Option.{none-some, get_or_from_slice_get}
use Rattle.ds_model.specs.Plan.{ConnPlan, Plan, Source, Link, OfLane, conn_plan, no_wire}
use Rattle.ds_model.proofs.Places.{some_is}
use Rattle.ds_setup.proofs.Places.{from_each}
use Rattle.ds_world.specs.declared.route.Feed.TheVariants as feeds
use Rattle.ds_world.specs.declared.route.Route.{Route}
use Rattle.ds_world.specs.Worlds.{count_to, feed_of, leads_to, route_at, routes_by}

-- two lists are one where they have the same at each place
pub same_lists : {X : Type 0} (xs ys : List X) → ((i : ℕ) → slice_get xs i ≡ slice_get ys i) → xs ≡ ys
same_lists [] [] f = refl
same_lists [] (y ∷ ys) f = absurd (none-some y (f 0))
same_lists (x ∷ xs) [] f = absurd (none-some x (sym (f 0)))
same_lists (x ∷ xs) (y ∷ ys) f = λ i. some_is x y (f 0) i ∷ same_lists xs ys (λ k. f (suc k)) i

hit : (host : ℕ) (c : ConnPlan) → c.host ≡ host → leads_to host c ≡ 1
hit host c e = cond-true (c.host == host) 1 0 (grind (arith, nat_tests))

-- each connection to a host counts
pub one_more : (host : ℕ) (cs : List ConnPlan) (k j : ℕ) (c : ConnPlan) → slice_get cs k ≡ Some c → c.host ≡ host → k < j → count_to host (take k cs) + 1 ≤ count_to host (take j cs)
one_more host [] k j c e h lt = absurd (none-some c e)
one_more host (d ∷ cs) k zero c e h lt = absurd (omega (arith, lt))
one_more host (d ∷ cs) zero (suc j) c e h lt =
    let one : leads_to host d ≡ 1 = hit host d (ap (λ (x : ConnPlan). x.host) (some_is d c e) ∙ h) in
    omega (arith, one)
one_more host (d ∷ cs) (suc k) (suc j) c e h lt =
    let rest : count_to host (take k cs) + 1 ≤ count_to host (take j cs) = one_more host cs k j c e h (omega (arith, lt)) in
    omega (arith, rest)

pub within_all : (host : ℕ) (cs : List ConnPlan) (k : ℕ) (c : ConnPlan) → slice_get cs k ≡ Some c → c.host ≡ host → count_to host (take k cs) < count_to host cs
within_all host [] k c e h = absurd (none-some c e)
within_all host (d ∷ cs) zero c e h =
    let one : leads_to host d ≡ 1 = hit host d (ap (λ (x : ConnPlan). x.host) (some_is d c e) ∙ h) in
    omega (arith, one)
within_all host (d ∷ cs) (suc k) c e h =
    let rest : count_to host (take k cs) < count_to host cs = within_all host cs k c e h in
    omega (arith, rest)

two_counts : (host : ℕ) (cs : List ConnPlan) (k j : ℕ) (c d : ConnPlan) → slice_get cs k ≡ Some c → slice_get cs j ≡ Some d → c.host ≡ host → d.host ≡ host → k ≢ j → count_to host (take k cs) ≢ count_to host (take j cs)
two_counts host cs k j c d hc hd c-is d-is apart same = go (dec_lt k j)
  where
    go : Dec (k < j) → ⊥
    go (yes lt) = absurd (omega (arith, same, one_more host cs k j c hc c-is lt))
    go (no ge) =
        let more : j < k = omega (arith, ge, apart) in
        absurd (omega (arith, same, one_more host cs j k d hd d-is more))

-- OF A ROUTE

module _ (cs : List ConnPlan) (k : ℕ) (r : Route) (stands : slice_get (routes_by cs) k ≡ Some r) where
  abbrev pub route_conn : ConnPlan
  route_conn = (from_each (route_at cs) cs k r stands).0

  pub route_there : slice_get cs k ≡ Some route_conn
  route_there = (from_each (route_at cs) cs k r stands).1

  pub route_is : route_at cs k route_conn ≡ r
  route_is = (from_each (route_at cs) cs k r stands).2

  pub host_is : route_conn.host ≡ r.host
  host_is = ap (λ (q : Route). q.host) route_is

  pub place_is : count_to r.host (take k cs) ≡ r.place
  place_is = ap (λ (h : ℕ). count_to h (take k cs)) (sym host_is) ∙ ap (λ (q : Route). q.place) route_is

  pub source_is : feed_of route_conn.source ≡ r.source
  source_is = ap (λ (q : Route). q.source) route_is

  pub place_within : r.place < count_to r.host cs
  place_within = subst (λ (n : ℕ). n < count_to r.host cs) place_is (within_all r.host cs k route_conn route_there host_is)

pub two_places : (cs : List ConnPlan) (k j : ℕ) (r q : Route) → slice_get (routes_by cs) k ≡ Some r → slice_get (routes_by cs) j ≡ Some q → q.host ≡ r.host → j ≢ k → q.place ≢ r.place
two_places cs k j r q hr hq same apart one =
    two_counts r.host cs j k (route_conn cs j q hq) (route_conn cs k r hr) (route_there cs j q hq) (route_there cs k r hr) (host_is cs j q hq ∙ same) (host_is cs k r hr) apart
    (ap (λ (h : ℕ). count_to h (take j cs)) (sym same) ∙ (place_is cs j q hq ∙ (one ∙ sym (place_is cs k r hr))))

-- a connection of the plan
pub conn_plan_is : (plan : Plan) (k : ℕ) (c : ConnPlan) → slice_get plan.conn_plans k ≡ Some c → conn_plan plan k ≡ c
conn_plan_is plan k c h = get_or_from_slice_get plan.conn_plans k c no_wire h

-- what feeds it
pub is_link : (s : Source) → feed_of s ≡ feeds.Link → s ≡ Link
is_link Link e = refl
is_link (OfLane h l) e = absurd cc

pub is_lane : (s : Source) (host lane : ℕ) → feed_of s ≡ feeds.Lane host lane → s ≡ OfLane host lane
is_lane Link host lane e = absurd cc
is_lane (OfLane h l) host lane e = λ i. OfLane (host_same i) (lane_same i)
  where
    host_same : h ≡ host
    host_same = cc

    lane_same : l ≡ lane
    lane_same = cc
