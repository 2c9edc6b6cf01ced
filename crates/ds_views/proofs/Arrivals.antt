-- What arrived at the connections to a host, which stand in its list by their places, is what the plain world gathers by their numbers.
use Rattle.std.proofs.Common.{◌≡◌, ℕ, zero, suc, ◌+◌, ◌<◌, ◌≤◌, arith, Bool, true, false, List, [], ◌∷◌, ◌++◌, Option, Some, None, refl, sym, ap, ◌∙◌, subst, map, length, take, get_or, slice_get, option_map}
use Rattle.std.specs.Prelude.{◌==◌, if◌then◌else◌}
use Rattle.std.proofs.lemmas.Bool.Decides.{nat_tests}
use Rattle.std.proofs.lemmas.Option.{none-some, same_Some, slice_get-map}
use Rattle.std.proofs.lemmas.List.{append-nil, length-map, take_all, take_more}
use Rattle.ds_model.specs.Lists.{gathered}
use Rattle.ds_model.specs.Plan.{ConnPlan, Plan, conn_plan}
use Rattle.ds_model.specs.Desk.{Desk}
use Rattle.ds_model.specs.World.{Host}
use Rattle.ds_model.specs.Views.{HostView, arrived_at, arrived_to, arrived_in as bytes_in, host_view, view_of_host}
use Rattle.ds_setup.specs.Plans.{plan_of}
use Rattle.ds_setup.proofs.Places.{each_at, inside}
use Rattle.ds_exporter.specs.PlainHosts.{arrived_of}
use Rattle.ds_hosts.specs.Nodes.{NodeState, conns_of, plain_host}
use Rattle.ds_world.specs.declared.route.Route.{Route}
use Rattle.ds_world.specs.Worlds.{WorldState, IsWorld, conns_in, count_to, leads_to, route_at, routes_of, world_of}
use Rattle.ds_world.proofs.Routes.{conn_plan_is, within_all}
use Rattle.ds_world.proofs.Changes.{conn_there}
use Rattle.ds_world.proofs.OneConn.{arrived_is, bytes_are}
use Rattle.ds_views.specs.Views.{node_view}

count_push : (host : ℕ) (cs : List ConnPlan) (c : ConnPlan) → count_to host (cs ++ c ∷ []) ≡ count_to host cs + leads_to host c
count_push host [] c = omega arith
count_push host (d ∷ cs) c = let rest : count_to host (cs ++ c ∷ []) ≡ count_to host cs + leads_to host c = count_push host cs c in omega (arith, rest)

-- the list with the thing at a place
take_next : {X : Type 0} (xs : List X) (n : ℕ) (x : X) → slice_get xs n ≡ Some x → take (suc n) xs ≡ take n xs ++ x ∷ []
take_next [] n x e = absurd (none-some x e)
take_next {X} (y ∷ xs) zero x e = ap (λ (z : X). z ∷ []) (same_Some y x e)
take_next {X} (y ∷ xs) (suc n) x e = ap (λ (ys : List X). y ∷ ys) (take_next xs n x e)

-- F says what the connection of a number gives: where it leads to the host, what stands at its place, and else nothing
module _ (host : ℕ) (cs : List ConnPlan) (all : List (List ℕ)) (F : ℕ → List (List ℕ))
    (size : length all ≡ count_to host cs)
    (hit : (k : ℕ) (c : ConnPlan) → slice_get cs k ≡ Some c → c.host ≡ host → F k ≡ get_or all (count_to host (take k cs)) [] ∷ [])
    (miss : (k : ℕ) (c : ConnPlan) → slice_get cs k ≡ Some c → (c.host == host) ≡ false → F k ≡ []) where
  step : (n : ℕ) (c : ConnPlan) → slice_get cs n ≡ Some c → (b : Bool) → (c.host == host) ≡ b → gathered F n ≡ take (count_to host (take n cs)) all
      → gathered F n ++ F n ≡ take (count_to host (take n cs) + leads_to host c) all
  step n c e true b before =
      let same : c.host ≡ host = grind (arith, nat_tests, b) in
      let within : count_to host (take n cs) < length all = subst (λ (m : ℕ). count_to host (take n cs) < m) (sym size) (within_all host cs n c e same) in
      let one : leads_to host c ≡ 1 = ap (λ (t : Bool). if t then 1 else 0) b in
      (λ i. before i ++ hit n c e same i)
      ∙ sym (take_more all (count_to host (take n cs)) [] within)
      ∙ ap (λ (m : ℕ). take (count_to host (take n cs) + m) all) (sym one)
  step n c e false b before =
      let none : leads_to host c ≡ 0 = ap (λ (t : Bool). if t then 1 else 0) b in
      let still : count_to host (take n cs) ≡ count_to host (take n cs) + leads_to host c = omega (arith, none) in
      (λ i. before i ++ miss n c e b i)
      ∙ append-nil (take (count_to host (take n cs)) all)
      ∙ ap (λ (m : ℕ). take m all) still

  front_is : (n : ℕ) → n ≤ length cs → gathered F n ≡ take (count_to host (take n cs)) all
  front_is zero le = refl
  front_is (suc n) le =
      let lt : n < length cs = omega (arith, le) in
      let c : (x : ConnPlan) × (slice_get cs n ≡ Some x) = inside cs n lt in
      let next : count_to host (take (suc n) cs) ≡ count_to host (take n cs) + leads_to host c.0 = ap (count_to host) (take_next cs n c.0 c.1) ∙ count_push host (take n cs) c.0 in
      let before : n ≤ length cs = omega (arith, lt) in
      step n c.0 c.1 (c.0.host == host) refl (front_is n before) ∙ ap (λ (m : ℕ). take m all) (sym next)

  pub all_gathered : gathered F (length cs) ≡ all
  all_gathered =
      let within : length all ≤ count_to host cs = omega (arith, size) in
      front_is (length cs) (omega arith)
      ∙ ap (λ (xs : List ConnPlan). take (count_to host xs) all) (take_all (length cs) cs (omega arith))
      ∙ take_all (count_to host cs) all within

-- IN A WORLD

module _ (w : WorldState) (is : IsWorld w) (h : ℕ) (x : NodeState) (there : slice_get w.nodes h ≡ Some x) where
  abbrev plan : Plan
  plan = plan_of w.doc

  abbrev conns : List ConnPlan
  conns = conns_in w.doc

  abbrev all : List (List ℕ)
  all = map arrived_of (conns_of x)

  abbrev given : (k : ℕ) → List (List ℕ)
  given k = if (conn_plan plan k).host == h then arrived_at plan (world_of w) k else []

  size_is : length all ≡ count_to h conns
  size_is = length-map (conns_of x) arrived_of ∙ (is.nodes h x there).conns

  -- the connection of a number that leads there
  one_is : (k : ℕ) (c : ConnPlan) → slice_get conns k ≡ Some c → c.host ≡ h → arrived_at plan (world_of w) k ≡ get_or all (count_to h (take k conns)) [] ∷ []
  one_is k c e same =
      let r : Route = route_at conns k c in
      let route : slice_get (routes_of w.doc) k ≡ Some r = each_at (route_at conns) conns k ∙ ap (option_map (route_at conns k)) e in
      let stands : slice_get w.nodes r.host ≡ Some x = ap (λ (n : ℕ). slice_get w.nodes n) same ∙ there in
      ap (bytes_in plan (world_of w) k) (conn_there w k r route)
      ∙ ap (λ (bytes : List ℕ). bytes ∷ []) (bytes_are w k r x route stands is ∙ arrived_is w k r x route stands is)
      ∙ ap (λ (n : ℕ). get_or all (count_to n (take k conns)) [] ∷ []) same

  hit_is : (k : ℕ) (c : ConnPlan) → slice_get conns k ≡ Some c → c.host ≡ h → given k ≡ get_or all (count_to h (take k conns)) [] ∷ []
  hit_is k c e same =
      let leads : ((conn_plan plan k).host == h) ≡ true = ap (λ (q : ConnPlan). q.host == h) (conn_plan_is plan k c e) ∙ grind (arith, nat_tests, same) in
      ap (λ (t : Bool). if t then arrived_at plan (world_of w) k else []) leads ∙ one_is k c e same

  miss_is : (k : ℕ) (c : ConnPlan) → slice_get conns k ≡ Some c → (c.host == h) ≡ false → given k ≡ []
  miss_is k c e differ =
      ap (λ (t : Bool). if t then arrived_at plan (world_of w) k else []) (ap (λ (q : ConnPlan). q.host == h) (conn_plan_is plan k c e) ∙ differ)

  pub arrived_there : arrived_to plan (world_of w) h ≡ all
  arrived_there = all_gathered h conns all given size_is hit_is miss_is

-- so what a host of the run sees is the plain world's
module _ (w : WorldState) (h : ℕ) (is : IsWorld w) where
  abbrev seen : Option Host → Option HostView
  seen o = option_map (λ (d : Desk). host_view d (arrived_to (plan_of w.doc) (world_of w) h)) (option_map (λ (y : Host). y.desk) o)

  stands : (o : Option NodeState) → slice_get w.nodes h ≡ o → seen (option_map plain_host o) ≡ view_of_host (plan_of w.doc) (world_of w) h
  stands o e = ap seen (sym (slice_get-map plain_host w.nodes h ∙ ap (option_map plain_host) e))

  by_node : (o : Option NodeState) → slice_get w.nodes h ≡ o → option_map node_view (slice_get w.nodes h) ≡ view_of_host (plan_of w.doc) (world_of w) h
  by_node None e = ap (option_map node_view) e ∙ stands None e
  by_node (Some x) e =
      ap (option_map node_view) e
      ∙ ap (λ (bytes : List (List ℕ)). Some (host_view (plain_host x).desk bytes)) (sym (arrived_there w is h x e))
      ∙ stands (Some x) e

  pub host_is : option_map node_view (slice_get w.nodes h) ≡ view_of_host (plan_of w.doc) (world_of w) h
  host_is = by_node (slice_get w.nodes h) refl
