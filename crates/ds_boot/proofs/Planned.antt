-- The connections to a host are those that the plan leads there.
use Rattle.std.proofs.Common.{◌≡◌, ℕ, zero, suc, Bool, true, false, cond, List, [], ◌∷◌, ◌++◌, length, map, filter, Some, slice_get, refl, sym, ◌∙◌, ap, subst, eqb, eqb-true}
use Rattle.std.specs.Prelude.{All}
use Rattle.std.specs.List.{flat_map}
use Rattle.std.proofs.lemmas.List.{map-append}
use Rattle.std.proofs.lemmas.Option.{get_or_from_slice_get, none-some, same_Some}
use Rattle.ds_model.specs.Plan.{ConnPlan, Link, OfLane, conn_plan, no_wire}
use Rattle.ds_inlet.specs.Connections.{Connection, new_connection}
use Rattle.ds_plan.specs.declared.doc.Doc.{Doc}
use Rattle.ds_plan.specs.declared.host.HostSpec.{HostSpec}
use Rattle.ds_plan.specs.declared.host.LaneSpec.{LaneSpec}
use Rattle.ds_plan.specs.Keys.{host_key}
use Rattle.ds_setup.specs.Lists.{each, joined}
use Rattle.ds_setup.specs.Plans.{inlets_of, lane_conns, plan_of}
use Rattle.ds_setup.proofs.Places.{Every, every_each, every_joined, from_map}
use Rattle.ds_boot.specs.Parts.{conn_actor, conn_begun, conns_to, ends_of, lane_ends, lane_to}
use Rattle.ds_boot.specs.HostsBegin.{ConnsArePlanned, EachConnIsPlanned, IsNew, IsPlannedTo}
use Rattle.ds_boot.proofs.Named.{every_all}

-- one item or none
every_if : {X : Type 0} (P : X → Type 0) (b : Bool) (x : X) → (b ≡ true → P x) → Every P (cond b (x ∷ []) [])
every_if P true x p zero y e = subst P (same_Some x y e) (p refl)
every_if P true x p (suc i) y e = absurd (none-some y e)
every_if P false x p i y e = absurd (none-some y e)

-- a list behind another, mapped
map_joined : {X Y Z : Type 0} (g : Y → Z) (f : ℕ → X → List Y) (to : X → List Z) (xs : List X) → ((i : ℕ) (x : X) → map g (f i x) ≡ to x) → map g (joined (each f xs)) ≡ flat_map to xs
map_joined g f to [] same = refl
map_joined {X} {Y} {Z} g f to (x ∷ xs) same =
    map-append g (f 0 x) (joined (each (λ i. f (suc i)) xs))
    ∙ (let later = map_joined g (λ i. f (suc i)) to xs (λ i y. same (suc i) y) in λ j. same 0 x j ++ later j)

module _ (d : Doc) where
  lanes_to : (host : ℕ) (h : HostSpec) → map (λ (c : ConnPlan). c.host) (lane_conns host h) ≡ lane_ends h
  lanes_to host h = go (λ l lane. record { host = lane.to; source = OfLane host l }) h.lanes (λ l lane. refl)
    where
      go : (f : ℕ → LaneSpec → ConnPlan) (lanes : List LaneSpec) → ((l : ℕ) (lane : LaneSpec) → (f l lane).host ≡ lane.to) → map (λ (c : ConnPlan). c.host) (each f lanes) ≡ map lane_to lanes
      go f [] same = refl
      go f (lane ∷ lanes) same = let later = go (λ l. f (suc l)) lanes (λ l. same (suc l)) in λ j. same 0 lane j ∷ later j

  links_to : (links : List ℕ) → map (λ (c : ConnPlan). c.host) (map (λ host. record { host = host; source = Link }) links) ≡ links
  links_to [] = refl
  links_to (host ∷ links) = ap (λ (ns : List ℕ). host ∷ ns) (links_to links)

  -- connections lead where the plan says
  pub ends_are : map (λ (c : ConnPlan). c.host) (plan_of d).conn_plans ≡ ends_of d
  ends_are =
      map-append (λ (c : ConnPlan). c.host) (joined (each lane_conns d.hosts)) (map (λ host. record { host = host; source = Link }) d.links)
      ∙ (let lanes = map_joined (λ (c : ConnPlan). c.host) lane_conns lane_ends d.hosts lanes_to in let links = links_to d.links in λ j. lanes j ++ links j)

  module _ (place : ℕ) (h : HostSpec) where
    leads_there : (number to : ℕ) → slice_get (ends_of d) number ≡ Some to → eqb to place ≡ true → (conn_plan (plan_of d) number).host ≡ place
    leads_there number to e on =
        let m : (c : ConnPlan) × (slice_get (plan_of d).conn_plans number ≡ Some c) × (c.host ≡ to) =
        from_map (λ (c : ConnPlan). c.host) (plan_of d).conn_plans number to (ap (λ (ns : List ℕ). slice_get ns number) ends_are ∙ e) in
        ap (λ (c : ConnPlan). c.host) (get_or_from_slice_get (plan_of d).conn_plans number m.0 no_wire m.1) ∙ (m.2 ∙ eqb-true to place on)

    each_conn : (P : Connection → Type 0) → ((number to : ℕ) → slice_get (ends_of d) number ≡ Some to → eqb to place ≡ true → P (new_connection (conn_actor place number) (host_key h) (inlets_of d.hosts place h))) → All P (conns_to d place h)
    each_conn P p = every_all P (conns_to d place h)
        (every_joined P (each (conn_begun place (host_key h) (inlets_of d.hosts place h)) (ends_of d))
        (every_each (Every P) (conn_begun place (host_key h) (inlets_of d.hosts place h)) (ends_of d)
        (λ number to e. every_if P (eqb to place) (new_connection (conn_actor place number) (host_key h) (inlets_of d.hosts place h)) (λ on. p number to e on))))

    -- one connection for each that the plan has to the host
    counted : (f : ℕ → Connection) (plans : List ConnPlan) → length (joined (each (λ number to. cond (eqb to place) (f number ∷ []) []) (map (λ (c : ConnPlan). c.host) plans))) ≡ length (filter (λ (c : ConnPlan). eqb c.host place) plans)
    counted f [] = refl
    counted f (c ∷ plans) = go (eqb c.host place) (counted (λ number. f (suc number)) plans)
      where
        go : (b : Bool) → length (joined (each (λ number to. cond (eqb to place) (f (suc number) ∷ []) []) (map (λ (c : ConnPlan). c.host) plans))) ≡ length (filter (λ (c : ConnPlan). eqb c.host place) plans)
            → length (cond b (f 0 ∷ []) [] ++ joined (each (λ number to. cond (eqb to place) (f (suc number) ∷ []) []) (map (λ (c : ConnPlan). c.host) plans))) ≡ length (cond b (c ∷ filter (λ (c : ConnPlan). eqb c.host place) plans) (filter (λ (c : ConnPlan). eqb c.host place) plans))
        go true later = ap suc later
        go false later = later

    conns_planned_so : ConnsArePlanned d place h
    conns_planned_so = record {
      new = each_conn IsNew (λ number to e on. refl);
      planned = each_conn (IsPlannedTo d place) leads_there;
      count =
          ap (λ (ns : List ℕ). length (joined (each (conn_begun place (host_key h) (inlets_of d.hosts place h)) ns))) (sym ends_are)
          ∙ counted (λ number. new_connection (conn_actor place number) (host_key h) (inlets_of d.hosts place h)) (plan_of d).conn_plans;
    }

pub conns_are_planned : EachConnIsPlanned
conns_are_planned d place h = conns_planned_so d place h
