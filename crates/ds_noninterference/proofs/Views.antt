-- What is seen at the end of two runs.
use Rattle.std.proofs.Common.{◌≡◌, ℕ, zero, suc, Bool, true, false, List, [], ◌∷◌, ◌++◌, ◌&&◌, Option, Some, None, slice_get, option_map, take, length, refl, ◌∙◌, ap, ap₂, inl, inr, eqb, eqb-true}
use Rattle.std.specs.Prelude.{if◌then◌else◌}
use Rattle.ds_label.specs.declared.category.Category.{Category}
use Rattle.ds_label.specs.Names.{is_secrecy}
use Rattle.ds_model.specs.Lists.{gathered}
use Rattle.ds_model.specs.Scheme.{Scheme}
use Rattle.ds_model.specs.Plan.{Plan, Source, Link, OfLane, conn_plan}
use Rattle.ds_model.specs.World.{Conn, Host, World}
use Rattle.ds_model.specs.Step.{stream_of, run}
use Rattle.ds_model.specs.Views.{proc_in, proc_at, proc_view, view_of_proc, desk_at, arrived_in, arrived_at, arrived_to, view_of_host, host_view}
use Rattle.ds_noninterference.specs.High.{is_in, high_at, high_lane, high_source, high_conn}
use Rattle.ds_noninterference.specs.Alike.{Alike, AlikeAt, AlikeWorlds}
use Rattle.ds_noninterference.specs.Premises.{IsScheme}
use Rattle.ds_noninterference.specs.Law.{AtEnd, SameProcesses, SameHosts, SameDesks, SameArrivals}
use Rattle.ds_noninterference.proofs.Induction.{law, start_kept}
use Rattle.ds_noninterference.proofs.Flow.{not_both}
use Rattle.ds_noninterference.proofs.Events.{same_conns, same_stream}
use Rattle.ds_noninterference.proofs.Setting.{Setting, sound_along, setting}

pub gathered_same : {X : Type 0} (f g : ℕ → List X) (n : ℕ) → ((i : ℕ) → f i ≡ g i) → gathered f n ≡ gathered g n
gathered_same f g zero same = refl
gathered_same f g (suc n) same = ap₂ (λ xs ys. xs ++ ys) (gathered_same f g n same) (same n)

source_low : (c : Category) (trusted : List ℕ) (plan : Plan) (r : ℕ) (source : Source) → is_in trusted r ≡ false → high_source c trusted plan r source ≡ false
source_low c trusted plan r Link low = refl
source_low c trusted plan r (OfLane h l) low = go (high_lane c trusted plan h l) (is_in trusted r) low
  where
    go : (a b : Bool) → b ≡ false → (a && b) ≡ false
    go true b e = e
    go false b e = refl

-- WHAT PROCESSES AND HOSTS SEE

module _ (s : Scheme) (c : Category) (secret : is_secrecy c.kind ≡ true) (trusted : List ℕ) (plan : Plan) (is : IsScheme s plan) (fits : Setting c trusted plan) where
  proc_same : (h p : ℕ) (o q : Option Host) → AlikeAt c trusted plan h o q → high_at c (is_in trusted h) (proc_in o p) ≡ false → proc_in o p ≡ proc_in q p
  proc_same h p None None r low = refl
  proc_same h p None (Some y) r low = absurd r
  proc_same h p (Some x) None r low = absurd r
  proc_same h p (Some x) (Some y) r low = go (r.procs p)
    where
      go : Alike (high_at c (is_in trusted h) (slice_get x.procs p)) (high_at c (is_in trusted h) (slice_get y.procs p)) (slice_get x.procs p) (slice_get y.procs p) → slice_get x.procs p ≡ slice_get y.procs p
      go (inl e) = e
      go (inr k) = absurd (not_both _ k.0 low)

  desk_same : (h : ℕ) (o q : Option Host) → AlikeAt c trusted plan h o q → option_map (λ x. x.desk) o ≡ option_map (λ x. x.desk) q
  desk_same h None None r = refl
  desk_same h None (Some y) r = absurd r
  desk_same h (Some x) None r = absurd r
  desk_same h (Some x) (Some y) r = ap Some r.desk

  pub proc_views : (v w : World) → AlikeWorlds c trusted plan v w → (h p : ℕ) → high_at c (is_in trusted h) (proc_at v h p) ≡ false → view_of_proc v h p ≡ view_of_proc w h p
  proc_views v w r h p low = ap (option_map proc_view) (proc_same h p (slice_get v.hosts h) (slice_get w.hosts h) (r.hosts h) low)

  pub desk_views : (v w : World) → AlikeWorlds c trusted plan v w → (h : ℕ) → desk_at v h ≡ desk_at w h
  desk_views v w r h = desk_same h _ _ (r.hosts h)

  arrived_same : (v w : World) (k : ℕ) (o q : Option Conn) → o ≡ q → ((y : Conn) → stream_of v (conn_plan plan k).source y ≡ stream_of w (conn_plan plan k).source y) → arrived_in plan v k o ≡ arrived_in plan w k q
  arrived_same v w k None q e f = ap (arrived_in plan w k) e
  arrived_same v w k (Some y) q e f = ap (λ bytes. take y.count bytes ∷ []) (f y) ∙ ap (arrived_in plan w k) e

  pub arrived_views : (v w : World) → AlikeWorlds c trusted plan v w → (k : ℕ) → high_conn c trusted plan k ≡ false → arrived_at plan v k ≡ arrived_at plan w k
  arrived_views v w r k low = arrived_same v w k _ _ (same_conns s c trusted plan is secret fits v w r k low) (λ y. same_stream s c trusted plan is secret fits v w r k (conn_plan plan k).source y refl low)

  arrived_there : (v w : World) → AlikeWorlds c trusted plan v w → (h : ℕ) → is_in trusted h ≡ false → arrived_to plan v h ≡ arrived_to plan w h
  arrived_there v w r h low = gathered_same _ _ (length plan.conn_plans) (λ k. go k (eqb (conn_plan plan k).host h) refl)
    where
      go : (k : ℕ) (z : Bool) → eqb (conn_plan plan k).host h ≡ z → (if z then arrived_at plan v k else []) ≡ (if z then arrived_at plan w k else [])
      go k true e = arrived_views v w r k (source_low c trusted plan (conn_plan plan k).host (conn_plan plan k).source (ap (is_in trusted) (eqb-true _ _ e) ∙ low))
      go k false e = refl

  pub host_views : (v w : World) → AlikeWorlds c trusted plan v w → (h : ℕ) → is_in trusted h ≡ false → view_of_host plan v h ≡ view_of_host plan w h
  host_views v w r h low = ap₂ (λ bytes o. option_map (λ d. host_view d bytes) o) (arrived_there v w r h low) (desk_views v w r h)

-- THE LAW

-- the worlds at the end are equal but for what is high
pub laws : AtEnd AlikeWorlds
laws s c trusted plan v w one two is p =
    let fits : Setting c trusted plan = setting s c trusted plan v one p.fits p.obeys_one in
    law s c p.secret trusted plan is fits one two v w p.agree.start
    (start_kept s c p.secret trusted plan is fits v p.start_one) (start_kept s c p.secret trusted plan is fits w p.start_two)
    (sound_along s c trusted plan v one p.obeys_one.issues p.unforged_one) (sound_along s c trusted plan w two p.obeys_two.issues p.unforged_two)
    p.agree.same_marks

pub processes : AtEnd SameProcesses
processes s c trusted plan v w one two is p = proc_views s c p.secret trusted plan is (setting s c trusted plan v one p.fits p.obeys_one) (run s plan v one) (run s plan w two) (laws s c trusted plan v w one two is p)

pub hosts : AtEnd SameHosts
hosts s c trusted plan v w one two is p = host_views s c p.secret trusted plan is (setting s c trusted plan v one p.fits p.obeys_one) (run s plan v one) (run s plan w two) (laws s c trusted plan v w one two is p)

pub desks : AtEnd SameDesks
desks s c trusted plan v w one two is p = desk_views s c p.secret trusted plan is (setting s c trusted plan v one p.fits p.obeys_one) (run s plan v one) (run s plan w two) (laws s c trusted plan v w one two is p)

pub arrivals : AtEnd SameArrivals
arrivals s c trusted plan v w one two is p = arrived_views s c p.secret trusted plan is (setting s c trusted plan v one p.fits p.obeys_one) (run s plan v one) (run s plan w two) (laws s c trusted plan v w one two is p)
