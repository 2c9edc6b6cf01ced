-- An event enters on its actor's own host.
use Rattle.std.proofs.Common.{◌≡◌, ℕ, zero, suc, Bool, true, false, List, Option, Some, None, option_map, refl, sym, ◌∙◌, ap, eqb, eqb-true}
use Rattle.std.specs.Prelude.{if◌then◌else◌}
use Rattle.ds_script.specs.declared.actor.ActorKind.{ActorKind}
use Rattle.ds_script.specs.declared.actor.ActorKind.TheVariants.{Clock, Proc, Lane, Conn}
use Rattle.ds_model.specs.Scheme.{Scheme}
use Rattle.ds_model.specs.Plan.{HostPlan, Plan, host_plan, conn_plan}
use Rattle.ds_model.specs.World.{World}
use Rattle.ds_model.specs.Step.{Event, Step, Frame, Arrive, Accept, Deliver}
use Rattle.ds_model.specs.Access.{access}
use Rattle.ds_model.proofs.Places.{none_some, some_is}
use Rattle.ds_merge.specs.declared.kept.Kept.{Kept}
use Rattle.ds_merge.specs.declared.recorded.Recorded.{Recorded}
use Rattle.ds_replay.specs.Objects.{Object, TheDesk, MailboxAt, LaneAt, InletAt}
use Rattle.ds_replay.specs.Touches.{Touch, host_of, touch}
use Rattle.ds_replay.proofs.Replays.{own_host}
use Rattle.ds_machine.specs.Names.{name_of}
use Rattle.ds_machine.specs.Spelled.{kept_of}
use Rattle.ds_machine.specs.Machine.{if_act, frame_of, conn_event, event_by, event_of, event_entry}
use Rattle.ds_machine.specs.Laws.{EntersOwn}

if_some : {X : Type 0} (b : Bool) (o : Option X) (x : X) → (if b then o else None) ≡ Some x → o ≡ Some x
if_some true o x e = e
if_some false o x e = absurd (none_some x e)

module _ (plan : Plan) where
  host_is : (a e : Event) → Some a ≡ Some e → host_of plan e ≡ host_of plan a
  host_is a e q = ap (host_of plan) (sym (some_is a e q))

  frame_host : (h i : ℕ) (e : Event) → frame_of h i ≡ Some e → host_of plan e ≡ h
  frame_host h zero e q = absurd (none_some e q)
  frame_host h (suc l) e q = host_is (Frame h l) e q

  conn_host : (k act : ℕ) (body : List ℕ) (e : Event) → conn_event k act body ≡ Some e → host_of plan e ≡ (conn_plan plan k).host
  conn_host k act body e = go (eqb act 3) (eqb act 4)
    where
      go : (a b : Bool) → (if a then Some (Arrive k (Rattle.std.proofs.Common.length body)) else if b then if_act act 4 body (Some (Accept k)) else if_act act 5 body (Some (Deliver k))) ≡ Some e → host_of plan e ≡ (conn_plan plan k).host
      go true b q = host_is (Arrive k (Rattle.std.proofs.Common.length body)) e q
      go false true q = host_is (Accept k) e (if_some _ (Some (Accept k)) e q)
      go false false q = host_is (Deliver k) e (if_some _ (Some (Deliver k)) e q)

  event_host : (kind : ActorKind) (h i act : ℕ) (body : List ℕ) (e : Event) → event_by plan kind h i act body ≡ Some e → host_of plan e ≡ h
  event_host Proc h i act body e q = host_is (Step h i) e (if_some _ (Some (Step h i)) e q)
  event_host Lane h i act body e q = frame_host h i e (if_some _ (frame_of h i) e q)
  event_host Clock h i act body e q = host_is _ e (if_some _ _ e q)
  event_host Conn h k act body e q = go (eqb (conn_plan plan k).host h) refl q
    where
      go : (b : Bool) → eqb (conn_plan plan k).host h ≡ b → (if b then conn_event k act body else None) ≡ Some e → host_of plan e ≡ h
      go true is r = conn_host k act body e r ∙ eqb-true (conn_plan plan k).host h is
      go false is r = absurd (none_some e r)

named_host : (plan : HostPlan) (h : ℕ) (object : Object) → (name_of plan h object).host ≡ h
named_host plan h TheDesk = refl
named_host plan h (MailboxAt b) = refl
named_host plan h (LaneAt l) = refl
named_host plan h (InletAt i) = refl

module _ (s : Scheme) (plan : Plan) (w : World) (r : Recorded) (k : Kept) where
  by_touch : (e : Event) → host_of plan e ≡ r.who.host → (o : Option Touch) → touch s plan w e ≡ o → option_map (kept_of plan w r.who r.stamp) o ≡ Some k → (k.object.host ≡ r.who.host) × (k.who ≡ r.who) × (k.stamp ≡ r.stamp)
  by_touch e own None is q = absurd (none_some k q)
  by_touch e own (Some t) is q =
      let same : kept_of plan w r.who r.stamp t ≡ k = some_is (kept_of plan w r.who r.stamp t) k q in (
        ap (λ (u : Kept). u.object.host) (sym same) ∙ (named_host (host_plan plan t.host) t.host t.object ∙ (own_host (host_of plan e) (access s plan w e (host_of plan e)) t is ∙ own)),
        ap (λ (u : Kept). u.who) (sym same),
        ap (λ (u : Kept). u.stamp) (sym same),
      )

  by_event : (o : Option Event) → event_of plan r ≡ o → event_entry s plan w r o ≡ Some k → (k.object.host ≡ r.who.host) × (k.who ≡ r.who) × (k.stamp ≡ r.stamp)
  by_event None is q = absurd (none_some k q)
  by_event (Some e) is q = by_touch e (event_host plan r.who.kind r.who.host r.who.index r.act r.body e is) (touch s plan w e) refl q

pub enters_own : EntersOwn
enters_own s plan w r k q = by_event s plan w r k (event_of plan r) refl q
