-- Each object is the replay of its own changes, by what the model says of mailboxes, lanes, inlets and desks.
use Rattle.std.proofs.Common.{◌≡◌, ◌≢◌, ℕ, Bool, true, false, List, [], ◌∷◌, ◌++◌, Option, Some, None, slice_get, option_map, map, refl, sym, ◌∙◌, ap, arith, append-nil, eqb, eqb-true, eq-eqb, ne_eqb}
use Rattle.std.specs.Prelude.{if◌then◌else◌, ◌&&◌}
use Rattle.std.specs.Option.{is_some}
use native.Mathlib.Decide.{ℕ_discrete}
use Rattle.ds_label.specs.declared.category.PubKey.{PubKey}
use Rattle.ds_script.specs.Replay.{onward, replay}
use Rattle.ds_model.specs.Lists.{at}
use Rattle.ds_model.specs.Scheme.{Scheme}
use Rattle.ds_model.specs.Plan.{Plan, host_plan, conn_plan, box_plan, lane_plan}
use Rattle.ds_model.specs.Mailbox.{box_step, box_enter}
use Rattle.ds_model.specs.Lane.{lane_step, lane_after}
use Rattle.ds_model.specs.Inlet.{inlet_step, inlet_after}
use Rattle.ds_model.specs.Desk.{desk_step}
use Rattle.ds_model.specs.World.{Host, World}
use Rattle.ds_model.specs.Step.{Event, Step, Frame, Arrive, Accept, Deliver, Tick, Inject, Copy, resolve, step}
use Rattle.ds_model.specs.Access.{Access, NoAccess, InBox, InLane, InInlet, InDesk, access_at, access_in, access, Objects, objects_at, objects_after, box_state, box_entry, lane_state, lane_entry, inlet_state, inlet_entry, desk_state, desk_entry}
use Rattle.ds_model.proofs.Places.{seen_at, none_some, some_is, cond_case}
use Rattle.ds_model.proofs.Touches.{step_touch}
use Rattle.ds_model.proofs.Replays.{replay_append}
use Rattle.ds_model.proofs.Meeting.{boxes_replay, lanes_replay, inlets_replay, desks_replay}
use Rattle.ds_replay.specs.Objects.{Object, TheDesk, MailboxAt, LaneAt, InletAt, Change, OfDesk, OfMailbox, OfLane, OfInlet, ObjectState, Missing, DeskState, MailboxState, LaneState, InletState, after_change, state_of, state_at}
use Rattle.ds_replay.specs.Touches.{Touch, touch_of, host_of, touch, change_of, changes_of}
use Rattle.ds_replay.specs.Laws.{OneObject, RunsReplay}
use Rattle.ds_replay.proofs.There.{no_box_entry, no_lane_entry, no_inlet_entry, no_host_access}

-- A REPLAY OF ENTRIES AS ONE OF CHANGES

module _ {S E : Type 0} (make : S → ObjectState) (of : E → Change) (one : S → E → Option S) (big : ObjectState → Change → Option ObjectState)
    (same : (x : S) (e : E) → big (make x) (of e) ≡ option_map make (one x e)) where
  many : (x y : S) (es : List E) → replay one x es ≡ Some y → replay big (make x) (map of es) ≡ Some (make y)
  many x y [] e = ap (option_map make) e
  many x y (f ∷ es) e = ap (λ o. onward o (λ t. replay big t (map of es))) (same x f) ∙ go (one x f) e (λ t. many t y es)
    where
      go : (o : Option S) → onward o (λ t. replay one t es) ≡ Some y → ((t : S) → replay one t es ≡ Some y → replay big (make t) (map of es) ≡ Some (make y))
          → onward (option_map make o) (λ t. replay big t (map of es)) ≡ Some (make y)
      go None q rec = absurd (none_some y q)
      go (Some t) q rec = rec t q

  -- of a thing that is there before and after, or at neither time, and then has no entry
  lifted : (o p : Option S) (es : List E) → is_some p ≡ is_some o → (o ≡ None → es ≡ []) → onward o (λ x. replay one x (es ++ [])) ≡ p → replay big (state_of make o) (map of es) ≡ Some (state_of make p)
  lifted None None es stays none e = ap (λ fs. replay big Missing (map of fs)) (none refl)
  lifted None (Some y) es stays none e = absurd (none_some y e)
  lifted (Some x) None es stays none e = absurd (grind arith)
  lifted (Some x) (Some y) es stays none e = many x y es (ap (replay one x) (sym (append-nil es)) ∙ e)

-- THINGS STAY WHERE THEY ARE

stays_at : {X : Type 0} (i j : ℕ) (f : X → X) (xs : List X) → is_some (slice_get (at j f xs) i) ≡ is_some (slice_get xs i)
stays_at {X} i j f xs = ap is_some (seen_at i j f xs) ∙ go (eqb j i) (slice_get xs i)
  where
    go : (b : Bool) (o : Option X) → is_some (if b then option_map f o else o) ≡ is_some o
    go false o = refl
    go true None = refl
    go true (Some x) = refl

some_map : {X Y : Type 0} (f : X → Y) (o : Option X) → is_some (option_map f o) ≡ is_some o
some_map f None = refl
some_map f (Some x) = refl

box_stays : (k : PubKey) (b : ℕ) (t : Access) (o : Objects) → is_some (box_state b (objects_after k t o)) ≡ is_some (box_state b o)
box_stays k b NoAccess o = refl
box_stays k b (InBox j e) o = some_map _ (slice_get (at j (box_enter e) o.boxes) b) ∙ (stays_at b j (box_enter e) o.boxes ∙ sym (some_map _ (slice_get o.boxes b)))
box_stays k b (InLane j e) o = refl
box_stays k b (InInlet j e) o = refl
box_stays k b (InDesk e) o = refl

lane_stays : (k : PubKey) (l : ℕ) (t : Access) (o : Objects) → is_some (lane_state l (objects_after k t o)) ≡ is_some (lane_state l o)
lane_stays k l NoAccess o = refl
lane_stays k l (InBox j e) o = refl
lane_stays k l (InLane j e) o = stays_at l j (lane_after e) o.queues
lane_stays k l (InInlet j e) o = refl
lane_stays k l (InDesk e) o = refl

inlet_stays : (k : PubKey) (i : ℕ) (t : Access) (o : Objects) → is_some (inlet_state i (objects_after k t o)) ≡ is_some (inlet_state i o)
inlet_stays k i NoAccess o = refl
inlet_stays k i (InBox j e) o = refl
inlet_stays k i (InLane j e) o = refl
inlet_stays k i (InInlet j e) o = stays_at i j (inlet_after e) o.inlets
inlet_stays k i (InDesk e) o = refl

desk_stays : (k : PubKey) (t : Access) (o : Objects) → is_some (desk_state (objects_after k t o)) ≡ is_some (desk_state o)
desk_stays k t o = refl

in_world : {S : Type 0} (state : Objects → Option S) (f : Objects → Objects) (q : Option Objects) → ((o : Objects) → is_some (state (f o)) ≡ is_some (state o)) → is_some (onward (option_map f q) state) ≡ is_some (onward q state)
in_world state f None e = refl
in_world state f (Some o) e = e o

-- THE CHANGES OF AN OBJECT ARE ITS ENTRIES

same_place : {E : Type 0} (g h : ℕ) (j i : ℕ) (of : E → Change) (e : E) → eqb g h ≡ true → (if eqb g h && eqb j i then of e ∷ [] else []) ≡ map of (if eqb j i then e ∷ [] else [])
same_place g h j i of e is = ap (λ b. if b && eqb j i then of e ∷ [] else []) is ∙ go (eqb j i)
  where
    go : (b : Bool) → (if true && b then of e ∷ [] else []) ≡ map of (if b then e ∷ [] else [])
    go true = refl
    go false = refl

none_there : {E : Type 0} (b : Bool) (e : E) → (if b && false then e ∷ [] else []) ≡ []
none_there true e = refl
none_there false e = refl

box_changes : (h b : ℕ) (t : Access) → change_of h (MailboxAt b) (touch_of h t) ≡ map OfMailbox (box_entry b t)
box_changes h b NoAccess = refl
box_changes h b (InBox j e) = same_place h h j b OfMailbox e (eq-eqb h h refl)
box_changes h b (InLane j e) = none_there (eqb h h) (OfLane e)
box_changes h b (InInlet j e) = none_there (eqb h h) (OfInlet e)
box_changes h b (InDesk e) = none_there (eqb h h) (OfDesk e)

lane_changes : (h l : ℕ) (t : Access) → change_of h (LaneAt l) (touch_of h t) ≡ map OfLane (lane_entry l t)
lane_changes h l NoAccess = refl
lane_changes h l (InLane j e) = same_place h h j l OfLane e (eq-eqb h h refl)
lane_changes h l (InBox j e) = none_there (eqb h h) (OfMailbox e)
lane_changes h l (InInlet j e) = none_there (eqb h h) (OfInlet e)
lane_changes h l (InDesk e) = none_there (eqb h h) (OfDesk e)

inlet_changes : (h i : ℕ) (t : Access) → change_of h (InletAt i) (touch_of h t) ≡ map OfInlet (inlet_entry i t)
inlet_changes h i NoAccess = refl
inlet_changes h i (InInlet j e) = same_place h h j i OfInlet e (eq-eqb h h refl)
inlet_changes h i (InBox j e) = none_there (eqb h h) (OfMailbox e)
inlet_changes h i (InLane j e) = none_there (eqb h h) (OfLane e)
inlet_changes h i (InDesk e) = none_there (eqb h h) (OfDesk e)

desk_changes : (h : ℕ) (t : Access) → change_of h TheDesk (touch_of h t) ≡ map OfDesk (desk_entry t)
desk_changes h NoAccess = refl
desk_changes h (InDesk e) = ap (λ b. if b && true then OfDesk e ∷ [] else []) (eq-eqb h h refl)
desk_changes h (InBox j e) = none_there (eqb h h) (OfMailbox e)
desk_changes h (InLane j e) = none_there (eqb h h) (OfLane e)
desk_changes h (InInlet j e) = none_there (eqb h h) (OfInlet e)

-- on another host there are none

elsewhere : (g h : ℕ) (object : Object) (o : Option Touch) → g ≢ h → ((t : Touch) → o ≡ Some t → t.host ≡ g) → change_of h object o ≡ []
elsewhere g h object None n own = refl
elsewhere g h object (Some t) n own = cond_case (λ es. es ≡ []) (eqb t.host h && _) (t.change ∷ []) [] (λ q. absurd (n (sym (own t refl) ∙ eqb-true t.host h (first _ _ q)))) (λ _. refl)
  where
    first : (a b : Bool) → (a && b) ≡ true → a ≡ true
    first true b q = refl
    first false b q = q

pub own_host : (g : ℕ) (a : Access) (t : Touch) → touch_of g a ≡ Some t → t.host ≡ g
own_host g NoAccess t e = absurd (none_some t e)
own_host g (InDesk entry) t e = ap (λ (u : Touch). u.host) (sym (some_is (record { host = g; object = TheDesk; change = OfDesk entry }) t e))
own_host g (InBox b entry) t e = ap (λ (u : Touch). u.host) (sym (some_is (record { host = g; object = MailboxAt b; change = OfMailbox entry }) t e))
own_host g (InLane l entry) t e = ap (λ (u : Touch). u.host) (sym (some_is (record { host = g; object = LaneAt l; change = OfLane entry }) t e))
own_host g (InInlet i entry) t e = ap (λ (u : Touch). u.host) (sym (some_is (record { host = g; object = InletAt i; change = OfInlet entry }) t e))

not_here : (h g : ℕ) (t : Access) → h ≢ g → (if eqb h g then t else NoAccess) ≡ NoAccess
not_here h g t n = ap (λ b. if b then t else NoAccess) (ne_eqb h g n)

module _ (s : Scheme) (plan : Plan) (w : World) where
  other_at : (e : Event) (h : ℕ) (x : Host) → h ≢ host_of plan e → access_at s plan w e h x ≡ NoAccess
  other_at (Step g p) h x n = not_here h g _ n
  other_at (Frame g l) h x n = not_here h g _ n
  other_at (Accept k) h x n = not_here h (conn_plan plan k).host _ n
  other_at (Deliver k) h x n = not_here h (conn_plan plan k).host _ n
  other_at (Tick g t) h x n = not_here h g _ n
  other_at (Arrive k m) h x n = refl
  other_at (Inject k bytes) h x n = refl
  other_at (Copy k j from until) h x n = refl

  other_in : (e : Event) (h : ℕ) (q : Option Host) → h ≢ host_of plan e → access_in s plan w e h q ≡ NoAccess
  other_in e h None n = refl
  other_in e h (Some x) n = other_at e h x n

  same_host : (e : Event) → host_of plan (resolve plan w e) ≡ host_of plan e
  same_host (Step g p) = refl
  same_host (Frame g l) = refl
  same_host (Accept k) = refl
  same_host (Deliver k) = refl
  same_host (Tick g t) = refl
  same_host (Arrive k m) = refl
  same_host (Inject k bytes) = refl
  same_host (Copy k j from until) = refl

  other_host : (e : Event) (h : ℕ) → h ≢ host_of plan e → access s plan w e h ≡ NoAccess
  other_host e h n = other_in (resolve plan w e) h (slice_get w.hosts h) (λ q. n (q ∙ same_host e))

  -- what an event makes of an object is what was entered on the object's host
  by_host : (e : Event) (h : ℕ) (object : Object) → change_of h object (touch s plan w e) ≡ change_of h object (touch_of h (access s plan w e h))
  by_host e h object = go (ℕ_discrete h (host_of plan e))
    where
      go : Dec (h ≡ host_of plan e) → change_of h object (touch s plan w e) ≡ change_of h object (touch_of h (access s plan w e h))
      go (yes is) = ap (λ g. change_of h object (touch_of g (access s plan w e g))) (sym is)
      go (no n) = elsewhere (host_of plan e) h object (touch s plan w e) (λ q. n (sym q)) (own_host (host_of plan e) (access s plan w e (host_of plan e)))
          ∙ sym (ap (λ a. change_of h object (touch_of h a)) (other_host e h n))

  stays : {S : Type 0} (state : Objects → Option S) → ((k : PubKey) (t : Access) (o : Objects) → is_some (state (objects_after k t o)) ≡ is_some (state o)) → (e : Event) (h : ℕ) → is_some (onward (objects_at (step s plan w e) h) state) ≡ is_some (onward (objects_at w h) state)
  stays state each e h = ap (λ q. is_some (onward q state)) (step_touch s plan w e h) ∙ in_world state (objects_after (host_plan plan h).key (access s plan w e h)) (objects_at w h) (λ o. each (host_plan plan h).key (access s plan w e h) o)

  onward_none : (q : Option Objects) → onward q desk_state ≡ None → q ≡ None
  onward_none None e = refl
  onward_none (Some o) e = absurd (grind arith)

  one_of : (e : Event) (h : ℕ) (object : Object) → replay (after_change s (host_plan plan h) object) (state_at w h object) (change_of h object (touch_of h (access s plan w e h))) ≡ Some (state_at (step s plan w e) h object)
  one_of e h TheDesk = ap (replay (after_change s (host_plan plan h) TheDesk) (state_at w h TheDesk)) (desk_changes h (access s plan w e h))
      ∙ lifted DeskState OfDesk (desk_step s (host_plan plan h)) (after_change s (host_plan plan h) TheDesk) (λ x f. refl) (onward (objects_at w h) desk_state) (onward (objects_at (step s plan w e) h) desk_state) (desk_entry (access s plan w e h))
      (stays desk_state desk_stays e h) (λ none. ap desk_entry (no_host_access s plan w h e (onward_none (objects_at w h) none))) (desks_replay s plan w (e ∷ []) h)
  one_of e h (MailboxAt b) = ap (replay (after_change s (host_plan plan h) (MailboxAt b)) (state_at w h (MailboxAt b))) (box_changes h b (access s plan w e h))
      ∙ lifted MailboxState OfMailbox (box_step (box_plan (host_plan plan h) b).room) (after_change s (host_plan plan h) (MailboxAt b)) (λ x f. refl) (onward (objects_at w h) (box_state b)) (onward (objects_at (step s plan w e) h) (box_state b)) (box_entry b (access s plan w e h))
      (stays (box_state b) (λ k. box_stays k b) e h) (no_box_entry s plan w h b e) (boxes_replay s plan w (e ∷ []) h b)
  one_of e h (LaneAt l) = ap (replay (after_change s (host_plan plan h) (LaneAt l)) (state_at w h (LaneAt l))) (lane_changes h l (access s plan w e h))
      ∙ lifted LaneState OfLane (lane_step (lane_plan (host_plan plan h) l).room) (after_change s (host_plan plan h) (LaneAt l)) (λ x f. refl) (onward (objects_at w h) (lane_state l)) (onward (objects_at (step s plan w e) h) (lane_state l)) (lane_entry l (access s plan w e h))
      (stays (lane_state l) (λ k. lane_stays k l) e h) (no_lane_entry s plan w h l e) (lanes_replay s plan w (e ∷ []) h l)
  one_of e h (InletAt i) = ap (replay (after_change s (host_plan plan h) (InletAt i)) (state_at w h (InletAt i))) (inlet_changes h i (access s plan w e h))
      ∙ lifted InletState OfInlet inlet_step (after_change s (host_plan plan h) (InletAt i)) (λ x f. refl) (onward (objects_at w h) (inlet_state i)) (onward (objects_at (step s plan w e) h) (inlet_state i)) (inlet_entry i (access s plan w e h))
      (stays (inlet_state i) (λ k. inlet_stays k i) e h) (no_inlet_entry s plan w h i e) (inlets_replay s plan w (e ∷ []) h i)

pub one_object : OneObject
one_object s plan w e h object = ap (replay (after_change s (host_plan plan h) object) (state_at w h object)) (by_host s plan w e h object) ∙ one_of s plan w e h object

pub runs_replay : RunsReplay
runs_replay s plan w [] h object = refl
runs_replay s plan w (e ∷ events) h object =
    replay_append (after_change s (host_plan plan h) object) (state_at w h object) (change_of h object (touch s plan w e)) (changes_of s plan (step s plan w e) events h object)
    ∙ (ap (λ o. onward o (λ v. replay (after_change s (host_plan plan h) object) v (changes_of s plan (step s plan w e) events h object))) (one_object s plan w e h object)
    ∙ runs_replay s plan (step s plan w e) events h object)
