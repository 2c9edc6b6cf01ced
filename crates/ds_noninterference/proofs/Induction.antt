-- The law: two lists of events by their marks, one High event at a time.
use Rattle.std.proofs.Common.{◌≡◌, ◌≢◌, ℕ, Bool, true, false, cond, List, [], ◌∷◌, Option, Some, None, slice_get, refl, sym, ◌∙◌, ap, subst, ◌⊎◌, inl, inr, arith, append-nil}
use Rattle.ds_label.specs.declared.category.Category.{Category}
use Rattle.ds_label.specs.Names.{is_secrecy}
use Rattle.ds_model.specs.Scheme.{Scheme}
use Rattle.ds_model.specs.Plan.{HostPlan, Plan, host_plan}
use Rattle.ds_model.specs.World.{Process, World}
use Rattle.ds_model.specs.Setup.{IsSetup}
use Rattle.ds_model.specs.ProcessStep.{ask}
use Rattle.ds_model.specs.Step.{Event, Step, Frame, Arrive, Accept, Deliver, Tick, Inject, Copy, resolve, happens, step, run}
use Rattle.ds_model.specs.Views.{proc_in}
use Rattle.ds_noninterference.specs.High.{is_in, high_proc}
use Rattle.ds_noninterference.specs.Observations.{Released, Mark, Release, High, Low, released, mark_released, mark_proc, high_or, mark_of, mark, unless_high, marks, Along}
use Rattle.ds_noninterference.specs.Alike.{AlikeWorlds}
use Rattle.ds_noninterference.specs.Premises.{IsScheme}
use Rattle.ds_noninterference.proofs.Kept.{Kept}
use Rattle.ds_noninterference.proofs.Events.{quiet_event, same_event}
use Rattle.ds_noninterference.proofs.KeptRuns.{keep_event}
use Rattle.ds_noninterference.proofs.Relation.{flip_worlds, join_worlds}
use Rattle.ds_noninterference.proofs.Setting.{Setting, Sound}

is_high : (m : Mark) → (m ≡ High) ⊎ (m ≢ High)
is_high High = inl refl
is_high (Low e) = inr (λ q. grind arith)
is_high (Release h p r) = inr (λ q. grind arith)

marked : (m : Mark) (ms : List Mark) → m ≢ High → unless_high m ms ≡ m ∷ ms
marked High ms n = absurd (n refl)
marked (Low e) ms n = refl
marked (Release h p r) ms n = refl

heads : (m n : Mark) (ms ns : List Mark) → m ∷ ms ≡ n ∷ ns → m ≡ n
heads m n ms ns e = cc

tails : (m n : Mark) (ms ns : List Mark) → m ∷ ms ≡ n ∷ ns → ms ≡ ns
tails m n ms ns e = cc

none : (m : Mark) (ms : List Mark) → [] ≡ m ∷ ms → ⊥
none m ms e = grind arith

-- an event is known by its mark, unless that is High
abbrev event_of : Mark → Event
event_of High = Tick 0 0
event_of (Low e) = e
event_of (Release h p r) = Step h p

released_event : (h p : ℕ) (o : Option Released) → mark_released h p o ≢ High → event_of (mark_released h p o) ≡ Step h p
released_event h p None n = absurd (n refl)
released_event h p (Some r) n = refl

proc_event : (c : Category) (t : Bool) (plan : HostPlan) (h p : ℕ) (o : Option Process) → mark_proc c t plan h p o ≢ High → event_of (mark_proc c t plan h p o) ≡ Step h p
proc_event c t plan h p None n = refl
proc_event c t plan h p (Some x) n = go (high_proc c t x) n
  where
    go : (z : Bool) → cond z (mark_released h p (released c (ask plan p x))) (Low (Step h p)) ≢ High → event_of (cond z (mark_released h p (released c (ask plan p x))) (Low (Step h p))) ≡ Step h p
    go true k = released_event h p (released c (ask plan p x)) k
    go false k = refl

or_event : (b : Bool) (e : Event) → high_or b e ≢ High → event_of (high_or b e) ≡ e
or_event true e n = absurd (n refl)
or_event false e n = refl

event_known : (c : Category) (trusted : List ℕ) (plan : Plan) (w : World) (e : Event) → mark_of c trusted plan w e ≢ High → event_of (mark_of c trusted plan w e) ≡ e
event_known c trusted plan w (Step h p) n = proc_event c (is_in trusted h) (host_plan plan h) h p (proc_in (slice_get w.hosts h) p) n
event_known c trusted plan w (Frame h l) n = or_event _ _ n
event_known c trusted plan w (Arrive k m) n = or_event _ _ n
event_known c trusted plan w (Accept k) n = or_event _ _ n
event_known c trusted plan w (Deliver k) n = or_event _ _ n
event_known c trusted plan w (Tick h t) n = refl
event_known c trusted plan w (Inject k bytes) n = refl
event_known c trusted plan w (Copy k j from until) n = refl

now : (s : Scheme) (plan : Plan) (P : World → Type 0) (w : World) (events : List Event) → Along s plan P w events → P w
now s plan P w [] a = a.0
now s plan P w (e ∷ events) a = a.0

module _ (s : Scheme) (c : Category) (secret : is_secrecy c.kind ≡ true) (trusted : List ℕ) (plan : Plan) (is : IsScheme s plan) (fits : Setting c trusted plan) where
  -- one step on the second side, with mark High
  on_second : (v w : World) (e : Event) → AlikeWorlds c trusted plan v w → Kept s c trusted plan w → mark c trusted plan w e ≡ High → AlikeWorlds c trusted plan v (step s plan w e)
  on_second v w e r kept m = join_worlds c trusted plan v w (step s plan w e) r (quiet_event s c trusted plan is secret fits w kept (resolve plan w e) m)

  on_first : (v w : World) (e : Event) → AlikeWorlds c trusted plan v w → Kept s c trusted plan v → mark c trusted plan v e ≡ High → AlikeWorlds c trusted plan (step s plan v e) w
  on_first v w e r kept m = join_worlds c trusted plan (step s plan v e) v w (flip_worlds c trusted plan v (step s plan v e) (quiet_event s c trusted plan is secret fits v kept (resolve plan v e) m)) r

  keep : (w : World) (e : Event) → Kept s c trusted plan w → Sound s c trusted plan w → Kept s c trusted plan (step s plan w e)
  keep w e kept sound = keep_event s c secret trusted plan is fits w kept sound (resolve plan w e)

  -- one step on both sides, with equal marks
  on_both : (v w : World) (e f : Event) → AlikeWorlds c trusted plan v w → Kept s c trusted plan v → Sound s c trusted plan v → mark c trusted plan v e ≡ mark c trusted plan w f → mark c trusted plan v e ≢ High → AlikeWorlds c trusted plan (step s plan v e) (step s plan w f)
  on_both v w e f r kept sound eq low =
      let same : resolve plan v e ≡ resolve plan w f =
      sym (event_known c trusted plan v (resolve plan v e) low) ∙ (ap event_of eq ∙ event_known c trusted plan w (resolve plan w f) (λ bad. low (eq ∙ bad))) in
      subst (λ g. AlikeWorlds c trusted plan (step s plan v e) (happens s plan w g)) same
      (same_event s c trusted plan is secret fits v w r kept sound (resolve plan v e) (eq ∙ ap (mark_of c trusted plan w) (sym same)) low)

  second_only : (two : List Event) (v w : World) → AlikeWorlds c trusted plan v w → Kept s c trusted plan w → Along s plan (Sound s c trusted plan) w two → [] ≡ marks s c trusted plan w two → AlikeWorlds c trusted plan v (run s plan w two)
  second_only [] v w r kept sound eq = r
  second_only (f ∷ two) v w r kept sound eq = go (second_only two) (is_high (mark c trusted plan w f))
    where
      go : ((v w : World) → AlikeWorlds c trusted plan v w → Kept s c trusted plan w → Along s plan (Sound s c trusted plan) w two → [] ≡ marks s c trusted plan w two → AlikeWorlds c trusted plan v (run s plan w two)) →
          (mark c trusted plan w f ≡ High) ⊎ (mark c trusted plan w f ≢ High) → AlikeWorlds c trusted plan v (run s plan (step s plan w f) two)
      go ih (inl high) = ih v (step s plan w f) (on_second v w f r kept high) (keep w f kept sound.0) sound.1 (eq ∙ ap (λ m. unless_high m (marks s c trusted plan (step s plan w f) two)) high)
      go ih (inr low) = absurd (none _ _ (eq ∙ marked _ _ low))

  abbrev LawAt : List Event → List Event → Type 0
  LawAt one two = (v w : World) → AlikeWorlds c trusted plan v w → Kept s c trusted plan v → Kept s c trusted plan w → Along s plan (Sound s c trusted plan) v one → Along s plan (Sound s c trusted plan) w two → marks s c trusted plan v one ≡ marks s c trusted plan w two → AlikeWorlds c trusted plan (run s plan v one) (run s plan w two)

  -- the first list's next event isn't High: the second list comes to its like
  to_like : (e : Event) (one two : List Event) → ((two' : List Event) → LawAt one two') → (v w : World) → AlikeWorlds c trusted plan v w → Kept s c trusted plan v → Kept s c trusted plan w → Along s plan (Sound s c trusted plan) v (e ∷ one) → Along s plan (Sound s c trusted plan) w two → mark c trusted plan v e ≢ High →
      mark c trusted plan v e ∷ marks s c trusted plan (step s plan v e) one ≡ marks s c trusted plan w two → AlikeWorlds c trusted plan (run s plan (step s plan v e) one) (run s plan w two)
  to_like e one [] law v w r kv kw sv sw low eq = absurd (none _ _ (sym eq))
  to_like e one (f ∷ two) law v w r kv kw sv sw low eq = go (to_like e one two law) (is_high (mark c trusted plan w f))
    where
      go : ((v w : World) → AlikeWorlds c trusted plan v w → Kept s c trusted plan v → Kept s c trusted plan w → Along s plan (Sound s c trusted plan) v (e ∷ one) → Along s plan (Sound s c trusted plan) w two → mark c trusted plan v e ≢ High →
          mark c trusted plan v e ∷ marks s c trusted plan (step s plan v e) one ≡ marks s c trusted plan w two → AlikeWorlds c trusted plan (run s plan (step s plan v e) one) (run s plan w two)) →
          (mark c trusted plan w f ≡ High) ⊎ (mark c trusted plan w f ≢ High) → AlikeWorlds c trusted plan (run s plan (step s plan v e) one) (run s plan (step s plan w f) two)
      go ih (inl high) = ih v (step s plan w f) (on_second v w f r kw high) kv (keep w f kw sw.0) sv sw.1 low (eq ∙ ap (λ m. unless_high m (marks s c trusted plan (step s plan w f) two)) high)
      go ih (inr low') =
          let both : mark c trusted plan v e ∷ marks s c trusted plan (step s plan v e) one ≡ mark c trusted plan w f ∷ marks s c trusted plan (step s plan w f) two = eq ∙ marked _ _ low' in
          law two (step s plan v e) (step s plan w f) (on_both v w e f r kv sv.0 (heads _ _ _ _ both) low) (keep v e kv sv.0) (keep w f kw sw.0) sv.1 sw.1 (tails _ _ _ _ both)

  pub law : (one two : List Event) → LawAt one two
  law [] two v w r kv kw sv sw eq = second_only two v w r kw sw eq
  law (e ∷ one) two v w r kv kw sv sw eq = go (law one) (is_high (mark c trusted plan v e))
    where
      go : ((two' : List Event) → LawAt one two') → (mark c trusted plan v e ≡ High) ⊎ (mark c trusted plan v e ≢ High) → AlikeWorlds c trusted plan (run s plan (step s plan v e) one) (run s plan w two)
      go ih (inl high) = ih two (step s plan v e) w (on_first v w e r kv high) (keep v e kv sv.0) kw sv.1 sw (ap (λ m. unless_high m (marks s c trusted plan (step s plan v e) one)) (sym high) ∙ eq)
      go ih (inr low) = to_like e one two ih v w r kv kw sv sw low (sym (marked _ _ low) ∙ eq)

  -- kept from the start
  pub start_kept : (w : World) → IsSetup s plan w → Kept s c trusted plan w
  start_kept w start = record {
    hosts = λ h x there. record {
      hands = λ p y t e m q. absurd (none_some m (sym (start.procs h x p y there e) ∙ q));
      idle = λ l u v. record { waiting = λ q e. start.queues h x l q there e; hand = λ e q. (start.workers h x l e there q).0 };
      streams = λ l e q. ([], (start.workers h x l e there q).1 ∙ sym (append-nil _));
    };
    conns = λ k y there high m b p q. absurd (none_some m (sym (start.conns k y there).1 ∙ p));
  }
    where
      none_some : {X : Type 0} (m : X) → None ≡ Some m → ⊥
      none_some m e = grind arith
