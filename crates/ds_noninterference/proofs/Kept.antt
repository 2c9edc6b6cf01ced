-- What is kept along each run.
use Rattle.std.proofs.Common.{◌≡◌, ◌≢◌, ℕ, Bool, true, false, List, [], ◌∷◌, ◌++◌, ◌||◌, not, Option, Some, None, slice_get, option_map, map, refl, sym, ◌∙◌, ap, subst, ◌⊎◌, inl, inr, arith, append_assoc}
use native.Mathlib.Decide.{ℕ_discrete}
use Rattle.ds_label.specs.declared.category.PubKey.{PubKey}
use Rattle.ds_label.specs.declared.category.Category.{Category}
use Rattle.ds_label.specs.declared.rule.Rule.{Rule}
use Rattle.ds_label.specs.declared.rule.Rule.TheVariants.{PeerNotTrusted}
use Rattle.ds_label.specs.Flow.{has, same_label, union}
use Rattle.ds_label.specs.Names.{is_secrecy, same_category, by_name}
use Rattle.ds_msg.specs.declared.message.Message.{Message}
use Rattle.ds_model.specs.Lists.{at}
use Rattle.ds_model.specs.FirstRule.{unless, each_secret}
use Rattle.ds_model.specs.ProcessRules.{can_grant}
use Rattle.ds_model.specs.Scheme.{Scheme}
use Rattle.ds_model.specs.Plan.{Plan, host_plan, conn_plan, box_plan, lane_plan}
use Rattle.ds_model.specs.Lane.{admit, lifted}
use Rattle.ds_model.specs.Desk.{Act, Reply, act_entry, reply_of}
use Rattle.ds_model.specs.World.{Process, Mail, Waiting, Queue, Worker, Conn, Host, World, Passed}
use Rattle.ds_model.specs.ProcessStep.{Ask, Waits, Internal, Put, Admit, TakeFrom, PublicAct, AsksJudgement, box_of, ask, taken_after_reply, act_after_reply, judged_after_reply}
use Rattle.ds_model.specs.WorkerStep.{LaneAsk, WorkerWaits, Lifts, AsksRecheck, lane_ask, rechecked, lifted_after_reply, checked_after_reply, with_frame}
use Rattle.ds_model.specs.Step.{oldest_in, judged, attached, perform, step_proc, front_of, perform_lane, step_lane}
use Rattle.ds_noninterference.specs.High.{is_in, high_lane, high_conn, trusted_key, IsTrusted}
use Rattle.ds_noninterference.specs.Premises.{IsScheme}
use Rattle.ds_model.proofs.Places.{at_here, at_other, cond_case, at_each}
use Rattle.ds_noninterference.proofs.Flow.{and_left, and_right, or_cases, not_both, same_category_is, same_label_carries}
use Rattle.ds_noninterference.proofs.Asks.{Follows, AskFacts, ask_facts, first_none, unless_none}
use Rattle.ds_noninterference.proofs.ProcSteps.{SafeHand, SafeHands}
use Rattle.ds_noninterference.proofs.Lanes.{IdleAbroad, lifted_idle, front_empty}
use Rattle.ds_noninterference.proofs.Setting.{Setting, Sound}

pub record KeptHost (s : Scheme) (c : Category) (trusted : List ℕ) (plan : Plan) (h : ℕ) (x : Host) : Type 0 where
  pub hands : SafeHands c trusted plan h x
  pub idle : IdleAbroad c trusted plan h x
  pub streams : (l : ℕ) (e : Worker) → slice_get x.workers l ≡ Some e → (rest : List ℕ) × (e.stream ≡ s.hello (lane_plan (host_plan plan h) l).cert ++ rest)

-- what a High connection passed is for a High mailbox
abbrev pub KeptConn : Category → List ℕ → Plan → ℕ → Conn → Type 0
KeptConn c trusted plan k y = high_conn c trusted plan k ≡ true → (m : Passed) (b : ℕ) → y.passed ≡ Some m → box_of (host_plan plan (conn_plan plan k).host) m.slot ≡ Some b → has by_name c (box_plan (host_plan plan (conn_plan plan k).host) b).label ≡ true

pub record Kept (s : Scheme) (c : Category) (trusted : List ℕ) (plan : Plan) (w : World) : Type 0 where
  pub hosts : (h : ℕ) (x : Host) → slice_get w.hosts h ≡ Some x → KeptHost s c trusted plan h x
  pub conns : (k : ℕ) (y : Conn) → slice_get w.conns k ≡ Some y → KeptConn c trusted plan k y

-- a claim of each thing of a list, after a change at one place

mapped : {X : Type 0} (f : X → X) (o : Option X) (y : X) → option_map f o ≡ Some y → (x : X) × (o ≡ Some x) × (y ≡ f x)
mapped f None y e = absurd (grind arith)
mapped f (Some x) y e = (x, refl, cc)

pub all_at : {X : Type 0} (P : ℕ → X → Type 0) (i : ℕ) (f : X → X) (xs : List X) →
    ((j : ℕ) (x : X) → j ≢ i → slice_get xs j ≡ Some x → P j x) → ((x : X) → slice_get xs i ≡ Some x → P i (f x)) →
    (j : ℕ) (x : X) → slice_get (at i f xs) j ≡ Some x → P j x
all_at {X} P i f xs others here = at_each (λ j. (x : X) → slice_get (at i f xs) j ≡ Some x → P j x) i
    (λ x e. let m : (z : X) × (slice_get xs i ≡ Some z) × (x ≡ f z) = mapped f (slice_get xs i) x (sym (at_here i f xs) ∙ e) in subst (P i) (sym m.2) (here m.0 m.1))
    (λ j n x e. others j x n (sym (at_other i j f xs n) ∙ e))

-- judged for c

pub each_none : (test : Category → Bool) (rule : Category → Rule) (c : Category) (label : List Category) → is_secrecy c.kind ≡ true → each_secret by_name test rule label ≡ None → has by_name c label ≡ true → test c ≡ true
each_none test rule c [] sec e h = absurd (grind arith)
each_none test rule c (x ∷ label) sec e h =
    let n : (unless (not (is_secrecy x.kind) || test x) (rule x) ≡ None) × (each_secret by_name test rule label ≡ None) = first_none _ _ e in
    go (unless_none _ _ n.0) (each_none test rule c label sec n.1) (or_cases _ _ h)
  where
    kind : (b : Bool) → b ≡ true → (not b || test c) ≡ true → test c ≡ true
    kind true q r = r
    kind false q r = absurd (grind arith)

    go : (not (is_secrecy x.kind) || test x) ≡ true → (has by_name c label ≡ true → test c ≡ true) → (same_category c x ≡ true) ⊎ (has by_name c label ≡ true) → test c ≡ true
    go u ih (inl q) = kind (is_secrecy c.kind) sec (subst (λ z. (not (is_secrecy z.kind) || test z) ≡ true) (sym (same_category_is c x q)) u)
    go u ih (inr q) = ih q

module _ (s : Scheme) (c : Category) (secret : is_secrecy c.kind ≡ true) (trusted : List ℕ) (plan : Plan) (is : IsScheme s plan) (fits : Setting c trusted plan) where
  -- each key that holds c by a store is a trusted host's
  pub store_safe : (w : World) → Sound s c trusted plan w → (h : ℕ) (x : Host) → slice_get w.hosts h ≡ Some x → (t : ℕ) (key : PubKey) → s.holds x.desk.store t c key ≡ true → IsTrusted trusted plan key
  store_safe w sound h x e t key held = is.closed x.desk.store t c (trusted_key trusted plan) fits.creator
      (λ d in_store about good by. let u : (h' : ℕ) × (x' : Host) × (is_in trusted h' ≡ true) × (slice_get w.hosts h' ≡ Some x') × _ = sound.unforged.stores h x d e in_store about good by in
      sound.obeys u.0 u.1 d u.2 u.3 u.4 about) key held

  module _ (w : World) (sound : Sound s c trusted plan w) (h : ℕ) (x : Host) (there : slice_get w.hosts h ≡ Some x) where
    judged_peer : (m : Message) → judged s (host_plan plan h) x.desk m ≡ None → each_secret by_name (λ d. s.holds x.desk.store x.desk.moment d m.to) PeerNotTrusted m.label ≡ None
    judged_peer m e = (first_none _ _ (first_none _ _ (first_none _ _ (first_none _ _ e).1).0).1).0

    judged_safe : (m : Message) (certs : List (List ℕ)) (o : Option Rule) (z : Process) → judged s (host_plan plan h) x.desk m ≡ o → SafeHand c trusted plan z.hand → SafeHand c trusted plan (judged_after_reply m certs o z).hand
    judged_safe m certs (Some rule) z e old = old
    judged_safe m certs None z e old = λ m' q has_c.
        let same : record m { certs = certs } ≡ m' = cc in
        subst (λ n. IsTrusted trusted plan n.to) same
        (store_safe w sound h x there x.desk.moment m.to
        (each_none _ _ c m.label secret (judged_peer m e) (subst (λ n. has by_name c n.label ≡ true) (sym same) has_c)))

    follows_safe : (y z : Process) → Follows y z → SafeHand c trusted plan y.hand → SafeHand c trusted plan z.hand
    follows_safe y z f old = go f.hand
      where
        go : (z.hand ≡ y.hand) ⊎ (z.hand ≡ None) → SafeHand c trusted plan z.hand
        go (inl e) m q = old m (sym e ∙ q)
        go (inr e) m q = absurd (grind arith)

    taken_safe : (r slot : ℕ) (o : Option (Mail Category)) (z : Process) → SafeHand c trusted plan z.hand → SafeHand c trusted plan (taken_after_reply r slot o z).hand
    taken_safe r slot None z old = old
    taken_safe r slot (Some m) z old = cond_case (λ z'. SafeHand c trusted plan z'.hand) (can_grant by_name z.own z.clear m.own m.clear) (record z { own = union by_name z.own m.own; clear = union by_name z.clear m.clear }) z (λ _. old) (λ _. old)

    act_safe : (r g : ℕ) (a : Act) (o : Reply) (z : Process) → SafeHand c trusted plan z.hand → SafeHand c trusted plan (act_after_reply r g a o z).hand
    act_safe r g a o z old = old

    -- the processes after a change of one of them
    hands_at : (p : ℕ) (f : Process → Process) → SafeHands c trusted plan h x → ((z : Process) → is_in trusted h ≡ true → slice_get x.procs p ≡ Some z → SafeHand c trusted plan z.hand → SafeHand c trusted plan (f z).hand) → (q : ℕ) (z : Process) → is_in trusted h ≡ true → slice_get (at p f x.procs) q ≡ Some z → SafeHand c trusted plan z.hand
    hands_at p f old new q z t e = all_at (λ j z'. SafeHand c trusted plan z'.hand) p f x.procs (λ j z' n e'. old j z' t e') (λ z' e'. new z' t e' (old p z' t e')) q z e

    some_is : (u v : Process) → Some u ≡ Some v → u ≡ v
    some_is u v e = cc

    next_safe : (p : ℕ) (y next : Process) → slice_get x.procs p ≡ Some y → Follows y next → (z : Process) → is_in trusted h ≡ true → slice_get x.procs p ≡ Some z → SafeHand c trusted plan z.hand → SafeHand c trusted plan next.hand
    next_safe p y next e f z t e' old = follows_safe y next f (subst (λ u. SafeHand c trusted plan u.hand) (some_is z y (sym e' ∙ e)) old)

    -- a lane abroad gets nothing of c
    abroad : (p l : ℕ) (y : Process) (m : Message) → is_in trusted h ≡ true → SafeHand c trusted plan y.hand → y.hand ≡ Some m → (lane_plan (host_plan plan h) l).cert.receiver ≡ m.to → same_label by_name (lane_plan (host_plan plan h) l).cert.label m.label ≡ true → high_lane c trusted plan h l ≡ true → trusted_key trusted plan (lane_plan (host_plan plan h) l).cert.receiver ≡ false → ⊥
    abroad p l y m t safe e to label high away = not_both _ (subst (IsTrusted trusted plan) (sym to) (safe m e (same_label_carries c _ m.label label (and_right _ _ high)))) away

    admit_idle : (p l : ℕ) (y : Process) (m : Message) (f : Queue → Queue) → KeptHost s c trusted plan h x → slice_get x.procs p ≡ Some y → y.hand ≡ Some m → (lane_plan (host_plan plan h) l).cert.receiver ≡ m.to → same_label by_name (lane_plan (host_plan plan h) l).cert.label m.label ≡ true →
        (j : ℕ) → high_lane c trusted plan h j ≡ true → trusted_key trusted plan (lane_plan (host_plan plan h) j).cert.receiver ≡ false → (q : Queue) → slice_get (at l f x.queues) j ≡ Some q → q ≡ []
    admit_idle p l y m f kept there' hand to label j high away q e = go (ℕ_discrete j l)
      where
        go : Dec (j ≡ l) → q ≡ []
        go (yes is') = absurd (abroad p l y m (and_left _ _ high) (kept.hands p y (and_left _ _ high) there') hand to label (subst (λ i. high_lane c trusted plan h i ≡ true) is' high) (subst (λ i. trusted_key trusted plan (lane_plan (host_plan plan h) i).cert.receiver ≡ false) is' away))
        go (no n) = (kept.idle j high away).waiting q (sym (at_other l j f x.queues n) ∙ e)

    -- the host after a process's step

    keep_ask : KeptHost s c trusted plan h x → (p : ℕ) (y : Process) (a : Ask) → slice_get x.procs p ≡ Some y → AskFacts (host_plan plan h) p y a → KeptHost s c trusted plan h (perform s (host_plan plan h) x p a)
    keep_ask kept p y Waits e f = kept
    keep_ask kept p y (Internal next) e f = record { hands = hands_at p (λ _. next) kept.hands (next_safe p y next e f); idle = λ l u v. record { waiting = (kept.idle l u v).waiting; hand = (kept.idle l u v).hand }; streams = kept.streams }
    keep_ask kept p y (Put b m next) e f = record { hands = hands_at p (λ _. next) kept.hands (next_safe p y next e f.0); idle = λ l u v. record { waiting = (kept.idle l u v).waiting; hand = (kept.idle l u v).hand }; streams = kept.streams }
    keep_ask kept p y (Admit l m next) e f = record {
      hands = hands_at p (λ _. next) kept.hands (next_safe p y next e f.0);
      idle = λ j u v. record { waiting = admit_idle p l y m (admit (lane_plan (host_plan plan h) l).room (record { sender = p; message = m })) kept e f.1 f.2 f.3 j u v; hand = (kept.idle j u v).hand };
      streams = kept.streams;
    }
    keep_ask kept p y (TakeFrom b r slot) e f = record { hands = hands_at p (taken_after_reply r slot (oldest_in (slice_get x.boxes b))) kept.hands (λ z t e' old. taken_safe r slot (oldest_in (slice_get x.boxes b)) z old); idle = λ l u v. record { waiting = (kept.idle l u v).waiting; hand = (kept.idle l u v).hand }; streams = kept.streams }
    keep_ask kept p y (PublicAct a r g) e f = record { hands = hands_at p (act_after_reply r g a (reply_of s (host_plan plan h) x.desk (act_entry s (host_plan plan h) x.desk a))) kept.hands (λ z t e' old. act_safe r g a (reply_of s (host_plan plan h) x.desk (act_entry s (host_plan plan h) x.desk a)) z old); idle = λ l u v. record { waiting = (kept.idle l u v).waiting; hand = (kept.idle l u v).hand }; streams = kept.streams }
    keep_ask kept p y (AsksJudgement m) e f = record { hands = hands_at p (judged_after_reply m (attached s (host_plan plan h) x.desk m) (judged s (host_plan plan h) x.desk m)) kept.hands (λ z t e' old. judged_safe m (attached s (host_plan plan h) x.desk m) (judged s (host_plan plan h) x.desk m) z refl old); idle = λ l u v. record { waiting = (kept.idle l u v).waiting; hand = (kept.idle l u v).hand }; streams = kept.streams }

    pub keep_proc : KeptHost s c trusted plan h x → (p : ℕ) (o : Option Process) → slice_get x.procs p ≡ o → KeptHost s c trusted plan h (step_proc s (host_plan plan h) x p o)
    keep_proc kept p None e = kept
    keep_proc kept p (Some y) e = keep_ask kept p y (ask (host_plan plan h) p y) e (ask_facts (host_plan plan h) p y)

    -- the host after a lane worker's step

    frame_stream : (l : ℕ) (e : Worker) (ms : List Waiting) → ((rest : List ℕ) × (e.stream ≡ s.hello (lane_plan (host_plan plan h) l).cert ++ rest)) → ((rest : List ℕ) × ((with_frame s (lane_plan (host_plan plan h) l) e ms).stream ≡ s.hello (lane_plan (host_plan plan h) l).cert ++ rest))
    frame_stream l e [] old = old
    frame_stream l e (m ∷ ms) old = (old.0 ++ s.frame (lane_plan (host_plan plan h) l).signing e.leaf (map (λ w. w.message) (m ∷ ms)), ap (λ z. z ++ s.frame (lane_plan (host_plan plan h) l).signing e.leaf (map (λ w. w.message) (m ∷ ms))) old.1 ∙ append_assoc (s.hello (lane_plan (host_plan plan h) l).cert) old.0 (s.frame (lane_plan (host_plan plan h) l).signing e.leaf (map (λ w. w.message) (m ∷ ms))))

    front_none : (o : Option Queue) → ((q : Queue) → o ≡ Some q → q ≡ []) → front_of o ≡ []
    front_none None f = refl
    front_none (Some q) f = front_empty q (f q refl)

    checked_hand : (l : ℕ) (e : Worker) (ms : List Waiting) → (with_frame s (lane_plan (host_plan plan h) l) e ms).hand ≡ []
    checked_hand l e [] = refl
    checked_hand l e (m ∷ ms) = refl

    keep_lane_ask : KeptHost s c trusted plan h x → (l : ℕ) (a : LaneAsk) → KeptHost s c trusted plan h (perform_lane s (host_plan plan h) x l a)
    keep_lane_ask kept l WorkerWaits = kept
    keep_lane_ask kept l Lifts = record {
      hands = kept.hands;
      idle = λ j u v. record {
        waiting = λ q0 e0. all_at (λ j' q. high_lane c trusted plan h j' ≡ true → trusted_key trusted plan (lane_plan (host_plan plan h) j').cert.receiver ≡ false → q ≡ []) l lifted x.queues (λ j' q n e u' v'. (kept.idle j' u' v').waiting q e) (λ q e u' v'. (lifted_idle q ((kept.idle l u' v').waiting q e)) ∙ (kept.idle l u' v').waiting q e) j q0 e0 u v;
        hand = λ q0 e0. all_at (λ j' e. high_lane c trusted plan h j' ≡ true → trusted_key trusted plan (lane_plan (host_plan plan h) j').cert.receiver ≡ false → e.hand ≡ []) l (lifted_after_reply (front_of (slice_get x.queues l))) x.workers (λ j' e n q u' v'. (kept.idle j' u' v').hand e q) (λ e q u' v'. front_none (slice_get x.queues l) (kept.idle l u' v').waiting) j q0 e0 u v;
      };
      streams = all_at (λ j e. (rest : List ℕ) × (e.stream ≡ s.hello (lane_plan (host_plan plan h) j).cert ++ rest)) l (lifted_after_reply (front_of (slice_get x.queues l))) x.workers (λ j e n q. kept.streams j e q) (λ e q. kept.streams l e q);
    }
    keep_lane_ask kept l (AsksRecheck hand) = record {
      hands = kept.hands;
      idle = λ j u v. record {
        waiting = (kept.idle j u v).waiting;
        hand = λ q0 e0. all_at (λ j' e. high_lane c trusted plan h j' ≡ true → trusted_key trusted plan (lane_plan (host_plan plan h) j').cert.receiver ≡ false → e.hand ≡ []) l (checked_after_reply s (lane_plan (host_plan plan h) l) (rechecked s x.desk hand)) x.workers (λ j' e n q u' v'. (kept.idle j' u' v').hand e q) (λ e q u' v'. checked_hand l e _) j q0 e0 u v;
      };
      streams = all_at (λ j e. (rest : List ℕ) × (e.stream ≡ s.hello (lane_plan (host_plan plan h) j).cert ++ rest)) l (checked_after_reply s (lane_plan (host_plan plan h) l) (rechecked s x.desk hand)) x.workers (λ j e n q. kept.streams j e q) (λ e q. frame_stream l e _ (kept.streams l e q));
    }

    pub keep_lane : KeptHost s c trusted plan h x → (l : ℕ) (o : Option Worker) → KeptHost s c trusted plan h (step_lane s (host_plan plan h) x l o)
    keep_lane kept l None = kept
    keep_lane kept l (Some e) = keep_lane_ask kept l (lane_ask s (lane_plan (host_plan plan h) l) e)
