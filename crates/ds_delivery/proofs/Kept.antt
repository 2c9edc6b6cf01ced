-- What is kept along each run, of hosts: each message in a process's hand was judged, each one that waits on a lane or is in
-- its worker's hand was queued before and judged before that, and each lane's stream is its hello and frames that it wrote.
use Rattle.std.proofs.Common.{◌≡◌, ◌≢◌, ◌≤◌, ℕ, Bool, true, false, List, [], ◌∷◌, ◌++◌, Option, Some, None, slice_get, length, take, min, map, filter, cond, suc, flat_map, Contains, refl, sym, ◌∙◌, ap, subst, ◌⊎◌, inl, inr, arith, append_assoc, append-nil, length-take, ltb-true}
use Rattle.std.proofs.lemmas.List.Concat.{flat_map-append}
use Rattle.std.proofs.lemmas.List.Elements.{Contains-push_cases}
use Rattle.std.specs.Prelude.{nat_lt, if◌then◌else◌}
use Rattle.ds_label.specs.declared.category.Category.{Category}
use Rattle.ds_label.specs.declared.rule.Rule.{Rule}
use Rattle.ds_label.specs.Flow.{union}
use Rattle.ds_label.specs.Names.{by_name}
use Rattle.ds_msg.specs.declared.message.Message.{Message}
use Rattle.ds_model.specs.Lists.{at}
use Rattle.ds_model.specs.ProcessRules.{may_send, can_grant}
use Rattle.ds_model.specs.ExporterRules.{known_rule, lane_rule, sender_rule}
use Rattle.ds_model.specs.Scheme.{Scheme}
use Rattle.ds_model.specs.Plan.{LanePlan, Plan, host_plan, lane_plan}
use Rattle.ds_model.specs.Lane.{Queued, QueueFull, lane_after, admit, front, lifted, frame_limit}
use Rattle.ds_model.specs.Desk.{act_entry, reply_of}
use Rattle.ds_model.specs.World.{Process, Mail, Waiting, Queue, Worker, Host, World}
use Rattle.ds_model.specs.ProcessStep.{lane_of, Ask, Waits, Internal, Put, Admit, TakeFrom, PublicAct, AsksJudgement, ask, taken_after_reply, act_after_reply, judged_after_reply}
use Rattle.ds_model.specs.WorkerStep.{lane_ask_hand, LaneAsk, WorkerWaits, Lifts, AsksRecheck, lane_ask, rechecked, lifted_after_reply, checked_after_reply, with_frame, still_good, frame_rule}
use Rattle.ds_model.specs.Step.{Event, Step, Frame, oldest_in, judged, attached, perform, step_proc, front_of, perform_lane, step_lane, resolve, run}
use Rattle.ds_model.specs.Lawful.{Past, QueuedOn, SentAway, FramedOn}
use Rattle.ds_model.proofs.Places.{none_some, some_is, cond_case}
use Rattle.ds_model.proofs.Rechecks.{passes, good_is}
use Rattle.ds_delivery.specs.Premises.{Written, stream_with}
use Rattle.ds_delivery.proofs.Lists.{all_at, in_none, in_head, in_take, in_drop, in_filter, in_map, in_empty}
use Rattle.ds_delivery.proofs.Pasts.{past_more, past_now}
use Rattle.ds_delivery.proofs.Afters.{changed, host_after, frame_after, means_after}
use Rattle.ds_model.proofs.Sends.{first_none}
use Rattle.ds_delivery.proofs.Asks.{Keeps, AdmitFacts, AskFacts, ask_facts, LaneFacts, lane_facts}

-- what a queue has after an admission
admit_cases : (room : ℕ) (w v : Waiting) (q : Queue) → Contains (admit room w q) v → Contains q v ⊎ ((w ≡ v) × (nat_lt (length q) room ≡ true))
admit_cases room w v q = go (nat_lt (length q) room) refl
  where
    go : (b : Bool) → nat_lt (length q) room ≡ b → Contains (Rattle.ds_model.specs.Lane.lane_after (if b then Queued w else QueueFull w) q) v → Contains q v ⊎ ((w ≡ v) × (nat_lt (length q) room ≡ true))
    go false e c = inl c
    go true e c = last (Contains-push_cases q w v c)
      where
        last : Contains q v ⊎ (w ≡ v) → Contains q v ⊎ ((w ≡ v) × (nat_lt (length q) room ≡ true))
        last (inl t) = inl t
        last (inr same) = inr (same, e)

in_lifted : (q : Queue) (v : Waiting) → Contains (lifted q) v → Contains q v
in_lifted [] v c = c
in_lifted (m ∷ q) v c = in_drop _ (m ∷ q) v c

in_front : (o : Option Queue) (v : Waiting) → Contains (front_of o) v → (q : Queue) × (o ≡ Some q) × Contains q v
in_front None v c = absurd (in_none v c)
in_front (Some q) v c = (q, refl, in_take _ q v c)

front_most : (o : Option Queue) → length (front_of o) ≤ frame_limit
front_most None = omega arith
front_most (Some q) = let long : length (take (min frame_limit (length q)) q) ≡ min (min frame_limit (length q)) (length q) = length-take (min frame_limit (length q)) q in omega arith

pub passes_none : (r : Option Rule) → passes r ≡ true → r ≡ None
passes_none None e = refl
passes_none (Some rule) e = absurd (grind arith)

-- a message that finds room joins those that wait
admit_joins : (room : ℕ) (w : Waiting) (q : Queue) → nat_lt (length q) room ≡ true → admit room w q ≡ q ++ w ∷ []
admit_joins room w q e = ap (λ b. lane_after (if b then Queued w else QueueFull w) q) e

-- a frame is one that a lane can write, but for the spelling of its messages
pub record IsWhole (s : Scheme) (lane : LanePlan) (f : Written) : Type 0 where
  pub leaf : s.has_lane_leaf lane.signing f.number ≡ true
  pub some : f.messages ≢ []
  pub most : length f.messages ≤ frame_limit

filter_most : {X : Type 0} (test : X → Bool) (xs : List X) → length (filter test xs) ≤ length xs
filter_most test [] = omega arith
filter_most {X} test (x ∷ xs) = go (test x) (filter_most test xs)
  where
    go : (b : Bool) → length (filter test xs) ≤ length xs → length (cond b (x ∷ filter test xs) (filter test xs)) ≤ suc (length xs)
    go true le = omega arith
    go false le = omega arith

map_long : {X Y : Type 0} (f : X → Y) (xs : List X) → length (map f xs) ≡ length xs
map_long f [] = refl
map_long f (x ∷ xs) = ap suc (map_long f xs)

-- a stream with one frame more
stream_more : (s : Scheme) (lane : LanePlan) (frames : List Written) (f : Written) → stream_with s lane (frames ++ f ∷ []) ≡ stream_with s lane frames ++ s.frame lane.signing f.number f.messages
stream_more s lane frames f =
    ap (λ z. s.hello lane.cert ++ z) (flat_map-append (λ g. s.frame lane.signing g.number g.messages) frames (f ∷ []) ∙ ap (λ z. flat_map (λ g. s.frame lane.signing g.number g.messages) frames ++ z) (append-nil (s.frame lane.signing f.number f.messages)))
    ∙ sym (append_assoc (s.hello lane.cert) (flat_map (λ g. s.frame lane.signing g.number g.messages) frames) (s.frame lane.signing f.number f.messages))

module _ (s : Scheme) (plan : Plan) (start : World) where
  -- queued by an event, and judged by one before
  abbrev pub QueuedBefore : (host lane : ℕ) → Message → List Event → Type 0
  QueuedBefore h l m events = (p : ℕ) × Past events (λ b e. QueuedOn s plan start h l p m b e × Past b (λ b' e'. SentAway s plan start h p m b' e'))

  -- framed by an event
  abbrev pub WasFramed : (host lane number : ℕ) → List Message → List Event → Type 0
  WasFramed h l number messages events = Past events (λ b e. FramedOn s plan start h l number messages b e)

  -- what is in a process's hand was judged
  abbrev pub KeptHand : List Event → (host proc : ℕ) → Process → Type 0
  KeptHand done h p y = (m : Message) → y.hand ≡ Some m → Past done (λ b e. SentAway s plan start h p m b e)

  -- what waits on a lane was queued
  abbrev pub KeptQueue : List Event → (host lane : ℕ) → Queue → Type 0
  KeptQueue done h l q = (v : Waiting) → Contains q v → QueuedBefore h l v.message done

  -- so was what its worker has in hand, which finds a leaf; and its stream
  pub record KeptWorker (done : List Event) (h l : ℕ) (e : Worker) : Type 0 where
    pub hand : KeptQueue done h l e.hand
    pub leaf : e.hand ≢ [] → s.has_lane_leaf (lane_plan (host_plan plan h) l).signing e.leaf ≡ true
    pub most : length e.hand ≤ frame_limit
    pub frames : List Written
    pub stream : e.stream ≡ stream_with s (lane_plan (host_plan plan h) l) frames
    pub whole : (f : Written) → Contains frames f → IsWhole s (lane_plan (host_plan plan h) l) f
    pub wrote : (f : Written) → Contains frames f → WasFramed h l f.number f.messages done

  pub record KeptHost (done : List Event) (h : ℕ) (x : Host) : Type 0 where
    pub hands : (p : ℕ) (y : Process) → slice_get x.procs p ≡ Some y → KeptHand done h p y
    pub queues : (l : ℕ) (q : Queue) → slice_get x.queues l ≡ Some q → KeptQueue done h l q
    pub workers : (l : ℕ) (e : Worker) → slice_get x.workers l ≡ Some e → KeptWorker done h l e

  -- it is kept as events follow

  module _ (done : List Event) (ev : Event) where
    queued_later : (h l : ℕ) (m : Message) → QueuedBefore h l m done → QueuedBefore h l m (done ++ ev ∷ [])
    queued_later h l m q = (q.0, past_more done ev (λ b e. QueuedOn s plan start h l q.0 m b e × Past b (λ b' e'. SentAway s plan start h q.0 m b' e')) q.1)

    hand_later : (h p : ℕ) (y : Process) → KeptHand done h p y → KeptHand (done ++ ev ∷ []) h p y
    hand_later h p y k m e = past_more done ev (λ b e'. SentAway s plan start h p m b e') (k m e)

    queue_later : (h l : ℕ) (q : Queue) → KeptQueue done h l q → KeptQueue (done ++ ev ∷ []) h l q
    queue_later h l q k v c = queued_later h l v.message (k v c)

    wrote_later : (h l : ℕ) (frames : List Written) → ((f : Written) → Contains frames f → WasFramed h l f.number f.messages done) → (f : Written) → Contains frames f → WasFramed h l f.number f.messages (done ++ ev ∷ [])
    wrote_later h l frames k f c = past_more done ev (λ b e. FramedOn s plan start h l f.number f.messages b e) (k f c)

    worker_later : (h l : ℕ) (e : Worker) → KeptWorker done h l e → KeptWorker (done ++ ev ∷ []) h l e
    worker_later h l e k = record { hand = queue_later h l e.hand k.hand; leaf = k.leaf; most = k.most; frames = k.frames; stream = k.stream; whole = k.whole; wrote = wrote_later h l k.frames k.wrote }

    pub host_later : (h : ℕ) (x : Host) → KeptHost done h x → KeptHost (done ++ ev ∷ []) h x
    host_later h x k = record {
      hands = λ p y e. hand_later h p y (k.hands p y e);
      queues = λ l q e. queue_later h l q (k.queues l q e);
      workers = λ l e q. worker_later h l e (k.workers l e q);
    }

    -- the host after a process's step

    module _ (h : ℕ) (x : Host) (there : slice_get (run s plan start done).hosts h ≡ Some x) (kept : KeptHost done h x) where
      -- the processes after a change of one of them
      hands_at : (p : ℕ) (f : Process → Process) → ((z : Process) → slice_get x.procs p ≡ Some z → KeptHand (done ++ ev ∷ []) h p (f z)) → (q : ℕ) (z : Process) → slice_get (at p f x.procs) q ≡ Some z → KeptHand (done ++ ev ∷ []) h q z
      hands_at p f new = all_at (KeptHand (done ++ ev ∷ []) h) p f x.procs (λ j z n e. hand_later h j z (kept.hands j z e)) new

      -- the hand is as it was or empty
      keeps_hand : (p : ℕ) (y next : Process) → slice_get x.procs p ≡ Some y → Keeps y next → KeptHand (done ++ ev ∷ []) h p next
      keeps_hand p y next e (inl same) m q = hand_later h p y (kept.hands p y e) m (sym same ∙ q)
      keeps_hand p y next e (inr none) m q = absurd (none_some m (sym none ∙ q))

      taken_hand : (r slot : ℕ) (o : Option (Mail Category)) (z : Process) → (taken_after_reply r slot o z).hand ≡ z.hand
      taken_hand r slot None z = refl
      taken_hand r slot (Some m) z = cond_case (λ z'. z'.hand ≡ z.hand) (can_grant by_name z.own z.clear m.own m.clear) (record z { own = union by_name z.own m.own; clear = union by_name z.clear m.clear }) z (λ _. refl) (λ _. refl)

      module _ (p : ℕ) (y : Process) (acts : slice_get x.procs p ≡ Some y) (now : resolve plan (run s plan start done) ev ≡ Step h p) where
        judged_hand : (m : Message) (o : Option Rule) → ask (host_plan plan h) p y ≡ AsksJudgement m → AskFacts (host_plan plan h) y (AsksJudgement m) → judged s (host_plan plan h) x.desk m ≡ o → KeptHand (done ++ ev ∷ []) h p (judged_after_reply m (attached s (host_plan plan h) x.desk m) o y)
        judged_hand m (Some rule) a f j = keeps_hand p y (judged_after_reply m (attached s (host_plan plan h) x.desk m) (Some rule) y) acts (inl refl)
        judged_hand m None a f j = λ m' q. past_now done ev (λ b e. SentAway s plan start h p m' b e) (subst (λ n. SentAway s plan start h p n done ev) (some_is _ m' q) sent)
          where
            with_certs : Message
            with_certs = record m { certs = attached s (host_plan plan h) x.desk m }

            -- the rules, of the message with its parts named
            rules : (known_rule (host_plan plan h).key y.names m.label m.own m.clear ≡ None) × (may_send by_name y.label y.own y.clear m.label m.own m.clear ≡ None)
            rules = let n = first_none _ _ f.sender in (n.0, (first_none _ _ n.1).0)

            desk : (lane_rule (lane_of (host_plan plan h) m.to m.label) ≡ None) × (sender_rule s x.desk.addresses x.desk.store x.desk.moment m.to m.label ≡ None)
            desk = let n = first_none _ _ j in (n.0, (first_none _ _ n.1).0)

            goes : (o : Option ℕ) → lane_rule o ≡ None → (l : ℕ) × (o ≡ Some l)
            goes None e = absurd (grind arith)
            goes (Some l) e = (l, refl)

            lane : (l : ℕ) × (lane_of (host_plan plan h) m.to m.label ≡ Some l)
            lane = goes (lane_of (host_plan plan h) m.to m.label) desk.0

            sent : SentAway s plan start h p with_certs done ev
            sent = record {
              host = x;
              proc = y;
              to = f.to;
              slot = f.slot;
              register = f.register;
              label = f.label;
              own = f.own;
              clear = f.clear;
              lane = lane.0;
              told = perform s (host_plan plan h) x p (AsksJudgement m);
              event = now;
              stands = there;
              acts = acts;
              operation = f.operation;
              says = ap (λ (n : Message). record n { certs = attached s (host_plan plan h) x.desk n }) f.says;
              known = subst (λ (n : Message). known_rule (host_plan plan h).key y.names n.label n.own n.clear ≡ None) f.says rules.0;
              sender = subst (λ (n : Message). may_send by_name y.label y.own y.clear n.label n.own n.clear ≡ None) f.says rules.1;
              goes = subst (λ (n : Message). lane_of (host_plan plan h) m.to n.label ≡ Some lane.0) f.says lane.1;
              exporter = subst (λ (n : Message). sender_rule s x.desk.addresses x.desk.store x.desk.moment m.to n.label ≡ None) f.says desk.1;
              becomes = ap (λ (w : World). slice_get w.hosts h) (means_after s plan (run s plan start done) ev (Step h p) now) ∙ host_after s plan (run s plan start done) h p x y there acts (AsksJudgement m) a;
              hand = changed p (judged_after_reply m (attached s (host_plan plan h) x.desk m) (judged s (host_plan plan h) x.desk m)) x.procs y acts ∙ ap (λ o. Some (judged_after_reply m (attached s (host_plan plan h) x.desk m) o y)) j;
            }

        admit_queue : (l : ℕ) (m : Message) (next : Process) → ask (host_plan plan h) p y ≡ Admit l m next → AdmitFacts (host_plan plan h) y l m next → (q : Queue) → slice_get x.queues l ≡ Some q → KeptQueue (done ++ ev ∷ []) h l (admit (lane_plan (host_plan plan h) l).room (record { sender = p; message = m }) q)
        admit_queue l m next a f q waits v c = go (admit_cases (lane_plan (host_plan plan h) l).room (record { sender = p; message = m }) v q c)
          where
            go : Contains q v ⊎ ((record { sender = p; message = m } ≡ v) × (nat_lt (length q) (lane_plan (host_plan plan h) l).room ≡ true)) → QueuedBefore h l v.message (done ++ ev ∷ [])
            go (inl old) = queue_later h l q (kept.queues l q waits) v old
            go (inr (same, room)) = subst (λ (w : Waiting). QueuedBefore h l w.message (done ++ ev ∷ [])) same (
              p,
              past_now done ev (λ b e. QueuedOn s plan start h l p m b e × Past b (λ b' e'. SentAway s plan start h p m b' e')) (
                record {
                  host = x;
                  proc = y;
                  queue = q;
                  told = perform s (host_plan plan h) x p (Admit l m next);
                  event = now;
                  stands = there;
                  acts = acts;
                  hand = f.hand;
                  lane = f.lane;
                  waits = waits;
                  room = ltb-true (length q) (lane_plan (host_plan plan h) l).room room;
                  becomes = ap (λ (w : World). slice_get w.hosts h) (means_after s plan (run s plan start done) ev (Step h p) now) ∙ host_after s plan (run s plan start done) h p x y there acts (Admit l m next) a;
                  joins = changed l (admit (lane_plan (host_plan plan h) l).room (record { sender = p; message = m })) x.queues q waits ∙ ap Some (admit_joins (lane_plan (host_plan plan h) l).room (record { sender = p; message = m }) q room);
                },
                kept.hands p y acts m f.hand,
              ),
            )

        queues_same : (l : ℕ) (q : Queue) → slice_get x.queues l ≡ Some q → KeptQueue (done ++ ev ∷ []) h l q
        queues_same l q e = queue_later h l q (kept.queues l q e)

        workers_same : (l : ℕ) (e : Worker) → slice_get x.workers l ≡ Some e → KeptWorker (done ++ ev ∷ []) h l e
        workers_same l e q = worker_later h l e (kept.workers l e q)

        keep_ask : (a : Ask) → ask (host_plan plan h) p y ≡ a → AskFacts (host_plan plan h) y a → KeptHost (done ++ ev ∷ []) h (perform s (host_plan plan h) x p a)
        keep_ask Waits is f = host_later h x kept
        keep_ask (Internal next) is f = record { hands = hands_at p (λ _. next) (λ z e. keeps_hand p y next acts f); queues = queues_same; workers = workers_same }
        keep_ask (Put b mail next) is f = record { hands = hands_at p (λ _. next) (λ z e. keeps_hand p y next acts f); queues = queues_same; workers = workers_same }
        keep_ask (Admit l m next) is f = record {
          hands = hands_at p (λ _. next) (λ z e. keeps_hand p y next acts (inr f.empty));
          queues = all_at (KeptQueue (done ++ ev ∷ []) h) l (admit (lane_plan (host_plan plan h) l).room (record { sender = p; message = m })) x.queues (λ j q n e. queues_same j q e) (λ q e. admit_queue l m next is f q e);
          workers = workers_same;
        }
        keep_ask (TakeFrom b r slot) is f = record {
          hands = hands_at p (taken_after_reply r slot (oldest_in (slice_get x.boxes b))) (λ z e m q. hand_later h p z (kept.hands p z e) m (sym (taken_hand r slot (oldest_in (slice_get x.boxes b)) z) ∙ q));
          queues = queues_same;
          workers = workers_same;
        }
        keep_ask (PublicAct act r g) is f = record {
          hands = hands_at p (act_after_reply r g act (reply_of s (host_plan plan h) x.desk (act_entry s (host_plan plan h) x.desk act))) (λ z e m q. hand_later h p z (kept.hands p z e) m q);
          queues = queues_same;
          workers = workers_same;
        }
        keep_ask (AsksJudgement m) is f = record {
          hands = hands_at p (judged_after_reply m (attached s (host_plan plan h) x.desk m) (judged s (host_plan plan h) x.desk m))
              (λ z e. subst (λ u. KeptHand (done ++ ev ∷ []) h p (judged_after_reply m (attached s (host_plan plan h) x.desk m) (judged s (host_plan plan h) x.desk m) u)) (some_is y z (sym acts ∙ e)) (judged_hand m (judged s (host_plan plan h) x.desk m) is f refl));
          queues = queues_same;
          workers = workers_same;
        }

      pub keep_proc : (p : ℕ) (o : Option Process) → slice_get x.procs p ≡ o → resolve plan (run s plan start done) ev ≡ Step h p → KeptHost (done ++ ev ∷ []) h (step_proc s (host_plan plan h) x p o)
      keep_proc p None e now = host_later h x kept
      keep_proc p (Some y) e now = keep_ask p y e now (ask (host_plan plan h) p y) refl (ask_facts (host_plan plan h) p y)

      -- the host after a lane worker's step

      module _ (l : ℕ) (now : resolve plan (run s plan start done) ev ≡ Frame h l) where
        -- a worker whose hand was judged, and some of whose messages pass
        module _ (e : Worker) (works : slice_get x.workers l ≡ Some e) (busy : e.hand ≢ []) (m : Waiting) (rest : List Waiting) (is : still_good (rechecked s x.desk e.hand) e.hand ≡ m ∷ rest) where
          good : (v : Waiting) → Contains (m ∷ rest) v → Contains e.hand v × (frame_rule s x.desk v ≡ None)
          good v c = let g : Contains e.hand v × (passes (frame_rule s x.desk v) ≡ true) = in_filter (λ w. passes (frame_rule s x.desk w)) e.hand v (subst (λ ms. Contains ms v) (sym is ∙ good_is s x.desk e.hand) c) in (g.0, passes_none (frame_rule s x.desk v) g.1)

          each_good : (n : Message) → Contains (map (λ (w : Waiting). w.message) (m ∷ rest)) n → (w : Waiting) × Contains e.hand w × (w.message ≡ n) × (sender_rule s x.desk.addresses x.desk.store x.desk.moment n.to n.label ≡ None)
          each_good n c =
              let v : (w : Waiting) × Contains (m ∷ rest) w × (w.message ≡ n) = in_map (λ (w : Waiting). w.message) (m ∷ rest) n c in
              let g : Contains e.hand v.0 × (frame_rule s x.desk v.0 ≡ None) = good v.0 v.1 in
              (v.0, g.0, v.2, subst (λ (z : Message). sender_rule s x.desk.addresses x.desk.store x.desk.moment z.to z.label ≡ None) v.2 g.1)

          asks : (hand : List Waiting) → (hand ≡ [] → ⊥) → lane_ask_hand s (lane_plan (host_plan plan h) l) e hand ≡ AsksRecheck hand
          asks [] n = absurd (n refl)
          asks (v ∷ vs) n = refl

          pub framed_now : FramedOn s plan start h l e.leaf (map (λ w. w.message) (m ∷ rest)) done ev
          framed_now = record {
            host = x;
            worker = e;
            told = perform_lane s (host_plan plan h) x l (AsksRecheck e.hand);
            event = now;
            stands = there;
            works = works;
            counted = refl;
            judged = each_good;
            becomes = ap (λ (w : World). slice_get w.hosts h) (means_after s plan (run s plan start done) ev (Frame h l) now) ∙ frame_after s plan (run s plan start done) h l x e (AsksRecheck e.hand) there works (asks e.hand busy);
            writes = changed l (checked_after_reply s (lane_plan (host_plan plan h) l) (rechecked s x.desk e.hand)) x.workers e works ∙ ap (λ ms. Some (with_frame s (lane_plan (host_plan plan h) l) e ms)) is;
          }

          long : length (map (λ (w : Waiting). w.message) (m ∷ rest)) ≤ length e.hand
          long = subst (λ ms. length (map (λ (w : Waiting). w.message) ms) ≤ length e.hand) (sym (good_is s x.desk e.hand) ∙ is) (subst (λ n. n ≤ length e.hand) (sym (map_long (λ (w : Waiting). w.message) (filter (λ w. passes (frame_rule s x.desk w)) e.hand))) (filter_most (λ w. passes (frame_rule s x.desk w)) e.hand))

          pub whole_now : IsWhole s (lane_plan (host_plan plan h) l) (record { number = e.leaf; messages = map (λ w. w.message) (m ∷ rest) })
          whole_now =
              let old : KeptWorker done h l e = kept.workers l e works in
              record { leaf = old.leaf busy; some = λ none. in_empty (map (λ (w : Waiting). w.message) (m ∷ rest)) m.message none (in_head m.message _); most = let few : length e.hand ≤ frame_limit = old.most in omega (arith, long) }

        -- the worker after its hand was judged
        frame_kept : (e : Worker) → slice_get x.workers l ≡ Some e → (e.hand ≢ []) → (good : List Waiting) → still_good (rechecked s x.desk e.hand) e.hand ≡ good → KeptWorker (done ++ ev ∷ []) h l (with_frame s (lane_plan (host_plan plan h) l) e good)
        frame_kept e works busy [] is =
            let old : KeptWorker done h l e = kept.workers l e works in
            record { hand = λ v c. absurd (in_none v c); leaf = λ n. absurd (n refl); most = omega arith; frames = old.frames; stream = old.stream; whole = old.whole; wrote = wrote_later h l old.frames old.wrote }
        frame_kept e works busy (m ∷ rest) is =
            let old : KeptWorker done h l e = kept.workers l e works in
            let f : Written = record { number = e.leaf; messages = map (λ w. w.message) (m ∷ rest) } in
            record {
              hand = λ v c. absurd (in_none v c);
              leaf = λ n. absurd (n refl);
              most = omega arith;
              frames = old.frames ++ f ∷ [];
              stream = ap (λ z. z ++ s.frame (lane_plan (host_plan plan h) l).signing e.leaf (map (λ w. w.message) (m ∷ rest))) old.stream ∙ sym (stream_more s (lane_plan (host_plan plan h) l) old.frames f);
              whole = λ g c. each_whole old f refl g (Contains-push_cases old.frames f g c);
              wrote = λ g c. each_wrote old f refl g (Contains-push_cases old.frames f g c);
            }
          where
            each_whole : (old : KeptWorker done h l e) (f : Written) → record { number = e.leaf; messages = map (λ w. w.message) (m ∷ rest) } ≡ f → (g : Written) → Contains old.frames g ⊎ (f ≡ g) → IsWhole s (lane_plan (host_plan plan h) l) g
            each_whole old f new g (inl c) = old.whole g c
            each_whole old f new g (inr same) = subst (IsWhole s (lane_plan (host_plan plan h) l)) (new ∙ same) (whole_now e works busy m rest is)

            each_wrote : (old : KeptWorker done h l e) (f : Written) → record { number = e.leaf; messages = map (λ w. w.message) (m ∷ rest) } ≡ f → (g : Written) → Contains old.frames g ⊎ (f ≡ g) → WasFramed h l g.number g.messages (done ++ ev ∷ [])
            each_wrote old f new g (inl c) = wrote_later h l old.frames old.wrote g c
            each_wrote old f new g (inr same) = subst (λ (z : Written). WasFramed h l z.number z.messages (done ++ ev ∷ [])) (new ∙ same)
                (past_now done ev (λ b e'. FramedOn s plan start h l e.leaf (map (λ w. w.message) (m ∷ rest)) b e') (framed_now e works busy m rest is))

        lifted_kept : (e : Worker) → slice_get x.workers l ≡ Some e → s.has_lane_leaf (lane_plan (host_plan plan h) l).signing e.leaf ≡ true → KeptWorker (done ++ ev ∷ []) h l (lifted_after_reply (front_of (slice_get x.queues l)) e)
        lifted_kept e works has =
            let old : KeptWorker done h l e = kept.workers l e works in
            record {
              hand = λ v c. let w : (q : Queue) × (slice_get x.queues l ≡ Some q) × Contains q v = in_front (slice_get x.queues l) v c in queue_later h l w.0 (kept.queues l w.0 w.1) v w.2;
              leaf = λ n. has;
              most = front_most (slice_get x.queues l);
              frames = old.frames;
              stream = old.stream;
              whole = old.whole;
              wrote = wrote_later h l old.frames old.wrote;
            }

        keep_lane_ask : (e : Worker) → slice_get x.workers l ≡ Some e → (a : LaneAsk) → LaneFacts s (lane_plan (host_plan plan h) l) e a → KeptHost (done ++ ev ∷ []) h (perform_lane s (host_plan plan h) x l a)
        keep_lane_ask e works WorkerWaits f = host_later h x kept
        keep_lane_ask e works Lifts f = record {
          hands = λ p y q. hand_later h p y (kept.hands p y q);
          queues = all_at (KeptQueue (done ++ ev ∷ []) h) l lifted x.queues (λ j q n w. queue_later h j q (kept.queues j q w)) (λ q w v c. queue_later h l q (kept.queues l q w) v (in_lifted q v c));
          workers = all_at (KeptWorker (done ++ ev ∷ []) h) l (lifted_after_reply (front_of (slice_get x.queues l))) x.workers (λ j z n w. worker_later h j z (kept.workers j z w))
              (λ z w. lifted_kept z w (subst (λ (u : Worker). s.has_lane_leaf (lane_plan (host_plan plan h) l).signing u.leaf ≡ true) (some_is e z (sym works ∙ w)) f));
        }
        keep_lane_ask e works (AsksRecheck hand) f = record {
          hands = λ p y q. hand_later h p y (kept.hands p y q);
          queues = λ j q w. queue_later h j q (kept.queues j q w);
          workers = all_at (KeptWorker (done ++ ev ∷ []) h) l (checked_after_reply s (lane_plan (host_plan plan h) l) (rechecked s x.desk hand)) x.workers (λ j z n w. worker_later h j z (kept.workers j z w))
              (λ z w. let same : e ≡ z = some_is e z (sym works ∙ w) in
              subst (λ ms. KeptWorker (done ++ ev ∷ []) h l (with_frame s (lane_plan (host_plan plan h) l) z (still_good (rechecked s x.desk ms) z.hand))) (ap (λ (u : Worker). u.hand) (sym same) ∙ f.0)
              (frame_kept z w (subst (λ (u : Worker). u.hand ≢ []) same f.1) (still_good (rechecked s x.desk z.hand) z.hand) refl));
        }

        pub keep_lane : (o : Option Worker) → slice_get x.workers l ≡ o → KeptHost (done ++ ev ∷ []) h (step_lane s (host_plan plan h) x l o)
        keep_lane None e = host_later h x kept
        keep_lane (Some e) works = keep_lane_ask e works (lane_ask s (lane_plan (host_plan plan h) l) e) (lane_facts s (lane_plan (host_plan plan h) l) e)
