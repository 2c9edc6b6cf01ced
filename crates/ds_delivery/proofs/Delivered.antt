-- Delivered only where the rules hold.
use Rattle.std.proofs.Common.{◌≡◌, ℕ, zero, suc, Bool, true, List, [], ◌∷◌, ◌++◌, Option, Some, None, slice_get, take, map, length, Contains, refl, sym, ◌∙◌, ap, subst, ◌⊎◌, inl, inr, arith, append_assoc}
use Rattle.ds_cert.specs.declared.lane.LaneCert.{LaneCert}
use Rattle.ds_msg.specs.declared.message.Message.{Message}
use Rattle.ds_model.specs.Scheme.{Scheme, Item, Hello, Framed}
use Rattle.ds_model.specs.Plan.{HostPlan, LanePlan, Plan, Source, OfLane, IsLane, host_plan, conn_plan, lane_plan}
use Rattle.ds_model.specs.World.{Waiting, Worker, Conn, Host, World, Passed}
use Rattle.ds_model.specs.Setup.{IsSetup}
use Rattle.ds_model.specs.ConnectionStep.{hello_of, passed_of}
use Rattle.ds_model.specs.Step.{Event, stream_from, worker_at, lane_stream, arrived, run}
use Rattle.ds_model.specs.Lawful.{Past, PutsFrom, JudgedFrom, TakenFrom, FramedOn, SentBy, Wrote, OwnFrom, RulesFrom}
use Rattle.ds_model.proofs.Places.{none_some, some_is}
use Rattle.ds_model.proofs.Sends.{sent_lawfully}
use Rattle.ds_delivery.specs.Premises.{Written, stream_with, items_with, CanBeWritten, IsReadable, Spells}
use Rattle.ds_delivery.specs.Delivered.{DeliveredLawfully}
use Rattle.ds_delivery.proofs.Lists.{in_none, in_cases, in_map}
use Rattle.ds_model.specs.ExporterRules.{sender_rule}
use Rattle.ds_model.specs.ProcessStep.{box_of}
use Rattle.ds_model.specs.ConnectionStep.{ConnAsk, PutsPassed, deliver}
use Rattle.ds_delivery.proofs.Conns.{HandFacts, DeliverFacts, deliver_facts}
use Rattle.ds_delivery.proofs.Kept.{IsWhole, QueuedBefore, WasFramed, KeptWorker}
use Rattle.ds_delivery.proofs.KeptConns.{IsPassed}
use Rattle.ds_delivery.proofs.Runs.{Kept, all_kept}

-- what was read first, where it is a hello
first_hello : (o : Option Item) (lane : LaneCert) → hello_of o ≡ Some lane → o ≡ Some (Hello lane)
first_hello None lane e = absurd (none_some lane e)
first_hello (Some (Hello cert)) lane e = ap (λ c. Some (Hello c)) (some_is cert lane e)
first_hello (Some (Framed number messages)) lane e = absurd (none_some lane e)

hello_is : (a b : LaneCert) → Hello a ≡ Hello b → a ≡ b
hello_is a b e = cc

no_hello : (a : LaneCert) (number : ℕ) (messages : List Message) → Hello a ≡ Framed number messages → ⊥
no_hello a number messages e = grind arith

framed_number : (n m : ℕ) (xs ys : List Message) → Framed n xs ≡ Framed m ys → n ≡ m
framed_number n m xs ys e = cc

framed_messages : (n m : ℕ) (xs ys : List Message) → Framed n xs ≡ Framed m ys → xs ≡ ys
framed_messages n m xs ys e = cc

-- of the items of a lane's stream, a hello is the lane's and a frame is one of its frames
item_hello : (lane : LanePlan) (frames : List Written) (cert : LaneCert) → Contains (items_with lane frames) (Hello cert) → cert ≡ lane.cert
item_hello lane frames cert c = go (in_cases (Hello lane.cert) (map (λ f. Framed f.number f.messages) frames) (Hello cert) c)
  where
    go : (Hello lane.cert ≡ Hello cert) ⊎ Contains (map (λ f. Framed f.number f.messages) frames) (Hello cert) → cert ≡ lane.cert
    go (inl e) = sym (hello_is lane.cert cert e)
    go (inr t) = let m : (f : Written) × Contains frames f × (Framed f.number f.messages ≡ Hello cert) = in_map (λ f. Framed f.number f.messages) frames (Hello cert) t in absurd (no_hello cert m.0.number m.0.messages (sym m.2))

item_framed : (lane : LanePlan) (frames : List Written) (number : ℕ) (messages : List Message) → Contains (items_with lane frames) (Framed number messages) → (f : Written) × Contains frames f × (f.number ≡ number) × (f.messages ≡ messages)
item_framed lane frames number messages c = go (in_cases (Hello lane.cert) (map (λ f. Framed f.number f.messages) frames) (Framed number messages) c)
  where
    go : (Hello lane.cert ≡ Framed number messages) ⊎ Contains (map (λ f. Framed f.number f.messages) frames) (Framed number messages) → (f : Written) × Contains frames f × (f.number ≡ number) × (f.messages ≡ messages)
    go (inl e) = absurd (no_hello lane.cert number messages e)
    go (inr t) = let m : (f : Written) × Contains frames f × (Framed f.number f.messages ≡ Framed number messages) = in_map (λ f. Framed f.number f.messages) frames (Framed number messages) t in
        (m.0, m.1, framed_number m.0.number number m.0.messages messages m.2, framed_messages m.0.number number m.0.messages messages m.2)

-- all of a list
take_all : (xs : List ℕ) → take (length xs) xs ≡ xs
take_all [] = refl
take_all (x ∷ xs) = ap (λ ys. x ∷ ys) (take_all xs)

module _ (s : Scheme) (has_spelling : Message → Bool) (plan : Plan) (start : World) (is : IsReadable s has_spelling plan) (setup : IsSetup s plan start) where
  kept : (done : List Event) → Kept s has_spelling plan start is done (run s plan start done)
  kept = all_kept s has_spelling plan start is setup

  -- a message of a frame was queued before it was framed
  framed_queued : (h l number : ℕ) (messages : List Message) (m : Message) (b : List Event) (e : Event) → FramedOn s plan start h l number messages b e → Contains messages m → QueuedBefore s plan start h l m b
  framed_queued h l number messages m b e f c =
      let w : (v : Waiting) × Contains f.worker.hand v × (v.message ≡ m) × (sender_rule s f.host.desk.addresses f.host.desk.store f.host.desk.moment m.to m.label ≡ None) = f.judged m c in
      subst (λ n. QueuedBefore s plan start h l n b) w.2 ((((kept b).hosts h f.host f.stands).workers l f.worker f.works).hand w.0 w.1)

  -- a message of a frame that a lane wrote was sent so
  framed_sent : (h l number : ℕ) (messages : List Message) (m : Message) (events : List Event) → WasFramed s plan start h l number messages events → Contains messages m → SentBy s plan start h l number messages m events
  framed_sent h l number messages m events (b, e, after, split, wrote) c = (b, e, after, split, (wrote, framed_queued h l number messages m b e wrote c))

  spells_front : (events front back : List Event) → events ≡ front ++ back → Spells s has_spelling plan start events → Spells s has_spelling plan start front
  spells_front events front back split spells before later eq = spells before (later ++ back) (split ∙ (ap (λ xs. xs ++ back) eq ∙ append_assoc before later back))

  -- a frame that a lane wrote can be written
  wrote_can : (h l : ℕ) (f : Written) (events : List Event) → Spells s has_spelling plan start events → IsWhole s (lane_plan (host_plan plan h) l) f → WasFramed s plan start h l f.number f.messages events → CanBeWritten s has_spelling (lane_plan (host_plan plan h) l) f
  wrote_can h l f events spells whole (b, e, after, split, framed) = record { leaf = whole.leaf; some = whole.some; most = whole.most; each = λ m c. spelled m (framed_queued h l f.number f.messages m b e framed c) }
    where
      spelled : (m : Message) → QueuedBefore s plan start h l m b → has_spelling m ≡ true
      spelled m (p, (b', e', after', split', (queued, sent))) = spells b' (e' ∷ after' ++ e ∷ after) (split ∙ (ap (λ xs. xs ++ e ∷ after) split' ∙ append_assoc b' (e' ∷ after') (e ∷ after))) h queued.host p queued.proc m queued.stands queued.acts queued.hand

  -- a lane's stream, cut anywhere, or where there is no such lane nothing
  record Streams (events : List Event) (h l n : ℕ) (bytes : List ℕ) : Type 0 where
    pub frames : List Written
    pub many : ℕ
    pub stream : bytes ≡ take many (stream_with s (lane_plan (host_plan plan h) l) frames)
    pub whole : (f : Written) → Contains frames f → IsWhole s (lane_plan (host_plan plan h) l) f
    pub wrote : (f : Written) → Contains frames f → WasFramed s plan start h l f.number f.messages events

  worker_streams : (events : List Event) (h l n : ℕ) (o : Option Worker) → ((e : Worker) → o ≡ Some e → KeptWorker s plan start events h l e) → Streams events h l n (take n (stream_from o))
  worker_streams events h l n None k = record { frames = []; many = 0; stream = none n; whole = λ f c. absurd (in_none f c); wrote = λ f c. absurd (in_none f c) }
    where
      none : (n : ℕ) → take {A = ℕ} n [] ≡ []
      none zero = refl
      none (suc n) = refl
  worker_streams events h l n (Some e) k = let w : KeptWorker s plan start events h l e = k e refl in record { frames = w.frames; many = n; stream = ap (take n) w.stream; whole = w.whole; wrote = w.wrote }

  host_worker : (events : List Event) (h l : ℕ) (o : Option Host) → slice_get (run s plan start events).hosts h ≡ o → (e : Worker) → worker_at o l ≡ Some e → KeptWorker s plan start events h l e
  host_worker events h l None there e works = absurd (none_some e works)
  host_worker events h l (Some x) there e works = ((kept events).hosts h x there).workers l e works

  -- what a lane's own connection reads
  own_streams : (events : List Event) (h l : ℕ) (source : Source) (y : Conn) → source ≡ OfLane h l → Streams events h l y.count (arrived (run s plan start events) source y)
  own_streams events h l source y e = subst (λ z. Streams events h l y.count (arrived (run s plan start events) z y)) (sym e)
      (worker_streams events h l y.count (worker_at (slice_get (run s plan start events).hosts h) l) (host_worker events h l (slice_get (run s plan start events).hosts h) refl))

  -- a frame that was taken on a lane's own connection was sent so
  taken_own : (events : List Event) → Spells s has_spelling plan start events → (k : ℕ) (lane : LaneCert) (number : ℕ) (messages : List Message) (m : Message) (e : Event) → TakenFrom s plan start k lane number messages events e → Contains messages m → OwnFrom s plan start k lane number messages m events
  taken_own events spells k lane number messages m e taken c h l source = (item_hello (lane_plan (host_plan plan h) l) st.frames lane (read 0 (Hello lane) (first_hello _ lane taken.hello)), sent)
    where
      here : HostPlan
      here = host_plan plan (conn_plan plan k).host

      st : Streams events h l taken.conn.count (arrived (run s plan start events) (conn_plan plan k).source taken.conn)
      st = own_streams events h l (conn_plan plan k).source taken.conn source

      read : (j : ℕ) (item : Item) → slice_get (s.items here.key here.inlets (arrived (run s plan start events) (conn_plan plan k).source taken.conn)) j ≡ Some item → Contains (items_with (lane_plan (host_plan plan h) l) st.frames) item
      read j item at = is.own h l (setup.conn_plans k h l source) st.frames (λ f in_frames. wrote_can h l f events spells (st.whole f in_frames) (st.wrote f in_frames)) here st.many j item (subst (λ bytes. slice_get (s.items here.key here.inlets bytes) j ≡ Some item) st.stream at)

      sent : SentBy s plan start h l number messages m events
      sent =
          let f : (g : Written) × Contains st.frames g × (g.number ≡ number) × (g.messages ≡ messages) = item_framed (lane_plan (host_plan plan h) l) st.frames number messages (read taken.conn.taken (Framed number messages) taken.item) in
          framed_sent h l number messages m events (subst (λ ms. WasFramed s plan start h l number ms events) f.3 (subst (λ n. WasFramed s plan start h l n f.0.messages events) f.2 (st.wrote f.0 f.1))) c

  -- a frame that a lane wrote was sent so
  written_sent : (events : List Event) → Spells s has_spelling plan start events → (h l : ℕ) → IsLane plan h l → (r number : ℕ) (messages : List Message) (m : Message) → Wrote s plan start h l r number messages events → Contains messages m → SentBy s plan start h l number messages m events
  written_sent events spells h l real r number messages m (place, item) c =
      let stream : List ℕ = lane_stream (run s plan start events) h l in
      let st : Streams events h l (length stream) (take (length stream) stream) = worker_streams events h l (length stream) (worker_at (slice_get (run s plan start events).hosts h) l) (host_worker events h l (slice_get (run s plan start events).hosts h) refl) in
      let here : HostPlan = host_plan plan r in
      let read : slice_get (s.items here.key here.inlets (take st.many (stream_with s (lane_plan (host_plan plan h) l) st.frames))) place ≡ Some (Framed number messages) = subst (λ bytes. slice_get (s.items here.key here.inlets bytes) place ≡ Some (Framed number messages)) (sym (take_all stream) ∙ st.stream) item in
      let f : (g : Written) × Contains st.frames g × (g.number ≡ number) × (g.messages ≡ messages) = item_framed (lane_plan (host_plan plan h) l) st.frames number messages
      (is.own h l real st.frames (λ g in_frames. wrote_can h l g events spells (st.whole g in_frames) (st.wrote g in_frames)) here st.many place (Framed number messages) read) in
      framed_sent h l number messages m events (subst (λ ms. WasFramed s plan start h l number ms events) f.3 (subst (λ n. WasFramed s plan start h l n f.0.messages events) f.2 (st.wrote f.0 f.1))) c

  rules_from : (before : List Event) (e : Event) → Spells s has_spelling plan start before → (k b : ℕ) (lane : LaneCert) (p : Passed) → PutsFrom s plan start k b lane p before e → RulesFrom s plan start k b lane p before
  rules_from before e spells k b lane p puts = record {
    m = old.m;
    says = old.says ∙ ap (λ (l : LaneCert). passed_of l old.m) same;
    number = old.number;
    messages = old.messages;
    good = is.good (host_plan plan (conn_plan plan k).host) lane (arrived (run s plan start before) (conn_plan plan k).source puts.conn) puts.hello;
    among = old.among;
    place = found (deliver s (host_plan plan (conn_plan plan k).host) puts.conn (arrived (run s plan start before) (conn_plan plan k).source puts.conn)) (deliver_facts s (host_plan plan (conn_plan plan k).host) puts.conn (arrived (run s plan start before) (conn_plan plan k).source puts.conn)) puts.asks;
    judged = subst (λ c. Past before (λ b e. JudgedFrom s plan start k c old.m b e × Past b (λ b' e'. TakenFrom s plan start k c old.number old.messages b' e' × OwnFrom s plan start k c old.number old.messages old.m b'))) same (judged old.judged);
    link = λ h l source real mine wrote. written_sent before spells h l real (conn_plan plan k).host old.number old.messages old.m wrote old.among;
  }
    where
      old : IsPassed s has_spelling plan start is before k (arrived (run s plan start before) (conn_plan plan k).source puts.conn) p
      old = ((kept before).conns k puts.conn puts.here).passed p puts.passed

      found : (a : ConnAsk) → DeliverFacts s (host_plan plan (conn_plan plan k).host) puts.conn (arrived (run s plan start before) (conn_plan plan k).source puts.conn) a → a ≡ PutsPassed b p.mail puts.next → box_of (host_plan plan (conn_plan plan k).host) old.m.slot ≡ Some b
      found a f a_is =
          let g : HandFacts s (host_plan plan (conn_plan plan k).host) puts.conn (arrived (run s plan start before) (conn_plan plan k).source puts.conn) b p.mail puts.next = subst (DeliverFacts s (host_plan plan (conn_plan plan k).host) puts.conn (arrived (run s plan start before) (conn_plan plan k).source puts.conn)) a_is f in
          ap (λ (n : Passed). box_of (host_plan plan (conn_plan plan k).host) n.slot) (sym old.says ∙ some_is p g.left (sym puts.passed ∙ g.passed)) ∙ g.box

      same : old.lane ≡ lane
      same = some_is old.lane lane (sym old.read ∙ puts.hello)

      judged : Past before (λ b e. JudgedFrom s plan start k old.lane old.m b e × Past b (λ b' e'. TakenFrom s plan start k old.lane old.number old.messages b' e')) →
          Past before (λ b e. JudgedFrom s plan start k old.lane old.m b e × Past b (λ b' e'. TakenFrom s plan start k old.lane old.number old.messages b' e' × OwnFrom s plan start k old.lane old.number old.messages old.m b'))
      judged (b, e, after, split, (j, (b', e', after', split', taken))) =
          (b, e, after, split, (j, (b', e', after', split', (taken, taken_own b' (spells_front b b' (e' ∷ after') split' (spells_front before b (e ∷ after) split spells)) k old.lane old.number old.messages old.m e' taken old.among))))

pub delivered_lawfully : DeliveredLawfully
delivered_lawfully s has_spelling plan start events premises = record {
  here = sent_lawfully s plan start events;
  from = λ before e later split. rules_from s has_spelling plan start premises.scheme premises.setup before e (spells_front s has_spelling plan start premises.scheme premises.setup events before (e ∷ later) split premises.spells);
}
