-- One event on whole worlds.
use Rattle.std.proofs.Common.{◌≡◌, ◌≢◌, ℕ, zero, suc, Bool, true, false, List, [], ◌++◌, Option, Some, None, slice_get, option_map, take, refl, sym, ◌∙◌, ap, ap₂, subst, subst₂, ◌⊎◌, inl, inr, arith}
use Rattle.std.specs.Prelude.{if◌then◌else◌}
use Rattle.ds_label.specs.declared.category.Category.{Category}
use Rattle.ds_label.specs.Names.{is_secrecy}
use Rattle.ds_cert.specs.declared.lane.LaneCert.{LaneCert}
use Rattle.ds_model.specs.Scheme.{Scheme}
use Rattle.ds_model.specs.Plan.{HostPlan, Plan, Source, Link, OfLane, IsLane, host_plan, conn_plan, lane_plan, inlet_name}
use Rattle.ds_model.specs.Desk.{Ticked, desk_after}
use Rattle.ds_model.specs.World.{Worker, Conn, Host, World}
use Rattle.ds_model.specs.ConnectionStep.{ConnAsk, ConnWaits, ConnInternal, AsksInlet, AsksArrival, PutsPassed, arrive, peer, accept, deliver}
use Rattle.ds_model.specs.Step.{Event, Step, Frame, Arrive, Accept, Deliver, Tick, Inject, Copy, HostAndConn, perform_conn, stream_from, worker_at, stream_of, arrived, injected, with_ends, step_conn, ticked, on_host, on_conn, happens}
use Rattle.ds_model.specs.Views.{proc_in}
use Rattle.ds_noninterference.specs.High.{is_in, high_lane, high_source, high_conn, high_inlet, IsTrusted}
use Rattle.ds_noninterference.specs.Observations.{High, mark_proc, high_or, mark_of}
use Rattle.ds_noninterference.specs.Alike.{Hidden, AlikeHosts, AlikeAt, AlikeWorlds}
use Rattle.ds_noninterference.specs.Premises.{IsScheme}
use Rattle.ds_noninterference.proofs.Places.{both_at, one_at}
use Rattle.ds_noninterference.proofs.Flow.{and_left, and_right, and_both, not_both}
use Rattle.ds_noninterference.proofs.Procs.{alike_self}
use Rattle.ds_noninterference.proofs.ProcSteps.{quiet_step, same_step}
use Rattle.ds_noninterference.proofs.Lanes.{quiet_lane, same_lane}
use Rattle.ds_noninterference.proofs.Conns.{ConnFacts, NumberFacts, accept_facts, deliver_facts, inlet_found, QuietAsk, SeenAsk, quiet_conn, same_host, same_conn}
use Rattle.ds_noninterference.proofs.Inlets.{HighInlet, inlet_high, high_is}
use Rattle.ds_noninterference.proofs.Kept.{Kept}
use Rattle.ds_noninterference.proofs.Setting.{Setting, Sound}

pub high_or_high : (b : Bool) (e : Event) → high_or b e ≡ High → b ≡ true
high_or_high true e h = refl
high_or_high false e h = absurd (grind arith)

pub high_or_low : (b : Bool) (e : Event) → high_or b e ≢ High → b ≡ false
high_or_low true e h = absurd (h refl)
high_or_low false e h = refl

take_none : (n : ℕ) → take {A = ℕ} n [] ≡ []
take_none zero = refl
take_none (suc n) = refl

module _ (s : Scheme) (c : Category) (trusted : List ℕ) (plan : Plan) where
  at_self : (h : ℕ) (o : Option Host) → AlikeAt c trusted plan h o o
  at_self h None = tt
  at_self h (Some x) = alike_self c trusted plan h x

  at_map : (h : ℕ) (f : Host → Host) (o : Option Host) → ((x : Host) → o ≡ Some x → AlikeHosts c trusted plan h x (f x)) → AlikeAt c trusted plan h o (option_map f o)
  at_map h f None k = tt
  at_map h f (Some x) k = k x refl

  at_both : (h : ℕ) (f g : Host → Host) (o q : Option Host) → AlikeAt c trusted plan h o q → ((x y : Host) → o ≡ Some x → q ≡ Some y → AlikeHosts c trusted plan h x y → AlikeHosts c trusted plan h (f x) (g y)) → AlikeAt c trusted plan h (option_map f o) (option_map g q)
  at_both h f g None None r k = tt
  at_both h f g (Some x) (Some y) r k = k x y refl refl r
  at_both h f g None (Some y) r k = r
  at_both h f g (Some x) None r k = r

  -- one world

  quiet_on_host : (w : World) (h : ℕ) (f : Host → Host) → ((x : Host) → slice_get w.hosts h ≡ Some x → AlikeHosts c trusted plan h x (f x)) → AlikeWorlds c trusted plan w (on_host h f w)
  quiet_on_host w h f k = record {
    hosts = one_at (AlikeAt c trusted plan) h f w.hosts (λ j n. at_self j (slice_get w.hosts j)) (at_map h f (slice_get w.hosts h) k);
    conns = λ j. inl refl;
  }

  quiet_on_conn : (w : World) (k : ℕ) (f : Conn → Conn) → high_conn c trusted plan k ≡ true → AlikeWorlds c trusted plan w (on_conn k f w)
  quiet_on_conn w k f high = record {
    hosts = λ h. at_self h (slice_get w.hosts h);
    conns = one_at (λ j a b. (a ≡ b) ⊎ (high_conn c trusted plan j ≡ true)) k f w.conns (λ j n. inl refl) (inr high);
  }

  quiet_ends : (w : World) (h k : ℕ) (x : Host) (e : HostAndConn) → slice_get w.hosts h ≡ Some x → high_conn c trusted plan k ≡ true → AlikeHosts c trusted plan h x e.host → AlikeWorlds c trusted plan w (with_ends w h k e)
  quiet_ends w h k x e there high alike = record {
    hosts = one_at (AlikeAt c trusted plan) h (λ _. e.host) w.hosts (λ j n. at_self j (slice_get w.hosts j))
        (subst (λ o. AlikeAt c trusted plan h o (option_map (λ _. e.host) o)) (sym there) alike);
    conns = one_at (λ j a b. (a ≡ b) ⊎ (high_conn c trusted plan j ≡ true)) k (λ _. e.conn) w.conns (λ j n. inl refl) (inr high);
  }

  pub self_worlds : (w : World) → AlikeWorlds c trusted plan w w
  self_worlds w = record { hosts = λ h. at_self h (slice_get w.hosts h); conns = λ k. inl refl }

  -- two worlds

  both_on_host : (v w : World) → AlikeWorlds c trusted plan v w → (h : ℕ) (f g : Host → Host) → ((x y : Host) → slice_get v.hosts h ≡ Some x → slice_get w.hosts h ≡ Some y → AlikeHosts c trusted plan h x y → AlikeHosts c trusted plan h (f x) (g y)) → AlikeWorlds c trusted plan (on_host h f v) (on_host h g w)
  both_on_host v w alike h f g k = record {
    hosts = both_at (AlikeAt c trusted plan) (AlikeAt c trusted plan) h f g v.hosts w.hosts alike.hosts (λ j n r. r) (λ r. at_both h f g (slice_get v.hosts h) (slice_get w.hosts h) r k);
    conns = alike.conns;
  }

  both_on_conn : (v w : World) → AlikeWorlds c trusted plan v w → (k : ℕ) (f g : Conn → Conn) → (slice_get v.conns k ≡ slice_get w.conns k → option_map f (slice_get v.conns k) ≡ option_map g (slice_get w.conns k)) → AlikeWorlds c trusted plan (on_conn k f v) (on_conn k g w)
  both_on_conn v w alike k f g same = record {
    hosts = alike.hosts;
    conns = both_at (λ j a b. (a ≡ b) ⊎ (high_conn c trusted plan j ≡ true)) (λ j a b. (a ≡ b) ⊎ (high_conn c trusted plan j ≡ true)) k f g v.conns w.conns alike.conns (λ j n r. r) go;
  }
    where
      go : (slice_get v.conns k ≡ slice_get w.conns k) ⊎ (high_conn c trusted plan k ≡ true) → (option_map f (slice_get v.conns k) ≡ option_map g (slice_get w.conns k)) ⊎ (high_conn c trusted plan k ≡ true)
      go (inl e) = inl (same e)
      go (inr high) = inr high

  both_ends : (v w : World) → AlikeWorlds c trusted plan v w → (h k : ℕ) (x y : Host) (d e : HostAndConn) → slice_get v.hosts h ≡ Some x → slice_get w.hosts h ≡ Some y → slice_get v.conns k ≡ slice_get w.conns k → AlikeHosts c trusted plan h d.host e.host → d.conn ≡ e.conn → AlikeWorlds c trusted plan (with_ends v h k d) (with_ends w h k e)
  both_ends v w alike h k x y d e there there' same hosts' conns' = record {
    hosts = both_at (AlikeAt c trusted plan) (AlikeAt c trusted plan) h (λ _. d.host) (λ _. e.host) v.hosts w.hosts alike.hosts (λ j n r. r)
        (λ r. subst₂ (λ o q. AlikeAt c trusted plan h (option_map (λ _. d.host) o) (option_map (λ _. e.host) q)) (sym there) (sym there') hosts');
    conns = both_at (λ j a b. (a ≡ b) ⊎ (high_conn c trusted plan j ≡ true)) (λ j a b. (a ≡ b) ⊎ (high_conn c trusted plan j ≡ true)) k (λ _. d.conn) (λ _. e.conn) v.conns w.conns alike.conns (λ j n r. r)
        (λ r. inl (ap₂ (λ (o : Option Conn) (z : Conn). option_map (λ _. z) o) same conns'));
  }

  -- what a lane's own connection reads first is the lane's certificate

  module _ (is : IsScheme s plan) (w : World) (kept : Kept s c trusted plan w) where
    lane_peer : (h l n : ℕ) → IsLane plan h l → (here : HostPlan) (o : Option Worker) → ((e : Worker) → o ≡ Some e → (rest : List ℕ) × (e.stream ≡ s.hello (lane_plan (host_plan plan h) l).cert ++ rest)) → (peer s here (take n (stream_from o)) ≡ None) ⊎ (peer s here (take n (stream_from o)) ≡ Some (lane_plan (host_plan plan h) l).cert)
    lane_peer h l n real here None streams = subst (λ bytes. (peer s here bytes ≡ None) ⊎ (peer s here bytes ≡ Some (lane_plan (host_plan plan h) l).cert)) (sym (take_none n)) (is.hello_first h l real here [] 0)
    lane_peer h l n real here (Some e) streams = let r : (rest : List ℕ) × (e.stream ≡ s.hello (lane_plan (host_plan plan h) l).cert ++ rest) = streams e refl in
        subst (λ bytes. (peer s here (take n bytes) ≡ None) ⊎ (peer s here (take n bytes) ≡ Some (lane_plan (host_plan plan h) l).cert)) (sym r.1) (is.hello_first h l real here r.0 n)

    sender_stream : (h l : ℕ) (o : Option Host) → slice_get w.hosts h ≡ o → (e : Worker) → worker_at o l ≡ Some e → (rest : List ℕ) × (e.stream ≡ s.hello (lane_plan (host_plan plan h) l).cert ++ rest)
    sender_stream h l None q e there = absurd (grind arith)
    sender_stream h l (Some x) q e there = (kept.hosts h x q).streams l e there

    pub own_peer : (h l : ℕ) → IsLane plan h l → (here : HostPlan) (y : Conn) (cert : LaneCert) → peer s here (arrived w (OfLane h l) y) ≡ Some cert → cert ≡ (lane_plan (host_plan plan h) l).cert
    own_peer h l real here y cert e = go (lane_peer h l y.count real here (worker_at (slice_get w.hosts h) l) (sender_stream h l (slice_get w.hosts h) refl))
      where
        go : (peer s here (arrived w (OfLane h l) y) ≡ None) ⊎ (peer s here (arrived w (OfLane h l) y) ≡ Some (lane_plan (host_plan plan h) l).cert) → cert ≡ (lane_plan (host_plan plan h) l).cert
        go (inl n) = absurd (grind arith)
        go (inr n) = cc

    module _ (fits : Setting c trusted plan) (k : ℕ) (y : Conn) (there : slice_get w.conns k ≡ Some y) where
      -- a High connection asks only for what is High

      high_number : (source : Source) (i n : ℕ) (fresh stale : Conn) → (conn_plan plan k).source ≡ source → high_source c trusted plan (conn_plan plan k).host source ≡ true → NumberFacts s (host_plan plan (conn_plan plan k).host) y (arrived w source y) i fresh stale → high_inlet c trusted plan (conn_plan plan k).host i ≡ true
      high_number Link i n fresh stale q high f = absurd (grind arith)
      high_number (OfLane h l) i n fresh stale q high f =
          let own : f.cert ≡ (lane_plan (host_plan plan h) l).cert = own_peer h l (fits.real k h l q) (host_plan plan (conn_plan plan k).host) y f.cert f.read in
          let found : ((inlet_name (host_plan plan (conn_plan plan k).host) i).exporter ≡ f.cert.exporter) × ((inlet_name (host_plan plan (conn_plan plan k).host) i).lane ≡ f.cert.lane) = inlet_found (host_plan plan (conn_plan plan k).host) f.cert i f.inlet in
          inlet_high c trusted plan (conn_plan plan k).host i (record {
            host = h;
            lane = l;
            high = and_left _ _ high;
            here = and_right _ _ high;
            to = sym (fits.ends k h l q);
            by = ap (λ u. u.exporter) (sym own) ∙ sym found.0;
            number = ap (λ u. u.lane) (sym own) ∙ sym found.1;
          })

      high_here : (source : Source) → high_source c trusted plan (conn_plan plan k).host source ≡ true → is_in trusted (conn_plan plan k).host ≡ true
      high_here Link high = absurd (grind arith)
      high_here (OfLane h l) high = and_right _ _ high

      quiet_facts : (source : Source) (a : ConnAsk) → (conn_plan plan k).source ≡ source → high_source c trusted plan (conn_plan plan k).host source ≡ true → high_conn c trusted plan k ≡ true → ConnFacts s (host_plan plan (conn_plan plan k).host) y (arrived w source y) a → QuietAsk c trusted plan (conn_plan plan k).host a
      quiet_facts source ConnWaits q high hc f = tt
      quiet_facts source (ConnInternal next) q high hc f = tt
      quiet_facts source (AsksInlet i n fresh stale) q high hc f = high_number source i n fresh stale q high f
      quiet_facts source (AsksArrival cert m rest) q high hc f = tt
      quiet_facts source (PutsPassed b m next) q high hc f = (high_here source high, kept.conns k y there hc f.message b f.passed f.box)

      -- another one touches no High inlet

      module _ (sound : Sound s c trusted plan w) where
        low_number : (source : Source) (i n : ℕ) (fresh stale : Conn) → (conn_plan plan k).source ≡ source → high_source c trusted plan (conn_plan plan k).host source ≡ false → NumberFacts s (host_plan plan (conn_plan plan k).host) y (arrived w source y) i fresh stale → HighInlet c trusted plan (conn_plan plan k).host i → ⊥
        low_number Link i n fresh stale q low f hi =
            let found : ((inlet_name (host_plan plan (conn_plan plan k).host) i).exporter ≡ f.cert.exporter) × ((inlet_name (host_plan plan (conn_plan plan k).host) i).lane ≡ f.cert.lane) = inlet_found (host_plan plan (conn_plan plan k).host) f.cert i f.inlet in
            let by : f.cert.exporter ≡ (lane_plan (host_plan plan hi.host) hi.lane).cert.exporter = sym (hi.by ∙ found.0) in
            let u : (h : ℕ) × (l : ℕ) × IsLane plan h l × (f.cert ≡ (lane_plan (host_plan plan h) l).cert) = sound.unforged.certs k y f.cert there q f.read f.begun (subst (IsTrusted trusted plan) (sym by) (fits.by hi.host hi.lane hi.high)) in
            let same : (u.0 ≡ hi.host) × (u.1 ≡ hi.lane) = fits.lanes hi.host hi.lane u.0 u.1 hi.high u.2 (ap (λ z. z.exporter) (sym u.3) ∙ by) (ap (λ z. z.lane) (sym u.3) ∙ sym (hi.number ∙ found.1)) in
            sound.unforged.frames k y f.cert f.place f.number f.messages there q f.read f.frame (omega (arith, f.next)) hi.host hi.lane hi.high
            (ap (λ z. z.key) u.3 ∙ ap₂ (λ a b. (lane_plan (host_plan plan a) b).cert.key) same.0 same.1)
        low_number (OfLane h l) i n fresh stale q low f hi =
            let own : f.cert ≡ (lane_plan (host_plan plan h) l).cert = own_peer h l (fits.real k h l q) (host_plan plan (conn_plan plan k).host) y f.cert f.read in
            let found : ((inlet_name (host_plan plan (conn_plan plan k).host) i).exporter ≡ f.cert.exporter) × ((inlet_name (host_plan plan (conn_plan plan k).host) i).lane ≡ f.cert.lane) = inlet_found (host_plan plan (conn_plan plan k).host) f.cert i f.inlet in
            let same : (h ≡ hi.host) × (l ≡ hi.lane) = fits.lanes hi.host hi.lane h l hi.high (fits.real k h l q) (ap (λ z. z.exporter) (sym own) ∙ sym (hi.by ∙ found.0)) (ap (λ z. z.lane) (sym own) ∙ sym (hi.number ∙ found.1)) in
            not_both (high_source c trusted plan (conn_plan plan k).host (OfLane h l)) (and_both _ _ (ap₂ (λ a b. high_lane c trusted plan a b) same.0 same.1 ∙ hi.high) hi.here) low

        seen_facts : (source : Source) (a : ConnAsk) → (conn_plan plan k).source ≡ source → high_source c trusted plan (conn_plan plan k).host source ≡ false → ConnFacts s (host_plan plan (conn_plan plan k).host) y (arrived w source y) a → SeenAsk c trusted plan (conn_plan plan k).host a
        seen_facts source ConnWaits q low f = tt
        seen_facts source (ConnInternal next) q low f = tt
        seen_facts source (AsksInlet i n fresh stale) q low f = λ hi. low_number source i n fresh stale q low f (high_is c trusted plan (conn_plan plan k).host i hi)
        seen_facts source (AsksArrival cert m rest) q low f = tt
        seen_facts source (PutsPassed b m next) q low f = tt

  -- an event with mark High leaves all that isn't High

  module _ (is : IsScheme s plan) (secret : is_secrecy c.kind ≡ true) (fits : Setting c trusted plan) (w : World) (kept : Kept s c trusted plan w) where
    quiet_step_conn : (k : ℕ) (asks : Conn → ConnAsk) → ((y : Conn) → ConnFacts s (host_plan plan (conn_plan plan k).host) y (arrived w (conn_plan plan k).source y) (asks y)) → high_conn c trusted plan k ≡ true →
        (o : Option Host) (q : Option Conn) → slice_get w.hosts (conn_plan plan k).host ≡ o → slice_get w.conns k ≡ q → AlikeWorlds c trusted plan w (step_conn s plan w (conn_plan plan k).host k asks o q)
    quiet_step_conn k asks facts high (Some x) (Some y) there there' = quiet_ends w (conn_plan plan k).host k x _ there high
        (quiet_conn s c trusted plan (conn_plan plan k).host x y (asks y) (quiet_facts is w kept fits k y there' (conn_plan plan k).source (asks y) refl high high (facts y)))
    quiet_step_conn k asks facts high None q there there' = self_worlds w
    quiet_step_conn k asks facts high (Some x) None there there' = self_worlds w

    pub quiet_event : (e : Event) → mark_of c trusted plan w e ≡ High → AlikeWorlds c trusted plan w (happens s plan w e)
    quiet_event (Step h p) m = quiet_on_host w h _ (λ x there. quiet_step s c secret trusted plan h x p (slice_get x.procs p) refl (kept.hosts h x there).hands (subst (λ o. mark_proc c (is_in trusted h) (host_plan plan h) h p (proc_in o p) ≡ High) there m))
    quiet_event (Frame h l) m = quiet_on_host w h _ (λ x there. quiet_lane s c trusted plan h x l (slice_get x.workers l) refl (kept.hosts h x there).idle (high_or_high _ _ m))
    quiet_event (Arrive k n) m = quiet_on_conn w k _ (high_or_high _ _ m)
    quiet_event (Accept k) m = quiet_step_conn k _ (λ y. accept_facts s (host_plan plan (conn_plan plan k).host) y (arrived w (conn_plan plan k).source y)) (high_or_high _ _ m) _ _ refl refl
    quiet_event (Deliver k) m = quiet_step_conn k _ (λ y. deliver_facts s (host_plan plan (conn_plan plan k).host) y (arrived w (conn_plan plan k).source y)) (high_or_high _ _ m) _ _ refl refl
    quiet_event (Tick h t) m = absurd (grind arith)
    quiet_event (Inject k bytes) m = absurd (grind arith)
    quiet_event (Copy k j from until) m = absurd (grind arith)

  -- an event that isn't High, on both sides

  module _ (is : IsScheme s plan) (secret : is_secrecy c.kind ≡ true) (fits : Setting c trusted plan) (v w : World) (alike : AlikeWorlds c trusted plan v w) where
    same_sender : (k h l : ℕ) (o q : Option Host) → AlikeAt c trusted plan h o q → (conn_plan plan k).source ≡ OfLane h l → high_source c trusted plan (conn_plan plan k).host (OfLane h l) ≡ false → worker_at o l ≡ worker_at q l
    same_sender k h l None None r e low = refl
    same_sender k h l None (Some y) r e low = absurd r
    same_sender k h l (Some x) None r e low = absurd r
    same_sender k h l (Some x) (Some y) r e low = go (r.workers l)
      where
        go : (slice_get x.workers l ≡ slice_get y.workers l) ⊎ Hidden c trusted plan h l → slice_get x.workers l ≡ slice_get y.workers l
        go (inl i) = i
        go (inr hidden) = absurd (not_both (high_source c trusted plan (conn_plan plan k).host (OfLane h l)) (and_both _ _ hidden.high (fits.outsiders k h l e (subst (IsTrusted trusted plan) (sym (fits.ends k h l e)) hidden.to))) low)

    pub same_stream : (k : ℕ) (source : Source) (y : Conn) → (conn_plan plan k).source ≡ source → high_source c trusted plan (conn_plan plan k).host source ≡ false → stream_of v source y ≡ stream_of w source y
    same_stream k Link y e low = refl
    same_stream k (OfLane h l) y e low = ap stream_from (same_sender k h l (slice_get v.hosts h) (slice_get w.hosts h) (alike.hosts h) e low)

    pub same_conns : (k : ℕ) → high_conn c trusted plan k ≡ false → slice_get v.conns k ≡ slice_get w.conns k
    same_conns k low = go (alike.conns k)
      where
        go : (slice_get v.conns k ≡ slice_get w.conns k) ⊎ (high_conn c trusted plan k ≡ true) → slice_get v.conns k ≡ slice_get w.conns k
        go (inl e) = e
        go (inr high) = absurd (not_both _ high low)

    map_same : {X : Type 0} (f g : X → X) (o q : Option X) → ((x : X) → f x ≡ g x) → o ≡ q → option_map f o ≡ option_map g q
    map_same f g None q h e = ap (option_map g) e
    map_same f g (Some x) q h e = ap Some (h x) ∙ ap (option_map g) e

    module _ (kept : Kept s c trusted plan v) (sound : Sound s c trusted plan v) where
      same_step_conn : (k : ℕ) (asks asks' : Conn → ConnAsk) → ((y : Conn) → asks y ≡ asks' y) → ((y : Conn) → ConnFacts s (host_plan plan (conn_plan plan k).host) y (arrived v (conn_plan plan k).source y) (asks y)) → high_conn c trusted plan k ≡ false →
          (o o' : Option Host) (q : Option Conn) → slice_get v.hosts (conn_plan plan k).host ≡ o → slice_get w.hosts (conn_plan plan k).host ≡ o' → AlikeAt c trusted plan (conn_plan plan k).host o o' → slice_get v.conns k ≡ q → slice_get w.conns k ≡ q →
          AlikeWorlds c trusted plan (step_conn s plan v (conn_plan plan k).host k asks o q) (step_conn s plan w (conn_plan plan k).host k asks' o' q)
      same_step_conn k asks asks' same facts low (Some x) (Some x') (Some y) there there' r q q' =
          subst (λ a. AlikeWorlds c trusted plan (with_ends v (conn_plan plan k).host k (perform_conn s (host_plan plan (conn_plan plan k).host) x y (asks y))) (with_ends w (conn_plan plan k).host k (perform_conn s (host_plan plan (conn_plan plan k).host) x' y a))) (same y)
          (let seen : SeenAsk c trusted plan (conn_plan plan k).host (asks y) = seen_facts is v kept fits k y q sound (conn_plan plan k).source (asks y) refl low (facts y) in
          both_ends v w alike (conn_plan plan k).host k x x' (perform_conn s (host_plan plan (conn_plan plan k).host) x y (asks y)) (perform_conn s (host_plan plan (conn_plan plan k).host) x' y (asks y)) there there' (q ∙ sym q')
          (same_host s c trusted plan (conn_plan plan k).host x x' r y (asks y) seen) (same_conn s c trusted plan (conn_plan plan k).host x x' r y (asks y) seen))
      same_step_conn k asks asks' same facts low None None (Some y) there there' r q q' = alike
      same_step_conn k asks asks' same facts low None (Some x') (Some y) there there' r q q' = absurd r
      same_step_conn k asks asks' same facts low (Some x) None (Some y) there there' r q q' = absurd r
      same_step_conn k asks asks' same facts low None None None there there' r q q' = alike
      same_step_conn k asks asks' same facts low None (Some x') None there there' r q q' = alike
      same_step_conn k asks asks' same facts low (Some x) None None there there' r q q' = alike
      same_step_conn k asks asks' same facts low (Some x) (Some x') None there there' r q q' = alike

      conn_event : (k : ℕ) (asks asks' : Conn → ConnAsk) → ((y : Conn) → asks y ≡ asks' y) → ((y : Conn) → ConnFacts s (host_plan plan (conn_plan plan k).host) y (arrived v (conn_plan plan k).source y) (asks y)) → high_conn c trusted plan k ≡ false →
          AlikeWorlds c trusted plan (step_conn s plan v (conn_plan plan k).host k asks (slice_get v.hosts (conn_plan plan k).host) (slice_get v.conns k)) (step_conn s plan w (conn_plan plan k).host k asks' (slice_get w.hosts (conn_plan plan k).host) (slice_get w.conns k))
      conn_event k asks asks' same facts low =
          subst (λ q. AlikeWorlds c trusted plan (step_conn s plan v (conn_plan plan k).host k asks (slice_get v.hosts (conn_plan plan k).host) (slice_get v.conns k)) (step_conn s plan w (conn_plan plan k).host k asks' (slice_get w.hosts (conn_plan plan k).host) q)) (same_conns k low)
          (same_step_conn k asks asks' same facts low (slice_get v.hosts (conn_plan plan k).host) (slice_get w.hosts (conn_plan plan k).host) (slice_get v.conns k) refl refl (alike.hosts (conn_plan plan k).host) refl (sym (same_conns k low)))

      step_event : (h p : ℕ) → mark_of c trusted plan v (Step h p) ≡ mark_of c trusted plan w (Step h p) → mark_of c trusted plan v (Step h p) ≢ High → AlikeWorlds c trusted plan (happens s plan v (Step h p)) (happens s plan w (Step h p))
      step_event h p eq low = both_on_host v w alike h _ _ (λ x y there there' r. same_step s c secret trusted plan h x y r p (slice_get x.procs p) (slice_get y.procs p) refl refl (r.procs p)
          (sym (ap (λ o. mark_proc c (is_in trusted h) (host_plan plan h) h p (proc_in o p)) there) ∙ (eq ∙ ap (λ o. mark_proc c (is_in trusted h) (host_plan plan h) h p (proc_in o p)) there'))
          (λ bad. low (ap (λ o. mark_proc c (is_in trusted h) (host_plan plan h) h p (proc_in o p)) there ∙ bad)))

      pub same_event : (e : Event) → mark_of c trusted plan v e ≡ mark_of c trusted plan w e → mark_of c trusted plan v e ≢ High → AlikeWorlds c trusted plan (happens s plan v e) (happens s plan w e)
      same_event (Step h p) eq low = step_event h p eq low
      same_event (Frame h l) eq low = both_on_host v w alike h _ _ (λ x y there there' r. same_lane s c trusted plan h x y r l (high_or_low _ _ low) (slice_get x.workers l) (slice_get y.workers l) (seen_sender (high_or_low _ _ low) (r.workers l)))
        where
          seen_sender : {X : Type 0} {a b : X} → high_lane c trusted plan h l ≡ false → (a ≡ b) ⊎ Hidden c trusted plan h l → a ≡ b
          seen_sender q (inl i) = i
          seen_sender q (inr hidden) = absurd (not_both (high_lane c trusted plan h l) hidden.high q)
      same_event (Arrive k n) eq low = both_on_conn v w alike k _ _ (λ e. map_same _ _ _ _ (λ y. ap (λ bytes. arrive bytes n y) (same_stream k (conn_plan plan k).source y refl (high_or_low _ _ low))) e)
      same_event (Accept k) eq low = conn_event k _ _ (λ y. ap (λ bytes. accept s (host_plan plan (conn_plan plan k).host) y (take y.count bytes)) (same_stream k (conn_plan plan k).source y refl (high_or_low _ _ low)))
          (λ y. accept_facts s (host_plan plan (conn_plan plan k).host) y (arrived v (conn_plan plan k).source y)) (high_or_low _ _ low)
      same_event (Deliver k) eq low = conn_event k _ _ (λ y. ap (λ bytes. deliver s (host_plan plan (conn_plan plan k).host) y (take y.count bytes)) (same_stream k (conn_plan plan k).source y refl (high_or_low _ _ low)))
          (λ y. deliver_facts s (host_plan plan (conn_plan plan k).host) y (arrived v (conn_plan plan k).source y)) (high_or_low _ _ low)
      same_event (Tick h t) eq low = both_on_host v w alike h (ticked (host_plan plan h) t) (ticked (host_plan plan h) t) (λ x y there there' r. tick (host_plan plan h).silent x y r)
        where
          tick : (z : Bool) (x y : Host) → AlikeHosts c trusted plan h x y → AlikeHosts c trusted plan h (if z then x else record x { desk = desk_after (host_plan plan h).key (Ticked t) x.desk }) (if z then y else record y { desk = desk_after (host_plan plan h).key (Ticked t) y.desk })
          tick true x y r = r
          tick false x y r = record { desk = ap (desk_after (host_plan plan h).key (Ticked t)) r.desk; procs = r.procs; boxes = r.boxes; queues = r.queues; workers = r.workers; logs = r.logs; inlets = r.inlets }
      same_event (Inject k bytes) eq low = both_on_conn v w alike k _ _ (λ e. ap (option_map (injected (conn_plan plan k).source bytes)) e)
      same_event (Copy k j from until) eq low = alike
