-- All of it is kept by each event, and so along each run.
use Rattle.std.proofs.Common.{◌≡◌, ◌≤◌, ℕ, Bool, true, false, List, [], ◌∷◌, ◌++◌, Option, Some, None, slice_get, length, take, refl, sym, ◌∙◌, ap, subst, arith, append-nil}
use Rattle.std.specs.Prelude.{if◌then◌else◌}
use Rattle.ds_msg.specs.declared.message.Message.{Message}
use Rattle.ds_model.specs.Scheme.{Scheme}
use Rattle.ds_model.specs.Plan.{Plan, Source, Link, OfLane, host_plan, conn_plan, lane_plan}
use Rattle.ds_model.specs.Lane.{frame_limit}
use Rattle.ds_model.specs.Desk.{Ticked, desk_after}
use Rattle.ds_model.specs.World.{Queue, Conn, Host, World}
use Rattle.ds_model.specs.ConnectionStep.{ConnAsk, ConnWaits, ConnInternal, AsksInlet, AsksArrival, PutsPassed, arrive, accept, deliver}
use Rattle.ds_model.specs.Step.{Event, Step, Frame, Arrive, Accept, Deliver, Tick, Inject, Copy, HostAndConn, stream_from, worker_at, step_proc, step_lane, perform_conn, stream_of, arrived, injected, with_ends, step_conn, ticked, on_host, on_conn, resolve, happens, run}
use Rattle.ds_model.proofs.Places.{none_some, some_is}
use Rattle.ds_model.specs.Setup.{IsSetup}
use Rattle.ds_delivery.specs.Premises.{IsReadable}
use Rattle.ds_delivery.proofs.Lists.{Grows, grows_self, grows_same, take_grows, all_at, in_none, in_empty}
use Rattle.ds_delivery.proofs.Pasts.{always, run_more}
use Rattle.ds_delivery.proofs.Kept.{KeptHost, host_later, keep_proc, keep_lane}
use Rattle.ds_delivery.proofs.Arrivals.{WorldGrows, world_self, at_grows, HostGrows, proc_grows, lane_grows, conn_grows, tick_grows, arrived_grows, arrive_grows}
use Rattle.ds_delivery.proofs.KeptConns.{KeptConn, KeptNext, conn_reads, conn_later, accept_next, deliver_next}

short : (q : Queue) → q ≡ [] → length q ≤ frame_limit
short q e = subst (λ (z : Queue). length z ≤ frame_limit) (sym e) (omega arith)

module _ (s : Scheme) (has_spelling : Message → Bool) (plan : Plan) (start : World) (is : IsReadable s has_spelling plan) where
  pub record Kept (done : List Event) (w : World) : Type 0 where
    pub hosts : (h : ℕ) (x : Host) → slice_get w.hosts h ≡ Some x → KeptHost s plan start done h x
    pub conns : (k : ℕ) (y : Conn) → slice_get w.conns k ≡ Some y → KeptConn s has_spelling plan start is done k (arrived w (conn_plan plan k).source y) y

  module _ (done : List Event) (ev : Event) (kept : Kept done (run s plan start done)) where
    abbrev now : World
    now = run s plan start done

    -- connections that the event leaves alone, in a world whose lanes' streams grew
    conn_same : (w : World) → WorldGrows now w → (k : ℕ) (y : Conn) → slice_get now.conns k ≡ Some y → KeptConn s has_spelling plan start is (done ++ ev ∷ []) k (arrived w (conn_plan plan k).source y) y
    conn_same w g k y e = conn_reads s has_spelling plan start is (done ++ ev ∷ []) k (arrived now (conn_plan plan k).source y) (arrived w (conn_plan plan k).source y) y
        (arrived_grows now w (conn_plan plan k).source y y g (grows_self y.link) refl)
        (conn_later s has_spelling plan start is done ev k (arrived now (conn_plan plan k).source y) y y refl refl (kept.conns k y e))

    -- an event on one host
    on_host_kept : (h : ℕ) (f : Host → Host) → ((x : Host) → slice_get now.hosts h ≡ Some x → KeptHost s plan start (done ++ ev ∷ []) h (f x)) → ((x : Host) → slice_get now.hosts h ≡ Some x → HostGrows x (f x)) → Kept (done ++ ev ∷ []) (on_host h f now)
    on_host_kept h f k g = record {
      hosts = all_at (KeptHost s plan start (done ++ ev ∷ [])) h f now.hosts (λ j x n e. host_later s plan start done ev j x (kept.hosts j x e)) k;
      conns = conn_same (on_host h f now) (at_grows now (on_host h f now) h f refl g);
    }

    hosts_later : (h : ℕ) (x : Host) → slice_get now.hosts h ≡ Some x → KeptHost s plan start (done ++ ev ∷ []) h x
    hosts_later h x e = host_later s plan start done ev h x (kept.hosts h x e)

    -- an event on one connection's bytes
    on_conn_kept : (k : ℕ) (f : Conn → Conn) → ((y : Conn) → (f y).hand ≡ y.hand) → ((y : Conn) → (f y).passed ≡ y.passed) → ((y : Conn) → Grows (arrived now (conn_plan plan k).source y) (arrived (on_conn k f now) (conn_plan plan k).source (f y))) → Kept (done ++ ev ∷ []) (on_conn k f now)
    on_conn_kept k f hand passed g = record {
      hosts = hosts_later;
      conns = all_at (λ j y. KeptConn s has_spelling plan start is (done ++ ev ∷ []) j (arrived (on_conn k f now) (conn_plan plan j).source y) y) k f now.conns
          (λ j y n e. conn_same (on_conn k f now) (λ h l. grows_self _) j y e)
          (λ y e. conn_reads s has_spelling plan start is (done ++ ev ∷ []) k (arrived now (conn_plan plan k).source y) (arrived (on_conn k f now) (conn_plan plan k).source (f y)) (f y) (g y)
          (conn_later s has_spelling plan start is done ev k (arrived now (conn_plan plan k).source y) y (f y) (hand y) (passed y) (kept.conns k y e)));
    }

    -- an accept or a delivery
    same_workers : (r : ℕ) (x : Host) (y : Conn) (a : ConnAsk) → KeptHost s plan start (done ++ ev ∷ []) r x → KeptHost s plan start (done ++ ev ∷ []) r (perform_conn s (host_plan plan r) x y a).host
    same_workers r x y ConnWaits k = k
    same_workers r x y (ConnInternal next) k = k
    same_workers r x y (AsksInlet i number fresh stale) k = record { hands = k.hands; queues = k.queues; workers = k.workers }
    same_workers r x y (AsksArrival cert m rest) k = k
    same_workers r x y (PutsPassed b mail next) k = record { hands = k.hands; queues = k.queues; workers = k.workers }

    ends_kept : (k : ℕ) (asks : Conn → ConnAsk) →
        ((x : Host) (y : Conn) → slice_get now.hosts (conn_plan plan k).host ≡ Some x → slice_get now.conns k ≡ Some y → KeptNext s has_spelling plan start is done ev k (arrived now (conn_plan plan k).source y) y (perform_conn s (host_plan plan (conn_plan plan k).host) x y (asks y)).conn) →
        (o : Option Host) (q : Option Conn) → slice_get now.hosts (conn_plan plan k).host ≡ o → slice_get now.conns k ≡ q → Kept (done ++ ev ∷ []) (step_conn s plan now (conn_plan plan k).host k asks o q)
    ends_kept k asks next None q ho co = record { hosts = hosts_later; conns = conn_same now (world_self now) }
    ends_kept k asks next (Some x) None ho co = record { hosts = hosts_later; conns = conn_same now (world_self now) }
    ends_kept k asks next (Some x) (Some y) ho co = record {
      hosts = all_at (KeptHost s plan start (done ++ ev ∷ [])) (conn_plan plan k).host (λ _. (perform_conn s (host_plan plan (conn_plan plan k).host) x y (asks y)).host) now.hosts (λ j z n e. hosts_later j z e)
          (λ z e. same_workers (conn_plan plan k).host x y (asks y) (hosts_later (conn_plan plan k).host x ho));
      conns = all_at (λ j z. KeptConn s has_spelling plan start is (done ++ ev ∷ []) j (arrived after (conn_plan plan j).source z) z) k (λ _. (perform_conn s (host_plan plan (conn_plan plan k).host) x y (asks y)).conn) now.conns
          (λ j z n e. conn_same after grown j z e)
          (λ z e. conn_reads s has_spelling plan start is (done ++ ev ∷ []) k (arrived now (conn_plan plan k).source y) (arrived after (conn_plan plan k).source told.conn) told.conn
          (arrived_grows now after (conn_plan plan k).source y told.conn grown (grows_same y.link told.conn.link mine.link) mine.count) mine.kept);
    }
      where
        told : HostAndConn
        told = perform_conn s (host_plan plan (conn_plan plan k).host) x y (asks y)

        after : World
        after = with_ends now (conn_plan plan k).host k told

        mine : KeptNext s has_spelling plan start is done ev k (arrived now (conn_plan plan k).source y) y told.conn
        mine = next x y ho co

        grown : WorldGrows now after
        grown = at_grows now after (conn_plan plan k).host (λ _. told.host) refl (λ z e l. subst (λ (u : Host). Grows (stream_from (slice_get u.workers l)) (stream_from (slice_get told.host.workers l))) (some_is x z (sym ho ∙ e)) (conn_grows s (host_plan plan (conn_plan plan k).host) x y (asks y) l))

    injected_hand : (source : Source) (bytes : List ℕ) (y : Conn) → (injected source bytes y).hand ≡ y.hand
    injected_hand Link bytes y = refl
    injected_hand (OfLane h l) bytes y = refl

    injected_passed : (source : Source) (bytes : List ℕ) (y : Conn) → (injected source bytes y).passed ≡ y.passed
    injected_passed Link bytes y = refl
    injected_passed (OfLane h l) bytes y = refl

    injected_grows : (v w : World) (source : Source) (bytes : List ℕ) (y : Conn) → w.hosts ≡ v.hosts → Grows (arrived v source y) (arrived w source (injected source bytes y))
    injected_grows v w Link bytes y same = take_grows y.count y.link (y.link ++ bytes) (bytes, refl)
    injected_grows v w (OfLane h l) bytes y same = grows_same _ _ (ap (λ xs. take y.count (stream_from (worker_at (slice_get xs h) l))) same)

    keep_event : (f : Event) → resolve plan now ev ≡ f → Kept (done ++ ev ∷ []) (happens s plan now f)
    keep_event (Step h p) r = on_host_kept h (λ x. step_proc s (host_plan plan h) x p (slice_get x.procs p))
        (λ x e. keep_proc s plan start done ev h x e (kept.hosts h x e) p (slice_get x.procs p) refl r)
        (λ x e. proc_grows s (host_plan plan h) x p (slice_get x.procs p))
    keep_event (Frame h l) r = on_host_kept h (λ x. step_lane s (host_plan plan h) x l (slice_get x.workers l))
        (λ x e. keep_lane s plan start done ev h x e (kept.hosts h x e) l r (slice_get x.workers l) refl)
        (λ x e. lane_grows s (host_plan plan h) x l (slice_get x.workers l))
    keep_event (Arrive k n) r = on_conn_kept k (λ conn. arrive (stream_of now (conn_plan plan k).source conn) n conn) (λ y. refl) (λ y. refl)
        (λ y. arrive_grows now (on_conn k (λ conn. arrive (stream_of now (conn_plan plan k).source conn) n conn) now) (conn_plan plan k).source n y refl)
    keep_event (Accept k) r = ends_kept k (λ conn. accept s (host_plan plan (conn_plan plan k).host) conn (arrived now (conn_plan plan k).source conn))
        (λ x y ho co. accept_next s has_spelling plan start is done ev k x y ho co (kept.conns k y co) r) _ _ refl refl
    keep_event (Deliver k) r = ends_kept k (λ conn. deliver s (host_plan plan (conn_plan plan k).host) conn (arrived now (conn_plan plan k).source conn))
        (λ x y ho co. deliver_next s has_spelling plan start is done ev k x y ho co (kept.conns k y co) r) _ _ refl refl
    keep_event (Tick h t) r = on_host_kept h (ticked (host_plan plan h) t)
        (λ x e. tick (host_plan plan h).silent x (hosts_later h x e))
        (λ x e. tick_grows (host_plan plan h) t x)
      where
        tick : (b : Bool) (x : Host) → KeptHost s plan start (done ++ ev ∷ []) h x → KeptHost s plan start (done ++ ev ∷ []) h (if b then x else record x { desk = desk_after (host_plan plan h).key (Ticked t) x.desk })
        tick true x k = k
        tick false x k = record { hands = k.hands; queues = k.queues; workers = k.workers }
    keep_event (Inject k bytes) r = on_conn_kept k (injected (conn_plan plan k).source bytes) (injected_hand (conn_plan plan k).source bytes) (injected_passed (conn_plan plan k).source bytes)
        (λ y. injected_grows now (on_conn k (injected (conn_plan plan k).source bytes) now) (conn_plan plan k).source bytes y refl)
    keep_event (Copy k j from until) r = record { hosts = hosts_later; conns = conn_same now (world_self now) }

    pub keep_step : Kept (done ++ ev ∷ []) (run s plan start (done ++ ev ∷ []))
    keep_step = subst (Kept (done ++ ev ∷ [])) (sym (run_more s plan done start ev)) (keep_event (resolve plan now ev) refl)

  at_start : IsSetup s plan start → Kept [] start
  at_start setup = record {
    hosts = λ h x e. record {
      hands = λ p y q m hand. absurd (none_some m (sym (setup.procs h x p y e q) ∙ hand));
      queues = λ l q w v c. absurd (in_empty q v (setup.queues h x l q e w) c);
      workers = λ l e' w. record {
        hand = λ v c. absurd (in_empty e'.hand v (setup.workers h x l e' e w).0 c);
        leaf = λ n. absurd (n (setup.workers h x l e' e w).0);
        most = short e'.hand (setup.workers h x l e' e w).0;
        frames = [];
        stream = (setup.workers h x l e' e w).1 ∙ sym (append-nil (s.hello (lane_plan (host_plan plan h) l).cert));
        whole = λ f c. absurd (in_none f c);
        wrote = λ f c. absurd (in_none f c);
      };
    };
    conns = λ k y e. record {
      hand = λ m c. absurd (in_empty y.hand m (setup.conns k y e).0 c);
      passed = λ m q. absurd (none_some m (sym (setup.conns k y e).1 ∙ q));
    };
  }

  pub all_kept : IsSetup s plan start → (events : List Event) → Kept events (run s plan start events)
  all_kept setup = always (λ done. Kept done (run s plan start done)) (at_start setup) (λ done ev kept. keep_step done ev kept)
