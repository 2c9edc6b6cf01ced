-- What is kept is kept by each event.
use Rattle.std.proofs.Common.{◌≡◌, ℕ, Bool, true, false, List, [], Option, Some, None, slice_get, refl, sym, ◌∙◌, ap, subst, ◌⊎◌, inl, inr, arith}
use Rattle.std.specs.Prelude.{if◌then◌else◌}
use Rattle.ds_label.specs.declared.category.Category.{Category}
use Rattle.ds_label.specs.declared.rule.Rule.{Rule}
use Rattle.ds_label.specs.declared.rule.Rule.TheVariants.{NotFlowToBox}
use Rattle.ds_label.specs.Flow.{has, flows}
use Rattle.ds_label.specs.Names.{is_secrecy, by_name}
use Rattle.ds_cert.specs.declared.lane.LaneCert.{LaneCert}
use Rattle.ds_msg.specs.declared.message.Message.{Message}
use Rattle.ds_model.specs.FirstRule.{unless, or_else}
use Rattle.ds_model.specs.ProcessRules.{mailbox_rule}
use Rattle.ds_model.specs.Scheme.{Scheme}
use Rattle.ds_model.specs.Plan.{HostPlan, Plan, Source, Link, OfLane, host_plan, conn_plan, box_plan}
use Rattle.ds_model.specs.Desk.{Desk, Ticked, desk_after}
use Rattle.ds_model.specs.ExporterRules.{receiver_rule}
use Rattle.ds_model.specs.World.{Conn, Host, World, Passed}
use Rattle.ds_model.specs.ProcessStep.{box_of, label_of, target, judge_box}
use Rattle.ds_model.specs.ConnectionStep.{ConnAsk, ConnWaits, ConnInternal, AsksInlet, AsksArrival, PutsPassed, peer, target_rule, judge_delivery, delivery_after_reply, passed_of}
use Rattle.ds_model.specs.Step.{Event, Step, Frame, Arrive, Accept, Deliver, Tick, Inject, Copy, fresh_in, perform_conn, arrived, injected, step_conn, ticked, on_host, on_conn, happens}
use Rattle.ds_noninterference.specs.High.{high_source}
use Rattle.ds_noninterference.specs.Premises.{IsScheme}
use Rattle.ds_model.proofs.Places.{cond_case}
use Rattle.ds_noninterference.proofs.Flow.{and_left, and_right, or_cases, flows_carries, same_label_carries}
use Rattle.ds_noninterference.proofs.Asks.{first_none, unless_none}
use Rattle.ds_noninterference.proofs.Conns.{ConnFacts, accept_facts, deliver_facts}
use Rattle.ds_noninterference.proofs.Kept.{KeptHost, KeptConn, Kept, all_at, keep_proc, keep_lane}
use Rattle.ds_noninterference.proofs.Events.{own_peer}
use Rattle.ds_noninterference.proofs.Setting.{Setting, Sound}

some_eq : {X : Type 0} (u v : X) → Some u ≡ Some v → u ≡ v
some_eq u v e = cc

module _ (s : Scheme) (c : Category) (secret : is_secrecy c.kind ≡ true) (trusted : List ℕ) (plan : Plan) (is : IsScheme s plan) (fits : Setting c trusted plan) (w : World) (kept : Kept s c trusted plan w) (sound : Sound s c trusted plan w) where
  keep_on_host : (h : ℕ) (f : Host → Host) → ((x : Host) → slice_get w.hosts h ≡ Some x → KeptHost s c trusted plan h x → KeptHost s c trusted plan h (f x)) → Kept s c trusted plan (on_host h f w)
  keep_on_host h f k = record { hosts = all_at (KeptHost s c trusted plan) h f w.hosts (λ j x n e. kept.hosts j x e) (λ x e. k x e (kept.hosts h x e)); conns = kept.conns }

  keep_on_conn : (k : ℕ) (f : Conn → Conn) → ((y : Conn) → slice_get w.conns k ≡ Some y → (f y).passed ≡ y.passed) → Kept s c trusted plan (on_conn k f w)
  keep_on_conn k f same = record {
    hosts = kept.hosts;
    conns = all_at (KeptConn c trusted plan) k f w.conns (λ j y n e. kept.conns j y e) (λ y e high m b p q. kept.conns k y e high m b (sym (same y e) ∙ p) q);
  }

  -- the connection's host keeps its processes and lanes
  host_same : (r : ℕ) (x : Host) (y : Conn) (a : ConnAsk) → KeptHost s c trusted plan r x → KeptHost s c trusted plan r (perform_conn s (host_plan plan r) x y a).host
  host_same r x y ConnWaits k = k
  host_same r x y (ConnInternal next) k = k
  host_same r x y (AsksInlet i n fresh stale) k = record { hands = k.hands; idle = λ l u v. record { waiting = (k.idle l u v).waiting; hand = (k.idle l u v).hand }; streams = k.streams }
  host_same r x y (AsksArrival cert m rest) k = k
  host_same r x y (PutsPassed b m next) k = record { hands = k.hands; idle = λ l u v. record { waiting = (k.idle l u v).waiting; hand = (k.idle l u v).hand }; streams = k.streams }

  -- a message that was judged for a high lane is for a high mailbox
  judged_box : (here : HostPlan) (d : Desk) (cert : LaneCert) (m : Message) (b : ℕ) → has by_name c cert.label ≡ true → judge_delivery s here d cert m ≡ None → box_of here m.slot ≡ Some b → has by_name c (box_plan here b).label ≡ true
  judged_box here d cert m b l j q =
      let a : (receiver_rule s d.store d.rows d.moment here.key cert m ≡ None) × (or_else (target_rule (judge_box here m.slot m.label)) None ≡ None) = first_none _ _ j in
      let label : has by_name c m.label ≡ true = same_label_carries c cert.label m.label (unless_none _ _ (first_none _ _ (first_none _ _ (first_none _ _ a.0).1).1).0) l in
      go label (subst (λ o. target_rule (target o (mailbox_rule by_name (label_of here o) m.label)) ≡ None) q (first_none _ _ a.1).0)
    where
      end : has by_name c m.label ≡ true → flows by_name m.label (box_plan here b).label [] ≡ true → has by_name c (box_plan here b).label ≡ true
      end h f = or_end (or_cases _ _ (flows_carries c m.label (box_plan here b).label [] secret f h))
        where
          or_end : (has by_name c (box_plan here b).label ≡ true) ⊎ (has by_name c [] ≡ true) → has by_name c (box_plan here b).label ≡ true
          or_end (inl r) = r
          or_end (inr r) = absurd (grind arith)

      by_flow : has by_name c m.label ≡ true → (z : Bool) → flows by_name m.label (box_plan here b).label [] ≡ z → target_rule (target (Some b) (unless z NotFlowToBox)) ≡ None → has by_name c (box_plan here b).label ≡ true
      by_flow h true f t = end h f
      by_flow h false f t = absurd (grind arith)

      go : has by_name c m.label ≡ true → target_rule (target (Some b) (mailbox_rule by_name (label_of here (Some b)) m.label)) ≡ None → has by_name c (box_plan here b).label ≡ true
      go h t = by_flow h (flows by_name m.label (box_plan here b).label []) refl t

  module _ (k : ℕ) (x : Host) (y : Conn) (there : slice_get w.conns k ≡ Some y) where
    source_label : (source : Source) → (conn_plan plan k).source ≡ source → (here : HostPlan) (cert : LaneCert) → high_source c trusted plan (conn_plan plan k).host source ≡ true → peer s here (arrived w source y) ≡ Some cert → has by_name c cert.label ≡ true
    source_label Link q here cert high e = absurd (grind arith)
    source_label (OfLane h l) q here cert high e = subst (λ z. has by_name c z.label ≡ true) (sym (own_peer s c trusted plan is w kept h l (fits.real k h l q) here y cert e)) (and_right _ _ (and_left _ _ high))

    told_kept : (cert : LaneCert) (m : Message) (rest : List Message) (o : Option Rule) → judge_delivery s (host_plan plan (conn_plan plan k).host) x.desk cert m ≡ o → peer s (host_plan plan (conn_plan plan k).host) (arrived w (conn_plan plan k).source y) ≡ Some cert → KeptConn c trusted plan k (delivery_after_reply cert m rest o y)
    told_kept cert m rest (Some rule) j e = λ high m' b p q. kept.conns k y there high m' b p q
    told_kept cert m rest None j e = λ high m' b p q.
        let same : passed_of cert m ≡ m' = some_eq (passed_of cert m) m' p in
        judged_box (host_plan plan (conn_plan plan k).host) x.desk cert m b (source_label (conn_plan plan k).source refl (host_plan plan (conn_plan plan k).host) cert high e) j (ap (λ z. box_of (host_plan plan (conn_plan plan k).host) z.slot) same ∙ q)

    same_kept : (next : Conn) → next.passed ≡ y.passed → KeptConn c trusted plan k next
    same_kept next e = λ high m b p q. kept.conns k y there high m b (sym e ∙ p) q

    conn_kept : (a : ConnAsk) → ConnFacts s (host_plan plan (conn_plan plan k).host) y (arrived w (conn_plan plan k).source y) a → KeptConn c trusted plan k (perform_conn s (host_plan plan (conn_plan plan k).host) x y a).conn
    conn_kept ConnWaits f = kept.conns k y there
    conn_kept (ConnInternal next) f = go f
      where
        go : (next.passed ≡ y.passed) ⊎ (next.passed ≡ None) → KeptConn c trusted plan k next
        go (inl e) = same_kept next e
        go (inr e) = λ high m b p q. absurd (grind arith)
    conn_kept (AsksInlet i n fresh stale) f = cond_case (KeptConn c trusted plan k) (fresh_in n (slice_get x.inlets i)) fresh stale (λ _. same_kept fresh f.fresh_same) (λ _. same_kept stale f.stale_same)
    conn_kept (AsksArrival cert m rest) f = told_kept cert m rest _ refl f
    conn_kept (PutsPassed b m next) f = λ high m' b' p q. absurd (none_some m' (sym f.empty ∙ p))
      where
        none_some : (m' : Passed) → None ≡ Some m' → ⊥
        none_some m' e = grind arith

  keep_conn : (k : ℕ) (asks : Conn → ConnAsk) → ((y : Conn) → ConnFacts s (host_plan plan (conn_plan plan k).host) y (arrived w (conn_plan plan k).source y) (asks y)) → (o : Option Host) (q : Option Conn) → slice_get w.hosts (conn_plan plan k).host ≡ o → slice_get w.conns k ≡ q → Kept s c trusted plan (step_conn s plan w (conn_plan plan k).host k asks o q)
  keep_conn k asks facts (Some x) (Some y) there there' = record {
    hosts = all_at (KeptHost s c trusted plan) (conn_plan plan k).host _ w.hosts (λ j z n e. kept.hosts j z e) (λ z e. host_same (conn_plan plan k).host x y (asks y) (kept.hosts (conn_plan plan k).host x there));
    conns = all_at (KeptConn c trusted plan) k _ w.conns (λ j z n e. kept.conns j z e) (λ z e. conn_kept k x y there' (asks y) (facts y));
  }
  keep_conn k asks facts None q there there' = kept
  keep_conn k asks facts (Some x) None there there' = kept

  injected_same : (source : Source) (bytes : List ℕ) (y : Conn) → (injected source bytes y).passed ≡ y.passed
  injected_same Link bytes y = refl
  injected_same (OfLane h l) bytes y = refl

  pub keep_event : (e : Event) → Kept s c trusted plan (happens s plan w e)
  keep_event (Step h p) = keep_on_host h _ (λ x e k. keep_proc s c secret trusted plan is fits w sound h x e k p (slice_get x.procs p) refl)
  keep_event (Frame h l) = keep_on_host h _ (λ x e k. keep_lane s c secret trusted plan is fits w sound h x e k l (slice_get x.workers l))
  keep_event (Arrive k n) = keep_on_conn k _ (λ y e. refl)
  keep_event (Accept k) = keep_conn k _ (λ y. accept_facts s (host_plan plan (conn_plan plan k).host) y (arrived w (conn_plan plan k).source y)) _ _ refl refl
  keep_event (Deliver k) = keep_conn k _ (λ y. deliver_facts s (host_plan plan (conn_plan plan k).host) y (arrived w (conn_plan plan k).source y)) _ _ refl refl
  keep_event (Tick h t) = keep_on_host h (ticked (host_plan plan h) t) (λ x e k. tick (host_plan plan h).silent x k)
    where
      tick : (z : Bool) (x : Host) → KeptHost s c trusted plan h x → KeptHost s c trusted plan h (if z then x else record x { desk = desk_after (host_plan plan h).key (Ticked t) x.desk })
      tick true x k = k
      tick false x k = record { hands = k.hands; idle = λ l u v. record { waiting = (k.idle l u v).waiting; hand = (k.idle l u v).hand }; streams = k.streams }
  keep_event (Inject k bytes) = keep_on_conn k _ (λ y e. injected_same (conn_plan plan k).source bytes y)
  keep_event (Copy k j from until) = kept
