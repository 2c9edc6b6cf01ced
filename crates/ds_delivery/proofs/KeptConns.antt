-- What is kept along each run, of connections: each message in hand is of a frame that was taken, and what was passed was
-- judged after such a frame was taken; all of one lane certificate.
use Rattle.std.proofs.Common.{◌≡◌, ◌<◌, ltb-true, arith, ap, ℕ, Bool, true, false, List, [], ◌∷◌, ◌++◌, Option, Some, None, slice_get, Contains, refl, sym, ◌∙◌, subst}
use Rattle.std.specs.Prelude.{if◌then◌else◌}
use Rattle.ds_label.specs.declared.rule.Rule.{Rule}
use Rattle.ds_cert.specs.declared.lane.LaneCert.{LaneCert}
use Rattle.ds_msg.specs.declared.message.Message.{Message}
use Rattle.ds_model.specs.Scheme.{Scheme}
use Rattle.ds_model.specs.Plan.{Plan, host_plan, conn_plan}
use Rattle.ds_model.specs.Inlet.{Inlet, is_fresh}
use Rattle.ds_label.specs.declared.category.Category.{Category}
use Rattle.ds_model.specs.World.{Mail, Conn, Host, World, Passed}
use Rattle.ds_model.specs.ConnectionStep.{target_rule, ConnAsk, ConnWaits, ConnInternal, AsksInlet, AsksArrival, PutsPassed, peer, fresh_frame, stale_frame, accept, deliver, judge_delivery, delivery_after_reply, passed_of}
use Rattle.ds_model.specs.Step.{Event, Accept, Deliver, fresh_in, perform_conn, arrived, resolve, run}
use Rattle.ds_model.specs.Lawful.{Past, TakenFrom, JudgedFrom}
use Rattle.ds_model.proofs.Places.{none_some, some_is}
use Rattle.ds_delivery.specs.Premises.{IsReadable}
use Rattle.ds_delivery.proofs.Lists.{Grows, in_head, in_tail}
use Rattle.ds_delivery.proofs.Pasts.{past_more, past_now}
use Rattle.ds_label.specs.Names.{by_name}
use Rattle.ds_model.specs.ProcessRules.{mailbox_rule}
use Rattle.ds_model.specs.ExporterRules.{receiver_rule}
use Rattle.ds_model.specs.ProcessStep.{box_of, label_of, target, judge_box}
use Rattle.ds_model.proofs.Sends.{first_none}
use Rattle.ds_delivery.proofs.Afters.{accept_after, deliver_after, means_after}
use Rattle.ds_delivery.proofs.Conns.{SameHands, NumberFacts, AcceptFacts, accept_facts, JudgeFacts, HandFacts, DeliverFacts, deliver_facts}

-- a fresh number is above the last one
above : (number : ℕ) (last : Inlet) → is_fresh number last ≡ true → (old : ℕ) → last ≡ Some old → old < number
above number None e old is = absurd (none_some old is)
above number (Some last) e old is = subst (λ n. n < number) (some_is last old is) (ltb-true last number e)

-- a mailbox that is found, of a rule that passes
target_none : (o : Option ℕ) (r : Option Rule) → target_rule (target o r) ≡ None → r ≡ None
target_none o (Some rule) e = absurd (grind arith)
target_none o None e = refl

module _ (s : Scheme) (has_spelling : Message → Bool) (plan : Plan) (start : World) (is : IsReadable s has_spelling plan) where
  -- of a message in a connection's hand, where these bytes have arrived
  pub record InHand (done : List Event) (k : ℕ) (bytes : List ℕ) (m : Message) : Type 0 where
    pub lane : LaneCert
    pub read : peer s (host_plan plan (conn_plan plan k).host) bytes ≡ Some lane
    pub number : ℕ
    pub messages : List Message
    pub among : Contains messages m
    pub taken : Past done (λ b e. TakenFrom s plan start k lane number messages b e)

  -- of a message that a connection passed
  pub record IsPassed (done : List Event) (k : ℕ) (bytes : List ℕ) (p : Passed) : Type 0 where
    pub lane : LaneCert
    pub m : Message
    pub says : p ≡ passed_of lane m
    pub read : peer s (host_plan plan (conn_plan plan k).host) bytes ≡ Some lane
    pub number : ℕ
    pub messages : List Message
    pub among : Contains messages m
    pub judged : Past done (λ b e. JudgedFrom s plan start k lane m b e × Past b (λ b' e'. TakenFrom s plan start k lane number messages b' e'))

  pub record KeptConn (done : List Event) (k : ℕ) (bytes : List ℕ) (y : Conn) : Type 0 where
    pub hand : (m : Message) → Contains y.hand m → InHand done k bytes m
    pub passed : (p : Passed) → y.passed ≡ Some p → IsPassed done k bytes p

  -- as bytes follow

  pub conn_reads : (done : List Event) (k : ℕ) (bytes longer : List ℕ) (y : Conn) → Grows bytes longer → KeptConn done k bytes y → KeptConn done k longer y
  conn_reads done k bytes longer y g kept = subst (λ z. KeptConn done k z y) (sym g.1) more
    where
      still : (lane : LaneCert) → peer s (host_plan plan (conn_plan plan k).host) bytes ≡ Some lane → peer s (host_plan plan (conn_plan plan k).host) (bytes ++ g.0) ≡ Some lane
      still lane = is.stays (host_plan plan (conn_plan plan k).host) lane bytes g.0

      more : KeptConn done k (bytes ++ g.0) y
      more = record {
        hand = λ m c. let o : InHand done k bytes m = kept.hand m c in record { lane = o.lane; read = still o.lane o.read; number = o.number; messages = o.messages; among = o.among; taken = o.taken };
        passed = λ p e. let o : IsPassed done k bytes p = kept.passed p e in record { lane = o.lane; m = o.m; says = o.says; read = still o.lane o.read; number = o.number; messages = o.messages; among = o.among; judged = o.judged };
      }

  -- as events follow

  module _ (done : List Event) (ev : Event) (k : ℕ) (bytes : List ℕ) where
    hand_later : (m : Message) → InHand done k bytes m → InHand (done ++ ev ∷ []) k bytes m
    hand_later m o = record { lane = o.lane; read = o.read; number = o.number; messages = o.messages; among = o.among; taken = past_more done ev (λ b e. TakenFrom s plan start k o.lane o.number o.messages b e) o.taken }

    passed_later : (p : Passed) → IsPassed done k bytes p → IsPassed (done ++ ev ∷ []) k bytes p
    passed_later p o = record { lane = o.lane; m = o.m; says = o.says; read = o.read; number = o.number; messages = o.messages; among = o.among; judged = past_more done ev (λ b e. JudgedFrom s plan start k o.lane o.m b e × Past b (λ b' e'. TakenFrom s plan start k o.lane o.number o.messages b' e')) o.judged }

    -- where hand and passed message are as before
    pub conn_later : (y z : Conn) → z.hand ≡ y.hand → z.passed ≡ y.passed → KeptConn done k bytes y → KeptConn (done ++ ev ∷ []) k bytes z
    conn_later y z hand passed kept = record {
      hand = λ m c. hand_later m (kept.hand m (subst (λ ms. Contains ms m) hand c));
      passed = λ m e. passed_later m (kept.passed m (sym passed ∙ e));
    }

  -- after what the connection asked: it reads the same stream, as far as before
  pub record KeptNext (done : List Event) (ev : Event) (k : ℕ) (bytes : List ℕ) (y z : Conn) : Type 0 where
    pub link : z.link ≡ y.link
    pub count : z.count ≡ y.count
    pub kept : KeptConn (done ++ ev ∷ []) k bytes z

  module _ (done : List Event) (ev : Event) (k : ℕ) (x : Host) (y : Conn) (there : slice_get (run s plan start done).hosts (conn_plan plan k).host ≡ Some x) (here : slice_get (run s plan start done).conns k ≡ Some y)
      (kept : KeptConn done k (arrived (run s plan start done) (conn_plan plan k).source y) y) where
    abbrev Next : Conn → Type 0
    Next z = KeptNext done ev k (arrived (run s plan start done) (conn_plan plan k).source y) y z

    same_next : (z : Conn) → SameHands y z → Next z
    same_next z same = record { link = same.link; count = same.count; kept = conn_later done ev k (arrived (run s plan start done) (conn_plan plan k).source y) y z same.hand same.passed kept }

    self_next : Next y
    self_next = same_next y (record { link = refl; count = refl; hand = refl; passed = refl })

    stale_next : (number : ℕ) → Next (stale_frame y number)
    stale_next number = same_next (stale_frame y number) (record { link = refl; count = refl; hand = refl; passed = refl })

    abbrev accepts : ConnAsk
    accepts = accept s (host_plan plan (conn_plan plan k).host) y (arrived (run s plan start done) (conn_plan plan k).source y)

    fresh_next : (i number : ℕ) (fresh stale : Conn) (f : NumberFacts s (host_plan plan (conn_plan plan k).host) y (arrived (run s plan start done) (conn_plan plan k).source y) i number fresh stale) → accepts ≡ AsksInlet i number fresh stale → resolve plan (run s plan start done) ev ≡ Accept k → (last : Inlet) → slice_get x.inlets i ≡ Some last → is_fresh number last ≡ true → Next (fresh_frame y number f.messages)
    fresh_next i number fresh stale f a now last counts new = record {
      link = refl;
      count = refl;
      kept = record {
        hand = λ m c. record { lane = f.cert; read = f.read; number = number; messages = f.messages; among = c; taken = past_now done ev (λ b e. TakenFrom s plan start k f.cert number f.messages b e) taken };
        passed = λ m e. passed_later done ev k (arrived (run s plan start done) (conn_plan plan k).source y) m (kept.passed m e);
      };
    }
      where
        taken : TakenFrom s plan start k f.cert number f.messages done ev
        taken = record {
          host = x;
          conn = y;
          place = i;
          last = last;
          told = fresh_frame y number f.messages;
          event = now;
          stands = there;
          here = here;
          hello = f.read;
          item = f.item;
          signed = is.signed (host_plan plan (conn_plan plan k).host) f.cert (arrived (run s plan start done) (conn_plan plan k).source y) y.taken number f.messages f.read f.item;
          inlet = f.inlet;
          counts = counts;
          fresh = above number last new;
          becomes = ap (λ (w : World). slice_get w.conns k) (means_after s plan (run s plan start done) ev (Accept k) now)
              ∙ (accept_after s plan (run s plan start done) k x y there here (AsksInlet i number fresh stale) a
              ∙ (ap (λ o. Some (if fresh_in number o then fresh else stale)) counts
              ∙ (ap (λ b. Some (if b then fresh else stale)) new
              ∙ ap Some f.fresh_is)));
          hand = refl;
        }

    number_next : (i number : ℕ) (fresh stale : Conn) → NumberFacts s (host_plan plan (conn_plan plan k).host) y (arrived (run s plan start done) (conn_plan plan k).source y) i number fresh stale → accepts ≡ AsksInlet i number fresh stale → resolve plan (run s plan start done) ev ≡ Accept k → (o : Option Inlet) → slice_get x.inlets i ≡ o → Next (if fresh_in number o then fresh else stale)
    number_next i number fresh stale f a now None e = subst Next (sym f.stale_is) (stale_next number)
    number_next i number fresh stale f a now (Some last) e = go (is_fresh number last) refl
      where
        go : (b : Bool) → is_fresh number last ≡ b → Next (if b then fresh else stale)
        go true new = subst Next (sym f.fresh_is) (fresh_next i number fresh stale f a now last e new)
        go false old = subst Next (sym f.stale_is) (stale_next number)

    accept_ask : (a : ConnAsk) → accepts ≡ a → AcceptFacts s (host_plan plan (conn_plan plan k).host) y (arrived (run s plan start done) (conn_plan plan k).source y) a → resolve plan (run s plan start done) ev ≡ Accept k → Next (perform_conn s (host_plan plan (conn_plan plan k).host) x y a).conn
    accept_ask ConnWaits a f now = self_next
    accept_ask (ConnInternal next) a f now = same_next next f
    accept_ask (AsksInlet i number fresh stale) a f now = number_next i number fresh stale f a now (slice_get x.inlets i) refl
    accept_ask (AsksArrival cert m rest) a f now = absurd f
    accept_ask (PutsPassed b mail next) a f now = absurd f

    pub accept_next : resolve plan (run s plan start done) ev ≡ Accept k → Next (perform_conn s (host_plan plan (conn_plan plan k).host) x y accepts).conn
    accept_next now = accept_ask accepts refl (accept_facts s (host_plan plan (conn_plan plan k).host) y (arrived (run s plan start done) (conn_plan plan k).source y)) now

    abbrev delivers : ConnAsk
    delivers = deliver s (host_plan plan (conn_plan plan k).host) y (arrived (run s plan start done) (conn_plan plan k).source y)

    rest_in : (m : Message) (rest : List Message) → y.hand ≡ m ∷ rest → (n : Message) → Contains rest n → Contains y.hand n
    rest_in m rest e n c = subst (λ ms. Contains ms n) (sym e) (in_tail m rest n c)

    judge_next : (cert : LaneCert) (m : Message) (rest : List Message) (o : Option Rule) → delivers ≡ AsksArrival cert m rest → JudgeFacts s (host_plan plan (conn_plan plan k).host) y (arrived (run s plan start done) (conn_plan plan k).source y) cert m rest →
        judge_delivery s (host_plan plan (conn_plan plan k).host) x.desk cert m ≡ o → resolve plan (run s plan start done) ev ≡ Deliver k → Next (delivery_after_reply cert m rest o y)
    judge_next cert m rest (Some rule) a f j now = record {
      link = refl;
      count = refl;
      kept = record {
        hand = λ n c. hand_later done ev k (arrived (run s plan start done) (conn_plan plan k).source y) n (kept.hand n (rest_in m rest f.first n c));
        passed = λ n e. passed_later done ev k (arrived (run s plan start done) (conn_plan plan k).source y) n (kept.passed n e);
      };
    }
    judge_next cert m rest None a f j now = record {
      link = refl;
      count = refl;
      kept = record {
        hand = λ n c. hand_later done ev k (arrived (run s plan start done) (conn_plan plan k).source y) n (kept.hand n (rest_in m rest f.first n c));
        passed = λ n e. subst (λ z. IsPassed (done ++ ev ∷ []) k (arrived (run s plan start done) (conn_plan plan k).source y) z) (some_is (passed_of cert m) n e) passed;
      };
    }
      where
        old : InHand done k (arrived (run s plan start done) (conn_plan plan k).source y) m
        old = kept.hand m (subst (λ ms. Contains ms m) (sym f.first) (in_head m rest))

        rules : (receiver_rule s x.desk.store x.desk.rows x.desk.moment (host_plan plan (conn_plan plan k).host).key cert m ≡ None) × (target_rule (judge_box (host_plan plan (conn_plan plan k).host) m.slot m.label) ≡ None)
        rules = let n = first_none _ _ j in (n.0, (first_none _ _ n.1).0)

        judges : JudgedFrom s plan start k cert m done ev
        judges = record {
          host = x;
          conn = y;
          others = rest;
          told = delivery_after_reply cert m rest None y;
          event = now;
          stands = there;
          here = here;
          hello = f.read;
          hand = f.first;
          arrival = rules.0;
          mailbox = target_none (box_of (host_plan plan (conn_plan plan k).host) m.slot) (mailbox_rule by_name (label_of (host_plan plan (conn_plan plan k).host) (box_of (host_plan plan (conn_plan plan k).host) m.slot)) m.label) rules.1;
          becomes = ap (λ (w : World). slice_get w.conns k) (means_after s plan (run s plan start done) ev (Deliver k) now)
              ∙ (deliver_after s plan (run s plan start done) k x y there here (AsksArrival cert m rest) a
              ∙ ap (λ o. Some (delivery_after_reply cert m rest o y)) j);
          left = refl;
          passed = refl;
        }

        passed : IsPassed (done ++ ev ∷ []) k (arrived (run s plan start done) (conn_plan plan k).source y) (passed_of cert m)
        passed = record {
          lane = cert;
          m = m;
          says = refl;
          read = f.read;
          number = old.number;
          messages = old.messages;
          among = old.among;
          judged = past_now done ev (λ b e. JudgedFrom s plan start k cert m b e × Past b (λ b' e'. TakenFrom s plan start k cert old.number old.messages b' e'))
              (judges, subst (λ c. Past done (λ b' e'. TakenFrom s plan start k c old.number old.messages b' e')) (some_is old.lane cert (sym old.read ∙ f.read)) old.taken);
        }

    hand_next : (b : ℕ) (mail : Mail Category) (next : Conn) → HandFacts s (host_plan plan (conn_plan plan k).host) y (arrived (run s plan start done) (conn_plan plan k).source y) b mail next → Next next
    hand_next b mail next f = subst Next (sym f.next_is) (record {
      link = refl;
      count = refl;
      kept = record {
        hand = λ n c. hand_later done ev k (arrived (run s plan start done) (conn_plan plan k).source y) n (kept.hand n c);
        passed = λ n e. absurd (none_some n e);
      };
    })

    deliver_ask : (a : ConnAsk) → delivers ≡ a → DeliverFacts s (host_plan plan (conn_plan plan k).host) y (arrived (run s plan start done) (conn_plan plan k).source y) a → resolve plan (run s plan start done) ev ≡ Deliver k → Next (perform_conn s (host_plan plan (conn_plan plan k).host) x y a).conn
    deliver_ask ConnWaits a f now = self_next
    deliver_ask (ConnInternal next) a f now = absurd f
    deliver_ask (AsksInlet i number fresh stale) a f now = absurd f
    deliver_ask (AsksArrival cert m rest) a f now = judge_next cert m rest (judge_delivery s (host_plan plan (conn_plan plan k).host) x.desk cert m) a f refl now
    deliver_ask (PutsPassed b mail next) a f now = hand_next b mail next f

    pub deliver_next : resolve plan (run s plan start done) ev ≡ Deliver k → Next (perform_conn s (host_plan plan (conn_plan plan k).host) x y delivers).conn
    deliver_next now = deliver_ask delivers refl (deliver_facts s (host_plan plan (conn_plan plan k).host) y (arrived (run s plan start done) (conn_plan plan k).source y)) now
