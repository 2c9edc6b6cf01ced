-- Whatever message an event puts into a mailbox, a process of the host or a connection to it puts it there.
use Rattle.std.proofs.Common.{◌≡◌, ℕ, Bool, true, false, List, [], ◌∷◌, Option, Some, None, slice_get, length, refl, sym, ◌∙◌, ap, subst, ◌⊎◌, inl, inr, arith, eqb, eqb-true}
use Rattle.std.specs.Prelude.{nat_lt, nat_le, ◌||◌, if◌then◌else◌}
use Rattle.ds_label.specs.declared.category.Category.{Category}
use Rattle.ds_model.specs.Scheme.{Scheme}
use Rattle.ds_model.specs.Plan.{Plan, host_plan, conn_plan, box_plan, lane_plan}
use Rattle.ds_model.specs.Mailbox.{BoxEntry, PutIn, FoundFull, TookOut, put_entry, oldest}
use Rattle.ds_model.specs.Lane.{LaneEntry}
use Rattle.ds_model.specs.Inlet.{Inlet, InletEntry}
use Rattle.ds_model.specs.Desk.{DeskEntry, Ticked, Looked, act_entry}
use Rattle.ds_model.specs.World.{Process, Mail, Mailbox, Waiting, Queue, Worker, Conn, Host, World}
use Rattle.ds_model.specs.ProcessStep.{Ask, Waits, Internal, Put, Admit, TakeFrom, PublicAct, AsksJudgement, ask}
use Rattle.ds_model.specs.WorkerStep.{LaneAsk, WorkerWaits, Lifts, AsksRecheck, lane_ask}
use Rattle.ds_model.specs.ConnectionStep.{ConnAsk, ConnWaits, ConnInternal, AsksInlet, AsksArrival, PutsPassed, accept, deliver}
use Rattle.ds_model.specs.Step.{Event, Step, Frame, Arrive, Accept, Deliver, Tick, Inject, Copy, arrived, resolve, run}
use Rattle.ds_model.specs.Access.{Access, NoAccess, InBox, InLane, InInlet, InDesk, put_access, take_access, take_access_in, admit_access, lift_access_in, number_access, access_of_ask, access_of_lane_ask, access_of_conn_ask, access_of_proc, access_of_lane, access_of_conn, access_of_clock, access_at, access_in}
use Rattle.ds_model.specs.Lawful.{PutsHere, PutsFrom}
use Rattle.ds_delivery.specs.Puts.{IsFrom, EachIsPut}
use Rattle.ds_delivery.proofs.Conns.{AcceptFacts, accept_facts, DeliverFacts, deliver_facts}

-- an entry of a mailbox is that of no other object

none_box : (b : ℕ) (m : BoxEntry (Mail Category)) → NoAccess ≡ InBox b m → ⊥
none_box b m e = grind arith

lane_box : (l b : ℕ) (n : LaneEntry Waiting) (m : BoxEntry (Mail Category)) → InLane l n ≡ InBox b m → ⊥
lane_box l b n m e = grind arith

inlet_box : (i b : ℕ) (n : InletEntry) (m : BoxEntry (Mail Category)) → InInlet i n ≡ InBox b m → ⊥
inlet_box i b n m e = grind arith

desk_box : (b : ℕ) (n : DeskEntry) (m : BoxEntry (Mail Category)) → InDesk n ≡ InBox b m → ⊥
desk_box b n m e = grind arith

box_place : (a b : ℕ) (m n : BoxEntry (Mail Category)) → InBox a m ≡ InBox b n → a ≡ b
box_place a b m n e = cc

box_entry : (a b : ℕ) (m n : BoxEntry (Mail Category)) → InBox a m ≡ InBox b n → m ≡ n
box_entry a b m n e = cc

no_took : (m : Mail Category) → TookOut ≡ PutIn m → ⊥
no_took m e = grind arith

-- the message that a put puts is the one that it has
put_same : (room : ℕ) (m mail : Mail Category) (waiting : List (Mail Category)) → put_entry room m waiting ≡ PutIn mail → m ≡ mail
put_same room m mail waiting = go (nat_lt (length waiting) room)
  where
    go : (c : Bool) → (if c then PutIn m else FoundFull m) ≡ PutIn mail → m ≡ mail
    go true e = cc
    go false e = absurd (grind arith)

-- a put that goes into a mailbox
record PutThere (x : Host) (b' room : ℕ) (m : Mail Category) (b : ℕ) (mail : Mail Category) : Type 0 where
  pub place : b' ≡ b
  pub same : m ≡ mail
  pub box : Mailbox
  pub there : slice_get x.boxes b' ≡ Some box
  pub entry : put_entry room m box.waiting ≡ PutIn m

put_there : (x : Host) (b' room : ℕ) (m : Mail Category) (b : ℕ) (mail : Mail Category) (o : Option Mailbox) → slice_get x.boxes b' ≡ o → put_access b' room m o ≡ InBox b (PutIn mail) → PutThere x b' room m b mail
put_there x b' room m b mail None there e = absurd (none_box b (PutIn mail) e)
put_there x b' room m b mail (Some z) there e =
    let entry : put_entry room m z.waiting ≡ PutIn mail = box_entry b' b (put_entry room m z.waiting) (PutIn mail) e in
    let same : m ≡ mail = put_same room m mail z.waiting entry in
    record { place = box_place b' b (put_entry room m z.waiting) (PutIn mail) e; same = same; box = z; there = there; entry = entry ∙ ap PutIn (sym same) }

no_take : (b' b : ℕ) (mail : Mail Category) (o : Option Mailbox) → take_access_in b' o ≡ InBox b (PutIn mail) → ⊥
no_take b' b mail None = λ e. none_box b (PutIn mail) e
no_take b' b mail (Some z) = go (oldest z)
  where
    go : (o : Option (Mail Category)) → take_access b' o ≡ InBox b (PutIn mail) → ⊥
    go None e = none_box b (PutIn mail) e
    go (Some m) e = no_took mail (box_entry b' b TookOut (PutIn mail) e)

no_admit : (l room b : ℕ) (m : Waiting) (mail : Mail Category) (o : Option Queue) → admit_access l room m o ≡ InBox b (PutIn mail) → ⊥
no_admit l room b m mail None e = none_box b (PutIn mail) e
no_admit l room b m mail (Some q) e = lane_box l b _ (PutIn mail) e

no_lift : (l b : ℕ) (mail : Mail Category) (o : Option Queue) → lift_access_in l o ≡ InBox b (PutIn mail) → ⊥
no_lift l b mail None e = none_box b (PutIn mail) e
no_lift l b mail (Some []) e = none_box b (PutIn mail) e
no_lift l b mail (Some (m ∷ q)) e = lane_box l b _ (PutIn mail) e

no_number : (i number b : ℕ) (mail : Mail Category) (o : Option Inlet) → number_access i number o ≡ InBox b (PutIn mail) → ⊥
no_number i number b mail None e = none_box b (PutIn mail) e
no_number i number b mail (Some y) e = inlet_box i b _ (PutIn mail) e

module _ (s : Scheme) (plan : Plan) (start : World) (before : List Event) (ev : Event) where
  abbrev now : World
  now = run s plan start before

  module _ (h : ℕ) (x : Host) (there : slice_get now.hosts h ≡ Some x) (b : ℕ) (mail : Mail Category) where
    -- a process's step
    by_ask : (p : ℕ) (y : Process) → slice_get x.procs p ≡ Some y → resolve plan now ev ≡ Step h p → (a : Ask) → ask (host_plan plan h) p y ≡ a → access_of_ask s (host_plan plan h) x p a ≡ InBox b (PutIn mail) → PutsHere s plan start h p b mail before ev
    by_ask p y acts r Waits is e = absurd (none_box b (PutIn mail) e)
    by_ask p y acts r (Internal next) is e = absurd (none_box b (PutIn mail) e)
    by_ask p y acts r (Admit l m next) is e = absurd (no_admit l (lane_plan (host_plan plan h) l).room b (record { sender = p; message = m }) mail (slice_get x.queues l) e)
    by_ask p y acts r (TakeFrom b' reg slot) is e = absurd (no_take b' b mail (slice_get x.boxes b') e)
    by_ask p y acts r (PublicAct act reg host) is e = absurd (desk_box b (act_entry s (host_plan plan h) x.desk act) (PutIn mail) e)
    by_ask p y acts r (AsksJudgement m) is e = absurd (desk_box b Looked (PutIn mail) e)
    by_ask p y acts r (Put b' m next) is e =
        let t : PutThere x b' (box_plan (host_plan plan h) b').room m b mail = put_there x b' (box_plan (host_plan plan h) b').room m b mail (slice_get x.boxes b') refl e in
        subst (λ n. PutsHere s plan start h p n mail before ev) t.place (subst (λ n. PutsHere s plan start h p b' n before ev) t.same
        (record { host = x; proc = y; box = t.box; next = next; event = r; stands = there; acts = acts; there = t.there; asks = is; room = t.entry }))

    by_proc : (p : ℕ) (o : Option Process) → slice_get x.procs p ≡ o → resolve plan now ev ≡ Step h p → access_of_proc s (host_plan plan h) x p o ≡ InBox b (PutIn mail) → PutsHere s plan start h p b mail before ev
    by_proc p None acts r e = absurd (none_box b (PutIn mail) e)
    by_proc p (Some y) acts r e = by_ask p y acts r (ask (host_plan plan h) p y) refl e

    -- a lane's worker puts nothing
    no_lane : (l : ℕ) (o : Option Worker) → access_of_lane s (host_plan plan h) x l o ≡ InBox b (PutIn mail) → ⊥
    no_lane l None = λ e. none_box b (PutIn mail) e
    no_lane l (Some w) = go (lane_ask s (lane_plan (host_plan plan h) l) w)
      where
        go : (a : LaneAsk) → access_of_lane_ask x l a ≡ InBox b (PutIn mail) → ⊥
        go WorkerWaits e = none_box b (PutIn mail) e
        go Lifts e = no_lift l b mail (slice_get x.queues l) e
        go (AsksRecheck hand) e = desk_box b Looked (PutIn mail) e

    -- nor does an accept
    no_accept : (k : ℕ) (o : Option Conn) → access_of_conn (host_plan plan h) (λ conn. accept s (host_plan plan h) conn (arrived now (conn_plan plan k).source conn)) x o ≡ InBox b (PutIn mail) → ⊥
    no_accept k None = λ e. none_box b (PutIn mail) e
    no_accept k (Some y) = go (accept s (host_plan plan h) y (arrived now (conn_plan plan k).source y)) (accept_facts s (host_plan plan h) y (arrived now (conn_plan plan k).source y))
      where
        go : (a : ConnAsk) → AcceptFacts s (host_plan plan h) y (arrived now (conn_plan plan k).source y) a → access_of_conn_ask (host_plan plan h) x a ≡ InBox b (PutIn mail) → ⊥
        go ConnWaits f e = none_box b (PutIn mail) e
        go (ConnInternal next) f e = none_box b (PutIn mail) e
        go (AsksInlet i number fresh stale) f e = no_number i number b mail (slice_get x.inlets i) e
        go (AsksArrival cert m rest) f e = f
        go (PutsPassed b' m next) f e = f

    no_clock : (t : ℕ) → access_of_clock (host_plan plan h) x.desk.moment t ≡ InBox b (PutIn mail) → ⊥
    no_clock t = go ((host_plan plan h).silent || nat_le t x.desk.moment)
      where
        go : (c : Bool) → (if c then NoAccess else InDesk (Ticked t)) ≡ InBox b (PutIn mail) → ⊥
        go true e = none_box b (PutIn mail) e
        go false e = desk_box b (Ticked t) (PutIn mail) e

  -- a delivery
  module _ (k : ℕ) (x : Host) (there : slice_get now.hosts (conn_plan plan k).host ≡ Some x) (b : ℕ) (mail : Mail Category) (r : resolve plan now ev ≡ Deliver k) where
    by_deliver : (y : Conn) → slice_get now.conns k ≡ Some y → (a : ConnAsk) → deliver s (host_plan plan (conn_plan plan k).host) y (arrived now (conn_plan plan k).source y) ≡ a → DeliverFacts s (host_plan plan (conn_plan plan k).host) y (arrived now (conn_plan plan k).source y) a →
        access_of_conn_ask (host_plan plan (conn_plan plan k).host) x a ≡ InBox b (PutIn mail) → IsFrom s plan start (conn_plan plan k).host b mail before ev
    by_deliver y here ConnWaits is f e = absurd (none_box b (PutIn mail) e)
    by_deliver y here (ConnInternal next) is f e = absurd f
    by_deliver y here (AsksInlet i number fresh stale) is f e = absurd f
    by_deliver y here (AsksArrival cert m rest) is f e = absurd (desk_box b Looked (PutIn mail) e)
    by_deliver y here (PutsPassed b' m next) is f e = record {
      conn = k;
      lane = f.cert;
      passed = f.left;
      to = refl;
      says = sym t.same ∙ f.mail_is;
      puts = subst (λ n. PutsFrom s plan start k n f.cert f.left before ev) t.place (record {
        host = x;
        conn = y;
        box = t.box;
        next = next;
        event = r;
        stands = there;
        here = here;
        hello = f.read;
        passed = f.passed;
        there = t.there;
        asks = is ∙ ap (λ n. PutsPassed b' n next) f.mail_is;
        room = subst (λ n. put_entry (box_plan (host_plan plan (conn_plan plan k).host) b').room n t.box.waiting ≡ PutIn n) f.mail_is t.entry;
      });
    }
      where
        t : PutThere x b' (box_plan (host_plan plan (conn_plan plan k).host) b').room m b mail
        t = put_there x b' (box_plan (host_plan plan (conn_plan plan k).host) b').room m b mail (slice_get x.boxes b') refl e

    by_conn : (o : Option Conn) → slice_get now.conns k ≡ o → access_of_conn (host_plan plan (conn_plan plan k).host) (λ conn. deliver s (host_plan plan (conn_plan plan k).host) conn (arrived now (conn_plan plan k).source conn)) x o ≡ InBox b (PutIn mail) → IsFrom s plan start (conn_plan plan k).host b mail before ev
    by_conn None here e = absurd (none_box b (PutIn mail) e)
    by_conn (Some y) here e = by_deliver y here (deliver s (host_plan plan (conn_plan plan k).host) y (arrived now (conn_plan plan k).source y)) refl (deliver_facts s (host_plan plan (conn_plan plan k).host) y (arrived now (conn_plan plan k).source y)) e

  -- on the host of the event alone
  where_true : (c : Bool) (t : Access) (b : ℕ) (mail : Mail Category) → (if c then t else NoAccess) ≡ InBox b (PutIn mail) → (c ≡ true) × (t ≡ InBox b (PutIn mail))
  where_true true t b mail e = (refl, e)
  where_true false t b mail e = absurd (none_box b (PutIn mail) e)

  module _ (h : ℕ) (x : Host) (there : slice_get now.hosts h ≡ Some x) (b : ℕ) (mail : Mail Category) where
    abbrev IsPut : Type 0
    IsPut = ((p : ℕ) × PutsHere s plan start h p b mail before ev) ⊎ IsFrom s plan start h b mail before ev

    by_event : (f : Event) → resolve plan now ev ≡ f → access_at s plan now f h x ≡ InBox b (PutIn mail) → IsPut
    by_event (Step g p) r e =
        let c : (eqb h g ≡ true) × (access_of_proc s (host_plan plan h) x p (slice_get x.procs p) ≡ InBox b (PutIn mail)) = where_true (eqb h g) (access_of_proc s (host_plan plan h) x p (slice_get x.procs p)) b mail e in
        inl (p, by_proc h x there b mail p (slice_get x.procs p) refl (r ∙ ap (λ n. Step n p) (sym (eqb-true h g c.0))) c.1)
    by_event (Frame g l) r e =
        let c : (eqb h g ≡ true) × (access_of_lane s (host_plan plan h) x l (slice_get x.workers l) ≡ InBox b (PutIn mail)) = where_true (eqb h g) (access_of_lane s (host_plan plan h) x l (slice_get x.workers l)) b mail e in
        absurd (no_lane h x there b mail l (slice_get x.workers l) c.1)
    by_event (Accept k) r e = absurd (no_accept h x there b mail k (slice_get now.conns k) (where_true (eqb h (conn_plan plan k).host) (access_of_conn (host_plan plan h) (λ conn. accept s (host_plan plan h) conn (arrived now (conn_plan plan k).source conn)) x (slice_get now.conns k)) b mail e).1)
    by_event (Deliver k) r e =
        let c : (eqb h (conn_plan plan k).host ≡ true) × (access_of_conn (host_plan plan h) (λ conn. deliver s (host_plan plan h) conn (arrived now (conn_plan plan k).source conn)) x (slice_get now.conns k) ≡ InBox b (PutIn mail)) =
        where_true (eqb h (conn_plan plan k).host) (access_of_conn (host_plan plan h) (λ conn. deliver s (host_plan plan h) conn (arrived now (conn_plan plan k).source conn)) x (slice_get now.conns k)) b mail e in
        inr (subst (λ g. slice_get now.hosts g ≡ Some x → access_of_conn (host_plan plan g) (λ conn. deliver s (host_plan plan g) conn (arrived now (conn_plan plan k).source conn)) x (slice_get now.conns k) ≡ InBox b (PutIn mail) → IsFrom s plan start g b mail before ev)
        (sym (eqb-true h (conn_plan plan k).host c.0)) (λ t d. by_conn k x t b mail r (slice_get now.conns k) refl d) there c.1)
    by_event (Tick g t) r e = absurd (no_clock h x there b mail t (where_true (eqb h g) (access_of_clock (host_plan plan h) x.desk.moment t) b mail e).1)
    by_event (Arrive k n) r e = absurd (none_box b (PutIn mail) e)
    by_event (Inject k bytes) r e = absurd (none_box b (PutIn mail) e)
    by_event (Copy k j from until) r e = absurd (none_box b (PutIn mail) e)

  in_host : (h b : ℕ) (mail : Mail Category) (o : Option Host) → slice_get now.hosts h ≡ o → access_in s plan now (resolve plan now ev) h o ≡ InBox b (PutIn mail) → ((p : ℕ) × PutsHere s plan start h p b mail before ev) ⊎ IsFrom s plan start h b mail before ev
  in_host h b mail None there e = absurd (none_box b (PutIn mail) e)
  in_host h b mail (Some x) there e = by_event h x there b mail (resolve plan now ev) refl e

pub each_is_put : EachIsPut
each_is_put s plan start before e h b mail objects_after = in_host s plan start before e h b mail (slice_get (run s plan start before).hosts h) refl objects_after
