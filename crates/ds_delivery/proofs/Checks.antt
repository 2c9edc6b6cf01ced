-- The five checks.
use Rattle.std.proofs.Common.{◌≡◌, ◌≢◌, min, take, length-take, ℕ, suc, Bool, true, false, cond, List, [], ◌∷◌, ◌++◌, Option, Some, None, length, map, slice_get, filter, flat_map, Contains, refl, sym, ◌∙◌, ap, ap₂, subst, ◌⊎◌, inl, inr, arith}
use Rattle.std.proofs.lemmas.List.Elements.{Contains-append_left, Contains-append_right, Contains-append_cases}
use Rattle.std.proofs.lemmas.List.{take-append-drop}
use Rattle.std.specs.Prelude.{nat_lt, if◌then◌else◌}
use Rattle.ds_label.specs.declared.category.Category.{Category}
use Rattle.ds_label.specs.declared.rule.Rule.{Rule}
use Rattle.ds_label.specs.declared.rule.Rule.TheVariants.{LaneFull, BoxFull, Stale}
use Rattle.ds_label.specs.Names.{by_name}
use Rattle.ds_cert.specs.declared.lane.LaneCert.{LaneCert}
use Rattle.ds_script.specs.declared.op.Op.{Op}
use Rattle.ds_script.specs.declared.op.Op.TheVariants as ops
use Rattle.ds_script.specs.declared.note.Note.TheVariants as notes
use Rattle.ds_script.specs.Inner.{inner_op}
use Rattle.ds_script.specs.Replay.{onward}
use Rattle.ds_msg.specs.declared.message.Message.{Message}
use Rattle.ds_model.specs.Lists.{at}
use Rattle.ds_model.specs.FirstRule.{unless, first_rule}
use Rattle.ds_model.specs.ProcessRules.{mailbox_rule}
use Rattle.ds_model.specs.Scheme.{Scheme, Framed}
use Rattle.ds_model.specs.Plan.{HostPlan, LanePlan, Plan, host_plan, conn_plan, box_plan, lane_plan}
use Rattle.ds_model.specs.Mailbox.{PutIn, FoundFull, TookOut, box_enter, put, oldest, took, took_with}
use Rattle.ds_model.specs.Lane.{Queued, QueueFull, lane_after, admit_entry, admit, front, lifted, frame_limit}
use Rattle.ds_model.specs.Inlet.{Inlet, Fresh, inlet_after, is_fresh, numbered}
use Rattle.ds_model.specs.Inlet as entries
use Rattle.ds_model.specs.Desk.{Desk}
use Rattle.ds_model.specs.World.{Process, Mail, Mailbox, Waiting, Queue, Worker, LaneLine, QueuedLine, FullLine, FramedLine, DroppedLine, PassLine, DropLine, Conn, Host, World, Passed}
use Rattle.ds_model.specs.ProcessStep.{Ask, Put, Admit, TakeFrom, AsksJudgement, noted, refused, box_of, label_of, Target, Not, Into, target, judge_box, message_of, send_rule, mail_of, send_here, send_away, send, take_rule, take_from, ask_outer, ask_inner, queue_at, ask_hand, ask, taken_after_reply, judged_after_reply}
use Rattle.ds_model.specs.WorkerStep.{LaneAsk, WorkerWaits, Lifts, AsksRecheck, lane_ask_hand, lane_ask, frame_rule, rechecked, with_frame, checked_after_reply, lifted_after_reply, dropped_line, framed_line, admitted_line}
use Rattle.ds_model.specs.ConnectionStep.{ConnAsk, ConnWaits, AsksInlet, AsksArrival, PutsPassed, peer, inlet_of, fresh_frame, stale_frame, take_frame, frame_from, accept_item, accept_free, accept, put_passed, deliver_to, deliver_from, deliver, target_rule, judge_delivery, delivery_after_reply, passed_of}
use Rattle.ds_model.specs.Step.{Step, Frame, Accept, Deliver, judged, attached, arrived, perform, step_proc, checked_in, front_of, perform_lane, step_lane, fresh_in, perform_conn, step_conn, with_ends, lined, admitted_lines, oldest_in, step}
use Rattle.ds_model.proofs.Places.{at_alike, at_still, some_is}
use Rattle.ds_model.proofs.Rechecks.{passes, good_is, lines_are}
use Rattle.ds_delivery.specs.Rules.{is_above}
use Rattle.ds_delivery.specs.Checked.{ByFirst, IfRuleFails, set, with_host, with_conn, with_proc, put_into, found_full, IsAt, IsOpen, SendChecked, IsFramed, FrameChecked, ArrivalChecked, BoxChecked, TakeChecked, EachChecked}
use Rattle.ds_delivery.proofs.Lists.{in_none, in_head, in_tail, in_cases, in_filter, filter_in}
use Rattle.ds_delivery.proofs.Kept.{passes_none}
use Rattle.ds_delivery.proofs.RulesAre.{releasing_is, away_is, here_is, delivery_is, taking_is}

-- a claim by cases on a rule

by_rule : {D E : Rule → Type 0} {P Q : Type 0} (r : Option Rule) → ((rule : Rule) → D rule → E rule) → (P → Q) → ByFirst r D P → ByFirst r E Q
by_rule (Some rule) f g c = f rule c
by_rule None f g c = g c

by_same : (D : Rule → Type 0) (P : Type 0) (q r : Option Rule) → q ≡ r → ByFirst r D P → ByFirst q D P
by_same D P q r e c = subst (λ z. ByFirst z D P) (sym e) c

-- a mailbox's room
room_is : (room b : ℕ) (mail : Mail Category) (boxes : List Mailbox) (z : Mailbox) → slice_get boxes b ≡ Some z →
    IfRuleFails (unless (nat_lt (length z.waiting) room) BoxFull ∷ []) (λ rule. at b (put room mail) boxes ≡ set b (found_full mail z) boxes) (at b (put room mail) boxes ≡ set b (put_into mail z) boxes)
room_is room b mail boxes z there = go (nat_lt (length z.waiting) room) refl
  where
    here : at b (put room mail) boxes ≡ set b (put room mail z) boxes
    here = at_alike b (put room mail) (λ _. put room mail z) boxes (λ y e. ap (put room mail) (some_is y z (sym e ∙ there)))

    go : (c : Bool) → nat_lt (length z.waiting) room ≡ c →
        IfRuleFails (unless c BoxFull ∷ []) (λ rule. at b (put room mail) boxes ≡ set b (found_full mail z) boxes) (at b (put room mail) boxes ≡ set b (put_into mail z) boxes)
    go true e = here ∙ ap (λ c. set b (box_enter (if c then PutIn mail else FoundFull mail) z) boxes) e
    go false e = here ∙ ap (λ c. set b (box_enter (if c then PutIn mail else FoundFull mail) z) boxes) e

-- an operation that isn't one of the five inside the process is asked of the outside
asks_outer : (plan : HostPlan) (p : ℕ) (y : Process) (op : Op) → y.hand ≡ None → slice_get y.script y.course.place ≡ Some op → inner_op op y.course ≡ None → ask plan p y ≡ ask_outer plan p y (Some op)
asks_outer plan p y op free at_op outer =
    ap (ask_hand plan p y) free
    ∙ (ap (λ (o : Option Op). ask_inner plan p y (onward o (λ op'. inner_op op' y.course))) at_op
    ∙ (ap (ask_inner plan p y) outer
    ∙ ap (ask_outer plan p y) at_op))

module _ (s : Scheme) (plan : Plan) (w : World) where
  -- the world after an event

  module _ (h p : ℕ) (x : Host) (y : Process) (stands : slice_get w.hosts h ≡ Some x) (acts : slice_get x.procs p ≡ Some y) where
    world_after : (a : Ask) → ask (host_plan plan h) p y ≡ a → step s plan w (Step h p) ≡ with_host w h (perform s (host_plan plan h) x p a)
    world_after a is = ap (λ hs. record { hosts = hs; conns = w.conns }) (at_alike h (λ z. step_proc s (host_plan plan h) z p (slice_get z.procs p)) (λ _. perform s (host_plan plan h) x p a) w.hosts
        (λ z e. ap (λ (u : Host). step_proc s (host_plan plan h) u p (slice_get u.procs p)) (some_is z x (sym e ∙ stands)) ∙ (ap (step_proc s (host_plan plan h) x p) acts ∙ ap (perform s (host_plan plan h) x p) is)))

    is_refused : (rule : Rule) → ask (host_plan plan h) p y ≡ refused rule y → step s plan w (Step h p) ≡ with_host w h (with_proc x p (noted (notes.Refused rule) y))
    is_refused rule is = world_after (refused rule y) is

    -- a change of the process alone
    one_proc : (f : Process → Process) → at p f x.procs ≡ set p (f y) x.procs
    one_proc f = at_alike p f (λ _. f y) x.procs (λ z e. ap f (some_is z y (sym e ∙ acts)))

    -- a send to another host

    away_by : (m : Message) → (a b : Option Rule) → send_rule (host_plan plan h) y m ≡ a → judged s (host_plan plan h) x.desk m ≡ b → ask (host_plan plan h) p y ≡ send_away y m (send_rule (host_plan plan h) y m) →
        ByFirst (first_rule (a ∷ b ∷ []))
        (λ rule. step s plan w (Step h p) ≡ with_host w h (with_proc x p (noted (notes.Refused rule) y)))
        (step s plan w (Step h p) ≡ with_host w h (with_proc x p (record y { hand = Some (record m { certs = attached s (host_plan plan h) x.desk m }) })))
    away_by m (Some rule) b sender desk is = is_refused rule (is ∙ ap (send_away y m) sender)
    away_by m None (Some rule) sender desk is = world_after (AsksJudgement m) (is ∙ ap (send_away y m) sender)
        ∙ (ap (λ ps. with_host w h (record x { procs = ps })) (one_proc (judged_after_reply m (attached s (host_plan plan h) x.desk m) (judged s (host_plan plan h) x.desk m)))
        ∙ ap (λ o. with_host w h (with_proc x p (judged_after_reply m (attached s (host_plan plan h) x.desk m) o y))) desk)
    away_by m None None sender desk is = world_after (AsksJudgement m) (is ∙ ap (send_away y m) sender)
        ∙ (ap (λ ps. with_host w h (record x { procs = ps })) (one_proc (judged_after_reply m (attached s (host_plan plan h) x.desk m) (judged s (host_plan plan h) x.desk m)))
        ∙ ap (λ o. with_host w h (with_proc x p (judged_after_reply m (attached s (host_plan plan h) x.desk m) o y))) desk)

    -- a send to the own host

    abbrev PutInto : Message → Type 0
    PutInto m = (b : ℕ) × (box_of (host_plan plan h) m.slot ≡ Some b) × ((z : Mailbox) → slice_get x.boxes b ≡ Some z →
        IfRuleFails (unless (nat_lt (length z.waiting) (box_plan (host_plan plan h) b).room) BoxFull ∷ [])
        (λ rule. step s plan w (Step h p) ≡ with_host w h (record (with_proc x p (noted notes.Sent y)) { boxes = set b (found_full (mail_of (host_plan plan h).key m) z) x.boxes }))
        (step s plan w (Step h p) ≡ with_host w h (record (with_proc x p (noted notes.Sent y)) { boxes = set b (put_into (mail_of (host_plan plan h).key m) z) x.boxes })))

    puts_into : (m : Message) (b : ℕ) → box_of (host_plan plan h) m.slot ≡ Some b → ask (host_plan plan h) p y ≡ Put b (mail_of (host_plan plan h).key m) (noted notes.Sent y) → PutInto m
    puts_into m b box is = (
      b,
      box,
      λ z there. by_rule (first_rule (unless (nat_lt (length z.waiting) (box_plan (host_plan plan h) b).room) BoxFull ∷ [])) (λ rule e. after ∙ ap boxed e) (λ e. after ∙ ap boxed e) (room_is (box_plan (host_plan plan h) b).room b (mail_of (host_plan plan h).key m) x.boxes z there),
    )
      where
        boxed : List Mailbox → World
        boxed boxes = with_host w h (record (with_proc x p (noted notes.Sent y)) { boxes = boxes })

        after : step s plan w (Step h p) ≡ boxed (at b (put (box_plan (host_plan plan h) b).room (mail_of (host_plan plan h).key m)) x.boxes)
        after = world_after (Put b (mail_of (host_plan plan h).key m) (noted notes.Sent y)) is

    here_by : (m : Message) → (a : Option Rule) (t : Target) → send_rule (host_plan plan h) y m ≡ a → judge_box (host_plan plan h) m.slot m.label ≡ t → ask (host_plan plan h) p y ≡ send_here (host_plan plan h) y m (send_rule (host_plan plan h) y m) (judge_box (host_plan plan h) m.slot m.label) →
        ByFirst (first_rule (a ∷ target_rule t ∷ []))
        (λ rule. step s plan w (Step h p) ≡ with_host w h (with_proc x p (noted (notes.Refused rule) y)))
        (PutInto m)
    here_by m (Some rule) t sender box is = is_refused rule (is ∙ ap (λ o. send_here (host_plan plan h) y m o (judge_box (host_plan plan h) m.slot m.label)) sender)
    here_by m None (Not rule) sender box is = is_refused rule (is ∙ ap₂ (λ o t. send_here (host_plan plan h) y m o t) sender box)
    here_by m None (Into b) sender box is = puts_into m b (into (box_of (host_plan plan h) m.slot) box) (is ∙ ap₂ (λ o t. send_here (host_plan plan h) y m o t) sender box)
      where
        by_target : (c : ℕ) (r : Option Rule) → target (Some c) r ≡ Into b → Some c ≡ Some b
        by_target c None e = cc
        by_target c (Some rule) e = absurd (grind arith)

        into : (o : Option ℕ) → target o (mailbox_rule by_name (label_of (host_plan plan h) o) m.label) ≡ Into b → o ≡ Some b
        into None e = absurd (grind arith)
        into (Some c) e = by_target c (mailbox_rule by_name (label_of (host_plan plan h) (Some c)) m.label) e

    -- a take

    abbrev TakeOut : (reg slot b : ℕ) → Mailbox → Type 0
    TakeOut reg slot b z = (z.waiting ≡ [] → step s plan w (Step h p) ≡ w)
        × ((mail : Mail Category) (others : List (Mail Category)) → z.waiting ≡ mail ∷ others →
        step s plan w (Step h p) ≡ with_host w h (record (with_proc x p (taken_after_reply reg slot (Some mail) y)) { boxes = set b (record { waiting = others; entries = z.entries ++ TookOut ∷ [] }) x.boxes }))

    take_out : (reg slot b : ℕ) (z : Mailbox) → ask (host_plan plan h) p y ≡ TakeFrom b reg slot → slice_get x.boxes b ≡ Some z → TakeOut reg slot b z
    take_out reg slot b z is there = (
      λ none. after ∙ (λ i. with_host w h (record x { procs = quiet none i; boxes = at_still b took x.boxes (λ u e. ap took (some_is u z (sym e ∙ there)) ∙ (took_is none ∙ some_is z u (sym there ∙ e))) i }))
          ∙ ap (λ hs. record { hosts = hs; conns = w.conns }) (at_still h (λ _. x) w.hosts (λ u e. some_is x u (sym stands ∙ e))),
      λ mail others some. after ∙ (λ i. with_host w h (record x {
        procs = (one_proc (taken_after_reply reg slot (oldest_in (slice_get x.boxes b))) ∙ ap (λ o. set p (taken_after_reply reg slot o y) x.procs) (first some)) i;
        boxes = (at_alike b took (λ _. took z) x.boxes (λ u e. ap took (some_is u z (sym e ∙ there))) ∙ ap (λ t. set b t x.boxes) (took_one mail others some)) i;
      })),
    )
      where
        after : step s plan w (Step h p) ≡ with_host w h (perform s (host_plan plan h) x p (TakeFrom b reg slot))
        after = world_after (TakeFrom b reg slot) is

        first : {mail : Mail Category} {others : List (Mail Category)} → z.waiting ≡ mail ∷ others → oldest_in (slice_get x.boxes b) ≡ Some mail
        first some = ap oldest_in there ∙ ap (λ (ms : List (Mail Category)). slice_get ms 0) some

        quiet : z.waiting ≡ [] → at p (taken_after_reply reg slot (oldest_in (slice_get x.boxes b))) x.procs ≡ x.procs
        quiet none = at_still p (taken_after_reply reg slot (oldest_in (slice_get x.boxes b))) x.procs (λ u e. ap (λ o. taken_after_reply reg slot o u) (ap oldest_in there ∙ ap (λ (ms : List (Mail Category)). slice_get ms 0) none))

        took_is : z.waiting ≡ [] → took z ≡ z
        took_is none = ap (took_with z) (ap (λ (ms : List (Mail Category)). slice_get ms 0) none)

        took_one : (mail : Mail Category) (others : List (Mail Category)) → z.waiting ≡ mail ∷ others → took z ≡ record { waiting = others; entries = z.entries ++ TookOut ∷ [] }
        took_one mail others some = ap (took_with z) (ap (λ (ms : List (Mail Category)). slice_get ms 0) some) ∙ ap (λ (ms : List (Mail Category)). record { waiting = Rattle.ds_model.specs.Mailbox.box_after TookOut ms; entries = z.entries ++ TookOut ∷ [] }) some

    take_by : (reg slot : ℕ) (o : Option ℕ) (r : Option Rule) → box_of (host_plan plan h) slot ≡ o → take_rule (host_plan plan h) p y o ≡ r → ask (host_plan plan h) p y ≡ take_from y reg slot o r →
        ByFirst r
        (λ rule. step s plan w (Step h p) ≡ with_host w h (with_proc x p (noted (notes.Refused rule) y)))
        ((b : ℕ) × (box_of (host_plan plan h) slot ≡ Some b) × ((z : Mailbox) → slice_get x.boxes b ≡ Some z → TakeOut reg slot b z))
    take_by reg slot o (Some rule) box r is = is_refused rule is
    take_by reg slot None None box r is = absurd (grind arith)
    take_by reg slot (Some b) None box r is = (b, box, λ z there. take_out reg slot b z is there)

    -- a judged message onto its lane

    queue_by : (l : ℕ) (m : Message) (q : Queue) (log : List LaneLine) → ask (host_plan plan h) p y ≡ Admit l m (noted notes.Sent (record y { hand = None })) → slice_get x.queues l ≡ Some q → slice_get x.logs l ≡ Some log → (c : Bool) → nat_lt (length q) (lane_plan (host_plan plan h) l).room ≡ c →
        IfRuleFails (unless c LaneFull ∷ [])
        (λ rule. step s plan w (Step h p) ≡ with_host w h (record (with_proc x p (noted notes.Sent (record y { hand = None }))) { logs = set l (log ++ FullLine (record { sender = p; message = m }) ∷ []) x.logs }))
        (step s plan w (Step h p) ≡ with_host w h (record (with_proc x p (noted notes.Sent (record y { hand = None }))) {
          queues = set l (q ++ record { sender = p; message = m } ∷ []) x.queues;
          logs = set l (log ++ QueuedLine (record { sender = p; message = m }) ∷ []) x.logs;
        }))
    queue_by l m q log is waits prints = go
      where
        v : Waiting
        v = record { sender = p; message = m }

        room : ℕ
        room = (lane_plan (host_plan plan h) l).room

        sent : List Queue → List (List LaneLine) → World
        sent queues logs = with_host w h (record (with_proc x p (noted notes.Sent (record y { hand = None }))) { queues = queues; logs = logs })

        queued : at l (admit room v) x.queues ≡ set l (admit room v q) x.queues
        queued = at_alike l (admit room v) (λ _. admit room v q) x.queues (λ u e. ap (admit room v) (some_is u q (sym e ∙ waits)))

        printed : at l (lined (admitted_lines room v (slice_get x.queues l))) x.logs ≡ set l (log ++ admitted_line (admit_entry room v q)) x.logs
        printed = at_alike l (lined (admitted_lines room v (slice_get x.queues l))) (λ _. log ++ admitted_line (admit_entry room v q)) x.logs
            (λ u e. ap₂ (λ lines o. lines ++ admitted_lines room v o) (some_is u log (sym e ∙ prints)) waits)

        after : step s plan w (Step h p) ≡ sent (set l (admit room v q) x.queues) (set l (log ++ admitted_line (admit_entry room v q)) x.logs)
        after = world_after (Admit l m (noted notes.Sent (record y { hand = None }))) is ∙ ap₂ sent queued printed

        by_entry : (c : Bool) → nat_lt (length q) room ≡ c → admit_entry room v q ≡ (if c then Queued v else QueueFull v)
        by_entry c e = ap (λ b. if b then Queued v else QueueFull v) e

        go : (c : Bool) → nat_lt (length q) room ≡ c →
            IfRuleFails (unless c LaneFull ∷ [])
            (λ rule. step s plan w (Step h p) ≡ with_host w h (record (with_proc x p (noted notes.Sent (record y { hand = None }))) { logs = set l (log ++ FullLine v ∷ []) x.logs }))
            (step s plan w (Step h p) ≡ sent (set l (q ++ v ∷ []) x.queues) (set l (log ++ QueuedLine v ∷ []) x.logs))
        go true e = after ∙ ap (λ entry. sent (set l (lane_after entry q) x.queues) (set l (log ++ admitted_line entry) x.logs)) (by_entry true e)
        go false e = after ∙ (ap (λ entry. sent (set l (lane_after entry q) x.queues) (set l (log ++ admitted_line entry) x.logs)) (by_entry false e)
            ∙ ap (λ queues. sent queues (set l (log ++ FullLine v ∷ []) x.logs)) (at_still l (λ _. q) x.queues (λ u e'. some_is q u (sym waits ∙ e'))))

  -- the send that a process is at
  asks_send : (h p : ℕ) (x : Host) (y : Process) (host slot reg : ℕ) (label own clear : List Category) (m : Message) → IsAt s plan w h p x y (ops.Send host slot reg label own clear) → m ≡ message_of (host_plan plan h) y host slot reg label own clear → ask (host_plan plan h) p y ≡ send (host_plan plan h) y m
  asks_send h p x y host slot reg label own clear m is says = asks_outer (host_plan plan h) p y (ops.Send host slot reg label own clear) is.free is.operation refl ∙ ap (send (host_plan plan h) y) (sym says)

  pub send_checked : SendChecked s plan w
  send_checked = record {
    judges = λ h p x y to slot reg label own clear m is says other. by_same _ _ _ _ (away_is s (host_plan plan h) x.desk y m)
        (away_by h p x y is.stands is.acts m (send_rule (host_plan plan h) y m) (judged s (host_plan plan h) x.desk m) refl refl
        (asks_send h p x y to slot reg label own clear m is says ∙ ap (λ b. cond b (send_here (host_plan plan h) y m (send_rule (host_plan plan h) y m) (judge_box (host_plan plan h) m.slot m.label)) (send_away y m (send_rule (host_plan plan h) y m))) other));
    queues = λ h p l x y m q log stands acts hand lane waits prints.
        queue_by h p x y stands acts l m q log (ap (ask_hand (host_plan plan h) p y) hand ∙ ap (queue_at y m) lane) waits prints (nat_lt (length q) (lane_plan (host_plan plan h) l).room) refl;
  }

  pub take_checked : TakeChecked s plan w
  take_checked = record {
    judges = λ h p x y reg slot is. by_same _ _ _ _ (taking_is (host_plan plan h) p y slot)
        (take_by h p x y is.stands is.acts reg slot (box_of (host_plan plan h) slot) (take_rule (host_plan plan h) p y (box_of (host_plan plan h) slot)) refl refl
        (asks_outer (host_plan plan h) p y (ops.Take reg slot) is.free is.operation refl));
  }

  -- FRAMING

  lane_after_ask : (h l : ℕ) (x : Host) (e : Worker) (a : LaneAsk) → slice_get w.hosts h ≡ Some x → slice_get x.workers l ≡ Some e → lane_ask s (lane_plan (host_plan plan h) l) e ≡ a → step s plan w (Frame h l) ≡ with_host w h (perform_lane s (host_plan plan h) x l a)
  lane_after_ask h l x e a stands works is = ap (λ hs. record { hosts = hs; conns = w.conns }) (at_alike h (λ z. step_lane s (host_plan plan h) z l (slice_get z.workers l)) (λ _. perform_lane s (host_plan plan h) x l a) w.hosts
      (λ z q. ap (λ (u : Host). step_lane s (host_plan plan h) u l (slice_get u.workers l)) (some_is z x (sym q ∙ stands)) ∙ (ap (step_lane s (host_plan plan h) x l) works ∙ ap (perform_lane s (host_plan plan h) x l) is)))

  one_worker : (x : Host) (l : ℕ) (e : Worker) (f : Worker → Worker) → slice_get x.workers l ≡ Some e → at l f x.workers ≡ set l (f e) x.workers
  one_worker x l e f works = at_alike l f (λ _. f e) x.workers (λ z q. ap f (some_is z e (sym q ∙ works)))

  -- the line of a message that is dropped
  abbrev line_for : Rule → Waiting → LaneLine
  line_for rule v = DroppedLine rule v.sender v.message.slot

  -- the lines of the messages that are dropped
  dropped_in : (d : Desk) (hand : List Waiting) (v : Waiting) (rule : Rule) → Contains hand v → frame_rule s d v ≡ Some rule → Contains (flat_map (λ u. dropped_line u (frame_rule s d u)) hand) (line_for rule v)
  dropped_in d [] v rule c r = absurd (in_none v c)
  dropped_in d (u ∷ hand) v rule c r = go (dropped_in d hand v rule) (in_cases u hand v c)
    where
      go : (Contains hand v → frame_rule s d v ≡ Some rule → Contains (flat_map (λ u. dropped_line u (frame_rule s d u)) hand) (line_for rule v)) → (u ≡ v) ⊎ Contains hand v → Contains (dropped_line u (frame_rule s d u) ++ flat_map (λ u. dropped_line u (frame_rule s d u)) hand) (line_for rule v)
      go more (inl same) = Contains-append_left (dropped_line u (frame_rule s d u)) (flat_map (λ u. dropped_line u (frame_rule s d u)) hand) (line_for rule v)
          (subst (λ (z : Waiting). Contains (dropped_line z (frame_rule s d z)) (line_for rule v)) (sym same) (subst (λ o. Contains (dropped_line v o) (line_for rule v)) (sym r) (in_head (line_for rule v) [])))
      go more (inr t) = Contains-append_right (dropped_line u (frame_rule s d u)) (flat_map (λ u. dropped_line u (frame_rule s d u)) hand) (line_for rule v) (more t r)

  one_dropped : (u : Waiting) (rule : Rule) (sender slot : ℕ) (o : Option Rule) → Contains (dropped_line u o) (DroppedLine rule sender slot) → (o ≡ Some rule) × (u.sender ≡ sender) × (u.message.slot ≡ slot)
  one_dropped u rule sender slot None c = absurd (in_none _ c)
  one_dropped u rule sender slot (Some r) c = go (in_cases (DroppedLine r u.sender u.message.slot) [] (DroppedLine rule sender slot) c)
    where
      go : (DroppedLine r u.sender u.message.slot ≡ DroppedLine rule sender slot) ⊎ Contains [] (DroppedLine rule sender slot) → (Some r ≡ Some rule) × (u.sender ≡ sender) × (u.message.slot ≡ slot)
      go (inl e) = (cc, cc, cc)
      go (inr t) = absurd (in_none _ t)

  -- who was dropped
  abbrev Dropped : Desk → List Waiting → Rule → (sender slot : ℕ) → Type 0
  Dropped d hand rule sender slot = (v : Waiting) × Contains hand v × (frame_rule s d v ≡ Some rule) × (v.sender ≡ sender) × (v.message.slot ≡ slot)

  in_dropped : (d : Desk) (hand : List Waiting) (rule : Rule) (sender slot : ℕ) → Contains (flat_map (λ u. dropped_line u (frame_rule s d u)) hand) (DroppedLine rule sender slot) → Dropped d hand rule sender slot
  in_dropped d [] rule sender slot c = absurd (in_none _ c)
  in_dropped d (u ∷ hand) rule sender slot c = go (in_dropped d hand rule sender slot) (Contains-append_cases (dropped_line u (frame_rule s d u)) (flat_map (λ u. dropped_line u (frame_rule s d u)) hand) (DroppedLine rule sender slot) c)
    where
      go : (Contains (flat_map (λ u. dropped_line u (frame_rule s d u)) hand) (DroppedLine rule sender slot) → Dropped d hand rule sender slot) → Contains (dropped_line u (frame_rule s d u)) (DroppedLine rule sender slot) ⊎ Contains (flat_map (λ u. dropped_line u (frame_rule s d u)) hand) (DroppedLine rule sender slot) → Dropped d (u ∷ hand) rule sender slot
      go more (inl t) = let f = one_dropped u rule sender slot (frame_rule s d u) t in (u, in_head u hand, f.0, f.1, f.2)
      go more (inr t) = let o : Dropped d hand rule sender slot = more t in (o.0, in_tail u hand o.0 o.1, o.2, o.3, o.4)

  no_framed_line : (leaf : ℕ) (good : List Waiting) (rule : Rule) (sender slot : ℕ) → Contains (framed_line leaf good) (DroppedLine rule sender slot) → ⊥
  no_framed_line leaf [] rule sender slot c = in_none _ c
  no_framed_line leaf (u ∷ good) rule sender slot c = go (in_cases (FramedLine leaf (length (u ∷ good))) [] (DroppedLine rule sender slot) c)
    where
      go : (FramedLine leaf (length (u ∷ good)) ≡ DroppedLine rule sender slot) ⊎ Contains [] (DroppedLine rule sender slot) → ⊥
      go (inl e) = grind arith
      go (inr t) = in_none _ t

  -- of the messages in hand, those that pass
  abbrev good : Desk → Worker → List Waiting
  good d e = filter (λ u. passes (frame_rule s d u)) e.hand

  -- and the lines of the others
  abbrev printed : Desk → Worker → List LaneLine
  printed d e = flat_map (λ u. dropped_line u (frame_rule s d u)) e.hand ++ framed_line e.leaf (good d e)

  each_framed : (d : Desk) (e : Worker) (v : Waiting) → Contains e.hand v → (r : Option Rule) → frame_rule s d v ≡ r → ByFirst r (λ rule. Contains (printed d e) (line_for rule v)) (Contains (good d e) v)
  each_framed d e v c (Some rule) r = Contains-append_left (flat_map (λ u. dropped_line u (frame_rule s d u)) e.hand) (framed_line e.leaf (good d e)) (line_for rule v) (dropped_in d e.hand v rule c r)
  each_framed d e v c None r = filter_in (λ u. passes (frame_rule s d u)) e.hand v c (ap passes r)

  framed_some : (lane : LanePlan) (e : Worker) (ms : List Waiting) → ms ≢ [] → ((with_frame s lane e ms).leaf ≡ suc e.leaf) × ((with_frame s lane e ms).stream ≡ e.stream ++ s.frame lane.signing e.leaf (map (λ v. v.message) ms))
  framed_some lane e [] n = absurd (n refl)
  framed_some lane e (m ∷ ms) n = (refl, refl)

  framed_none : (lane : LanePlan) (e : Worker) (ms : List Waiting) → ms ≡ [] → ((with_frame s lane e ms).leaf ≡ e.leaf) × ((with_frame s lane e ms).stream ≡ e.stream)
  framed_none lane e [] n = (refl, refl)
  framed_none lane e (m ∷ ms) n = absurd (grind arith)

  framed_hand : (lane : LanePlan) (e : Worker) (ms : List Waiting) → (with_frame s lane e ms).hand ≡ []
  framed_hand lane e [] = refl
  framed_hand lane e (m ∷ ms) = refl

  frames : (h l : ℕ) (x : Host) (e : Worker) (m : Waiting) (others : List Waiting) (log : List LaneLine) → slice_get w.hosts h ≡ Some x → slice_get x.workers l ≡ Some e → e.hand ≡ m ∷ others → slice_get x.logs l ≡ Some log → IsFramed s plan w h l x e log
  frames h l x e m others log stands works hand prints = record {
    framed = good x.desk e;
    lines = printed x.desk e;
    told = with_frame s lane e (good x.desk e);
    after = lane_after_ask h l x e (AsksRecheck e.hand) stands works asks
        ∙ ap₂ (λ ws ls. with_host w h (record x { workers = ws; logs = ls }))
        (one_worker x l e (checked_after_reply s lane (rechecked s x.desk e.hand)) works ∙ ap (λ ms. set l (with_frame s lane e ms) x.workers) (good_is s x.desk e.hand))
        (at_alike l (lined (checked_in (rechecked s x.desk e.hand) (slice_get x.workers l))) (λ _. log ++ printed x.desk e) x.logs
        (λ u q. ap₂ (λ ls o. ls ++ checked_in (rechecked s x.desk e.hand) o) (some_is u log (sym q ∙ prints)) works
        ∙ ap₂ (λ ds ms. log ++ (ds ++ framed_line e.leaf ms)) (lines_are s x.desk e.hand) (good_is s x.desk e.hand)));
    each = λ v c. by_same _ _ _ _ (releasing_is s x.desk v.message) (each_framed x.desk e v c (frame_rule s x.desk v) refl);
    only = λ v c. let g : Contains e.hand v × (passes (frame_rule s x.desk v) ≡ true) = in_filter (λ u. passes (frame_rule s x.desk u)) e.hand v c in (g.0, releasing_is s x.desk v.message ∙ passes_none (frame_rule s x.desk v) g.1);
    no_more = λ rule sender slot c. let o : Dropped x.desk e.hand rule sender slot = no_more rule sender slot (Contains-append_cases (flat_map (λ u. dropped_line u (frame_rule s x.desk u)) e.hand) (framed_line e.leaf (good x.desk e)) (DroppedLine rule sender slot) c) in
        (o.0, o.1, releasing_is s x.desk o.0.message ∙ o.2, o.3, o.4);
    hand = framed_hand lane e (good x.desk e);
    some = framed_some lane e (good x.desk e);
    none = framed_none lane e (good x.desk e);
  }
    where
      lane : LanePlan
      lane = lane_plan (host_plan plan h) l

      asks : lane_ask s lane e ≡ AsksRecheck e.hand
      asks = ap (lane_ask_hand s lane e) hand ∙ ap AsksRecheck (sym hand)

      no_more : (rule : Rule) (sender slot : ℕ) → Contains (flat_map (λ u. dropped_line u (frame_rule s x.desk u)) e.hand) (DroppedLine rule sender slot) ⊎ Contains (framed_line e.leaf (good x.desk e)) (DroppedLine rule sender slot) → Dropped x.desk e.hand rule sender slot
      no_more rule sender slot (inl c) = in_dropped x.desk e.hand rule sender slot c
      no_more rule sender slot (inr c) = absurd (no_framed_line e.leaf (good x.desk e) rule sender slot c)

  waits : (h l : ℕ) (x : Host) (e : Worker) → slice_get w.hosts h ≡ Some x → slice_get x.workers l ≡ Some e → e.hand ≡ [] → s.has_lane_leaf (lane_plan (host_plan plan h) l).signing e.leaf ≡ false → step s plan w (Frame h l) ≡ w
  waits h l x e stands works hand spent = ap (λ hs. record { hosts = hs; conns = w.conns }) (at_still h (λ x'. step_lane s (host_plan plan h) x' l (slice_get x'.workers l)) w.hosts still)
    where
      asks : lane_ask s (lane_plan (host_plan plan h) l) e ≡ WorkerWaits
      asks = ap (lane_ask_hand s (lane_plan (host_plan plan h) l) e) hand ∙ ap (λ b. cond b Lifts WorkerWaits) spent

      still : (x' : Host) → slice_get w.hosts h ≡ Some x' → step_lane s (host_plan plan h) x' l (slice_get x'.workers l) ≡ x'
      still x' there = subst (λ u. step_lane s (host_plan plan h) u l (slice_get u.workers l) ≡ u) (some_is x x' (sym stands ∙ there))
          (ap (step_lane s (host_plan plan h) x l) works ∙ ap (perform_lane s (host_plan plan h) x l) asks)

  -- what waits is lifted or waits on
  parted : (q : Queue) → (front q ++ lifted q ≡ q) × (length (front q) ≡ min 16 (length q))
  parted [] = (refl, refl)
  parted (m ∷ q) = (take-append-drop (min frame_limit (length (m ∷ q))) (m ∷ q), let long : length (take (min frame_limit (length (m ∷ q))) (m ∷ q)) ≡ min (min frame_limit (length (m ∷ q))) (length (m ∷ q)) = length-take (min frame_limit (length (m ∷ q))) (m ∷ q) in omega (arith, long))

  lifts : (h l : ℕ) (x : Host) (e : Worker) (q : Queue) → slice_get w.hosts h ≡ Some x → slice_get x.workers l ≡ Some e → slice_get x.queues l ≡ Some q → e.hand ≡ [] → s.has_lane_leaf (lane_plan (host_plan plan h) l).signing e.leaf ≡ true →
      (first : Queue) × (rest : Queue) × (q ≡ first ++ rest) × (length first ≡ min 16 (length q))
      × (step s plan w (Frame h l) ≡ with_host w h (record x { queues = set l rest x.queues; workers = set l (record e { hand = first }) x.workers }))
  lifts h l x e q stands works queued hand ready = (
    front q,
    lifted q,
    sym (parted q).0,
    (parted q).1,
    lane_after_ask h l x e Lifts stands works (ap (lane_ask_hand s (lane_plan (host_plan plan h) l) e) hand ∙ ap (λ b. cond b Lifts WorkerWaits) ready)
        ∙ ap₂ (λ qs ws. with_host w h (record x { queues = qs; workers = ws }))
        (at_alike l lifted (λ _. lifted q) x.queues (λ u c. ap lifted (some_is u q (sym c ∙ queued))))
        (one_worker x l e (lifted_after_reply (front_of (slice_get x.queues l))) works ∙ ap (λ o. set l (lifted_after_reply (front_of o) e) x.workers) queued),
  )

  pub frame_checked : FrameChecked s plan w
  frame_checked = record {
    judges = λ h l x e m others log is hand prints. frames h l x e m others log is.stands is.works hand prints;
    waits = λ h l x e is hand spent. waits h l x e is.stands is.works hand spent;
    lifts = λ h l x e q is queued hand ready. lifts h l x e q is.stands is.works queued hand ready;
  }

  -- CONNECTIONS

  module _ (k : ℕ) (x : Host) (y : Conn) (lane : LaneCert) (open' : IsOpen s plan w k x y lane) where
    abbrev r : ℕ
    r = (conn_plan plan k).host

    abbrev here : HostPlan
    here = host_plan plan r

    abbrev bytes : List ℕ
    bytes = arrived w (conn_plan plan k).source y

    -- the world after the connection asked
    after_conn : (asks : Conn → ConnAsk) (a : ConnAsk) → asks y ≡ a → step_conn s plan w r k asks (slice_get w.hosts r) (slice_get w.conns k) ≡ with_conn (with_host w r (perform_conn s here x y a).host) k (perform_conn s here x y a).conn
    after_conn asks a is = ap₂ (λ o q. step_conn s plan w r k asks o q) open'.stands open'.here ∙ ap (λ b. with_ends w r k (perform_conn s here x y b)) is

    accept_is : (a : ConnAsk) → accept s here y bytes ≡ a → step s plan w (Accept k) ≡ with_conn (with_host w r (perform_conn s here x y a).host) k (perform_conn s here x y a).conn
    accept_is a is = after_conn (λ conn. accept s here conn (arrived w (conn_plan plan k).source conn)) a is

    deliver_is : (a : ConnAsk) → deliver s here y bytes ≡ a → step s plan w (Deliver k) ≡ with_conn (with_host w r (perform_conn s here x y a).host) k (perform_conn s here x y a).conn
    deliver_is a is = after_conn (λ conn. deliver s here conn (arrived w (conn_plan plan k).source conn)) a is

    -- the host as it was
    same_host : (z : Conn) → with_conn (with_host w r x) k z ≡ with_conn w k z
    same_host z = ap (λ hs. record { hosts = hs; conns = set k z w.conns }) (at_still r (λ _. x) w.hosts (λ u e. some_is x u (sym open'.stands ∙ e)))

    accepts_frame : (i number : ℕ) (messages : List Message) → y.hand ≡ [] → y.passed ≡ None → y.failed ≡ None → slice_get (s.items here.key here.inlets bytes) y.taken ≡ Some (Framed number messages) → inlet_of here lane ≡ Some i →
        accept s here y bytes ≡ AsksInlet i number (fresh_frame y number messages) (stale_frame y number)
    accepts_frame i number messages hand passed failed item inlet =
        ap (λ b. cond b ConnWaits (accept_free s here y bytes y.hand y.passed y.failed)) open'.runs
        ∙ (ap (λ ms. accept_free s here y bytes ms y.passed y.failed) hand
        ∙ (ap₂ (λ o q. accept_free s here y bytes [] o q) passed failed
        ∙ (ap (accept_item s here y bytes) item
        ∙ (ap (frame_from here y number messages) open'.hello
        ∙ ap (take_frame y number messages) inlet))))

    number_by : (i number : ℕ) (messages : List Message) (last : Inlet) → slice_get x.inlets i ≡ Some last → accept s here y bytes ≡ AsksInlet i number (fresh_frame y number messages) (stale_frame y number) → (c : Bool) → is_fresh number last ≡ c →
        IfRuleFails (unless c Stale ∷ [])
        (λ rule. step s plan w (Accept k) ≡ with_conn w k (stale_frame y number))
        (step s plan w (Accept k) ≡ with_conn (with_host w r (record x { inlets = set i (Some number) x.inlets })) k (fresh_frame y number messages))
    number_by i number messages last counts is = go
      where
        both : Inlet → Conn → World
        both inlet z = with_conn (with_host w r (record x { inlets = set i inlet x.inlets })) k z

        after : step s plan w (Accept k) ≡ both (inlet_after (if is_fresh number last then Fresh number else entries.Stale number) last) (if is_fresh number last then fresh_frame y number messages else stale_frame y number)
        after = accept_is (AsksInlet i number (fresh_frame y number messages) (stale_frame y number)) is
            ∙ ap₂ (λ inlets z. with_conn (with_host w r (record x { inlets = inlets })) k z)
            (at_alike i (numbered number) (λ _. numbered number last) x.inlets (λ u e. ap (numbered number) (some_is u last (sym e ∙ counts))))
            (ap (λ o. if fresh_in number o then fresh_frame y number messages else stale_frame y number) counts)

        go : (c : Bool) → is_fresh number last ≡ c →
            IfRuleFails (unless c Stale ∷ [])
            (λ rule. step s plan w (Accept k) ≡ with_conn w k (stale_frame y number))
            (step s plan w (Accept k) ≡ both (Some number) (fresh_frame y number messages))
        go true e = after ∙ ap (λ c. both (inlet_after (if c then Fresh number else entries.Stale number) last) (if c then fresh_frame y number messages else stale_frame y number)) e
        go false e = after ∙ (ap (λ c. both (inlet_after (if c then Fresh number else entries.Stale number) last) (if c then fresh_frame y number messages else stale_frame y number)) e
            ∙ (ap (λ inlets. with_conn (with_host w r (record x { inlets = inlets })) k (stale_frame y number)) (at_still i (λ _. last) x.inlets (λ u e'. some_is last u (sym counts ∙ e')))
            ∙ same_host (stale_frame y number)))

    above : (number : ℕ) (last : Inlet) → is_above number last ≡ is_fresh number last
    above number None = refl
    above number (Some old) = refl

    delivers_to : deliver s here y bytes ≡ deliver_to here y lane y.hand y.passed
    delivers_to = ap (λ b. cond b ConnWaits (deliver_from here y (peer s here bytes))) open'.runs ∙ ap (deliver_from here y) open'.hello

    delivery_by : (m : Message) (others : List Message) → deliver s here y bytes ≡ AsksArrival lane m others → (q : Option Rule) → judge_delivery s here x.desk lane m ≡ q →
        ByFirst q
        (λ rule. step s plan w (Deliver k) ≡ with_conn w k (record y { hand = others; lines = y.lines ++ DropLine rule m.slot ∷ [] }))
        (step s plan w (Deliver k) ≡ with_conn w k (record y { hand = others; passed = Some (passed_of lane m); lines = y.lines ++ PassLine m.slot ∷ [] }))
    delivery_by m others is (Some rule) q = deliver_is (AsksArrival lane m others) is ∙ (same_host (delivery_after_reply lane m others (judge_delivery s here x.desk lane m) y) ∙ ap (λ o. with_conn w k (delivery_after_reply lane m others o y)) q)
    delivery_by m others is None q = deliver_is (AsksArrival lane m others) is ∙ (same_host (delivery_after_reply lane m others (judge_delivery s here x.desk lane m) y) ∙ ap (λ o. with_conn w k (delivery_after_reply lane m others o y)) q)

    puts_passed : (b : ℕ) (p : Passed) → y.passed ≡ Some p → box_of here p.slot ≡ Some b → deliver s here y bytes ≡ PutsPassed b p.mail (record y { passed = None })
    puts_passed b p passed box = delivers_to ∙ (ap (deliver_to here y lane y.hand) passed ∙ ap (put_passed y p.mail) box)

    passed_room : (b : ℕ) (p : Passed) (z : Mailbox) → slice_get x.boxes b ≡ Some z → deliver s here y bytes ≡ PutsPassed b p.mail (record y { passed = None }) →
        IfRuleFails (unless (nat_lt (length z.waiting) (box_plan here b).room) BoxFull ∷ [])
        (λ rule. step s plan w (Deliver k) ≡ with_conn (with_host w r (record x { boxes = set b (found_full p.mail z) x.boxes })) k (record y { passed = None }))
        (step s plan w (Deliver k) ≡ with_conn (with_host w r (record x { boxes = set b (put_into p.mail z) x.boxes })) k (record y { passed = None }))
    passed_room b p z there is = by_rule (first_rule (unless (nat_lt (length z.waiting) (box_plan here b).room) BoxFull ∷ [])) (λ rule e. after ∙ ap boxed e) (λ e. after ∙ ap boxed e) (room_is (box_plan here b).room b p.mail x.boxes z there)
      where
        boxed : List Mailbox → World
        boxed boxes = with_conn (with_host w r (record x { boxes = boxes })) k (record y { passed = None })

        after : step s plan w (Deliver k) ≡ boxed (at b (put (box_plan here b).room p.mail) x.boxes)
        after = deliver_is (PutsPassed b p.mail (record y { passed = None })) is

  -- a connection that is busy takes nothing
  busy : (k : ℕ) (x : Host) (y : Conn) (lane : LaneCert) → IsOpen s plan w k x y lane → (y.hand ≢ []) ⊎ (y.passed ≢ None) → step s plan w (Accept k) ≡ w
  busy k x y lane is b =
      ap₂ (λ o q. step_conn s plan w (conn_plan plan k).host k asks o q) is.stands is.here
      ∙ (ap (λ a. with_ends w (conn_plan plan k).host k (perform_conn s (host_plan plan (conn_plan plan k).host) x y a)) quiet
      ∙ λ i. record { hosts = at_still (conn_plan plan k).host (λ _. x) w.hosts (λ z e. some_is x z (sym is.stands ∙ e)) i; conns = at_still k (λ _. y) w.conns (λ z e. some_is y z (sym is.here ∙ e)) i })
    where
      asks : Conn → ConnAsk
      asks conn = accept s (host_plan plan (conn_plan plan k).host) conn (arrived w (conn_plan plan k).source conn)

      free : (hand : List Message) (passed : Option Passed) → (hand ≢ []) ⊎ (passed ≢ None) → accept_free s (host_plan plan (conn_plan plan k).host) y (arrived w (conn_plan plan k).source y) hand passed y.failed ≡ ConnWaits
      free [] None (inl n) = absurd (n refl)
      free [] None (inr n) = absurd (n refl)
      free [] (Some m) n = refl
      free (m ∷ hand) passed n = refl

      quiet : asks y ≡ ConnWaits
      quiet = ap (λ b. cond b ConnWaits (accept_free s (host_plan plan (conn_plan plan k).host) y (arrived w (conn_plan plan k).source y) y.hand y.passed y.failed)) is.runs ∙ free y.hand y.passed b

  pub arrival_checked : ArrivalChecked s plan w
  arrival_checked = record {
    waits = busy;
    takes = λ k i number x y lane messages last is hand passed failed item inlet counts. by_same _ _ _ _ (ap (λ c. first_rule (unless c Stale ∷ [])) (above k x y lane is number last))
        (number_by k x y lane is i number messages last counts (accepts_frame k x y lane is i number messages hand passed failed item inlet) (is_fresh number last) refl);
    judges = λ k x y lane m others is hand passed. by_same _ _ _ _ (delivery_is s (host_plan plan (conn_plan plan k).host) x.desk lane m)
        (delivery_by k x y lane is m others (delivers_to k x y lane is ∙ ap₂ (λ ms o. deliver_to (host_plan plan (conn_plan plan k).host) y lane ms o) hand passed) (judge_delivery s (host_plan plan (conn_plan plan k).host) x.desk lane m) refl);
  }

  pub box_checked : BoxChecked s plan w
  box_checked = record {
    judges = λ h p x y to slot reg label own clear m is says mine. by_same _ _ _ _ (here_is (host_plan plan h) y m)
        (here_by h p x y is.stands is.acts m (send_rule (host_plan plan h) y m) (judge_box (host_plan plan h) m.slot m.label) refl refl
        (asks_send h p x y to slot reg label own clear m is says ∙ ap (λ b. cond b (send_here (host_plan plan h) y m (send_rule (host_plan plan h) y m) (judge_box (host_plan plan h) m.slot m.label)) (send_away y m (send_rule (host_plan plan h) y m))) mine));
    puts = λ k b x y lane p z is passed box there. passed_room k x y lane is b p z there (puts_passed k x y lane is b p passed box);
  }

pub each_checked : EachChecked
each_checked s plan w = record { send = send_checked s plan w; frame = frame_checked s plan w; arrival = arrival_checked s plan w; box = box_checked s plan w; take = take_checked s plan w }
