-- What is known of each thing that a process or a connection asks: the object is one of the plan, and the actor moves on.
use Rattle.std.proofs.Common.{◌≡◌, ℕ, suc, ◌<◌, ◌+◌, true, List, [], ◌∷◌, Option, Some, None, length, slice_get, refl, ◌∙◌, ap, eqb-true}
use Rattle.std.specs.Prelude.{◌==◌, ◌&&◌}
use Rattle.std.specs.Option.{is_some}
use Rattle.std.proofs.lemmas.List.Quantifiers.{position-Some}
use Rattle.ds_label.specs.declared.category.Category.{Category}
use Rattle.ds_label.specs.declared.rule.Rule.{Rule}
use Rattle.ds_label.specs.Flow.{same_label}
use Rattle.ds_label.specs.Names.{by_name}
use Rattle.ds_cert.specs.declared.lane.LaneCert.{LaneCert}
use Rattle.ds_script.specs.declared.op.Op.{Op}
use Rattle.ds_script.specs.declared.op.Op.TheVariants as ops
use Rattle.ds_script.specs.Inner.{Course, inner}
use Rattle.ds_msg.specs.declared.message.Message.{Message}
use Rattle.ds_model.specs.Keys.{same_key}
use Rattle.ds_model.specs.ProcessRules.{mailbox_rule}
use Rattle.ds_model.specs.Scheme.{Scheme, Item, Hello, Framed, Failure}
use Rattle.ds_model.specs.Plan.{HostPlan, box_plan, no_box, no_lane, no_inlet}
use Rattle.ds_model.specs.Desk.{Act}
use Rattle.ds_model.specs.World.{Process, Passed, Conn}
use Rattle.ds_model.specs.ProcessStep.{Ask, Waits, Internal, Put, Admit, TakeFrom, PublicAct, AsksJudgement, box_of, label_of, Target, Not, Into, target, judge_box, send_rule, send_here, send_away, message_of, take_rule, take_from, relabel, make, publish, ask_outer, ask_inner, lane_of, queue_at, ask_hand, ask}
use Rattle.ds_model.specs.ConnectionStep.{ConnAsk, ConnWaits, ConnInternal, AsksInlet, AsksArrival, PutsPassed, peer, inlet_of, take_frame, frame_from, fail, accept_item, accept_free, accept, put_passed, deliver_to, deliver_from, deliver}
use Rattle.ds_model.proofs.Places.{cond_case}

-- the mailbox is the first one of its slot
abbrev pub IsFirst : HostPlan → ℕ → Type 0
IsFirst plan b = box_of plan (box_plan plan b).slot ≡ Some b

pub first_is : (plan : HostPlan) (slot b : ℕ) → box_of plan slot ≡ Some b → IsFirst plan b
first_is plan slot b e = ap (box_of plan) (eqb-true (box_plan plan b).slot slot (position-Some (λ x. x.slot == slot) plan.boxes b no_box e).1) ∙ e

pub first_within : (plan : HostPlan) (slot b : ℕ) → box_of plan slot ≡ Some b → b < length plan.boxes
first_within plan slot b e = (position-Some (λ x. x.slot == slot) plan.boxes b no_box e).0

-- A PROCESS

abbrev pub AskFacts : HostPlan → Process → Ask → Type 0
AskFacts plan y Waits = Unit {0}
AskFacts plan y (Internal next) = Unit {0}
AskFacts plan y (Put b m next) = IsFirst plan b × (next.course.place ≡ y.course.place + 1)
AskFacts plan y (Admit l m next) = (l < length plan.lanes) × (next.course.place ≡ y.course.place + 1)
AskFacts plan y (TakeFrom b reg slot) = IsFirst plan b
AskFacts plan y (PublicAct act reg host) = Unit {0}
AskFacts plan y (AsksJudgement m) = y.hand ≡ None

abbrev TargetFacts : HostPlan → Target → Type 0
TargetFacts plan (Not rule) = Unit {0}
TargetFacts plan (Into b) = IsFirst plan b

module _ (plan : HostPlan) (y : Process) where
  target_facts : (slot : ℕ) (o : Option ℕ) (r : Option Rule) → box_of plan slot ≡ o → TargetFacts plan (target o r)
  target_facts slot None None e = tt
  target_facts slot None (Some rule) e = tt
  target_facts slot (Some b) None e = first_is plan slot b e
  target_facts slot (Some b) (Some rule) e = tt

  here_facts : (m : Message) (r : Option Rule) (t : Target) → TargetFacts plan t → AskFacts plan y (send_here plan y m r t)
  here_facts m (Some rule) t f = tt
  here_facts m None (Not rule) f = tt
  here_facts m None (Into b) f = (f, refl)

  away_facts : (m : Message) (r : Option Rule) → y.hand ≡ None → AskFacts plan y (send_away y m r)
  away_facts m (Some rule) h = tt
  away_facts m None h = h

  take_facts : (reg slot : ℕ) (o : Option ℕ) (r : Option Rule) → box_of plan slot ≡ o → AskFacts plan y (take_from y reg slot o r)
  take_facts reg slot o (Some rule) e = tt
  take_facts reg slot None None e = tt
  take_facts reg slot (Some b) None e = first_is plan slot b e

  relabel_facts : (label : List Category) (r : Option Rule) → AskFacts plan y (relabel y label r)
  relabel_facts label (Some rule) = tt
  relabel_facts label None = tt

  make_facts : (c : Category) (r : Option Rule) → AskFacts plan y (make y c r)
  make_facts c (Some rule) = tt
  make_facts c None = tt

  publish_facts : (act : Act) (reg host : ℕ) (r : Option Rule) → AskFacts plan y (publish y act reg host r)
  publish_facts act reg host (Some rule) = tt
  publish_facts act reg host None = tt

  outer_facts : (p : ℕ) (o : Option Op) → y.hand ≡ None → AskFacts plan y (ask_outer plan p y o)
  outer_facts p None h = tt
  outer_facts p (Some (ops.Set reg text)) h = tt
  outer_facts p (Some (ops.Join reg left right)) h = tt
  outer_facts p (Some (ops.IfEq left right to)) h = tt
  outer_facts p (Some (ops.Jump to)) h = tt
  outer_facts p (Some (ops.Print reg)) h = tt
  outer_facts p (Some (ops.Send host slot reg label own clear)) h =
      let m : Message = message_of plan y host slot reg label own clear in
      cond_case (AskFacts plan y) (same_key m.to plan.key) (send_here plan y m (send_rule plan y m) (judge_box plan m.slot m.label)) (send_away y m (send_rule plan y m))
      (λ e. here_facts m (send_rule plan y m) (judge_box plan m.slot m.label) (target_facts m.slot (box_of plan m.slot) (mailbox_rule by_name (label_of plan (box_of plan m.slot)) m.label) refl))
      (λ e. away_facts m (send_rule plan y m) h)
  outer_facts p (Some (ops.Take reg slot)) h = take_facts reg slot (box_of plan slot) (take_rule plan p y (box_of plan slot)) refl
  outer_facts p (Some (ops.SetLabel label)) h = relabel_facts label _
  outer_facts p (Some (ops.NewCat kind)) h = make_facts _ _
  outer_facts p (Some (ops.Delegate reg c host from until)) h = publish_facts _ reg host _
  outer_facts p (Some (ops.Map c)) h = publish_facts _ 0 0 _
  outer_facts p (Some (ops.Import reg)) h = publish_facts _ 0 0 _

  inner_facts : (p : ℕ) (o : Option Course) → y.hand ≡ None → AskFacts plan y (ask_inner plan p y o)
  inner_facts p (Some course) h = tt
  inner_facts p None h = outer_facts p (slice_get y.script y.course.place) h

  queue_facts : (m : Message) (o : Option ℕ) → lane_of plan m.to m.label ≡ o → AskFacts plan y (queue_at y m o)
  queue_facts m None e = tt
  queue_facts m (Some l) e = ((position-Some (λ x. same_key x.cert.receiver m.to && same_label by_name x.cert.label m.label) plan.lanes l no_lane e).0, refl)

  hand_facts : (p : ℕ) (o : Option Message) → y.hand ≡ o → AskFacts plan y (ask_hand plan p y o)
  hand_facts p (Some m) h = queue_facts m (lane_of plan m.to m.label) refl
  hand_facts p None h = inner_facts p (inner y.script y.course) h

  pub ask_facts : (p : ℕ) → AskFacts plan y (ask plan p y)
  ask_facts p = hand_facts p y.hand refl

-- A CONNECTION

abbrev pub ConnFacts : HostPlan → Conn → ConnAsk → Type 0
ConnFacts plan y ConnWaits = Unit {0}
ConnFacts plan y (ConnInternal next) = Unit {0}
ConnFacts plan y (AsksInlet i number fresh stale) = (i < length plan.inlets) × (fresh.taken ≡ suc y.taken) × (stale.taken ≡ suc y.taken)
ConnFacts plan y (AsksArrival lane m rest) = y.hand ≡ m ∷ rest
ConnFacts plan y (PutsPassed b m next) = IsFirst plan b × (next.passed ≡ None) × (is_some y.passed ≡ true)

module _ (s : Scheme) (plan : HostPlan) (y : Conn) (bytes : List ℕ) where
  fail_facts : (o : Option Failure) → ConnFacts plan y (fail y o)
  fail_facts None = tt
  fail_facts (Some failure) = tt

  frame_facts : (number : ℕ) (messages : List Message) (lane : LaneCert) (o : Option ℕ) → inlet_of plan lane ≡ o → ConnFacts plan y (take_frame y number messages o)
  frame_facts number messages lane None e = tt
  frame_facts number messages lane (Some i) e = ((position-Some (λ x. same_key x.exporter lane.exporter && (x.lane == lane.lane)) plan.inlets i no_inlet e).0, refl, refl)

  from_facts : (number : ℕ) (messages : List Message) (o : Option LaneCert) → ConnFacts plan y (frame_from plan y number messages o)
  from_facts number messages None = tt
  from_facts number messages (Some lane) = frame_facts number messages lane (inlet_of plan lane) refl

  item_facts : (o : Option Item) → ConnFacts plan y (accept_item s plan y bytes o)
  item_facts None = fail_facts (s.ending plan.key plan.inlets bytes)
  item_facts (Some (Hello lane)) = tt
  item_facts (Some (Framed number messages)) = from_facts number messages (peer s plan bytes)

  free_facts : (hand : List Message) (passed : Option Passed) (failed : Option Failure) → ConnFacts plan y (accept_free s plan y bytes hand passed failed)
  free_facts [] None None = item_facts (slice_get (s.items plan.key plan.inlets bytes) y.taken)
  free_facts [] None (Some failure) = tt
  free_facts [] (Some p) failed = tt
  free_facts (m ∷ hand) passed failed = tt

  pub accept_facts : ConnFacts plan y (accept s plan y bytes)
  accept_facts = cond_case (ConnFacts plan y) plan.silent ConnWaits (accept_free s plan y bytes y.hand y.passed y.failed) (λ _. tt) (λ _. free_facts y.hand y.passed y.failed)

  put_facts : (p : Passed) (o : Option ℕ) → box_of plan p.slot ≡ o → y.passed ≡ Some p → ConnFacts plan y (put_passed y p.mail o)
  put_facts p None e is = tt
  put_facts p (Some b) e is = (first_is plan p.slot b e, refl, ap is_some is)

  to_facts : (lane : LaneCert) (hand : List Message) (passed : Option Passed) → y.hand ≡ hand → y.passed ≡ passed → ConnFacts plan y (deliver_to plan y lane hand passed)
  to_facts lane hand (Some p) h is = put_facts p (box_of plan p.slot) refl is
  to_facts lane [] None h is = tt
  to_facts lane (m ∷ rest) None h is = h

  peer_facts : (o : Option LaneCert) → ConnFacts plan y (deliver_from plan y o)
  peer_facts None = tt
  peer_facts (Some lane) = to_facts lane y.hand y.passed refl refl

  pub deliver_facts : ConnFacts plan y (deliver s plan y bytes)
  deliver_facts = cond_case (ConnFacts plan y) plan.silent ConnWaits (deliver_from plan y (peer s plan bytes)) (λ _. tt) (λ _. peer_facts (peer s plan bytes))
