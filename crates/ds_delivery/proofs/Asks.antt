-- What holds of each thing that a process or a lane's worker asks, of messages in hand.
use Rattle.std.proofs.Common.{◌≡◌, ◌≢◌, ℕ, true, List, [], ◌∷◌, Option, Some, None, slice_get, refl, sym, ◌∙◌, ◌⊎◌, inl, arith}
use Rattle.ds_label.specs.declared.category.Category.{Category}
use Rattle.ds_label.specs.declared.rule.Rule.{Rule}
use Rattle.ds_script.specs.declared.op.Op.{Op}
use Rattle.ds_script.specs.declared.op.Op.TheVariants as ops
use Rattle.ds_script.specs.Inner.{Course, inner}
use Rattle.ds_msg.specs.declared.message.Message.{Message}
use Rattle.ds_model.specs.Keys.{same_key}
use Rattle.ds_model.specs.Scheme.{Scheme}
use Rattle.ds_model.specs.Plan.{HostPlan, LanePlan}
use Rattle.ds_model.specs.Desk.{Act}
use Rattle.ds_model.specs.World.{Process, Waiting, Worker}
use Rattle.ds_model.specs.ProcessStep.{Ask, Waits, Internal, Put, Admit, TakeFrom, PublicAct, AsksJudgement, Target, Not, Into, judge_box, box_of, send_rule, send_here, send_away, message_of, take_from, take_rule, relabel, make, publish, ask_outer, ask_inner, queue_at, lane_of, ask_hand, ask}
use Rattle.ds_model.specs.WorkerStep.{LaneAsk, WorkerWaits, Lifts, AsksRecheck, lane_ask_hand, lane_ask}
use Rattle.ds_model.proofs.Places.{cond_case}

-- PROCESSES

-- the hand is as it was or empty
abbrev pub Keeps : Process → Process → Type 0
Keeps x y = (y.hand ≡ x.hand) ⊎ (y.hand ≡ None)

pub record AdmitFacts (plan : HostPlan) (x : Process) (l : ℕ) (m : Message) (next : Process) : Type 0 where
  pub hand : x.hand ≡ Some m
  pub lane : lane_of plan m.to m.label ≡ Some l
  pub empty : next.hand ≡ None

-- a send that the process is at, for which its rules hold
pub record SendFacts (plan : HostPlan) (x : Process) (m : Message) : Type 0 where
  pub to : ℕ
  pub slot : ℕ
  pub register : ℕ
  pub label : List Category
  pub own : List Category
  pub clear : List Category
  pub operation : slice_get x.script x.course.place ≡ Some (ops.Send to slot register label own clear)
  pub says : m ≡ message_of plan x to slot register label own clear
  pub sender : send_rule plan x m ≡ None

abbrev pub AskFacts : HostPlan → Process → Ask → Type 0
AskFacts plan x Waits = Unit {0}
AskFacts plan x (Internal next) = Keeps x next
AskFacts plan x (Put b mail next) = Keeps x next
AskFacts plan x (Admit l m next) = AdmitFacts plan x l m next
AskFacts plan x (TakeFrom b reg slot) = Unit {0}
AskFacts plan x (PublicAct act reg host) = Unit {0}
AskFacts plan x (AsksJudgement m) = SendFacts plan x m

send_here_facts : (plan : HostPlan) (x : Process) (m : Message) (r : Option Rule) (place : Target) → AskFacts plan x (send_here plan x m r place)
send_here_facts plan x m (Some r) place = inl refl
send_here_facts plan x m None (Not r) = inl refl
send_here_facts plan x m None (Into b) = inl refl

send_away_facts : (plan : HostPlan) (x : Process) (to slot reg : ℕ) (label own clear : List Category) (r : Option Rule) → slice_get x.script x.course.place ≡ Some (ops.Send to slot reg label own clear) →
    send_rule plan x (message_of plan x to slot reg label own clear) ≡ r → AskFacts plan x (send_away x (message_of plan x to slot reg label own clear) r)
send_away_facts plan x to slot reg label own clear (Some r) o e = inl refl
send_away_facts plan x to slot reg label own clear None o e = record { to = to; slot = slot; register = reg; label = label; own = own; clear = clear; operation = o; says = refl; sender = e }

take_facts : (plan : HostPlan) (x : Process) (reg slot : ℕ) (o : Option ℕ) (r : Option Rule) → AskFacts plan x (take_from x reg slot o r)
take_facts plan x reg slot o (Some r) = inl refl
take_facts plan x reg slot None None = tt
take_facts plan x reg slot (Some b) None = tt

relabel_facts : (plan : HostPlan) (x : Process) (label : List Category) (r : Option Rule) → AskFacts plan x (relabel x label r)
relabel_facts plan x label (Some r) = inl refl
relabel_facts plan x label None = inl refl

make_facts : (plan : HostPlan) (x : Process) (c : Category) (r : Option Rule) → AskFacts plan x (make x c r)
make_facts plan x c (Some r) = inl refl
make_facts plan x c None = inl refl

publish_facts : (plan : HostPlan) (x : Process) (act : Act) (reg host : ℕ) (r : Option Rule) → AskFacts plan x (publish x act reg host r)
publish_facts plan x act reg host (Some r) = inl refl
publish_facts plan x act reg host None = tt

outer_facts : (plan : HostPlan) (p : ℕ) (x : Process) (o : Option Op) → slice_get x.script x.course.place ≡ o → AskFacts plan x (ask_outer plan p x o)
outer_facts plan p x None at_op = tt
outer_facts plan p x (Some (ops.Set reg text)) at_op = tt
outer_facts plan p x (Some (ops.Join reg left right)) at_op = tt
outer_facts plan p x (Some (ops.IfEq left right to)) at_op = tt
outer_facts plan p x (Some (ops.Jump to)) at_op = tt
outer_facts plan p x (Some (ops.Print reg)) at_op = tt
outer_facts plan p x (Some (ops.Send host slot reg label own clear)) at_op =
    let m : Message = message_of plan x host slot reg label own clear in
    cond_case (AskFacts plan x) (same_key m.to plan.key) (send_here plan x m (send_rule plan x m) (judge_box plan m.slot m.label)) (send_away x m (send_rule plan x m))
    (λ e. send_here_facts plan x m (send_rule plan x m) (judge_box plan m.slot m.label))
    (λ e. send_away_facts plan x host slot reg label own clear (send_rule plan x m) at_op refl)
outer_facts plan p x (Some (ops.Take reg slot)) at_op = take_facts plan x reg slot (box_of plan slot) (take_rule plan p x (box_of plan slot))
outer_facts plan p x (Some (ops.SetLabel label)) at_op = relabel_facts plan x label _
outer_facts plan p x (Some (ops.NewCat kind)) at_op = make_facts plan x _ _
outer_facts plan p x (Some (ops.Delegate reg c host from until)) at_op = publish_facts plan x _ reg host _
outer_facts plan p x (Some (ops.Map c)) at_op = publish_facts plan x _ 0 0 _
outer_facts plan p x (Some (ops.Import reg)) at_op = publish_facts plan x _ 0 0 _

inner_facts : (plan : HostPlan) (p : ℕ) (x : Process) (o : Option Course) → AskFacts plan x (ask_inner plan p x o)
inner_facts plan p x (Some course) = inl refl
inner_facts plan p x None = outer_facts plan p x (slice_get x.script x.course.place) refl

queue_facts : (plan : HostPlan) (x : Process) (m : Message) (o : Option ℕ) → x.hand ≡ Some m → lane_of plan m.to m.label ≡ o → AskFacts plan x (queue_at x m o)
queue_facts plan x m None h e = tt
queue_facts plan x m (Some l) h e = record { hand = h; lane = e; empty = refl }

hand_facts : (plan : HostPlan) (p : ℕ) (x : Process) (o : Option Message) → x.hand ≡ o → AskFacts plan x (ask_hand plan p x o)
hand_facts plan p x (Some m) h = queue_facts plan x m (lane_of plan m.to m.label) h refl
hand_facts plan p x None h = inner_facts plan p x (inner x.script x.course)

pub ask_facts : (plan : HostPlan) (p : ℕ) (x : Process) → AskFacts plan x (ask plan p x)
ask_facts plan p x = hand_facts plan p x x.hand refl

-- LANE WORKERS

abbrev pub LaneFacts : Scheme → LanePlan → Worker → LaneAsk → Type 0
LaneFacts s plan e WorkerWaits = Unit {0}
LaneFacts s plan e Lifts = s.has_lane_leaf plan.signing e.leaf ≡ true
LaneFacts s plan e (AsksRecheck hand) = (e.hand ≡ hand) × (e.hand ≢ [])

lane_hand_facts : (s : Scheme) (plan : LanePlan) (e : Worker) (ms : List Waiting) → e.hand ≡ ms → LaneFacts s plan e (lane_ask_hand s plan e ms)
lane_hand_facts s plan e (m ∷ ms) is = (is, λ none. absurd (let no : [] ≡ m ∷ ms = sym none ∙ is in grind arith))
lane_hand_facts s plan e [] is = cond_case (LaneFacts s plan e) (s.has_lane_leaf plan.signing e.leaf) Lifts WorkerWaits (λ has. has) (λ _. tt)

pub lane_facts : (s : Scheme) (plan : LanePlan) (e : Worker) → LaneFacts s plan e (lane_ask s plan e)
lane_facts s plan e = lane_hand_facts s plan e e.hand refl
