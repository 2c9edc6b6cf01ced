-- A process puts a message into a mailbox of its host only where its own rules and the mailbox's hold.
use Rattle.std.proofs.Common.{◌≡◌, ℕ, List, Option, Some, None, slice_get, refl, subst, arith}
use Rattle.ds_label.specs.declared.category.Category.{Category}
use Rattle.ds_label.specs.declared.rule.Rule.{Rule}
use Rattle.ds_label.specs.Names.{by_name}
use Rattle.ds_script.specs.declared.op.Op.{Op}
use Rattle.ds_script.specs.declared.op.Op.TheVariants as ops
use Rattle.ds_script.specs.Inner.{Course, inner}
use Rattle.ds_msg.specs.declared.message.Message.{Message}
use Rattle.ds_model.specs.Keys.{same_key}
use Rattle.ds_model.specs.FirstRule.{or_else}
use Rattle.ds_model.specs.ProcessRules.{may_send, mailbox_rule}
use Rattle.ds_model.specs.ExporterRules.{known_rule}
use Rattle.ds_model.specs.Plan.{HostPlan, host_plan}
use Rattle.ds_model.specs.Desk.{Act}
use Rattle.ds_model.specs.World.{Process, Mail}
use Rattle.ds_model.specs.ProcessStep.{Ask, Waits, Internal, Put, Admit, TakeFrom, PublicAct, AsksJudgement, box_of, label_of, Target, Not, Into, target, judge_box, send_rule, mail_of, send_here, send_away, message_of, take_from, take_rule, relabel, make, publish, ask_outer, ask_inner, queue_at, lane_of, ask_hand, ask}
use Rattle.ds_model.specs.Lawful.{SentLawfully}
use Rattle.ds_model.proofs.Places.{cond_case}

pub first_none : (a b : Option Rule) → or_else a b ≡ None → (a ≡ None) × (b ≡ None)
first_none None b h = (refl, h)
first_none (Some r) b h = absurd (grind arith)

-- of a message that a process puts into a mailbox of its host
record Sent (plan : HostPlan) (x : Process) (b : ℕ) (mail : Mail Category) : Type 0 where
  pub to : ℕ
  pub slot : ℕ
  pub register : ℕ
  pub label : List Category
  pub own : List Category
  pub clear : List Category
  pub operation : slice_get x.script x.course.place ≡ Some (ops.Send to slot register label own clear)
  pub says : mail ≡ mail_of plan.key (message_of plan x to slot register label own clear)
  pub place : box_of plan slot ≡ Some b
  pub known : known_rule plan.key x.names label own clear ≡ None
  pub sender : may_send by_name x.label x.own x.clear label own clear ≡ None
  pub mailbox : mailbox_rule by_name (label_of plan (Some b)) label ≡ None

abbrev PutFacts : HostPlan → Process → Ask → Type 0
PutFacts plan x Waits = Unit {0}
PutFacts plan x (Internal next) = Unit {0}
PutFacts plan x (Put b mail next) = Sent plan x b mail
PutFacts plan x (Admit l m next) = Unit {0}
PutFacts plan x (TakeFrom b reg slot) = Unit {0}
PutFacts plan x (PublicAct act reg host) = Unit {0}
PutFacts plan x (AsksJudgement m) = Unit {0}

abbrev TargetFacts : HostPlan → Option ℕ → List Category → Target → Type 0
TargetFacts plan o label (Not r) = Unit {0}
TargetFacts plan o label (Into b) = (o ≡ Some b) × (mailbox_rule by_name (label_of plan (Some b)) label ≡ None)

target_facts : (plan : HostPlan) (label : List Category) (o : Option ℕ) → TargetFacts plan o label (target o (mailbox_rule by_name (label_of plan o) label))
target_facts plan label None = tt
target_facts plan label (Some b) = go (mailbox_rule by_name (label_of plan (Some b)) label) refl
  where
    go : (r : Option Rule) → mailbox_rule by_name (label_of plan (Some b)) label ≡ r → TargetFacts plan (Some b) label (target (Some b) r)
    go None e = (refl, e)
    go (Some rule) e = tt

send_here_facts : (plan : HostPlan) (x : Process) (to slot reg : ℕ) (label own clear : List Category) (r : Option Rule) (place : Target) → slice_get x.script x.course.place ≡ Some (ops.Send to slot reg label own clear) →
    send_rule plan x (message_of plan x to slot reg label own clear) ≡ r → TargetFacts plan (box_of plan slot) label place → PutFacts plan x (send_here plan x (message_of plan x to slot reg label own clear) r place)
send_here_facts plan x to slot reg label own clear (Some r) place o e f = tt
send_here_facts plan x to slot reg label own clear None (Not r) o e f = tt
send_here_facts plan x to slot reg label own clear None (Into b) o e f = record {
  to = to;
  slot = slot;
  register = reg;
  label = label;
  own = own;
  clear = clear;
  operation = o;
  says = refl;
  place = f.0;
  known = (first_none _ _ e).0;
  sender = (first_none _ _ (first_none _ _ e).1).0;
  mailbox = f.1;
}

send_away_facts : (plan : HostPlan) (x : Process) (m : Message) (r : Option Rule) → PutFacts plan x (send_away x m r)
send_away_facts plan x m (Some r) = tt
send_away_facts plan x m None = tt

take_facts : (plan : HostPlan) (x : Process) (reg slot : ℕ) (o : Option ℕ) (r : Option Rule) → PutFacts plan x (take_from x reg slot o r)
take_facts plan x reg slot o (Some r) = tt
take_facts plan x reg slot None None = tt
take_facts plan x reg slot (Some b) None = tt

relabel_facts : (plan : HostPlan) (x : Process) (label : List Category) (r : Option Rule) → PutFacts plan x (relabel x label r)
relabel_facts plan x label (Some r) = tt
relabel_facts plan x label None = tt

make_facts : (plan : HostPlan) (x : Process) (c : Category) (r : Option Rule) → PutFacts plan x (make x c r)
make_facts plan x c (Some r) = tt
make_facts plan x c None = tt

publish_facts : (plan : HostPlan) (x : Process) (act : Act) (reg host : ℕ) (r : Option Rule) → PutFacts plan x (publish x act reg host r)
publish_facts plan x act reg host (Some r) = tt
publish_facts plan x act reg host None = tt

outer_facts : (plan : HostPlan) (p : ℕ) (x : Process) (o : Option Op) → slice_get x.script x.course.place ≡ o → PutFacts plan x (ask_outer plan p x o)
outer_facts plan p x None at_op = tt
outer_facts plan p x (Some (ops.Set reg text)) at_op = tt
outer_facts plan p x (Some (ops.Join reg left right)) at_op = tt
outer_facts plan p x (Some (ops.IfEq left right to)) at_op = tt
outer_facts plan p x (Some (ops.Jump to)) at_op = tt
outer_facts plan p x (Some (ops.Print reg)) at_op = tt
outer_facts plan p x (Some (ops.Send host slot reg label own clear)) at_op =
    let m : Message = message_of plan x host slot reg label own clear in
    cond_case (PutFacts plan x) (same_key m.to plan.key) (send_here plan x m (send_rule plan x m) (judge_box plan m.slot m.label)) (send_away x m (send_rule plan x m))
    (λ e. send_here_facts plan x host slot reg label own clear (send_rule plan x m) (judge_box plan slot label) at_op refl (target_facts plan label (box_of plan slot)))
    (λ e. send_away_facts plan x m (send_rule plan x m))
outer_facts plan p x (Some (ops.Take reg slot)) at_op = take_facts plan x reg slot (box_of plan slot) (take_rule plan p x (box_of plan slot))
outer_facts plan p x (Some (ops.SetLabel label)) at_op = relabel_facts plan x label _
outer_facts plan p x (Some (ops.NewCat kind)) at_op = make_facts plan x _ _
outer_facts plan p x (Some (ops.Delegate reg c host from until)) at_op = publish_facts plan x _ reg host _
outer_facts plan p x (Some (ops.Map c)) at_op = publish_facts plan x _ 0 0 _
outer_facts plan p x (Some (ops.Import reg)) at_op = publish_facts plan x _ 0 0 _

inner_facts : (plan : HostPlan) (p : ℕ) (x : Process) (o : Option Course) → PutFacts plan x (ask_inner plan p x o)
inner_facts plan p x (Some course) = tt
inner_facts plan p x None = outer_facts plan p x (slice_get x.script x.course.place) refl

queue_facts : (plan : HostPlan) (x : Process) (m : Message) (o : Option ℕ) → PutFacts plan x (queue_at x m o)
queue_facts plan x m None = tt
queue_facts plan x m (Some l) = tt

hand_facts : (plan : HostPlan) (p : ℕ) (x : Process) (o : Option Message) → PutFacts plan x (ask_hand plan p x o)
hand_facts plan p x (Some m) = queue_facts plan x m (lane_of plan m.to m.label)
hand_facts plan p x None = inner_facts plan p x (inner x.script x.course)

put_facts : (plan : HostPlan) (p : ℕ) (x : Process) (b : ℕ) (mail : Mail Category) (next : Process) → ask plan p x ≡ Put b mail next → Sent plan x b mail
put_facts plan p x b mail next e = subst (PutFacts plan x) e (hand_facts plan p x x.hand)

pub sent_lawfully : SentLawfully
sent_lawfully s plan start events before e later split h p b mail puts =
    let sent : Sent (host_plan plan h) puts.proc b mail = put_facts (host_plan plan h) p puts.proc b mail puts.next puts.asks in
    record {
      host = puts.host;
      proc = puts.proc;
      to = sent.to;
      slot = sent.slot;
      register = sent.register;
      label = sent.label;
      own = sent.own;
      clear = sent.clear;
      stands = puts.stands;
      acts = puts.acts;
      operation = sent.operation;
      says = sent.says;
      place = sent.place;
      known = sent.known;
      sender = sent.sender;
      mailbox = sent.mailbox;
    }
