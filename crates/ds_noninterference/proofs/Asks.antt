-- What holds of each thing that a process asks.
use Rattle.std.proofs.Common.{◌≡◌, ℕ, Bool, true, false, List, [], ◌∷◌, ◌&&◌, ◌||◌, Option, Some, None, slice_get, refl, ◌⊎◌, inl, inr, arith, eqb-true}
use Rattle.std.proofs.lemmas.List.Quantifiers.{position-Some}
use Rattle.ds_label.specs.declared.category.Category.{Category}
use Rattle.ds_label.specs.declared.rule.Rule.{Rule}
use Rattle.ds_label.specs.Flow.{has, flows, same_label, with_member}
use Rattle.ds_label.specs.Names.{is_secrecy, by_name}
use Rattle.ds_msg.specs.declared.message.Message.{Message}
use Rattle.ds_script.specs.declared.op.Op.{Op}
use Rattle.ds_script.specs.declared.op.Op.TheVariants as ops
use Rattle.ds_script.specs.Inner.{Course}
use Rattle.ds_model.specs.Keys.{same_key}
use Rattle.ds_model.specs.FirstRule.{unless, or_else, first_rule}
use Rattle.ds_model.specs.ProcessRules.{may_relabel, mailbox_rule}
use Rattle.ds_model.specs.Plan.{HostPlan, box_plan, lane_plan, no_lane}
use Rattle.ds_model.specs.Desk.{Act}
use Rattle.ds_model.specs.World.{Process}
use Rattle.ds_model.specs.ProcessStep.{Ask, Waits, Internal, Put, Admit, TakeFrom, PublicAct, AsksJudgement, usable_rule, box_of, label_of, Target, Not, Into, target, judge_box, send_rule, send_here, send_away, send, message_of, take_rule, take_from, relabel, new_category, make, publish, ask_outer, ask_inner, lane_of, queue_at, ask_hand, ask}
use Rattle.ds_label.specs.declared.rule.Rule.TheVariants.{NotFlowToBox}
use Rattle.ds_model.proofs.Places.{cond_case}
use Rattle.ds_noninterference.proofs.Flow.{and_left, and_right, or_cases, or_left, or_right, flows_carries, member_keeps, same_key_is}

-- High stays high, and the hand is as it was or empty.
pub record Follows (x y : Process) : Type 0 where
  pub stays : (c : Category) → is_secrecy c.kind ≡ true → (has by_name c x.label || has by_name c x.own) ≡ true → (has by_name c y.label || has by_name c y.own) ≡ true
  pub hand : (y.hand ≡ x.hand) ⊎ (y.hand ≡ None)

abbrev pub AskFacts : HostPlan → ℕ → Process → Ask → Type 0
AskFacts plan p x Waits = Unit {0}
AskFacts plan p x (Internal next) = Follows x next
AskFacts plan p x (Put b m next) = Follows x next × (flows by_name m.label (box_plan plan b).label [] ≡ true)
AskFacts plan p x (Admit l m next) = Follows x next × (x.hand ≡ Some m) × ((lane_plan plan l).cert.receiver ≡ m.to) × (same_label by_name (lane_plan plan l).cert.label m.label ≡ true)
AskFacts plan p x (TakeFrom b reg slot) = (p ≡ (box_plan plan b).owner) × (flows by_name (box_plan plan b).label x.label x.own ≡ true)
AskFacts plan p x (PublicAct act reg host) = Unit {0}
AskFacts plan p x (AsksJudgement m) = Unit {0}

pub first_none : (a b : Option Rule) → or_else a b ≡ None → (a ≡ None) × (b ≡ None)
first_none None b h = (refl, h)
first_none (Some r) b h = absurd (grind arith)

pub unless_none : (b : Bool) (r : Rule) → unless b r ≡ None → b ≡ true
unless_none true r h = refl
unless_none false r h = absurd (grind arith)

abbrev pub TargetFacts : HostPlan → List Category → Target → Type 0
TargetFacts plan label (Not r) = Unit {0}
TargetFacts plan label (Into b) = flows by_name label (box_plan plan b).label [] ≡ true

pub target_facts : (plan : HostPlan) (label : List Category) (o : Option ℕ) → TargetFacts plan label (target o (mailbox_rule by_name (label_of plan o) label))
target_facts plan label None = tt
target_facts plan label (Some b) = go (flows by_name label (box_plan plan b).label []) refl
  where
    go : (z : Bool) → flows by_name label (box_plan plan b).label [] ≡ z → TargetFacts plan label (target (Some b) (unless z NotFlowToBox))
    go true e = e
    go false e = tt

same_place : (x : Process) (course : Course) → Follows x (record x { course = course })
same_place x course = record { stays = λ c s h. h; hand = inl refl }

send_here_facts : (plan : HostPlan) (p : ℕ) (x : Process) (m : Message) (r : Option Rule) (place : Target) → TargetFacts plan m.label place → AskFacts plan p x (send_here plan x m r place)
send_here_facts plan p x m (Some r) place f = same_place x _
send_here_facts plan p x m None (Not r) f = same_place x _
send_here_facts plan p x m None (Into b) f = (same_place x _, f)

send_away_facts : (plan : HostPlan) (p : ℕ) (x : Process) (m : Message) (r : Option Rule) → AskFacts plan p x (send_away x m r)
send_away_facts plan p x m (Some r) = same_place x _
send_away_facts plan p x m None = tt

send_facts : (plan : HostPlan) (p : ℕ) (x : Process) (m : Message) → AskFacts plan p x (send plan x m)
send_facts plan p x m = cond_case (AskFacts plan p x) (same_key m.to plan.key) (send_here plan x m (send_rule plan x m) (judge_box plan m.slot m.label)) (send_away x m (send_rule plan x m))
    (λ e. send_here_facts plan p x m (send_rule plan x m) (judge_box plan m.slot m.label) (target_facts plan m.label (box_of plan m.slot)))
    (λ e. send_away_facts plan p x m (send_rule plan x m))

take_facts : (plan : HostPlan) (p : ℕ) (x : Process) (reg slot : ℕ) (o : Option ℕ) (r : Option Rule) → take_rule plan p x o ≡ r → AskFacts plan p x (take_from x reg slot o r)
take_facts plan p x reg slot o (Some r) e = same_place x _
take_facts plan p x reg slot None None e = tt
take_facts plan p x reg slot (Some b) None e = (eqb-true _ _ (unless_none _ _ (first_none _ _ e).0), unless_none _ _ (first_none _ _ (first_none _ _ e).1).0)

publish_facts : (plan : HostPlan) (p : ℕ) (x : Process) (act : Act) (reg host : ℕ) (o : Option Rule) → AskFacts plan p x (publish x act reg host o)
publish_facts plan p x act reg host (Some o) = same_place x _
publish_facts plan p x act reg host None = tt

relabel_stays : (x : Process) (label : List Category) (c : Category) → flows by_name x.label label x.own ≡ true → is_secrecy c.kind ≡ true → (has by_name c x.label || has by_name c x.own) ≡ true → (has by_name c label || has by_name c x.own) ≡ true
relabel_stays x label c f s h = go (or_cases _ _ h)
  where
    go : (has by_name c x.label ≡ true) ⊎ (has by_name c x.own ≡ true) → (has by_name c label || has by_name c x.own) ≡ true
    go (inl l) = flows_carries c x.label label x.own s f l
    go (inr o) = or_right _ _ o

relabel_facts : (plan : HostPlan) (p : ℕ) (x : Process) (label : List Category) (o : Option Rule) → (o ≡ None → flows by_name x.label label x.own ≡ true) → AskFacts plan p x (relabel x label o)
relabel_facts plan p x label (Some o) f = same_place x _
relabel_facts plan p x label None f = record { stays = λ c s h. relabel_stays x label c (f refl) s h; hand = inl refl }

own_more : (c d : Category) (l o : List Category) → (has by_name c l || has by_name c o) ≡ true → (has by_name c l || has by_name c (with_member by_name d o)) ≡ true
own_more c d l o h = go (or_cases _ _ h)
  where
    go : (has by_name c l ≡ true) ⊎ (has by_name c o ≡ true) → (has by_name c l || has by_name c (with_member by_name d o)) ≡ true
    go (inl e) = or_left _ _ e
    go (inr e) = or_right _ _ (member_keeps c d o e)

make_facts : (plan : HostPlan) (p : ℕ) (x : Process) (c : Category) (o : Option Rule) → AskFacts plan p x (make x c o)
make_facts plan p x c (Some o) = same_place x _
make_facts plan p x c None = record { stays = λ d s h. own_more d c x.label x.own h; hand = inl refl }

outer_facts : (plan : HostPlan) (p : ℕ) (x : Process) (o : Option Op) → AskFacts plan p x (ask_outer plan p x o)
outer_facts plan p x None = tt
outer_facts plan p x (Some (ops.Set reg text)) = tt
outer_facts plan p x (Some (ops.Join reg left right)) = tt
outer_facts plan p x (Some (ops.IfEq left right to)) = tt
outer_facts plan p x (Some (ops.Jump to)) = tt
outer_facts plan p x (Some (ops.Print reg)) = tt
outer_facts plan p x (Some (ops.Send host slot reg label own clear)) = send_facts plan p x (message_of plan x host slot reg label own clear)
outer_facts plan p x (Some (ops.Take reg slot)) = take_facts plan p x reg slot (box_of plan slot) (take_rule plan p x (box_of plan slot)) refl
outer_facts plan p x (Some (ops.SetLabel label)) = relabel_facts plan p x label (first_rule (usable_rule plan x label [] [] ∷ may_relabel by_name x.label x.own x.clear label ∷ []))
    (λ e. unless_none _ _ (first_none _ _ (first_none _ _ (first_none _ _ e).1).0).0)
outer_facts plan p x (Some (ops.NewCat kind)) = make_facts plan p x (new_category plan p x kind) _
outer_facts plan p x (Some (ops.Delegate reg c host from until)) = publish_facts plan p x _ reg host _
outer_facts plan p x (Some (ops.Map c)) = publish_facts plan p x _ 0 0 _
outer_facts plan p x (Some (ops.Import reg)) = publish_facts plan p x _ 0 0 _

inner_facts : (plan : HostPlan) (p : ℕ) (x : Process) (o : Option Course) → AskFacts plan p x (ask_inner plan p x o)
inner_facts plan p x (Some course) = same_place x course
inner_facts plan p x None = outer_facts plan p x (slice_get x.script x.course.place)

queue_facts : (plan : HostPlan) (p : ℕ) (x : Process) (m : Message) (o : Option ℕ) → x.hand ≡ Some m → lane_of plan m.to m.label ≡ o → AskFacts plan p x (queue_at x m o)
queue_facts plan p x m None h e = tt
queue_facts plan p x m (Some l) h e =
    let found : (same_key (lane_plan plan l).cert.receiver m.to && same_label by_name (lane_plan plan l).cert.label m.label) ≡ true = (position-Some _ plan.lanes l no_lane e).1 in
    (record { stays = λ c s h. h; hand = inr refl }, h, same_key_is _ _ (and_left _ _ found), and_right _ _ found)

hand_facts : (plan : HostPlan) (p : ℕ) (x : Process) (o : Option Message) → x.hand ≡ o → AskFacts plan p x (ask_hand plan p x o)
hand_facts plan p x (Some m) h = queue_facts plan p x m _ h refl
hand_facts plan p x None h = inner_facts plan p x _

-- what holds of all that a process asks
pub ask_facts : (plan : HostPlan) (p : ℕ) (x : Process) → AskFacts plan p x (ask plan p x)
ask_facts plan p x = hand_facts plan p x x.hand refl
