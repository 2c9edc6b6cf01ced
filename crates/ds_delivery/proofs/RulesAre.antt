-- The rules one by one are those that the steps ask.
use Rattle.std.proofs.Common.{◌≡◌, ℕ, Bool, true, false, cond, List, [], ◌∷◌, ◌++◌, Option, Some, None, option_map, refl, sym, ◌∙◌, ap, ap₂}
use Rattle.std.specs.Prelude.{not, ◌&&◌, ◌||◌, find, is_some, nat_lt, nat_le}
use Rattle.ds_label.specs.declared.category.Category.{Category}
use Rattle.ds_label.specs.declared.rule.Rule.{Rule}
use Rattle.ds_label.specs.declared.rule.Rule.TheVariants.{NotKnown, NoLane, NoAddress, PeerNotTrusted, LaneLapsed, WrongHost, WrongLabel, SenderNotTrusted, NoBox, NotFlowToBox, NotFlowToTaker}
use Rattle.ds_label.specs.Flow.{flows, same_label}
use Rattle.ds_label.specs.Names.{is_secrecy, by_name}
use Rattle.ds_cert.specs.declared.address.Address.{Address}
use Rattle.ds_cert.specs.declared.lane.LaneCert.{LaneCert}
use Rattle.ds_msg.specs.declared.message.Message.{Message}
use Rattle.ds_model.specs.Keys.{same_key}
use Rattle.ds_model.specs.FirstRule.{unless, or_else, first_rule, each_member, each_secret}
use Rattle.ds_model.specs.ProcessRules.{may_send, mailbox_rule}
use Rattle.ds_model.specs.Mapping.{is_known}
use Rattle.ds_model.specs.ExporterRules.{is_found, lane_rule, sender_rule, receiver_rule, carried}
use Rattle.ds_model.specs.Scheme.{Scheme}
use Rattle.ds_model.specs.Plan.{HostPlan, box_plan}
use Rattle.ds_model.specs.Desk.{Desk}
use Rattle.ds_model.specs.World.{Process}
use Rattle.ds_model.specs.ProcessStep.{box_of, label_of, lane_of, target, judge_box, send_rule, take_rule}
use Rattle.ds_model.specs.ConnectionStep.{target_rule, judge_delivery}
use Rattle.ds_model.specs.Step.{judged}
use Rattle.ds_delivery.specs.Rules.{unless_each, sending, leading, releasing, arriving, flows_into, entering, is_own, flows_out, taking}

join : (xs ys : List (Option Rule)) → first_rule (xs ++ ys) ≡ or_else (first_rule xs) (first_rule ys)
join [] ys = refl
join (None ∷ xs) ys = join xs ys
join (Some rule ∷ xs) ys = refl

last : (r : Option Rule) → or_else r None ≡ r
last None = refl
last (Some rule) = refl

each_is : (test : Category → Bool) (rule : Category → Rule) (members : List Category) → unless_each test rule members ≡ each_member test rule members
each_is test rule [] = refl
each_is test rule (c ∷ members) = go (test c) (each_is test rule members)
  where
    go : (b : Bool) → unless_each test rule members ≡ each_member test rule members → option_map rule (cond (not b) (Some c) (find (λ d. not (test d)) members)) ≡ or_else (unless b (rule c)) (each_member test rule members)
    go true e = e
    go false e = refl

secret_is : (test : Category → Bool) (rule : Category → Rule) (members : List Category) → each_member (λ c. not (is_secrecy c.kind) || test c) rule members ≡ each_secret by_name test rule members
secret_is test rule [] = refl
secret_is test rule (c ∷ members) = ap (or_else (unless (not (is_secrecy c.kind) || test c) (rule c))) (secret_is test rule members)

sending_is : (here : HostPlan) (x : Process) (m : Message) → first_rule (sending here x m) ≡ send_rule here x m
sending_is here x m = ap₂ or_else (each_is (is_known here.key x.names) NotKnown (m.label ++ (m.own ++ m.clear))) (sym (last (may_send by_name x.label x.own x.clear m.label m.own m.clear)))

lane_is : (o : Option ℕ) → unless (is_some o) NoLane ≡ lane_rule o
lane_is None = refl
lane_is (Some l) = refl

found_is : (o : Option Address) → is_some o ≡ is_found o
found_is None = refl
found_is (Some a) = refl

pub releasing_is : (s : Scheme) (d : Desk) (m : Message) → first_rule (releasing s d m) ≡ sender_rule s d.addresses d.store d.moment m.to m.label
releasing_is s d m = ap₂ (λ b r. or_else (unless b NoAddress) (or_else r None)) (found_is (s.find d.addresses d.moment m.to))
    (each_is (λ c. not (is_secrecy c.kind) || s.holds d.store d.moment c m.to) PeerNotTrusted m.label ∙ secret_is (λ c. s.holds d.store d.moment c m.to) PeerNotTrusted m.label)

pub away_is : (s : Scheme) (here : HostPlan) (d : Desk) (x : Process) (m : Message) → first_rule (sending here x m ++ (leading here m ++ releasing s d m)) ≡ first_rule (send_rule here x m ∷ judged s here d m ∷ [])
away_is s here d x m = join (sending here x m) (leading here m ++ releasing s d m)
    ∙ ap₂ or_else (sending_is here x m) (ap₂ or_else (lane_is (lane_of here m.to m.label)) (releasing_is s d m ∙ sym (last (sender_rule s d.addresses d.store d.moment m.to m.label))) ∙ sym (last (judged s here d m)))

entering_by : (here : HostPlan) (label : List Category) (o : Option ℕ) → first_rule (unless (is_some o) NoBox ∷ unless (flows_into here label o) NotFlowToBox ∷ []) ≡ target_rule (target o (mailbox_rule by_name (label_of here o) label))
entering_by here label None = refl
entering_by here label (Some b) = go (flows by_name label (box_plan here b).label [])
  where
    go : (c : Bool) → or_else None (or_else (unless c NotFlowToBox) None) ≡ target_rule (target (Some b) (unless c NotFlowToBox))
    go true = refl
    go false = refl

entering_is : (here : HostPlan) (slot : ℕ) (label : List Category) → first_rule (entering here slot label) ≡ target_rule (judge_box here slot label)
entering_is here slot label = entering_by here label (box_of here slot)

pub here_is : (here : HostPlan) (x : Process) (m : Message) → first_rule (sending here x m ++ entering here m.slot m.label) ≡ first_rule (send_rule here x m ∷ target_rule (judge_box here m.slot m.label) ∷ [])
here_is here x m = join (sending here x m) (entering here m.slot m.label) ∙ ap₂ or_else (sending_is here x m) (entering_is here m.slot m.label ∙ sym (last (target_rule (judge_box here m.slot m.label))))

arriving_is : (s : Scheme) (here : HostPlan) (d : Desk) (lane : LaneCert) (m : Message) → first_rule (arriving s here d lane m) ≡ receiver_rule s d.store d.rows d.moment here.key lane m
arriving_is s here d lane m = λ i. first_rule (
    unless (nat_le lane.from d.moment && nat_lt d.moment lane.until) LaneLapsed
    ∷ unless (same_key m.to here.key) WrongHost
    ∷ unless (same_label by_name lane.label m.label) WrongLabel
    ∷ each_is (λ c. is_secrecy c.kind || s.holds (d.store ++ carried s m.certs) d.moment c lane.exporter) SenderNotTrusted m.label i
    ∷ each_is (λ c. s.holds (d.store ++ carried s m.certs) d.moment c lane.exporter) SenderNotTrusted (m.own ++ m.clear) i
    ∷ each_is (is_known here.key d.rows) NotKnown (m.label ++ (m.own ++ m.clear)) i
    ∷ [])

pub delivery_is : (s : Scheme) (here : HostPlan) (d : Desk) (lane : LaneCert) (m : Message) → first_rule (arriving s here d lane m ++ entering here m.slot m.label) ≡ judge_delivery s here d lane m
delivery_is s here d lane m = join (arriving s here d lane m) (entering here m.slot m.label) ∙ ap₂ or_else (arriving_is s here d lane m) (entering_is here m.slot m.label ∙ sym (last (target_rule (judge_box here m.slot m.label))))

pub taking_is : (here : HostPlan) (p : ℕ) (x : Process) (slot : ℕ) → first_rule (taking here p x slot) ≡ take_rule here p x (box_of here slot)
taking_is here p x slot = go (box_of here slot)
  where
    go : (o : Option ℕ) → first_rule (unless (is_own here p o) NoBox ∷ unless (flows_out here x o) NotFlowToTaker ∷ []) ≡ take_rule here p x o
    go None = refl
    go (Some b) = refl
