-- The rules of each act, one by one, in the order in which they are asked. Each is a fact of labels, ownership,
-- holders and moments, and the rule that is broken where the fact doesn't hold.
use Rattle.std.specs.Prelude.{ℕ, ◌==◌, Bool, true, false, not, ◌&&◌, ◌||◌, List, [], ◌∷◌, ◌++◌, Option, Some, None, find, is_some, option_map, nat_lt, nat_le}
use Rattle.std.specs.List.{list_all}
use Rattle.ds_label.specs.declared.category.Category.{Category}
use Rattle.ds_label.specs.declared.rule.Rule.{Rule}
use Rattle.ds_label.specs.declared.rule.Rule.TheVariants.{NotKnown, NotFlow, GrantNotOwned, ClearNotHeld, NoLane, NoAddress, PeerNotTrusted, LaneLapsed, WrongHost, WrongLabel, SenderNotTrusted, NoBox, NotFlowToBox, NotFlowToTaker}
use Rattle.ds_label.specs.Flow.{has, flows, same_label}
use Rattle.ds_label.specs.Names.{is_secrecy, by_name}
use Rattle.ds_cert.specs.declared.lane.LaneCert.{LaneCert}
use Rattle.ds_msg.specs.declared.message.Message.{Message}
use Rattle.ds_model.specs.Keys.{same_key}
use Rattle.ds_model.specs.FirstRule.{unless}
use Rattle.ds_model.specs.Mapping.{is_known}
use Rattle.ds_model.specs.ExporterRules.{carried}
use Rattle.ds_model.specs.Scheme.{Scheme}
use Rattle.ds_model.specs.Plan.{HostPlan, box_plan}
use Rattle.ds_model.specs.Desk.{Desk}
use Rattle.ds_model.specs.World.{Process}
use Rattle.ds_model.specs.ProcessStep.{box_of, lane_of}

-- each category passes, or the rule names the first that doesn't
abbrev pub unless_each : (Category → Bool) → (Category → Rule) → List Category → Option Rule
unless_each passes rule members = option_map rule (find (λ c. not (passes c)) members)

-- A SEND, by the sending process: it may use each category; its label flows to the message's under its ownership; it
-- owns what it grants; and it owns or holds the clearance that it grants.
abbrev pub sending : HostPlan → Process → Message → List (Option Rule)
sending here x m =
    unless_each (is_known here.key x.names) NotKnown (m.label ++ (m.own ++ m.clear))
    ∷ unless (flows by_name x.label m.label x.own) NotFlow
    ∷ unless (list_all (λ c. has by_name c x.own) m.own) GrantNotOwned
    ∷ unless (list_all (λ c. has by_name c x.clear || has by_name c x.own) m.clear) ClearNotHeld
    ∷ []

-- to another host: a lane leads there with the message's label
abbrev pub leading : HostPlan → Message → List (Option Rule)
leading here m = unless (is_some (lane_of here m.to m.label)) NoLane ∷ []

-- and the sending exporter's rules, at its moment: it has the receiver's address, and the receiver holds each secrecy
-- category of the label
abbrev pub releasing : Scheme → Desk → Message → List (Option Rule)
releasing s d m =
    unless (is_some (s.find d.addresses d.moment m.to)) NoAddress
    ∷ unless_each (λ c. not (is_secrecy c.kind) || s.holds d.store d.moment c m.to) PeerNotTrusted m.label
    ∷ []

-- whether the lane's exporter holds a category, by what the receiver keeps and the message carries
abbrev pub sender_holds : Scheme → Desk → LaneCert → Message → Category → Bool
sender_holds s d lane m c = s.holds (d.store ++ carried s m.certs) d.moment c lane.exporter

-- ARRIVAL, by the receiving exporter at its moment: the lane certificate is valid; the message is for this host, and
-- has the lane's label; the sender holds each integrity category of the label, and all that the message grants, by
-- what the receiver keeps and the message carries; and each category has a number on this host.
abbrev pub arriving : Scheme → HostPlan → Desk → LaneCert → Message → List (Option Rule)
arriving s here d lane m =
    unless (nat_le lane.from d.moment && nat_lt d.moment lane.until) LaneLapsed
    ∷ unless (same_key m.to here.key) WrongHost
    ∷ unless (same_label by_name lane.label m.label) WrongLabel
    ∷ unless_each (λ c. is_secrecy c.kind || sender_holds s d lane m c) SenderNotTrusted m.label
    ∷ unless_each (sender_holds s d lane m) SenderNotTrusted (m.own ++ m.clear)
    ∷ unless_each (is_known here.key d.rows) NotKnown (m.label ++ (m.own ++ m.clear))
    ∷ []

-- whether a label flows to the mailbox's, if it is there
abbrev pub flows_into : HostPlan → List Category → (box : Option ℕ) → Bool
flows_into here label None = true
flows_into here label (Some b) = flows by_name label (box_plan here b).label []

-- A MAILBOX: it is there, and the message's label flows to its own
abbrev pub entering : HostPlan → (slot : ℕ) → (label : List Category) → List (Option Rule)
entering here slot label =
    unless (is_some (box_of here slot)) NoBox
    ∷ unless (flows_into here label (box_of here slot)) NotFlowToBox
    ∷ []

-- whether the mailbox is there and is the process's own
abbrev pub is_own : HostPlan → (proc : ℕ) → (box : Option ℕ) → Bool
is_own here p None = false
is_own here p (Some b) = p == (box_plan here b).owner

-- whether its label, if it is there, flows to the process's under its ownership
abbrev pub flows_out : HostPlan → Process → (box : Option ℕ) → Bool
flows_out here x None = true
flows_out here x (Some b) = flows by_name (box_plan here b).label x.label x.own

-- A TAKE: the mailbox is the process's own, and its label flows to the process's
abbrev pub taking : HostPlan → (proc : ℕ) → Process → (slot : ℕ) → List (Option Rule)
taking here p x slot =
    unless (is_own here p (box_of here slot)) NoBox
    ∷ unless (flows_out here x (box_of here slot)) NotFlowToTaker
    ∷ []

-- AN INLET: the frame's number is above the last one, if there was one
abbrev pub is_above : ℕ → Option ℕ → Bool
is_above number None = true
is_above number (Some last) = nat_lt last number
