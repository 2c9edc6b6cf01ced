-- What a connection asks that delivers.
use Rattle.std.proofs.Common.{◌≡◌, ℕ, ◌<◌, List, [], ◌∷◌, ◌++◌, Option, Some, None, length, slice_get, option_map, refl, sym, ap, ◌∙◌, subst, append_assoc}
use Rattle.std.specs.Prelude.{◌==◌}
use Rattle.std.proofs.lemmas.List.Quantifiers.{position-Some}
use Rattle.ds_label.specs.declared.category.PubKey.{PubKey}
use Rattle.ds_label.specs.declared.category.Category.{Category}
use Rattle.ds_label.specs.declared.rule.Rule.{Rule}
use Rattle.ds_label.specs.Names.{by_name}
use Rattle.ds_cert.specs.declared.lane.LaneCert.{LaneCert}
use Rattle.ds_msg.specs.declared.message.Message.{Message}
use Rattle.ds_frame.specs.declared.item.Item.{Item}
use Rattle.ds_frame.specs.SoFar.{ahead}
use Rattle.ds_frame.specs.Streams.{Stream}
use Rattle.ds_frame.proofs.Pieces.{so_far_now}
use Rattle.ds_model.specs.FirstRule.{first_rule}
use Rattle.ds_model.specs.ProcessRules.{mailbox_rule}
use Rattle.ds_model.specs.ProcessStep.{box_of as box_place, label_of, target}
use Rattle.ds_model.specs.Scheme.{InletName, Item as Seen}
use Rattle.ds_model.specs.Plan.{BoxPlan, HostPlan}
use Rattle.ds_model.specs.World.{Conn, Passed}
use Rattle.ds_model.specs.ConnectionStep.{ConnWaits, AsksArrival, PutsPassed, deliver_from, deliver_to, hello_of, judge_delivery, peer, put_passed, target_rule}
use Rattle.ds_map.specs.Labels.{named}
use Rattle.ds_inlet.specs.Hosts.{host_item, host_reading, items_of, seen_of_items, seen_or_none}
use Rattle.ds_inlet.specs.Connections.{Connection}
use Rattle.ds_inlet.specs.Accepting.{BeginsWith, IsReadSoFar, inlet_plan}
use Rattle.ds_inlet.proofs.Steady.{steady_host}
use Rattle.ds_actor.proofs.Sites.{position_map}
use Rattle.ds_scheme.specs.TheScheme.{scheme}
use Rattle.ds_exporter.specs.HostStates.{HostBox, HostState}
use Rattle.ds_exporter.specs.PlainHosts.{plan_of_box, site_of}
use Rattle.ds_exporter.specs.Mailboxes.{has_slot, label_at, label_in, place_of}
use Rattle.ds_exporter.specs.Delivering.{arrival_rule, delivery_rule}
use Rattle.ds_exporter.proofs.Places.{there_is}
use Rattle.ds_exporter.proofs.BoxPuts.{box_planned}

-- THE CERTIFICATE OF ITS HELLO

seen_append : (here : PubKey) (inlets : List InletName) (xs ys : List Item) → seen_of_items here inlets (xs ++ ys) ≡ seen_of_items here inlets xs ++ seen_of_items here inlets ys
seen_append here inlets [] ys = refl
seen_append here inlets (x ∷ xs) ys =
    ap (λ (later : List Seen). seen_or_none (host_item here inlets x) ++ later) (seen_append here inlets xs ys)
    ∙ sym (append_assoc (seen_or_none (host_item here inlets x)) (seen_of_items here inlets xs) (seen_of_items here inlets ys))

module _ (k : Connection) (is : IsReadSoFar k) where
  abbrev read_items : List Seen
  read_items = seen_of_items k.here k.inlets is.handed

  abbrev following : Stream
  following = ahead (host_reading k.here k.inlets) k.reader

  abbrev later_items : List Seen
  later_items = seen_of_items k.here k.inlets following.items

  items_now : items_of k.here k.inlets k.arrived ≡ read_items ++ later_items
  items_now =
      ap (λ (u : Stream). seen_of_items k.here k.inlets u.items) (so_far_now (host_reading k.here k.inlets) (steady_host k.here k.inlets) k.arrived is.handed k.reader is.so_far)
      ∙ seen_append k.here k.inlets is.handed following.items

  -- what was read of it is what the stream begins with
  pub peer_read : (plan : HostPlan) (lane : LaneCert) → k.reader.lane ≡ Some lane → peer scheme (inlet_plan plan k) k.arrived ≡ Some lane
  peer_read plan lane known =
      let first : BeginsWith (Some lane) read_items = subst (λ (o : Option LaneCert). BeginsWith o read_items) known is.begins in
      ap (λ (xs : List Seen). hello_of (slice_get xs 0)) (items_now ∙ ap (λ (xs : List Seen). xs ++ later_items) first.1)

-- WHAT IT ASKS

module _ (plan : HostPlan) (c : Conn) (lane : Option LaneCert) where
  -- with nothing in hand and nothing passed
  pub asks_nothing : c.hand ≡ [] → c.passed ≡ None → deliver_from plan c lane ≡ ConnWaits
  asks_nothing hand passed = go lane
    where
      go : (o : Option LaneCert) → deliver_from plan c o ≡ ConnWaits
      go None = refl
      go (Some cert) = ap (λ (p : Option Passed). deliver_to plan c cert c.hand p) passed ∙ ap (λ (ms : List Message). deliver_to plan c cert ms None) hand

  -- with a message that passed
  pub asks_put : (cert : LaneCert) (p : Passed) (place : ℕ) → lane ≡ Some cert → c.passed ≡ Some p → box_place plan p.slot ≡ Some place → deliver_from plan c lane ≡ PutsPassed place p.mail (record c { passed = None })
  asks_put cert p place known passed found = ap (deliver_from plan c) known ∙ (ap (λ (q : Option Passed). deliver_to plan c cert c.hand q) passed ∙ ap (put_passed c p.mail) found)

  -- with one in hand
  pub asks_judgement : (cert : LaneCert) (m : Message) (rest : List Message) → lane ≡ Some cert → c.passed ≡ None → c.hand ≡ m ∷ rest → deliver_from plan c lane ≡ AsksArrival cert m rest
  asks_judgement cert m rest known passed hand =
      ap (deliver_from plan c) known
      ∙ (ap (λ (q : Option Passed). deliver_to plan c cert c.hand q) passed ∙ ap (λ (ms : List Message). deliver_to plan c cert ms None) hand)

-- WHAT THE DESK AND THE MAILBOX ANSWER

-- a place that is found is there
pub place_within : (boxes : List HostBox) (slot i : ℕ) → place_of boxes slot ≡ Some i → i < length boxes
place_within [] slot i e = absurd cc
place_within (b ∷ boxes) slot i e = (position-Some (has_slot slot) (b ∷ boxes) i b e).0

module _ (e : HostState) where
  pub place_is : (slot : ℕ) → box_place (site_of e) slot ≡ place_of e.boxes slot
  place_is slot = position_map (plan_of_box e.desk.here e.desk.desk.rows) (λ (b : BoxPlan). b.slot == slot) e.boxes

  abbrev label_by : Option ℕ → Option (List Category)
  label_by o = option_map (named e.desk.here e.desk.desk.rows) (label_at e.boxes o)

  label_is : (o : Option ℕ) → ((i : ℕ) → o ≡ Some i → i < length e.boxes) → label_of (site_of e) o ≡ label_by o
  label_is None within = refl
  label_is (Some i) within = there_is (label_of (site_of e) (Some i) ≡ label_by (Some i)) e.boxes i (within i refl)
      (λ b h. ap (λ (p : BoxPlan). Some p.label) (box_planned e i b h) ∙ sym (ap (λ (o : Option HostBox). option_map (named e.desk.here e.desk.desk.rows) (option_map label_in o)) h))

  -- the rule of a target is the mailbox's
  target_is : (o : Option ℕ) (label : List Category) → target_rule (target o (mailbox_rule by_name (label_of (site_of e) o) label)) ≡ mailbox_rule by_name (label_of (site_of e) o) label
  target_is None label = refl
  target_is (Some i) label = go (mailbox_rule by_name (label_of (site_of e) (Some i)) label)
    where
      go : (r : Option Rule) → target_rule (target (Some i) r) ≡ r
      go None = refl
      go (Some rule) = refl

  pub delivery_is : (lane : LaneCert) (m : Message) → judge_delivery scheme (site_of e) e.desk.desk lane m ≡ delivery_rule e.desk e.boxes lane m
  delivery_is lane m =
      ap (λ (r : Option Rule). first_rule (arrival_rule e.desk lane m ∷ r ∷ []))
      (target_is (box_place (site_of e) m.slot) m.label
      ∙ ap (λ (l : Option (List Category)). mailbox_rule by_name l m.label) (ap (label_of (site_of e)) (place_is m.slot) ∙ label_is (place_of e.boxes m.slot) (λ i h. place_within e.boxes m.slot i h)))
