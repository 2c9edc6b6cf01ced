-- What the plain world's connection asks where a turn of ours made an event, or none.
use Rattle.std.proofs.Common.{◌≡◌, ℕ, cond, Bool, List, [], ◌∷◌, ◌++◌, Option, Some, None, map, slice_get, refl, sym, ap, ◌∙◌, subst, append_assoc}
use Rattle.std.specs.Prelude.{◌+◌, ◌==◌, not, nat_lt, position}
use Rattle.std.specs.List.{prefix_len}
use Rattle.std.proofs.lemmas.List.{length-map}
use Rattle.ds_label.specs.declared.category.PubKey.{PubKey}
use Rattle.ds_cert.specs.declared.lane.LaneCert.{LaneCert}
use Rattle.ds_msg.specs.declared.message.Message.{Message}
use Rattle.ds_msg.specs.declared.local.LocalMessage.{LocalMessage}
use Rattle.ds_frame.specs.declared.item.Item.{Item}
use Rattle.ds_frame.specs.SoFar.{ahead}
use Rattle.ds_frame.specs.Streams.{Stream}
use Rattle.ds_frame.proofs.Pieces.{so_far_now}
use Rattle.ds_model.specs.Scheme.{Scheme, InletName, Item as Seen}
use Rattle.ds_model.specs.Plan.{HostPlan}
use Rattle.ds_model.specs.World.{Passed}
use Rattle.ds_model.specs.ProcessStep.{box_of}
use Rattle.ds_model.specs.ConnectionStep.{AsksArrival, ConnWaits, PutsPassed, deliver, deliver_from, deliver_to, hello_of, peer, put_passed}
use Rattle.ds_inlet.specs.Hosts.{host_item, host_reading, items_of, seen_of_items, seen_or_none}
use Rattle.ds_inlet.specs.Connections.{Connection}
use Rattle.ds_inlet.specs.PlainConnections.{plain_conn}
use Rattle.ds_inlet.specs.Accepting.{BeginsWith, IsReadSoFar, inlet_plan, inlet_scheme}
use Rattle.ds_inlet.proofs.Steady.{steady_host}
use Rattle.ds_turn.specs.declared.node.BoxSeat.{BoxSeat}
use Rattle.ds_turn.specs.ConnTurns.{HasHelloFirst, place_of}
use Rattle.ds_turn.specs.ConnAsks.{DeliversBy, PutsBy, slot_in, slot_of}

-- THE CERTIFICATE OF ITS HELLO

seen_append : (here : PubKey) (inlets : List InletName) (xs ys : List Item) → seen_of_items here inlets (xs ++ ys) ≡ seen_of_items here inlets xs ++ seen_of_items here inlets ys
seen_append here inlets [] ys = refl
seen_append here inlets (x ∷ xs) ys =
    ap (λ (later : List Seen). seen_or_none (host_item here inlets x) ++ later) (seen_append here inlets xs ys)
    ∙ sym (append_assoc (seen_or_none (host_item here inlets x)) (seen_of_items here inlets xs) (seen_of_items here inlets ys))

-- the first place, by what is seen
prefix_seen : {X Y : Type 0} (g : X → Y) (p : Y → Bool) (xs : List X) → prefix_len (λ x. p (g x)) xs ≡ prefix_len p (map g xs)
prefix_seen g p [] = refl
prefix_seen g p (x ∷ xs) = ap (λ n. cond (p (g x)) (1 + n) 0) (prefix_seen g p xs)

position_seen : {X Y : Type 0} (g : X → Y) (p : Y → Bool) (xs : List X) → position (λ x. p (g x)) xs ≡ position p (map g xs)
position_seen g p xs = λ i. cond (nat_lt (prefix_seen g (λ y. not (p y)) xs i) (sym (length-map xs g) i)) (Some (prefix_seen g (λ y. not (p y)) xs i)) None

-- mailboxes with the same slots
pub box_is : (plan : HostPlan) (boxes : List BoxSeat) (slot : ℕ) → map slot_in plan.boxes ≡ map slot_of boxes → box_of plan slot ≡ place_of boxes slot
box_is plan boxes slot same =
    position_seen slot_in (λ n. n == slot) plan.boxes ∙ (ap (position (λ n. n == slot)) same ∙ sym (position_seen slot_of (λ n. n == slot) boxes))

module _ (k : Connection) (is : IsReadSoFar k) where
  abbrev read_items : List Seen
  read_items = seen_of_items k.here k.inlets is.handed

  abbrev following : Stream
  following = ahead (host_reading k.here k.inlets) k.reader

  abbrev later_items : List Seen
  later_items = seen_of_items k.here k.inlets following.items

  items_now : items_of k.here k.inlets k.arrived ≡ read_items ++ later_items
  items_now =
      ap (λ (u : Stream). seen_of_items k.here k.inlets u.items) (so_far_now (host_reading k.here k.inlets) (steady_host k.here k.inlets) k.arrived is.handed k.reader is.so_far)
      ∙ seen_append k.here k.inlets is.handed following.items

  -- what was read of it is what the stream begins with
  peer_read : (s : Scheme) (plan : HostPlan) (lane : LaneCert) → k.reader.lane ≡ Some lane → peer (inlet_scheme s) (inlet_plan plan k) k.arrived ≡ Some lane
  peer_read s plan lane known =
      let first : BeginsWith (Some lane) read_items = subst (λ (o : Option LaneCert). BeginsWith o read_items) known is.begins in
      ap (λ (xs : List Seen). hello_of (slice_get xs 0)) (items_now ∙ ap (λ (xs : List Seen). xs ++ later_items) first.1)

  -- with a message in hand and nothing passed
  pub asks_arrival : (s : Scheme) (plan : HostPlan) (link : List ℕ) (lane : LaneCert) (first : Message) (rest : List Message) → k.reader.lane ≡ Some lane → k.hand ≡ first ∷ rest
      → deliver (inlet_scheme s) (inlet_plan plan k) (plain_conn link None k) k.arrived ≡ AsksArrival lane first rest
  asks_arrival s plan link lane first rest known hand =
      ap (deliver_from (inlet_plan plan k) (plain_conn link None k)) (peer_read s plan lane known)
      ∙ ap (λ (ms : List Message). deliver_to (inlet_plan plan k) (plain_conn link None k) lane ms None) hand

  asks_passed : (s : Scheme) (plan : HostPlan) (link : List ℕ) (p : Passed) (place : ℕ) (lane : LaneCert) → k.reader.lane ≡ Some lane → box_of plan p.slot ≡ Some place
      → deliver (inlet_scheme s) (inlet_plan plan k) (plain_conn link (Some p) k) k.arrived ≡ PutsPassed place p.mail (plain_conn link None (record k { passed = None }))
  asks_passed s plan link p place lane known found =
      ap (deliver_from (inlet_plan plan k) (plain_conn link (Some p) k)) (peer_read s plan lane known)
      ∙ ap (put_passed (plain_conn link (Some p) k) p.mail) found

  -- with a message that passed
  pub asks_put : HasHelloFirst k → (boxes : List BoxSeat) (slot place : ℕ) (mail : LocalMessage) → k.passed ≡ Some (slot, mail) → place_of boxes slot ≡ Some place → PutsBy boxes slot place k
  asks_put hello boxes slot place mail passed found = λ s plan link p same at. go s plan link p same at k.reader.lane refl
    where
      none_passed : (o : Option (ℕ × LocalMessage)) → o ≡ Some (slot, mail) → o ≡ None → ⊥
      none_passed o some none = absurd cc

      go : (s : Scheme) (plan : HostPlan) (link : List ℕ) (p : Passed) → map slot_in plan.boxes ≡ map slot_of boxes → p.slot ≡ slot → (o : Option LaneCert) → k.reader.lane ≡ o
          → deliver (inlet_scheme s) (inlet_plan plan k) (plain_conn link (Some p) k) k.arrived ≡ PutsPassed place p.mail (plain_conn link None (record k { passed = None }))
      go s plan link p same at None none = absurd (none_passed k.passed passed (hello none).1)
      go s plan link p same at (Some lane) known = asks_passed s plan link p place lane known (ap (box_of plan) at ∙ (box_is plan boxes slot same ∙ found))

-- with nothing in hand and nothing passed
pub asks_nothing : (k : Connection) → k.hand ≡ [] → DeliversBy k (λ link. ConnWaits)
asks_nothing k hand = λ s plan link. go plan link (peer (inlet_scheme s) (inlet_plan plan k) k.arrived)
  where
    go : (plan : HostPlan) (link : List ℕ) (o : Option LaneCert) → deliver_from (inlet_plan plan k) (plain_conn link None k) o ≡ ConnWaits
    go plan link None = refl
    go plan link (Some lane) = ap (λ (ms : List Message). deliver_to (inlet_plan plan k) (plain_conn link None k) lane ms None) hand
