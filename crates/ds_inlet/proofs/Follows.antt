-- A connection reads what its stream carries for its host.
use Rattle.std.proofs.Common.{◌≡◌, ℕ, Bool, true, false, cond, List, Option, Some, None, refl, sym, ap, subst}
use Rattle.std.specs.Prelude.{Result, Ok, Err}
use Rattle.ds_label.specs.declared.category.PubKey.{PubKey}
use Rattle.ds_cert.specs.declared.lane.LaneCert.{LaneCert}
use Rattle.ds_cert.specs.Fields.{◌>>=◌}
use Rattle.ds_cert.proofs.Steps.{ok_is}
use Rattle.ds_msg.specs.declared.message.Message.{Message}
use Rattle.ds_frame.specs.declared.cause.Cause.TheVariants as causes
use Rattle.ds_frame.specs.declared.item.Failure.{Failure}
use Rattle.ds_frame.specs.declared.item.Item.{Item}
use Rattle.ds_frame.specs.declared.item.Item.TheVariants as items
use Rattle.ds_frame.specs.Fields.{ReadFault, Open, Broken}
use Rattle.ds_frame.specs.Checks.{read_item}
use Rattle.ds_frame.specs.Reader.{lane_after, answer_of, next_by, next_unless}
use Rattle.ds_model.specs.Keys.{same_key}
use Rattle.ds_model.specs.Scheme.{InletName, Item as Seen, Hello, Framed}
use Rattle.ds_inlet.specs.Hosts.{inlet_at, declared_lane, messages_from, host_item, host_reading, seen_reading}
use Rattle.ds_inlet.specs.Connections.{Connection, read_past, reading_step, step_unless_failed, step_unless_offered}
use Rattle.ds_inlet.specs.Reads.{Follows, IsReadAsStream}
use Rattle.ds_inlet.specs.OfferedFrames.{OfferedFrame}

-- the lane certificate that is known after an item was seen
abbrev pub lane_seen : Seen → Option LaneCert → Option LaneCert
lane_seen (Hello lane) before = Some lane
lane_seen (Framed number messages) before = before

abbrev seen_ok : Seen → Result Seen ReadFault
seen_ok seen = Ok seen

pub accords : (here : PubKey) (inlets : List InletName) (item : Item) (seen : Seen) (before : Option LaneCert) → host_item here inlets item ≡ Ok seen → lane_seen seen before ≡ lane_after item before
unfolding host_item
accords here inlets (items.Hello lane) seen before e = go (same_key lane.receiver here) (inlet_at inlets lane) e
  where
    go : (b : Bool) (o : Option ℕ) → (cond b (declared_lane lane o) (Err (Broken causes.HelloReceiver 6)) >>= λ (l : LaneCert). seen_ok (Hello l)) ≡ Ok seen → lane_seen seen before ≡ Some lane
    go true (Some i) f = ap (λ (s : Seen). lane_seen s before) (sym (ok_is (Hello lane) seen f))
    go true None f = absurd cc
    go false o f = absurd cc
accords here inlets (items.Frame frame) seen before e = go (messages_from 11 frame.bodies) e
  where
    go : (r : Result (List Message) ReadFault) → (r >>= λ (ms : List Message). seen_ok (Framed frame.number ms)) ≡ Ok seen → lane_seen seen before ≡ before
    go (Ok ms) f = ap (λ (s : Seen). lane_seen s before) (sym (ok_is (Framed frame.number ms) seen f))
    go (Err stop) f = absurd cc

abbrev pair_ok : Seen × List ℕ → Result (Seen × List ℕ) ReadFault
pair_ok x = Ok x

abbrev item_ok : Item × List ℕ → Result (Item × List ℕ) ReadFault
item_ok x = Ok x

module _ (k : Connection) where
  -- with what the host sees of the item
  follows_item : (x : Item × List ℕ) (h : Result Seen ReadFault) → host_item k.here k.inlets x.0 ≡ h
      → Follows k (reading_step k (h >>= λ (seen : Seen). pair_ok (seen, x.1))) (answer_of k.reader (h >>= λ (seen : Seen). item_ok x))
  follows_item x (Ok (Hello lane)) e = record {
    reader = ap (λ (l : Option LaneCert). read_past l x.1 k.reader) (accords k.here k.inlets x.0 (Hello lane) k.reader.lane e);
    items = rw e refl;
    ends = refl;
  }
  follows_item x (Ok (Framed number messages)) e = record {
    reader = ap (λ (l : Option LaneCert). read_past l x.1 k.reader) (accords k.here k.inlets x.0 (Framed number messages) k.reader.lane e);
    items = rw e refl;
    ends = refl;
  }
  follows_item x (Err Open) e = record { reader = refl; items = refl; ends = refl }
  follows_item x (Err (Broken cause offset)) e = record { reader = refl; items = refl; ends = refl }

  follows_reading : (r : Result (Item × List ℕ) ReadFault)
      → Follows k (reading_step k (r >>= λ (x : Item × List ℕ). host_item k.here k.inlets x.0 >>= λ (seen : Seen). pair_ok (seen, x.1))) (answer_of k.reader (r >>= λ (x : Item × List ℕ). host_item k.here k.inlets x.0 >>= λ (seen : Seen). item_ok x))
  follows_reading (Ok x) = follows_item x (host_item k.here k.inlets x.0) refl
  follows_reading (Err Open) = record { reader = refl; items = refl; ends = refl }
  follows_reading (Err (Broken cause offset)) = record { reader = refl; items = refl; ends = refl }

  follows_unless : (f : Option Failure) → Follows k (step_unless_failed f k) (next_unless f (host_reading k.here k.inlets) k.reader)
  unfolding host_reading seen_reading
  follows_unless None = follows_reading (read_item k.reader.lane k.reader.rest)
  follows_unless (Some failure) = record { reader = refl; items = refl; ends = refl }

pub follows : IsReadAsStream
follows k e = subst (λ (o : Option OfferedFrame). Follows k (step_unless_offered o k) (next_by (host_reading k.here k.inlets) k.reader)) (sym e) (follows_unless k k.reader.failure)
