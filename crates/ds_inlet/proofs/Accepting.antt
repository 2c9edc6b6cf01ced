-- A connection reads on as the plain world accepts.
use Rattle.std.proofs.Common.{◌≡◌, ℕ, suc, ◌+◌, ◌-◌, Bool, true, false, List, [], ◌∷◌, ◌++◌, length, Option, Some, None, is_some, slice_get, drop, refl, sym, ap, ap₂, subst, ◌∙◌, append_assoc, length-append, arith}
use Rattle.std.specs.Prelude.{Result, Ok, Err}
use Rattle.std.proofs.lemmas.List.{append-nil}
use Rattle.ds_label.specs.declared.category.PubKey.{PubKey}
use Rattle.ds_label.specs.declared.rule.Rule.{Rule}
use Rattle.ds_script.specs.declared.actor.Actor.{Actor}
use Rattle.ds_cert.specs.declared.lane.LaneCert.{LaneCert}
use Rattle.ds_cert.specs.Fields.{◌>>=◌}
use Rattle.ds_cert.proofs.Steps.{bind_ok, ok_is}
use Rattle.ds_msg.specs.declared.local.LocalMessage.{LocalMessage}
use Rattle.ds_msg.specs.declared.message.Message.{Message}
use Rattle.ds_frame.specs.declared.cause.Cause.{Cause}
use Rattle.ds_frame.specs.declared.item.Failure.{Failure}
use Rattle.ds_frame.specs.declared.item.Frame.{Frame}
use Rattle.ds_frame.specs.declared.item.Item.{Item}
use Rattle.ds_frame.specs.declared.item.Item.TheVariants as items
use Rattle.ds_frame.specs.Fields.{ReadFault, Open, Broken}
use Rattle.ds_frame.specs.Checks.{read_item, read_hello, read_frame}
use Rattle.ds_frame.specs.Reader.{Reader, Answer, lane_after, answer_of, next_unless, next_by}
use Rattle.ds_frame.specs.Laws.{handed_by}
use Rattle.ds_frame.specs.SoFar.{IsSoFar, ahead, ahead_unless, with_front}
use Rattle.ds_frame.specs.Streams.{Stream, with_item, read_on, stream_by}
use Rattle.ds_frame.proofs.Pieces.{so_far_new, so_far_fed, so_far_next, so_far_now, step_ok, step_err}
use Rattle.ds_model.specs.Scheme.{Scheme, InletName, Item as Seen, Hello, Framed, Failure as SeenFailure}
use Rattle.ds_model.specs.Plan.{HostPlan}
use Rattle.ds_model.specs.World.{Conn}
use Rattle.ds_model.specs.ConnectionStep.{ConnAsk, ConnInternal, AsksInlet, hello_of, peer, take_frame, frame_from, fail, accept_item, accept_free, accept, fresh_frame, stale_frame}
use Rattle.ds_frame.specs.declared.item.ReadEnd.{ReadEnd}
use Rattle.ds_frame.specs.declared.item.ReadEnd.TheVariants as ends
use Rattle.ds_inlet.specs.declared.offer.Offer.{Offer}
use Rattle.ds_inlet.specs.declared.offer.ConnEntry.{ConnEntry}
use Rattle.ds_inlet.specs.declared.offer.ConnEntry.TheVariants as entries
use Rattle.ds_inlet.specs.Hosts.{inlet_at, host_item, host_reading, seen_reading, seen_or_none, seen_of_items, seen_failure, items_of}
use Rattle.ds_inlet.specs.Reads.{frame_read}
use Rattle.ds_inlet.specs.OfferedFrames.{OfferedFrame}
use Rattle.ds_inlet.specs.Connections.{Connection, Reads, ReadStep, HasInlet, read_past, frame_seen, seen_step, reading_step, step_unless_failed, step_unless_offered, read_step, settled_as, passed_from, refused_from, lane_inlet, lane_inlet_of, IsForInlet, place_or_0}
use Rattle.ds_inlet.specs.PlainConnections.{plain_conn, taken_of, hellos_of, frames_of, taken_by}
use Rattle.ds_inlet.specs.Accepting.{BeginsWith, IsFine, IsReadSoFar, StaysReadSoFar, inlet_scheme, inlet_plan, Accepts, IsPlainAccept}
use Rattle.ds_inlet.proofs.Steady.{steady_host}
use Rattle.ds_inlet.proofs.Follows.{lane_seen, accords}
use Rattle.ds_inlet.proofs.PlainCalls.{frames_push, plain_fresh, plain_stale}

-- WHAT IS READ

abbrev item_ok : Item × List ℕ → Result (Item × List ℕ) ReadFault
item_ok x = Ok x

abbrev seen_ok : Seen × List ℕ → Result (Seen × List ℕ) ReadFault
seen_ok x = Ok x

-- a hello where there was none yet, else a frame
abbrev IsInTurn : Option LaneCert → Item → Type 0
IsInTurn None (items.Hello lane) = Unit {0}
IsInTurn None (items.Frame frame) = ⊥
IsInTurn (Some before) (items.Hello lane) = ⊥
IsInTurn (Some before) (items.Frame frame) = Unit {0}

abbrev IsSeenInTurn : Option LaneCert → Seen → Type 0
IsSeenInTurn None (Hello lane) = Unit {0}
IsSeenInTurn None (Framed number messages) = ⊥
IsSeenInTurn (Some before) (Hello lane) = ⊥
IsSeenInTurn (Some before) (Framed number messages) = Unit {0}

in_turn : (lane : Option LaneCert) (bytes : List ℕ) (x : Item × List ℕ) → read_item lane bytes ≡ Ok x → IsInTurn lane x.0
unfolding read_item
in_turn None bytes x e =
    let b = bind_ok (read_hello bytes) (λ (hello : LaneCert × List ℕ). item_ok (items.Hello hello.0, hello.1)) x e in
    subst (λ (y : Item × List ℕ). IsInTurn None y.0) (ok_is (items.Hello b.0.0, b.0.1) x b.2) tt
in_turn (Some lane) bytes x e =
    let b = bind_ok (read_frame lane.key bytes) (λ (frame : Frame × List ℕ). item_ok (items.Frame frame.0, frame.1)) x e in
    subst (λ (y : Item × List ℕ). IsInTurn (Some lane) y.0) (ok_is (items.Frame b.0.0, b.0.1) x b.2) tt

seen_in_turn : (here : PubKey) (inlets : List InletName) (lane : Option LaneCert) (item : Item) (seen : Seen) → IsInTurn lane item → lane_seen seen None ≡ lane_after item None → IsSeenInTurn lane seen
seen_in_turn here inlets None (items.Hello l) (Hello m) turn e = tt
seen_in_turn here inlets None (items.Hello l) (Framed number messages) turn e = absurd cc
seen_in_turn here inlets None (items.Frame frame) seen turn e = absurd turn
seen_in_turn here inlets (Some before) (items.Hello l) seen turn e = absurd turn
seen_in_turn here inlets (Some before) (items.Frame frame) (Hello m) turn e = absurd cc
seen_in_turn here inlets (Some before) (items.Frame frame) (Framed number messages) turn e = tt

-- what a reading finds: an item that the host sees, or why it stops
data Found (here : PubKey) (inlets : List InletName) (lane : Option LaneCert) (bytes : List ℕ) : Type 0 where
  Read : (x : Item × List ℕ) (seen : Seen) → host_reading here inlets lane bytes ≡ Ok x → seen_reading here inlets lane bytes ≡ Ok (seen, x.1) → host_item here inlets x.0 ≡ Ok seen → IsSeenInTurn lane seen → Found here inlets lane bytes
  Stopped : (stop : ReadFault) → host_reading here inlets lane bytes ≡ Err stop → seen_reading here inlets lane bytes ≡ Err stop → Found here inlets lane bytes

module _ (here : PubKey) (inlets : List InletName) where
  -- both readings, by what is read and what the host sees of it
  abbrev by_item : Result (Item × List ℕ) ReadFault → Result (Item × List ℕ) ReadFault
  by_item r = r >>= λ (x : Item × List ℕ). host_item here inlets x.0 >>= λ (seen : Seen). item_ok x

  abbrev by_seen : Result (Item × List ℕ) ReadFault → Result (Seen × List ℕ) ReadFault
  by_seen r = r >>= λ (x : Item × List ℕ). host_item here inlets x.0 >>= λ (seen : Seen). seen_ok (seen, x.1)

  read_by : (lane : Option LaneCert) (bytes : List ℕ) → host_reading here inlets lane bytes ≡ by_item (read_item lane bytes)
  unfolding host_reading
  read_by lane bytes = refl

  seen_by : (lane : Option LaneCert) (bytes : List ℕ) → seen_reading here inlets lane bytes ≡ by_seen (read_item lane bytes)
  unfolding seen_reading
  seen_by lane bytes = refl

  found : (lane : Option LaneCert) (bytes : List ℕ) → Found here inlets lane bytes
  found lane bytes = go (read_item lane bytes) refl
    where
      see : (x : Item × List ℕ) → read_item lane bytes ≡ Ok x → (h : Result Seen ReadFault) → host_item here inlets x.0 ≡ h → Found here inlets lane bytes
      see x e (Ok seen) q = Read x seen
          (read_by lane bytes ∙ (ap by_item e ∙ ap (λ (r : Result Seen ReadFault). r >>= λ (s : Seen). item_ok x) q))
          (seen_by lane bytes ∙ (ap by_seen e ∙ ap (λ (r : Result Seen ReadFault). r >>= λ (s : Seen). seen_ok (s, x.1)) q))
          q
          (seen_in_turn here inlets lane x.0 seen (in_turn lane bytes x e) (accords here inlets x.0 seen None q))
      see x e (Err stop) q = Stopped stop
          (read_by lane bytes ∙ (ap by_item e ∙ ap (λ (r : Result Seen ReadFault). r >>= λ (s : Seen). item_ok x) q))
          (seen_by lane bytes ∙ (ap by_seen e ∙ ap (λ (r : Result Seen ReadFault). r >>= λ (s : Seen). seen_ok (s, x.1)) q))

      go : (r : Result (Item × List ℕ) ReadFault) → read_item lane bytes ≡ r → Found here inlets lane bytes
      go (Ok x) e = see x e (host_item here inlets x.0) refl
      go (Err stop) e = Stopped stop (read_by lane bytes ∙ ap by_item e) (seen_by lane bytes ∙ ap by_seen e)

  seen_append : (xs ys : List Item) → seen_of_items here inlets (xs ++ ys) ≡ seen_of_items here inlets xs ++ seen_of_items here inlets ys
  seen_append [] ys = refl
  seen_append (x ∷ xs) ys = ap (λ (later : List Seen). seen_or_none (host_item here inlets x) ++ later) (seen_append xs ys) ∙ sym (append_assoc (seen_or_none (host_item here inlets x)) (seen_of_items here inlets xs) (seen_of_items here inlets ys))

-- LISTS

at_end : {X : Type 0} (xs ys : List X) → slice_get (xs ++ ys) (length xs) ≡ slice_get ys 0
at_end [] ys = refl
at_end (x ∷ xs) ys = at_end xs ys

-- KEPT

-- the parts of a connection on which it depends
abbrev with_parts : Connection → Reader → Option OfferedFrame → Connection
with_parts k reader offered = record k { reader = reader; offered = offered }

module _ (k : Connection) where
  abbrev reading : Option LaneCert → List ℕ → Result (Item × List ℕ) ReadFault
  reading = host_reading k.here k.inlets

  -- one call of next on the reader
  next_is : (r : Result (Item × List ℕ) ReadFault) → k.reader.failure ≡ None → reading k.reader.lane k.reader.rest ≡ r → next_by reading k.reader ≡ answer_of k.reader r
  next_is r fine e = ap (λ (o : Option Failure). next_unless o reading k.reader) fine ∙ ap (answer_of k.reader) e

  after_next : (is : IsReadSoFar k) (r : Result (Item × List ℕ) ReadFault) → k.reader.failure ≡ None → reading k.reader.lane k.reader.rest ≡ r
      → IsSoFar reading k.arrived (is.handed ++ handed_by (answer_of k.reader r).answer) (answer_of k.reader r).reader
  after_next is r fine e = subst (λ (a : Answer). IsSoFar reading k.arrived (is.handed ++ handed_by a.answer) a.reader) (next_is r fine e) (so_far_next reading (steady_host k.here k.inlets) k.arrived is.handed k.reader is.so_far)

  -- after an item, with the lane certificate that is known then
  after_item : (is : IsReadSoFar k) (x : Item × List ℕ) (seen : Seen) → k.reader.failure ≡ None → reading k.reader.lane k.reader.rest ≡ Ok x → host_item k.here k.inlets x.0 ≡ Ok seen
      → IsSoFar reading k.arrived (is.handed ++ x.0 ∷ []) (read_past (lane_seen seen k.reader.lane) x.1 k.reader)
  after_item is x seen fine e sees = subst (λ (l : Option LaneCert). IsSoFar reading k.arrived (is.handed ++ x.0 ∷ []) (read_past l x.1 k.reader)) (sym (accords k.here k.inlets x.0 seen k.reader.lane sees)) (after_next is (Ok x) fine e)

  -- what the host has seen with one item more
  more_seen : (is : IsReadSoFar k) (x : Item) (seen : Seen) → host_item k.here k.inlets x ≡ Ok seen → seen_of_items k.here k.inlets (is.handed ++ x ∷ []) ≡ seen_of_items k.here k.inlets is.handed ++ seen ∷ []
  more_seen is x seen sees =
      seen_append k.here k.inlets is.handed (x ∷ [])
      ∙ ap (λ (r : Result Seen ReadFault). seen_of_items k.here k.inlets is.handed ++ (seen_or_none r ++ [])) sees

  -- where nothing is offered, all of it was taken
  all_taken : (is : IsReadSoFar k) → k.offered ≡ None → seen_of_items k.here k.inlets is.handed ≡ is.items
  all_taken is free = is.seen ∙ ap (λ (o : Option OfferedFrame). is.items ++ frame_read o) free ∙ append-nil is.items

  reads_seen : (is : IsReadSoFar k) (x : Item × List ℕ) (seen : Seen) → k.offered ≡ None → k.reader.failure ≡ None → reading k.reader.lane k.reader.rest ≡ Ok x → host_item k.here k.inlets x.0 ≡ Ok seen → (lane : Option LaneCert) → k.reader.lane ≡ lane → IsSeenInTurn lane seen → IsReadSoFar (seen_step k seen x.1).conn
  reads_seen is x (Hello l) free fine e sees None known turn =
      let nothing : seen_of_items k.here k.inlets is.handed ≡ [] = subst (λ (o : Option LaneCert). BeginsWith o (seen_of_items k.here k.inlets is.handed)) known is.begins in
      let none : length is.items ≡ 0 = ap (λ (xs : List Seen). length xs) (sym (all_taken is free) ∙ nothing) in
      let hellos : hellos_of k.reader.lane ≡ 0 = ap hellos_of known in
      let read : seen_of_items k.here k.inlets (is.handed ++ x.0 ∷ []) ≡ Hello l ∷ [] = more_seen is x.0 (Hello l) sees ∙ ap (λ (xs : List Seen). xs ++ Hello l ∷ []) nothing in
      record {
        handed = is.handed ++ x.0 ∷ [];
        items = Hello l ∷ [];
        so_far = after_item is x (Hello l) fine e sees;
        seen = read ∙ ap (λ (o : Option OfferedFrame). Hello l ∷ frame_read o) (sym free);
        begins = ([], read);
        count = omega (arith, is.count, hellos, none);
        fine = subst (λ (o : Option OfferedFrame). IsFine o k.reader.failure) (sym free) tt;
      }
  reads_seen is x (Framed number messages) free fine e sees None known turn = absurd turn
  reads_seen is x (Hello l) free fine e sees (Some before) known turn = absurd turn
  reads_seen is x (Framed number messages) free fine e sees (Some before) known turn =
      let first : BeginsWith (Some before) (seen_of_items k.here k.inlets is.handed) = subst (λ (o : Option LaneCert). BeginsWith o (seen_of_items k.here k.inlets is.handed)) known is.begins in
      let read = more_seen is x.0 (Framed number messages) sees in
      let still : BeginsWith (Some before) (seen_of_items k.here k.inlets (is.handed ++ x.0 ∷ [])) = (first.0 ++ Framed number messages ∷ [], read ∙ ap (λ (xs : List Seen). xs ++ Framed number messages ∷ []) first.1) in
      record {
        handed = is.handed ++ x.0 ∷ [];
        items = is.items;
        so_far = after_item is x (Framed number messages) fine e sees;
        seen = read ∙ ap (λ (xs : List Seen). xs ++ Framed number messages ∷ []) (all_taken is free);
        begins = subst (λ (o : Option LaneCert). BeginsWith o (seen_of_items k.here k.inlets (is.handed ++ x.0 ∷ []))) (sym known) still;
        count = is.count;
        fine = fine;
      }

  reads_stop : (is : IsReadSoFar k) (stop : ReadFault) → k.offered ≡ None → k.reader.failure ≡ None → reading k.reader.lane k.reader.rest ≡ Err stop → IsReadSoFar (reading_step k (Err stop)).conn
  reads_stop is Open free fine e = is
  reads_stop is (Broken cause offset) free fine e = record {
    handed = is.handed;
    items = is.items;
    so_far = subst (λ (xs : List Item). IsSoFar reading k.arrived xs (answer_of k.reader (Err (Broken cause offset))).reader) (append-nil is.handed) (after_next is (Err (Broken cause offset)) fine e);
    seen = is.seen;
    begins = is.begins;
    count = is.count;
    fine = subst (λ (o : Option OfferedFrame). IsFine o (Some (record { cause = cause; place = k.reader.passed + offset }))) (sym free) tt;
  }

  reads_found : (is : IsReadSoFar k) → k.offered ≡ None → k.reader.failure ≡ None → Found k.here k.inlets k.reader.lane k.reader.rest → IsReadSoFar (reading_step k (seen_reading k.here k.inlets k.reader.lane k.reader.rest)).conn
  reads_found is free fine (Read x seen e f sees turn) = subst (λ (r : Result (Seen × List ℕ) ReadFault). IsReadSoFar (reading_step k r).conn) (sym f) (reads_seen is x seen free fine e sees k.reader.lane refl turn)
  reads_found is free fine (Stopped stop e f) = subst (λ (r : Result (Seen × List ℕ) ReadFault). IsReadSoFar (reading_step k r).conn) (sym f) (reads_stop is stop free fine e)

  reads_unless : (is : IsReadSoFar k) → k.offered ≡ None → (o : Option Failure) → k.reader.failure ≡ o → IsReadSoFar (step_unless_failed o k).conn
  reads_unless is free None fine = reads_found is free fine (found k.here k.inlets k.reader.lane k.reader.rest)
  reads_unless is free (Some failure) fine = is

  reads_offered : (is : IsReadSoFar k) → (o : Option OfferedFrame) → k.offered ≡ o → IsReadSoFar (step_unless_offered o k).conn
  reads_offered is None free = reads_unless is free k.reader.failure refl
  reads_offered is (Some o) free = is

  -- one item is settled
  settles_by : (is : IsReadSoFar k) (fresh : Bool) (o : Option OfferedFrame) → k.offered ≡ o → IsReadSoFar (settled_as fresh o k)
  settles_by is fresh None free = settles_none fresh
    where
      settles_none : (b : Bool) → IsReadSoFar (settled_as b None k)
      settles_none true = is
      settles_none false = is
  settles_by is true (Some o) there = record {
    handed = is.handed;
    items = is.items ++ Framed o.number o.messages ∷ [];
    so_far = is.so_far;
    seen = is.seen ∙ ap (λ (x : Option OfferedFrame). is.items ++ frame_read x) there ∙ sym (append-nil (is.items ++ Framed o.number o.messages ∷ []));
    begins = is.begins;
    count = omega (arith, is.count, length-append is.items (Framed o.number o.messages ∷ []), frames_push k.entries (entries.Frame o.number (length o.messages)));
    fine = tt;
  }
  settles_by is false (Some o) there = record {
    handed = is.handed;
    items = is.items ++ Framed o.number o.messages ∷ [];
    so_far = is.so_far;
    seen = is.seen ∙ ap (λ (x : Option OfferedFrame). is.items ++ frame_read x) there ∙ sym (append-nil (is.items ++ Framed o.number o.messages ∷ []));
    begins = is.begins;
    count = omega (arith, is.count, length-append is.items (Framed o.number o.messages ∷ []), frames_push k.entries (entries.Stale o.number));
    fine = tt;
  }

  -- a message passes or is dropped
  passes_by : (is : IsReadSoFar k) (message : LocalMessage) (hand : List Message) → IsReadSoFar (passed_from message hand k)
  passes_by is message [] = is
  passes_by is message (first ∷ rest) = record { handed = is.handed; items = is.items; so_far = is.so_far; seen = is.seen; begins = is.begins; count = omega (arith, is.count, frames_push k.entries (entries.Pass first.slot)); fine = is.fine }

  drops_by : (is : IsReadSoFar k) (rule : Rule) (hand : List Message) → IsReadSoFar (refused_from rule hand k)
  drops_by is rule [] = is
  drops_by is rule (first ∷ rest) = record { handed = is.handed; items = is.items; so_far = is.so_far; seen = is.seen; begins = is.begins; count = omega (arith, is.count, frames_push k.entries (entries.Drop rule first.slot)); fine = is.fine }

  hands_by : (is : IsReadSoFar k) (passed : Option (ℕ × LocalMessage)) → IsReadSoFar (record k { passed = passed })
  hands_by is passed = record { handed = is.handed; items = is.items; so_far = is.so_far; seen = is.seen; begins = is.begins; count = is.count; fine = is.fine }

  arrives_by : (is : IsReadSoFar k) (piece : List ℕ) → IsReadSoFar (record k { arrived = k.arrived ++ piece; reader = record k.reader { rest = k.reader.rest ++ piece } })
  arrives_by is piece = record { handed = is.handed; items = is.items; so_far = so_far_fed reading (steady_host k.here k.inlets) k.arrived piece is.handed k.reader is.so_far; seen = is.seen; begins = is.begins; count = is.count; fine = is.fine }

pub stays : StaysReadSoFar
stays = record {
  new = λ who here inlets. record { handed = []; items = []; so_far = so_far_new (host_reading here inlets) (steady_host here inlets); seen = refl; begins = refl; count = refl; fine = tt };
  arrives = λ piece k is. arrives_by k is piece;
  reads = λ k is. reads_offered k is k.offered refl;
  settles = λ fresh k is. settles_by k is fresh k.offered refl;
  passes = λ message k is. passes_by k is message k.hand;
  drops = λ rule k is. drops_by k is rule k.hand;
  hands = λ passed k is. hands_by k is passed;
}

-- THE PLAIN WORLD'S ACCEPT

module _ (s : Scheme) (plan : HostPlan) (link : List ℕ) (k : Connection) (is : IsReadSoFar k) (free : k.offered ≡ None) where
  abbrev here_plan : HostPlan
  here_plan = inlet_plan plan k

  abbrev S : Scheme
  S = inlet_scheme s

  abbrev y : Conn
  y = plain_conn link None k

  abbrev following : Stream
  following = read_on (host_reading k.here k.inlets) (suc (length k.reader.rest)) k.reader.lane k.reader.passed k.reader.rest

  -- all that the host reads of what arrived
  whole : k.reader.failure ≡ None → stream_by (host_reading k.here k.inlets) k.arrived ≡ with_front is.handed following
  whole fine = so_far_now (host_reading k.here k.inlets) (steady_host k.here k.inlets) k.arrived is.handed k.reader is.so_far ∙ ap (λ (o : Option Failure). with_front is.handed (ahead_unless o (host_reading k.here k.inlets) k.reader)) fine

  items_now : (t : Stream) → k.reader.failure ≡ None → following ≡ t → items_of k.here k.inlets k.arrived ≡ is.items ++ seen_of_items k.here k.inlets t.items
  items_now t fine e =
      ap (λ (u : Stream). seen_of_items k.here k.inlets u.items) (whole fine ∙ ap (with_front is.handed) e)
      ∙ (seen_append k.here k.inlets is.handed t.items ∙ ap (λ (xs : List Seen). xs ++ seen_of_items k.here k.inlets t.items) (all_taken k is free))

  next_item : (t : Stream) → k.reader.failure ≡ None → following ≡ t → slice_get (items_of k.here k.inlets k.arrived) (taken_of k) ≡ slice_get (seen_of_items k.here k.inlets t.items) 0
  next_item t fine e =
      ap₂ (λ (xs : List Seen) (n : ℕ). slice_get xs n) (items_now t fine e) (sym is.count) ∙ at_end is.items (seen_of_items k.here k.inlets t.items)

  -- the next item is what is accepted
  asks : (o : Option Seen) → slice_get (items_of k.here k.inlets k.arrived) (taken_of k) ≡ o → accept_free S here_plan y k.arrived [] None None ≡ accept_item S here_plan y k.arrived o
  asks o e = ap (accept_item S here_plan y k.arrived) e

  peer_now : (lane : LaneCert) (t : Stream) → k.reader.failure ≡ None → following ≡ t → k.reader.lane ≡ Some lane → peer S here_plan k.arrived ≡ Some lane
  peer_now lane t fine e known =
      let first : BeginsWith (Some lane) (seen_of_items k.here k.inlets is.handed) = subst (λ (o : Option LaneCert). BeginsWith o (seen_of_items k.here k.inlets is.handed)) known is.begins in
      ap (λ (xs : List Seen). hello_of (slice_get xs 0)) (items_now t fine e ∙ ap (λ (xs : List Seen). xs ++ seen_of_items k.here k.inlets t.items) (sym (all_taken k is free) ∙ first.1))

  -- what becomes of a frame, by its inlet
  taken_by_inlet : (number : ℕ) (messages : List Message) (o : Option ℕ) → is_some o ≡ true → take_frame y number messages o ≡ AsksInlet (place_or_0 o) number (fresh_frame y number messages) (stale_frame y number)
  taken_by_inlet number messages (Some i) there = refl
  taken_by_inlet number messages None there = absurd cc

  -- one item more
  abbrev tail_of : Item × List ℕ → Stream
  tail_of x = read_on (host_reading k.here k.inlets) (suc (length x.1)) (lane_after x.0 k.reader.lane) (k.reader.passed + (length k.reader.rest - length x.1)) x.1

  one_more : (x : Item × List ℕ) → host_reading k.here k.inlets k.reader.lane k.reader.rest ≡ Ok x → following ≡ with_item x.0 (tail_of x)
  one_more x e = step_ok (host_reading k.here k.inlets) (steady_host k.here k.inlets) k.reader.lane k.reader.passed k.reader.rest x e

  accepts_item : (x : Item × List ℕ) (seen : Seen) → k.reader.failure ≡ None → host_reading k.here k.inlets k.reader.lane k.reader.rest ≡ Ok x → host_item k.here k.inlets x.0 ≡ Ok seen → accept_free S here_plan y k.arrived [] None None ≡ accept_item S here_plan y k.arrived (Some seen)
  accepts_item x seen fine e sees = asks (Some seen) (next_item (with_item x.0 (tail_of x)) fine (one_more x e) ∙ ap (λ (r : Result Seen ReadFault). slice_get (seen_or_none r ++ seen_of_items k.here k.inlets (tail_of x).items) 0) sees)

  accepts_seen : (x : Item × List ℕ) (seen : Seen) → k.reader.failure ≡ None → HasInlet k.inlets k.reader.lane → host_reading k.here k.inlets k.reader.lane k.reader.rest ≡ Ok x → host_item k.here k.inlets x.0 ≡ Ok seen
      → (lane : Option LaneCert) → k.reader.lane ≡ lane → IsSeenInTurn lane seen → Accepts link None (seen_step k seen x.1).answer (seen_step k seen x.1).conn (accept_free S here_plan y k.arrived [] None None)
  accepts_seen x (Hello l) fine inlet e sees None known turn =
      let count : suc (taken_of k) ≡ hellos_of (Some l) + frames_of k.entries = omega (arith, ap hellos_of known) in
      accepts_item x (Hello l) fine e sees ∙ ap (λ (n : ℕ). ConnInternal (record y { taken = n })) count
  accepts_seen x (Framed number messages) fine inlet e sees None known turn = absurd turn
  accepts_seen x (Hello l) fine inlet e sees (Some before) known turn = absurd turn
  accepts_seen x (Framed number messages) fine inlet e sees (Some before) known turn =
      let there : is_some (inlet_at k.inlets before) ≡ true = subst (λ (o : Option LaneCert). HasInlet k.inlets o) known inlet in
      let after = (seen_step k (Framed number messages) x.1).conn in
      accepts_item x (Framed number messages) fine e sees
      ∙ (ap (frame_from here_plan y number messages) (peer_now before (with_item x.0 (tail_of x)) fine (one_more x e) known)
      ∙ (taken_by_inlet number messages (inlet_at k.inlets before) there
      ∙ (ap (λ (i : ℕ). AsksInlet i number (fresh_frame y number messages) (stale_frame y number)) (sym (ap (lane_inlet k.inlets) known))
      ∙ ap₂ (λ (f g : Conn). AsksInlet (lane_inlet k.inlets k.reader.lane) number f g) (sym (plain_fresh link None after (frame_seen k number messages) refl)) (sym (plain_stale link None after (frame_seen k number messages) refl)))))

  nothing_more_read : (t : Stream) (o : Option SeenFailure) → k.reader.failure ≡ None → following ≡ t → t.items ≡ [] → seen_failure t.ending ≡ o → accept_free S here_plan y k.arrived [] None None ≡ fail y o
  nothing_more_read t o fine e none ends =
      asks None (next_item t fine e ∙ ap (λ (xs : List Item). slice_get (seen_of_items k.here k.inlets xs) 0) none)
      ∙ ap (fail y) (ap (λ (u : Stream). seen_failure u.ending) (whole fine ∙ ap (with_front is.handed) e) ∙ ends)

  accepts_stop : (stop : ReadFault) → k.reader.failure ≡ None → host_reading k.here k.inlets k.reader.lane k.reader.rest ≡ Err stop → Accepts link None (reading_step k (Err stop)).answer (reading_step k (Err stop)).conn (accept_free S here_plan y k.arrived [] None None)
  accepts_stop Open fine e = nothing_more_read _ None fine (step_err (host_reading k.here k.inlets) (steady_host k.here k.inlets) k.reader.lane k.reader.passed k.reader.rest Open e) refl refl
  accepts_stop (Broken cause offset) fine e = nothing_more_read _ (seen_failure (Some (record { cause = cause; place = k.reader.passed + offset }))) fine (step_err (host_reading k.here k.inlets) (steady_host k.here k.inlets) k.reader.lane k.reader.passed k.reader.rest (Broken cause offset) e) refl refl

  accepts_found : k.reader.failure ≡ None → HasInlet k.inlets k.reader.lane → Found k.here k.inlets k.reader.lane k.reader.rest
      → Accepts link None (reading_step k (seen_reading k.here k.inlets k.reader.lane k.reader.rest)).answer (reading_step k (seen_reading k.here k.inlets k.reader.lane k.reader.rest)).conn (accept_free S here_plan y k.arrived [] None None)
  accepts_found fine inlet (Read x seen e f sees turn) = subst (λ (r : Result (Seen × List ℕ) ReadFault). Accepts link None (reading_step k r).answer (reading_step k r).conn (accept_free S here_plan y k.arrived [] None None)) (sym f) (accepts_seen x seen fine inlet e sees k.reader.lane refl turn)
  accepts_found fine inlet (Stopped stop e f) = subst (λ (r : Result (Seen × List ℕ) ReadFault). Accepts link None (reading_step k r).answer (reading_step k r).conn (accept_free S here_plan y k.arrived [] None None)) (sym f) (accepts_stop stop fine e)

  accepts_unless : (o : Option Failure) → k.reader.failure ≡ o → HasInlet k.inlets k.reader.lane → Accepts link o (step_unless_failed o k).answer (step_unless_failed o k).conn (accept_free S here_plan y k.arrived [] None (seen_failure o))
  accepts_unless None fine inlet = accepts_found fine inlet (found k.here k.inlets k.reader.lane k.reader.rest)
  accepts_unless (Some failure) broken inlet = refl

-- a frame that was offered before
module _ (s : Scheme) (plan : HostPlan) (link : List ℕ) (k : Connection) (is : IsReadSoFar k) (o : OfferedFrame) (there : k.offered ≡ Some o) where
  abbrev rest_ahead : Stream
  rest_ahead = ahead (host_reading k.here k.inlets) k.reader

  items_offered : items_of k.here k.inlets k.arrived ≡ is.items ++ Framed o.number o.messages ∷ seen_of_items k.here k.inlets rest_ahead.items
  items_offered =
      ap (λ (u : Stream). seen_of_items k.here k.inlets u.items) (so_far_now (host_reading k.here k.inlets) (steady_host k.here k.inlets) k.arrived is.handed k.reader is.so_far)
      ∙ (seen_append k.here k.inlets is.handed rest_ahead.items
      ∙ (ap (λ (xs : List Seen). xs ++ seen_of_items k.here k.inlets rest_ahead.items) (is.seen ∙ ap (λ (x : Option OfferedFrame). is.items ++ frame_read x) there)
      ∙ append_assoc is.items (Framed o.number o.messages ∷ []) (seen_of_items k.here k.inlets rest_ahead.items)))

  peer_offered : (lane : LaneCert) → k.reader.lane ≡ Some lane → peer (inlet_scheme s) (inlet_plan plan k) k.arrived ≡ Some lane
  peer_offered lane known =
      let first : BeginsWith (Some lane) (seen_of_items k.here k.inlets is.handed) = subst (λ (l : Option LaneCert). BeginsWith l (seen_of_items k.here k.inlets is.handed)) known is.begins in
      ap (λ (xs : List Seen). hello_of (slice_get xs 0))
      (ap (λ (u : Stream). seen_of_items k.here k.inlets u.items) (so_far_now (host_reading k.here k.inlets) (steady_host k.here k.inlets) k.arrived is.handed k.reader is.so_far)
      ∙ (seen_append k.here k.inlets is.handed rest_ahead.items
      ∙ ap (λ (xs : List Seen). xs ++ seen_of_items k.here k.inlets rest_ahead.items) first.1))

  fine_now : k.reader.failure ≡ None
  fine_now = subst (λ (x : Option OfferedFrame). IsFine x k.reader.failure) there is.fine

  accepts_by : (lane : Option LaneCert) → k.reader.lane ≡ lane → lane_inlet_of k.inlets lane ≡ Some o.inlet
      → accept_free (inlet_scheme s) (inlet_plan plan k) (plain_conn link None k) k.arrived [] None None ≡ AsksInlet o.inlet o.number (plain_conn link None (settled_as true (Some o) k)) (plain_conn link None (settled_as false (Some o) k))
  accepts_by None known seated = absurd cc
  accepts_by (Some lane) known seated =
      let y : Conn = plain_conn link None k in
      let item : slice_get (items_of k.here k.inlets k.arrived) (taken_of k) ≡ Some (Framed o.number o.messages) = ap₂ (λ (xs : List Seen) (n : ℕ). slice_get xs n) items_offered (sym is.count) ∙ at_end is.items (Framed o.number o.messages ∷ seen_of_items k.here k.inlets rest_ahead.items) in
      ap (accept_item (inlet_scheme s) (inlet_plan plan k) y k.arrived) item
      ∙ (ap (frame_from (inlet_plan plan k) y o.number o.messages) (peer_offered lane known)
      ∙ (ap (take_frame y o.number o.messages) seated
      ∙ ap₂ (λ (f g : Conn). AsksInlet o.inlet o.number f g)
      (sym (subst (λ (x : Option OfferedFrame). plain_conn link None (settled_as true x k) ≡ fresh_frame y o.number o.messages) there (plain_fresh link None k o there)))
      (sym (subst (λ (x : Option OfferedFrame). plain_conn link None (settled_as false x k) ≡ stale_frame y o.number) there (plain_stale link None k o there)))))

accepts_offered : (s : Scheme) (plan : HostPlan) (link : List ℕ) (k : Connection) (is : IsReadSoFar k) → HasInlet k.inlets k.reader.lane → (o : Option OfferedFrame) → k.offered ≡ o → IsForInlet (lane_inlet_of k.inlets k.reader.lane) o
    → Accepts link k.reader.failure (step_unless_offered o k).answer (step_unless_offered o k).conn (accept_free (inlet_scheme s) (inlet_plan plan k) (plain_conn link None k) k.arrived [] None (seen_failure k.reader.failure))
accepts_offered s plan link k is inlet None free seated = accepts_unless s plan link k is free k.reader.failure refl inlet
accepts_offered s plan link k is inlet (Some o) there seated =
    ap (λ (f : Option Failure). accept_free (inlet_scheme s) (inlet_plan plan k) (plain_conn link None k) k.arrived [] None (seen_failure f)) (fine_now s plan link k is o there)
    ∙ (accepts_by s plan link k is o there k.reader.lane refl seated
    ∙ ap₂ (λ (f g : Conn). AsksInlet o.inlet o.number f g) (ap (λ (x : Option OfferedFrame). plain_conn link None (settled_as true x k)) (sym there)) (ap (λ (x : Option OfferedFrame). plain_conn link None (settled_as false x k)) (sym there)))

pub accepts : IsPlainAccept
accepts s plan link k is inlet seated hand =
    subst (λ (hs : List Message). Accepts link k.reader.failure (read_step k).answer (read_step k).conn (accept_free (inlet_scheme s) (inlet_plan plan k) (plain_conn link None k) k.arrived hs None (seen_failure k.reader.failure))) (sym hand)
    (accepts_offered s plan link k is inlet k.offered refl seated)

-- OF THE CODE'S CALLS

-- after an item that the host sees, and after a fault
pub reads_ok : (k : Connection) (x : Seen × List ℕ) → IsReadSoFar k → k.offered ≡ None → k.reader.failure ≡ None → seen_reading k.here k.inlets k.reader.lane k.reader.rest ≡ Ok x → IsReadSoFar (seen_step k x.0 x.1).conn
reads_ok k x is free fine e = subst (λ (r : Result (Seen × List ℕ) ReadFault). IsReadSoFar (reading_step k r).conn) e (reads_found k is free fine (found k.here k.inlets k.reader.lane k.reader.rest))

pub reads_broken : (k : Connection) (cause : Cause) (offset : ℕ) → IsReadSoFar k → k.offered ≡ None → k.reader.failure ≡ None → seen_reading k.here k.inlets k.reader.lane k.reader.rest ≡ Err (Broken cause offset)
    → IsReadSoFar (record k { reader = record k.reader { failure = Some (record { cause = cause; place = k.reader.passed + offset }) } })
reads_broken k cause offset is free fine e = subst (λ (r : Result (Seen × List ℕ) ReadFault). IsReadSoFar (reading_step k r).conn) e (reads_found k is free fine (found k.here k.inlets k.reader.lane k.reader.rest))

-- what a call of read told, it told of the plain world's accept
pub accepts_reads : (k : Connection) (result : Result Offer ReadEnd) (after : Connection) → IsReadSoFar k → HasInlet k.inlets k.reader.lane → IsForInlet (lane_inlet_of k.inlets k.reader.lane) k.offered → k.hand ≡ [] → Reads k result after
    → (s : Scheme) (plan : HostPlan) (link : List ℕ) → Accepts link k.reader.failure result after (accept (inlet_scheme s) (inlet_plan plan k) (plain_conn link None k) k.arrived)
accepts_reads k result after is inlet seated hand reads s plan link = go result reads
  where
    ask : ConnAsk
    ask = accept (inlet_scheme s) (inlet_plan plan k) (plain_conn link None k) k.arrived

    told : (r : Result Offer ReadEnd) → read_step k ≡ record { answer = r; conn = after } → Accepts link k.reader.failure r after ask
    told r e = subst (λ (t : ReadStep). Accepts link k.reader.failure t.answer t.conn ask) e (accepts s plan link k is inlet seated hand)

    go : (r : Result Offer ReadEnd) → Reads k r after → Accepts link k.reader.failure r after ask
    go (Ok offer) e = told (Ok offer) e
    go (Err ends.NotYet) e = told (Err ends.NotYet) e
    go (Err (ends.BadFrame cause place)) e = told (Err (ends.BadFrame cause place)) e
    go (Err ends.NoMemory) e = tt

-- after a frame was settled, whatever the hand holds then
pub settled_kept : (k : Connection) (o : OfferedFrame) (entry : ConnEntry) (offered : Option OfferedFrame) (hand : List Message) (es : List ConnEntry) → IsReadSoFar k → k.offered ≡ Some o → taken_by entry ≡ 1 → offered ≡ None → es ≡ k.entries ++ entry ∷ []
    → IsReadSoFar (record k { offered = offered; hand = hand; entries = es })
settled_kept k o entry offered hand es is there one gone more =
    subst (λ (x : Option OfferedFrame). IsReadSoFar (record k { offered = x; hand = hand; entries = es })) (sym gone)
    (subst (λ (y : List ConnEntry). IsReadSoFar (record k { offered = None; hand = hand; entries = y })) (sym more)
    (record {
      handed = is.handed;
      items = is.items ++ Framed o.number o.messages ∷ [];
      so_far = is.so_far;
      seen = is.seen ∙ ap (λ (x : Option OfferedFrame). is.items ++ frame_read x) there ∙ sym (append-nil (is.items ++ Framed o.number o.messages ∷ []));
      begins = is.begins;
      count = omega (arith, is.count, one, length-append is.items (Framed o.number o.messages ∷ []), frames_push k.entries entry);
      fine = tt;
    }))

-- after a message left the hand
pub judged_kept : (k : Connection) (entry : ConnEntry) (hand : List Message) (passed : Option (ℕ × LocalMessage)) (es : List ConnEntry) → IsReadSoFar k → taken_by entry ≡ 0 → es ≡ k.entries ++ entry ∷ []
    → IsReadSoFar (record k { hand = hand; passed = passed; entries = es })
judged_kept k entry hand passed es is none more =
    subst (λ (y : List ConnEntry). IsReadSoFar (record k { hand = hand; passed = passed; entries = y })) (sym more)
    (record { handed = is.handed; items = is.items; so_far = is.so_far; seen = is.seen; begins = is.begins; count = omega (arith, is.count, none, frames_push k.entries entry); fine = is.fine })

-- before any byte
pub new_kept : (who : Actor) (here : PubKey) (inlets : List InletName) (bytes : List ℕ) (hand : List Message) (es : List ConnEntry) → bytes ≡ [] → es ≡ []
    → IsReadSoFar (record { who = who; here = here; inlets = inlets; arrived = bytes; reader = record { rest = drop 0 bytes; passed = 0; lane = None; failure = None }; offered = None; hand = hand; passed = None; entries = es })
new_kept who here inlets bytes hand es none nothing =
    subst (λ (b : List ℕ). IsReadSoFar (record { who = who; here = here; inlets = inlets; arrived = b; reader = record { rest = drop 0 b; passed = 0; lane = None; failure = None }; offered = None; hand = hand; passed = None; entries = es })) (sym none)
    (subst (λ (y : List ConnEntry). IsReadSoFar (record { who = who; here = here; inlets = inlets; arrived = []; reader = record { rest = []; passed = 0; lane = None; failure = None }; offered = None; hand = hand; passed = None; entries = y })) (sym nothing)
    (record { handed = []; items = []; so_far = so_far_new (host_reading here inlets) (steady_host here inlets); seen = refl; begins = refl; count = refl; fine = tt }))
