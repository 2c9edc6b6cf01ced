-- A frame that a host read stands in the stream, and what it means that it stands there.
use Rattle.std.proofs.Common.{◌≡◌, ℕ, zero, suc, ◌+◌, ◌-◌, Bool, true, false, eqb, List, [], ◌∷◌, ◌++◌, length, Some, refl, sym, ap, subst, ◌∙◌}
use Rattle.std.specs.Prelude.{Result, Ok, Err, slice_get, ◌&&◌, ◌||◌, bytes_eq}
use Rattle.std.proofs.lemmas.Bool.Decides.{Decides-eqb}
use Rattle.std.proofs.lemmas.Slice.Eq.{bytes_eq-Decides}
use Rattle.ds_label.specs.declared.category.PubKey.{PubKey}
use Rattle.ds_cert.specs.declared.lane.LaneCert.{LaneCert}
use Rattle.ds_msg.specs.declared.message.Message.{Message}
use Rattle.ds_frame.specs.declared.item.Frame.{Frame}
use Rattle.ds_frame.specs.declared.item.Item.{Item}
use Rattle.ds_frame.specs.declared.item.Item.TheVariants as items
use Rattle.ds_frame.specs.Checks.{read_frame}
use Rattle.ds_frame.specs.Fields.{ReadFault, Open, Broken, number_from}
use Rattle.ds_frame.specs.Outer.{read_outer_frame}
use Rattle.ds_frame.specs.Reader.{lane_after}
use Rattle.ds_frame.specs.Streams.{read_on, joined}
use Rattle.ds_model.specs.Scheme.{InletName, Item as Seen, Hello, Framed}
use Rattle.ds_inlet.specs.Hosts.{messages_from, host_item, host_reading, seen_of_items, seen_or_none, items_of}
use Rattle.ds_scheme.specs.StandingFrames.{bodies_of, same_bodies, are_spelled_as, is_frame_of, frame_stands}
use Rattle.ds_scheme.proofs.Suffixes.{leaves_frame, leaves_hello}
use Rattle.ds_scheme.proofs.Firsts.{frame_item, host_read, sees_frame, seen_on, first_lane, begins_with}

abbrev all_read : List Message → Result (List Message) ReadFault
all_read messages = Ok messages

or_right : (a b : Bool) → b ≡ true → (a || b) ≡ true
or_right true b e = refl
or_right false b e = e

or_left : (a b : Bool) → a ≡ true → (a || b) ≡ true
or_left true b e = refl
or_left false b e = absurd cc

and_true : (a b : Bool) → a ≡ true → b ≡ true → (a && b) ≡ true
and_true true b e f = f
and_true false b e f = absurd cc

same_itself : (bodies : List (List ℕ)) → same_bodies bodies bodies ≡ true
same_itself [] = refl
same_itself (body ∷ bodies) = and_true (bytes_eq body body) (same_bodies bodies bodies) ((bytes_eq-Decides body body).1 refl) (same_itself bodies)

-- a frame that was read, with these messages
pub found_frame : (number : ℕ) (messages : List Message) (x : Frame × List ℕ) → x.0.number ≡ number → messages_from 11 x.0.bodies ≡ Ok messages → is_frame_of number messages (Ok x) ≡ true
found_frame number messages x is read =
    and_true (eqb x.0.number number) (are_spelled_as messages (messages_from 11 x.0.bodies)) (subst (λ (n : ℕ). eqb x.0.number n ≡ true) is ((Decides-eqb x.0.number x.0.number).1 refl))
    (ap (are_spelled_as messages) read ∙ same_itself (bodies_of messages))

module _ (key : PubKey) (number : ℕ) (messages : List Message) where
  nothing_read : is_frame_of number messages (read_frame key []) ≡ true → ⊥
  unfolding read_frame read_outer_frame number_from
  nothing_read f = absurd cc

  -- where it stands at the front, it stands
  pub stands_here : (bytes : List ℕ) → is_frame_of number messages (read_frame key bytes) ≡ true → frame_stands key number messages bytes ≡ true
  stands_here [] e = absurd (nothing_read e)
  stands_here (byte ∷ rest) e = or_left (is_frame_of number messages (read_frame key (byte ∷ rest))) (frame_stands key number messages rest) e

  -- also with more bytes before it
  pub stands_behind : (front bytes : List ℕ) → frame_stands key number messages bytes ≡ true → frame_stands key number messages (front ++ bytes) ≡ true
  stands_behind [] bytes e = e
  stands_behind (byte ∷ front) bytes e = or_right (is_frame_of number messages (read_frame key (byte ∷ (front ++ bytes)))) (frame_stands key number messages (front ++ bytes)) (stands_behind front bytes e)

module _ (here : PubKey) (inlets : List InletName) (lane : LaneCert) where
  -- each frame that is read of what stands behind the hello
  signed_on : (most passed : ℕ) (bytes : List ℕ) (j number : ℕ) (messages : List Message) → slice_get (seen_on here inlets most (Some lane) passed bytes) j ≡ Some (Framed number messages) → frame_stands lane.key number messages bytes ≡ true
  unfolding read_on
  signed_on zero passed bytes j number messages e = absurd cc
  signed_on (suc most) passed bytes j number messages e =
      signed_next most passed bytes j number messages (λ next rest i there. signed_on most next rest i number messages there) (host_reading here inlets (Some lane) bytes) refl e
    where
      -- the first one, or one behind it
      signed_at : (bytes rest : List ℕ) (j number : ℕ) (messages : List Message) (seen : Seen) (later : List Seen) → (seen ≡ Framed number messages → frame_stands lane.key number messages bytes ≡ true)
          → ((i : ℕ) → slice_get later i ≡ Some (Framed number messages) → frame_stands lane.key number messages bytes ≡ true)
          → slice_get (seen ∷ later) j ≡ Some (Framed number messages) → frame_stands lane.key number messages bytes ≡ true
      signed_at bytes rest zero number messages seen later first behind e = first cc
      signed_at bytes rest (suc j) number messages seen later first behind e = behind j e

      signed_next : (most passed : ℕ) (bytes : List ℕ) (j number : ℕ) (messages : List Message)
          → ((next : ℕ) (rest : List ℕ) (i : ℕ) → slice_get (seen_on here inlets most (Some lane) next rest) i ≡ Some (Framed number messages) → frame_stands lane.key number messages rest ≡ true)
          → (r : Result (Item × List ℕ) ReadFault) → host_reading here inlets (Some lane) bytes ≡ r
          → slice_get (seen_of_items here inlets (joined passed (λ item rest. read_on (host_reading here inlets) most (lane_after item (Some lane)) (passed + (length bytes - length rest)) rest) r).items) j ≡ Some (Framed number messages)
          → frame_stands lane.key number messages bytes ≡ true
      signed_next most passed bytes j number messages later (Err Open) told e = absurd cc
      signed_next most passed bytes j number messages later (Err (Broken cause offset)) told e = absurd cc
      signed_next most passed bytes j number messages later (Ok x) told e =
          let r = host_read here inlets (Some lane) bytes x told in
          let f = frame_item lane bytes x r.item in
          let sees : host_item here inlets (items.Frame f.frame) ≡ Ok r.seen = subst (λ (item : Item). host_item here inlets item ≡ Ok r.seen) f.is r.sees in
          let s = sees_frame here inlets f.frame r.seen sees in
          let next = passed + (length bytes - length x.1) in
          let all : seen_or_none (host_item here inlets x.0) ++ seen_on here inlets most (lane_after x.0 (Some lane)) next x.1 ≡ r.seen ∷ seen_on here inlets most (Some lane) next x.1 =
          ap (λ (front : List Seen). front ++ seen_on here inlets most (lane_after x.0 (Some lane)) next x.1) (ap seen_or_none r.sees) ∙ ap (λ (item : Item). r.seen ∷ seen_on here inlets most (lane_after item (Some lane)) next x.1) f.is in
          let part = leaves_frame lane.key bytes (f.frame, x.1) f.read in
          signed_at bytes x.1 j number messages r.seen (seen_on here inlets most (Some lane) next x.1)
          (λ is. let same : Framed f.frame.number s.messages ≡ Framed number messages = sym s.is ∙ is in
          let same_number : f.frame.number ≡ number = cc in
          let same_messages : s.messages ≡ messages = cc in
          let read : messages_from 11 f.frame.bodies ≡ Ok messages = s.read ∙ ap all_read same_messages in
          stands_here lane.key number messages bytes (ap (is_frame_of number messages) f.read ∙ found_frame number messages (f.frame, x.1) same_number read))
          (λ i there. subst (λ (b : List ℕ). frame_stands lane.key number messages b ≡ true) (sym part.parts) (stands_behind lane.key number messages part.front x.1 (later next x.1 i there)))
          (ap (λ (seen : List Seen). slice_get seen j) (sym all) ∙ e)

  -- each frame that is read of a stream stands in it, signed by the key of its lane certificate
  pub signed_stands : (bytes : List ℕ) (j number : ℕ) (messages : List Message) → first_lane here inlets bytes ≡ Some lane → slice_get (items_of here inlets bytes) j ≡ Some (Framed number messages) → frame_stands lane.key number messages bytes ≡ true
  signed_stands bytes j number messages first e =
      let b = begins_with here inlets bytes lane first in
      let part = leaves_hello bytes (lane, b.rest) b.hello in
      go b.rest b.behind part.front part.parts j (ap (λ (seen : List Seen). slice_get seen j) (sym b.items) ∙ e)
    where
      go : (rest : List ℕ) (behind : ℕ) (front : List ℕ) → bytes ≡ front ++ rest → (i : ℕ) → slice_get (Hello lane ∷ seen_on here inlets (suc (length rest)) (Some lane) behind rest) i ≡ Some (Framed number messages) → frame_stands lane.key number messages bytes ≡ true
      go rest behind front parts zero f = absurd cc
      go rest behind front parts (suc i) f = subst (λ (b : List ℕ). frame_stands lane.key number messages b ≡ true) (sym parts) (stands_behind lane.key number messages front rest (signed_on (suc (length rest)) behind rest i number messages f))
