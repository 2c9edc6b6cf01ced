-- What it means that a signed frame stands in a stream of bytes.
use Rattle.std.proofs.Common.{◌≡◌, ℕ, suc, ◌+◌, Bool, true, false, eqb, List, [], ◌∷◌, ◌++◌, length, refl, sym, ap, subst, ◌∙◌}
use Rattle.std.specs.Prelude.{Result, Ok, Err, ◌&&◌, ◌||◌, bytes_eq}
use Rattle.std.specs.Int.{w8, w16, w32, to_be_bytes}
use Rattle.std.specs.List.{AllByRecursion}
use Rattle.std.proofs.lemmas.Bool.{eqb-true}
use Rattle.std.proofs.lemmas.List.Concat.{flat_map-cons}
use Rattle.std.proofs.lemmas.Slice.Eq.{bytes_eq-Decides}
use Rattle.ds_wire.specs.Fields.{IsBytes}
use Rattle.ds_label.specs.declared.category.PubKey.{PubKey}
use Rattle.ds_cert.specs.Fields.{◌>>=◌}
use Rattle.ds_cert.specs.Spelling.{spelling_of_signature}
use Rattle.ds_cert.proofs.Steps.{bind_ok, ok_is, IsBytes-front, IsBytes-behind}
use Rattle.ds_cert.proofs.Wholes.{found_whole}
use Rattle.ds_msg.specs.declared.message.Message.{Message}
use Rattle.ds_msg.specs.Ranges.{MessageFits}
use Rattle.ds_msg.specs.Reading.{message_at, read_message}
use Rattle.ds_msg.specs.Spelling.{spelling_of_message}
use Rattle.ds_msg.proofs.RecordLaws.{is_message}
use Rattle.ds_frame.specs.declared.item.Frame.{Frame}
use Rattle.ds_frame.specs.Checks.{read_frame}
use Rattle.ds_frame.specs.Fields.{ReadFault}
use Rattle.ds_frame.specs.Laws.{IsFrame}
use Rattle.ds_frame.specs.Spelling.{signed_fields, spelling_of_body, spelling_of_bodies, part_of_frame, spelling_of_frame}
use Rattle.ds_frame.proofs.ItemLaws.{frame_starts, frame_again}
use Rattle.ds_inlet.specs.Hosts.{message_or, messages_from}
use Rattle.ds_scheme.specs.StandingFrames.{bodies_of, same_bodies, are_spelled_as, is_frame_of, frame_stands, FrameStands}
use Rattle.ds_scheme.proofs.Owns.{messages_again}
use Rattle.ds_scheme.proofs.Standing.{found_frame, stands_here, stands_behind}

-- ---- the bytes of a frame's messages

body_bytes : (number messages : ℕ) (body : List ℕ) → IsBytes (signed_fields number messages body) → IsBytes body
unfolding signed_fields
body_bytes number messages body fits =
    IsBytes-behind (to_be_bytes w32 (length body)) body
    (IsBytes-behind (to_be_bytes w16 messages) (to_be_bytes w32 (length body) ++ body)
    (IsBytes-behind (to_be_bytes w32 number) (to_be_bytes w16 messages ++ (to_be_bytes w32 (length body) ++ body))
    (IsBytes-behind (to_be_bytes w8 4) (to_be_bytes w32 number ++ (to_be_bytes w16 messages ++ (to_be_bytes w32 (length body) ++ body))) fits)))

one_body : (body : List ℕ) → IsBytes (spelling_of_body body) → IsBytes body
unfolding spelling_of_body
one_body body fits = IsBytes-behind (to_be_bytes w32 (length body)) body fits

each_bytes : (bodies : List (List ℕ)) → IsBytes (spelling_of_bodies bodies) → AllByRecursion IsBytes bodies
each_bytes [] fits = tt
each_bytes (body ∷ bodies) fits =
    let parts : IsBytes (spelling_of_body body ++ spelling_of_bodies bodies) = subst IsBytes (flat_map-cons spelling_of_body body bodies) fits in
    (one_body body (IsBytes-front (spelling_of_body body) (spelling_of_bodies bodies) parts), each_bytes bodies (IsBytes-behind (spelling_of_body body) (spelling_of_bodies bodies) parts))

frame_bytes : (frame : Frame) (signature rest : List ℕ) → IsBytes (spelling_of_frame frame.number frame.bodies signature ++ rest) → AllByRecursion IsBytes frame.bodies
frame_bytes frame signature rest fits =
    each_bytes frame.bodies (body_bytes frame.number (length frame.bodies) (spelling_of_bodies frame.bodies)
    (IsBytes-front (part_of_frame frame.number frame.bodies) (spelling_of_signature signature) (IsBytes-front (spelling_of_frame frame.number frame.bodies signature) rest fits)))

-- ---- messages that were read are spelled so

abbrev all_read : List Message → Result (List Message) ReadFault
all_read messages = Ok messages

message_spelt : (body : List ℕ) (m : Message) → IsBytes body → read_message body ≡ Ok m → body ≡ spelling_of_message m
unfolding read_message
message_spelt body m fits e = (found_whole MessageFits spelling_of_message message_at is_message MessageFits (λ x fit. fit) body (Ok m) fits e).1

read_or : (place : ℕ) (r : Result Message ℕ) (m : Message) → message_or place r ≡ Ok m → r ≡ Ok m
read_or place (Ok found) m e = cc
read_or place (Err fault) m e = absurd cc

messages_spelt : (place : ℕ) (bodies : List (List ℕ)) (found : List Message) → AllByRecursion IsBytes bodies → messages_from place bodies ≡ Ok found → bodies ≡ bodies_of found
messages_spelt place [] found fits e = ap bodies_of (ok_is {E = ReadFault} [] found e)
messages_spelt place (body ∷ later) found fits e =
    let next = place + 4 + length body in
    let a = bind_ok (message_or (place + 4) (read_message body)) (λ (m : Message). messages_from next later >>= λ (ms : List Message). all_read (m ∷ ms)) found e in
    let b = bind_ok (messages_from next later) (λ (ms : List Message). all_read (a.0 ∷ ms)) found a.2 in
    let first = message_spelt body a.0 fits.0 (read_or (place + 4) (read_message body) a.0 a.1) in
    let others = messages_spelt next later b.0 fits.1 b.1 in
    ap (λ (x : List ℕ). x ∷ later) first ∙ ap (λ (xs : List (List ℕ)). spelling_of_message a.0 ∷ xs) others ∙ ap bodies_of (ok_is {E = ReadFault} (a.0 ∷ b.0) found b.2)

and_parts : (a b : Bool) → (a && b) ≡ true → (a ≡ true) × (b ≡ true)
and_parts true b e = (refl, e)
and_parts false b e = absurd cc

same_is : (bodies others : List (List ℕ)) → same_bodies bodies others ≡ true → bodies ≡ others
same_is [] [] e = refl
same_is [] (other ∷ others) e = absurd cc
same_is (body ∷ bodies) [] e = absurd cc
same_is (body ∷ bodies) (other ∷ others) e =
    let p = and_parts (bytes_eq body other) (same_bodies bodies others) e in
    ap (λ (x : List ℕ). x ∷ bodies) ((bytes_eq-Decides body other).0 p.0) ∙ ap (λ (xs : List (List ℕ)). other ∷ xs) (same_is bodies others p.1)

module _ (key : PubKey) (number : ℕ) (messages : List Message) where
  -- a frame that was read at the front
  stands_first : (bytes : List ℕ) → IsBytes bytes → is_frame_of number messages (read_frame key bytes) ≡ true → FrameStands key number messages bytes
  stands_first bytes fits e = cases (read_frame key bytes) refl e
    where
      whole : (x : Frame × List ℕ) (found : Result (List Message) ReadFault) → read_frame key bytes ≡ Ok x → messages_from 11 x.0.bodies ≡ found → x.0.number ≡ number → are_spelled_as messages found ≡ true → FrameStands key number messages bytes
      whole x (Err stop) f g same told = absurd cc
      whole x (Ok found) f g same told =
          let starts = frame_starts key bytes x fits f in
          let each = frame_bytes x.0 starts.signature x.1 (subst IsBytes starts.parts fits) in
          let bodies : x.0.bodies ≡ bodies_of messages = messages_spelt 11 x.0.bodies found each g ∙ same_is (bodies_of found) (bodies_of messages) told in
          let is : x.0 ≡ record { number = number; bodies = bodies_of messages } = ap (λ (n : ℕ). record { number = n; bodies = x.0.bodies }) same ∙ ap (λ (b : List (List ℕ)). record { number = number; bodies = b }) bodies in
          subst (λ (frame : Frame). (IsFrame key frame starts.signature → bytes ≡ spelling_of_frame frame.number frame.bodies starts.signature ++ x.1 → FrameStands key number messages bytes)) (sym is)
          (λ signed parts. record { front = []; signature = starts.signature; rest = x.1; signed = signed; parts = parts }) starts.signed starts.parts

      cases : (r : Result (Frame × List ℕ) ReadFault) → read_frame key bytes ≡ r → is_frame_of number messages r ≡ true → FrameStands key number messages bytes
      cases (Ok x) f g = let p = and_parts (eqb x.0.number number) (are_spelled_as messages (messages_from 11 x.0.bodies)) g in whole x (messages_from 11 x.0.bodies) f refl (eqb-true x.0.number number p.0) p.1
      cases (Err stop) f g = absurd cc

  pub stands_somewhere : (stream : List ℕ) → IsBytes stream → frame_stands key number messages stream ≡ true → FrameStands key number messages stream
  stands_somewhere [] fits e = absurd cc
  stands_somewhere (byte ∷ rest) fits e = cases (is_frame_of number messages (read_frame key (byte ∷ rest))) refl e (stands_somewhere rest (λ i. fits (suc i)))
    where
      cases : (b : Bool) → is_frame_of number messages (read_frame key (byte ∷ rest)) ≡ b → (b || frame_stands key number messages rest) ≡ true → (frame_stands key number messages rest ≡ true → FrameStands key number messages rest) → FrameStands key number messages (byte ∷ rest)
      cases true f g later = stands_first (byte ∷ rest) fits f
      cases false f g later =
          let s = later g in
          record { front = byte ∷ s.front; signature = s.signature; rest = s.rest; signed = s.signed; parts = ap (λ (l : List ℕ). byte ∷ l) s.parts }

  pub is_found : (stream : List ℕ) → AllByRecursion MessageFits messages → FrameStands key number messages stream → frame_stands key number messages stream ≡ true
  is_found stream fit s =
      let frame : Frame = record { number = number; bodies = bodies_of messages } in
      let text = spelling_of_frame number (bodies_of messages) s.signature ++ s.rest in
      let read = frame_again key frame s.signature s.rest s.signed in
      let here = stands_here key number messages text (ap (is_frame_of number messages) read ∙ found_frame number messages (frame, s.rest) refl (messages_again 11 messages fit)) in
      subst (λ (bytes : List ℕ). frame_stands key number messages bytes ≡ true) (sym s.parts) (stands_behind key number messages s.front text here)
