-- Of the stream that a lane wrote, cut anywhere, nothing else is read.
use Rattle.std.proofs.Common.{◌≡◌, ◌≢◌, ℕ, zero, suc, ◌+◌, ◌-◌, ◌<◌, ◌≤◌, ◌^◌, true, List, [], ◌∷◌, ◌++◌, length, take, map, Some, None, refl, sym, ap, subst, ◌∙◌, arith}
use Rattle.std.specs.Prelude.{Result, Ok, Err, slice_get, Contains}
use Rattle.std.specs.List.{flat_map, AllByRecursion}
use Rattle.std.proofs.lemmas.Bool.{ltb-true}
use Rattle.std.proofs.lemmas.List.{length-map}
use Rattle.std.proofs.lemmas.List.Concat.{flat_map-cons}
use Rattle.lms_sig.specs.Keys.{Key}
use Rattle.lms_sig.specs.Merkle.{signature}
use Rattle.lms_sig.specs.Parameters.{leaf_count, signature_length}
use Rattle.lms_sig.specs.declared.params.LmsType.{LmsType}
use Rattle.lms_sig.specs.declared.params.LmsType.TheVariants.{H5, H10}
use Rattle.lms_sig.specs.declared.params.OtsType.{OtsType}
use Rattle.lms_sig.specs.declared.params.OtsType.TheVariants.{W4, W8}
use Rattle.lms_sig.proofs.Lengths.{length-signature}
use Rattle.lms_state.specs.Signers.{leaves_of}
use Rattle.ds_label.specs.declared.category.PubKey.{PubKey}
use Rattle.ds_cert.specs.declared.lane.LaneCert.{LaneCert}
use Rattle.ds_cert.specs.Fields.{◌>>=◌, placed}
use Rattle.ds_cert.specs.Ranges.{LaneCertFits}
use Rattle.ds_cert.proofs.Steps.{bind_is}
use Rattle.ds_cert.proofs.Wholes.{alone_again}
use Rattle.ds_msg.specs.declared.message.Message.{Message}
use Rattle.ds_msg.specs.Ranges.{MessageFits}
use Rattle.ds_msg.specs.Reading.{message_at, read_message}
use Rattle.ds_msg.specs.Spelling.{spelling_of_message}
use Rattle.ds_msg.proofs.Places.{message_length}
use Rattle.ds_msg.proofs.RecordLaws.{is_message}
use Rattle.ds_frame.specs.declared.item.Frame.{Frame}
use Rattle.ds_frame.specs.declared.item.Item.TheVariants as items
use Rattle.ds_frame.specs.Checks.{read_frame, read_item}
use Rattle.ds_frame.specs.Fields.{ReadFault, Open, Broken, number_from}
use Rattle.ds_frame.specs.Outer.{read_outer_frame}
use Rattle.ds_frame.specs.Ranges.{BodiesRange, FrameSignatureFits}
use Rattle.ds_frame.specs.Reader.{lane_after}
use Rattle.ds_frame.specs.Spelling.{spelling_of_hello, part_of_frame}
use Rattle.ds_frame.specs.Streams.{read_on, joined}
use Rattle.ds_frame.proofs.BodyLaws.{small_bodies}
use Rattle.ds_model.specs.Scheme.{InletName, Item as Seen, Hello, Framed}
use Rattle.ds_model.specs.Plan.{LanePlan}
use Rattle.ds_desk.specs.Signing.{key_of}
use Rattle.ds_inlet.specs.Hosts.{messages_from, message_or, host_item, host_reading, seen_of_items, seen_or_none, items_of}
use Rattle.ds_delivery.specs.Premises.{Written, CanBeWritten, stream_with, items_with}
use Rattle.ds_delivery.proofs.Lists.{in_head, in_tail}
use Rattle.ds_scheme.specs.Spelled.{has_spelling}
use Rattle.ds_scheme.specs.StandingFrames.{bodies_of}
use Rattle.ds_scheme.specs.TheScheme.{scheme}
use Rattle.ds_scheme.proofs.Spelt.{spelling_is}
use Rattle.ds_scheme.proofs.Firsts.{seen_on, first_ok, first_err}
use Rattle.ds_scheme.proofs.Cuts.{ReadOrNot, WasRead, NotRead, hello_cut, IsWritten, frame_cut}

-- ---- messages

abbrev all_read : List Message → Result (List Message) ReadFault
all_read messages = Ok messages

pub message_again : (m : Message) → MessageFits m → read_message (spelling_of_message m) ≡ Ok m
unfolding read_message
message_again m fits = ap (placed (spelling_of_message m)) (alone_again MessageFits spelling_of_message message_at is_message m fits)

pub messages_again : (place : ℕ) (messages : List Message) → AllByRecursion MessageFits messages → messages_from place (bodies_of messages) ≡ Ok messages
messages_again place [] fit = refl
messages_again place (m ∷ later) fit =
    let size = place + 4 + length (spelling_of_message m) in
    let first : message_or (place + 4) (read_message (spelling_of_message m)) ≡ Ok m = ap (message_or (place + 4)) (message_again m fit.0) in
    bind_is (message_or (place + 4) (read_message (spelling_of_message m))) (λ (x : Message). messages_from size (bodies_of later) >>= λ (ms : List Message). all_read (x ∷ ms)) m (Ok (m ∷ later)) first
    (bind_is (messages_from size (bodies_of later)) (λ (ms : List Message). all_read (m ∷ ms)) later (Ok (m ∷ later)) (messages_again size later fit.1) refl)

small_each : (messages : List Message) → AllByRecursion MessageFits messages → AllByRecursion (λ (body : List ℕ). length body ≤ 72229) (bodies_of messages)
small_each [] fit = tt
small_each (m ∷ later) fit = (message_length m fit.0, small_each later fit.1)

pub each_fits : (messages : List Message) → ((m : Message) → Contains messages m → has_spelling m ≡ true) → AllByRecursion MessageFits messages
each_fits [] each = tt
each_fits (m ∷ later) each = (((spelling_is m).0 (each m (in_head m later))).0, each_fits later (λ x there. each x (in_tail m later x there)))

-- ---- a frame that a lane can write

few_leaves : (lms : LmsType) → leaf_count lms < 2 ^ 32
few_leaves H5 = omega arith
few_leaves H10 = omega arith

some_long : (lms : LmsType) (ots : OtsType) → (1 ≤ signature_length (record { lms = lms; ots = ots })) × (signature_length (record { lms = lms; ots = ots }) ≤ 2508)
some_long H5 W4 = (omega arith, omega arith)
some_long H5 W8 = (omega arith, omega arith)
some_long H10 W4 = (omega arith, omega arith)
some_long H10 W8 = (omega arith, omega arith)

pub signature_fits : (key : Key) (leaf : ℕ) (message : List ℕ) → FrameSignatureFits (signature key.params key.seed key.id leaf message)
signature_fits key leaf message =
    let size = length-signature key.params key.seed key.id leaf message in
    let long = some_long key.params.lms key.params.ots in
    record { some = omega (arith, size, long.0); most = omega (arith, size, long.1) }

some_messages : (messages : List Message) → messages ≢ [] → 1 ≤ length messages
some_messages [] some = absurd (some refl)
some_messages (m ∷ later) some = omega arith

pub messages_fit : (messages : List Message) → 1 ≤ length messages → length messages ≤ 16 → AllByRecursion MessageFits messages → BodiesRange (bodies_of messages)
messages_fit messages some most fit =
    let count : length (bodies_of messages) ≡ length messages = length-map messages spelling_of_message in
    record { first = omega (arith, some, count); last = omega (arith, most, count); most = omega (arith, small_bodies (bodies_of messages) (small_each messages fit), most, count) }

-- the signature and the frame that the lane writes
abbrev pub signature_on : LanePlan → Written → List ℕ
signature_on lane f = signature (key_of lane.signing).params (key_of lane.signing).seed (key_of lane.signing).id f.number (part_of_frame f.number (bodies_of f.messages))

abbrev pub frame_on : Written → Frame
frame_on f = record { number = f.number; bodies = bodies_of f.messages }

module _ (here : PubKey) (inlets : List InletName) where
  pub sees_again : (number : ℕ) (messages : List Message) → AllByRecursion MessageFits messages → host_item here inlets (items.Frame (record { number = number; bodies = bodies_of messages })) ≡ Ok (Framed number messages)
  unfolding host_item
  sees_again number messages fit = bind_is (messages_from 11 (bodies_of messages)) _ messages (Ok (Framed number messages)) (messages_again 11 messages fit) refl

  pub is_written : (lane : LanePlan) (f : Written) → CanBeWritten scheme has_spelling lane f → IsWritten here inlets (frame_on f) (signature_on lane f)
  is_written lane f can =
      let key = key_of lane.signing in
      let fit = each_fits f.messages can.each in
      record {
        number = omega (arith, ltb-true f.number (leaves_of key) can.leaf, few_leaves key.params.lms);
        bodies = messages_fit f.messages (some_messages f.messages can.some) can.most fit;
        size = signature_fits key f.number (part_of_frame f.number (bodies_of f.messages));
        seen = Framed f.number f.messages;
        sees = sees_again f.number f.messages fit;
      }

  -- ---- frames, one after the other

  pub nothing_yet : (lane : LaneCert) → host_reading here inlets (Some lane) [] ≡ Err Open
  unfolding host_reading read_item read_frame read_outer_frame number_from
  nothing_yet lane = refl

  abbrev pub frames_text : LanePlan → List Written → List ℕ
  frames_text lane frames = flat_map (λ f. scheme.frame lane.signing f.number f.messages) frames

  abbrev pub framed : Written → Seen
  framed f = Framed f.number f.messages

  -- what a host sees where the first item was read, or nothing was
  stopped : (lane : LaneCert) (most passed : ℕ) (bytes : List ℕ) (stop : ReadFault) → host_reading here inlets (Some lane) bytes ≡ Err stop → seen_on here inlets most (Some lane) passed bytes ≡ []
  unfolding read_on
  stopped lane zero passed bytes stop e = refl
  stopped lane (suc most) passed bytes Open e = ap (λ r. seen_of_items here inlets (joined passed (λ item rest. read_on (host_reading here inlets) most (lane_after item (Some lane)) (passed + (length bytes - length rest)) rest) r).items) e
  stopped lane (suc most) passed bytes (Broken cause offset) e = ap (λ r. seen_of_items here inlets (joined passed (λ item rest. read_on (host_reading here inlets) most (lane_after item (Some lane)) (passed + (length bytes - length rest)) rest) r).items) e

  went_on : (lane : LaneCert) (most passed : ℕ) (bytes : List ℕ) (frame : Frame) (seen : Seen) (rest : List ℕ) → host_reading here inlets (Some lane) bytes ≡ Ok (items.Frame frame, rest) → host_item here inlets (items.Frame frame) ≡ Ok seen
      → seen_on here inlets (suc most) (Some lane) passed bytes ≡ seen ∷ seen_on here inlets most (Some lane) (passed + (length bytes - length rest)) rest
  unfolding read_on
  went_on lane most passed bytes frame seen rest e sees =
      ap (λ r. seen_of_items here inlets (joined passed (λ item rest. read_on (host_reading here inlets) most (lane_after item (Some lane)) (passed + (length bytes - length rest)) rest) r).items) e
      ∙ ap (λ (r : Result Seen ReadFault). seen_or_none r ++ seen_on here inlets most (Some lane) (passed + (length bytes - length rest)) rest) sees

  -- no item is among none
  none_there : (seen : List Seen) (j : ℕ) (item : Seen) → seen ≡ [] → slice_get seen j ≡ Some item → ⊥
  none_there seen j item is e = absurd (wrong (ap (λ (s : List Seen). slice_get s j) (sym is) ∙ e))
    where
      wrong : slice_get {X = Seen} [] j ≡ Some item → ⊥
      wrong f = absurd cc

  -- the first one, or one behind it
  first_or_later : (first : Seen) (seen : List Seen) (known : List Seen) (j : ℕ) (item : Seen) → ((i : ℕ) → slice_get seen i ≡ Some item → Contains known item) → slice_get (first ∷ seen) j ≡ Some item → Contains (first ∷ known) item
  first_or_later first seen known zero item later e = let same : first ≡ item = cc in subst (λ (x : Seen). Contains (first ∷ known) x) same (in_head first known)
  first_or_later first seen known (suc i) item later e = in_tail first known item (later i e)

  cut_nothing : (n : ℕ) → take {A = ℕ} n [] ≡ []
  cut_nothing zero = refl
  cut_nothing (suc n) = refl

  -- each item that is read behind the hello is one of the frames
  frames_only : (cert : LaneCert) (lane : LanePlan) (frames : List Written) → ((f : Written) → Contains frames f → CanBeWritten scheme has_spelling lane f)
      → (most passed n j : ℕ) (item : Seen) → slice_get (seen_on here inlets most (Some cert) passed (take n (frames_text lane frames))) j ≡ Some item → Contains (map framed frames) item
  unfolding read_on
  frames_only cert lane frames can zero passed n j item e = absurd (none_there [] j item refl e)
  frames_only cert lane [] can (suc most) passed n j item e =
      let nothing : host_reading here inlets (Some cert) (take n []) ≡ Err Open = ap (host_reading here inlets (Some cert)) (cut_nothing n) ∙ nothing_yet cert in
      absurd (none_there (seen_on here inlets (suc most) (Some cert) passed (take n [])) j item (stopped cert (suc most) passed (take n []) Open nothing) e)
  frames_only cert lane (f ∷ frames) can (suc most) passed n j item e =
      frame_first (λ next k i there. frames_only cert lane frames (λ g is. can g (in_tail f frames g is)) most next k i item there)
      (frame_cut here inlets cert (frame_on f) (signature_on lane f) (frames_text lane frames) n (is_written lane f (can f (in_head f frames))))
      (ap (λ (bytes : List ℕ). slice_get (seen_on here inlets (suc most) (Some cert) passed (take n bytes)) j) (sym (flat_map-cons (λ (g : Written). scheme.frame lane.signing g.number g.messages) f frames)) ∙ e)
    where
      frame_first : ((next k i : ℕ) → slice_get (seen_on here inlets most (Some cert) next (take k (frames_text lane frames))) i ≡ Some item → Contains (map framed frames) item)
          → ReadOrNot here inlets (Some cert) (take n (scheme.frame lane.signing f.number f.messages ++ frames_text lane frames)) (items.Frame (frame_on f)) (frames_text lane frames)
          → slice_get (seen_on here inlets (suc most) (Some cert) passed (take n (scheme.frame lane.signing f.number f.messages ++ frames_text lane frames))) j ≡ Some item → Contains (framed f ∷ map framed frames) item
      frame_first later (NotRead stop told) there = absurd (none_there _ j item (stopped cert (suc most) passed (take n (scheme.frame lane.signing f.number f.messages ++ frames_text lane frames)) stop told) there)
      frame_first later (WasRead k told) there =
          let bytes = take n (scheme.frame lane.signing f.number f.messages ++ frames_text lane frames) in
          let rest = take k (frames_text lane frames) in
          let next = passed + (length bytes - length rest) in
          let all = went_on cert most passed bytes (frame_on f) (framed f) rest told (sees_again f.number f.messages (each_fits f.messages (can f (in_head f frames)).each)) in
          first_or_later (framed f) (seen_on here inlets most (Some cert) next rest) (map framed frames) j item (λ i found. later next k i found) (ap (λ (seen : List Seen). slice_get seen j) (sym all) ∙ there)

  -- and each item of the whole stream is its hello or one of the frames
  pub nothing_else : (lane : LanePlan) (frames : List Written) → LaneCertFits lane.cert → ((f : Written) → Contains frames f → CanBeWritten scheme has_spelling lane f)
      → (n j : ℕ) (item : Seen) → slice_get (items_of here inlets (take n (stream_with scheme lane frames))) j ≡ Some item → Contains (items_with lane frames) item
  nothing_else lane frames fits can n j item e = hello_first (hello_cut here inlets lane.cert (frames_text lane frames) n fits)
    where
      hello_first : ReadOrNot here inlets None (take n (spelling_of_hello lane.cert ++ frames_text lane frames)) (items.Hello lane.cert) (frames_text lane frames) → Contains (items_with lane frames) item
      hello_first (NotRead stop told) = absurd (none_there _ j item (first_err here inlets (take n (spelling_of_hello lane.cert ++ frames_text lane frames)) stop told) e)
      hello_first (WasRead k told) =
          let rest = take k (frames_text lane frames) in
          let f = first_ok here inlets (take n (spelling_of_hello lane.cert ++ frames_text lane frames)) (items.Hello lane.cert, rest) told in
          let same : f.hello.lane ≡ lane.cert = let is : items.Hello lane.cert ≡ items.Hello f.hello.lane = f.hello.is in cc in
          let all = f.items ∙ ap (λ (l : LaneCert). Hello l ∷ seen_on here inlets (suc (length rest)) (Some l) f.behind rest) same in
          first_or_later (Hello lane.cert) (seen_on here inlets (suc (length rest)) (Some lane.cert) f.behind rest) (map framed frames) j item
          (λ i there. frames_only lane.cert lane frames can (suc (length rest)) f.behind k i item there) (ap (λ (seen : List Seen). slice_get seen j) (sym all) ∙ e)
