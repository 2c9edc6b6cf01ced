-- What a lane wrote, its receiver reads, all of it.
use Rattle.std.proofs.Common.{◌≡◌, ℕ, suc, ◌+◌, ◌-◌, true, List, [], ◌∷◌, ◌++◌, length, take, map, Option, Some, None, refl, sym, ap, subst, ◌∙◌, append_assoc}
use Rattle.std.specs.Prelude.{Result, Ok, Contains}
use Rattle.std.specs.Int.{w32, to_be_bytes}
use Rattle.std.proofs.lemmas.Bool.{ltb-true}
use Rattle.std.proofs.lemmas.List.{take_at}
use Rattle.std.proofs.lemmas.List.Concat.{flat_map-cons}
use Rattle.std.proofs.lemmas.Slice.Eq.{bytes_eq-Decides}
use Rattle.lms_sig.specs.Good.{IsGood}
use Rattle.lms_sig.specs.Keys.{Key}
use Rattle.lms_sig.specs.Merkle.{signature, path}
use Rattle.lms_sig.specs.OneTime.{ots_signature}
use Rattle.lms_sig.specs.Parameters.{lms_code, leaf_count, height}
use Rattle.lms_sig.specs.Strings.{u32str}
use Rattle.lms_sig.proofs.Goods.{signature-good}
use Rattle.lms_state.specs.Signers.{leaves_of}
use Rattle.ds_label.specs.declared.category.PubKey.{PubKey}
use Rattle.ds_cert.specs.declared.lane.LaneCert.{LaneCert}
use Rattle.ds_cert.specs.Fields.{◌>>=◌}
use Rattle.ds_cert.specs.Spelling.{signed_part_of_lane_cert}
use Rattle.ds_cert.proofs.Steps.{bind_is}
use Rattle.ds_frame.specs.declared.item.Item.{Item}
use Rattle.ds_frame.specs.declared.item.Item.TheVariants as items
use Rattle.ds_frame.specs.Checks.{read_item}
use Rattle.ds_frame.specs.Fields.{ReadFault, Open}
use Rattle.ds_frame.specs.Laws.{IsHello, IsFrame}
use Rattle.ds_frame.specs.Spelling.{spelling_of_hello, part_of_frame}
use Rattle.ds_frame.specs.Streams.{Stream, with_item, read_on, stream_by}
use Rattle.ds_frame.proofs.Goods.{good_from_test}
use Rattle.ds_frame.proofs.Pieces.{step_ok, step_err}
use Rattle.ds_frame.proofs.Written.{hello_item, frame_item}
use Rattle.ds_model.specs.Keys.{same_key}
use Rattle.ds_model.specs.Scheme.{Item as Seen, Hello}
use Rattle.ds_model.specs.Plan.{HostPlan, LanePlan}
use Rattle.ds_desk.specs.Signing.{key_of}
use Rattle.ds_inlet.specs.Hosts.{host_item, host_reading, seen_or_none, seen_of_items, seen_failure}
use Rattle.ds_inlet.proofs.Steady.{steady_host}
use Rattle.ds_delivery.specs.Premises.{Written, CanBeWritten, stream_with, items_with}
use Rattle.ds_delivery.proofs.Lists.{in_head, in_tail}
use Rattle.ds_scheme.specs.Receivers.{IsReceiver}
use Rattle.ds_scheme.specs.Spelled.{has_spelling}
use Rattle.ds_scheme.specs.StandingFrames.{bodies_of}
use Rattle.ds_scheme.specs.TheScheme.{scheme}
use Rattle.ds_scheme.proofs.Owns.{signature_on, frame_on, each_fits, sees_again, is_written, frames_text, framed, nothing_yet}

abbrev item_ok : Item × List ℕ → Result (Item × List ℕ) ReadFault
item_ok x = Ok x

-- a signature begins with its leaf
leaf_first : (key : Key) (leaf : ℕ) (message : List ℕ) → take 4 (signature key.params key.seed key.id leaf message) ≡ to_be_bytes w32 leaf
unfolding signature u32str
leaf_first key leaf message =
    let a = to_be_bytes w32 leaf in
    let b = ots_signature key.params.ots key.seed key.id leaf message in
    let c = to_be_bytes w32 (lms_code key.params.lms) in
    let d = path key.params key.seed key.id 0 (leaf_count key.params.lms + leaf) (height key.params.lms) in
    let grouped : ((a ++ b) ++ c) ++ d ≡ a ++ (b ++ (c ++ d)) = simp append_assoc in
    ap (take 4) grouped ∙ take_at a (b ++ (c ++ d)) 4 refl

module _ (here : HostPlan) (lane : LanePlan) (is : IsReceiver here lane) where
  is_hello : IsHello lane.cert
  is_hello = record { fits = is.fits; good = good_from_test lane.cert.exporter.0 (signed_part_of_lane_cert lane.cert) lane.cert.signature is.good }

  hello_seen : host_item here.key here.inlets (items.Hello lane.cert) ≡ Ok (Hello lane.cert)
  unfolding host_item
  hello_seen =
      let same : same_key lane.cert.receiver here.key ≡ true = (bytes_eq-Decides lane.cert.receiver.0 here.key.0).1 (ap (λ (k : PubKey). k.0) is.named) in
      rw (same, is.declared) refl

  hello_is_read : (rest : List ℕ) → host_reading here.key here.inlets None (spelling_of_hello lane.cert ++ rest) ≡ Ok (items.Hello lane.cert, rest)
  unfolding host_reading
  hello_is_read rest =
      bind_is (read_item None (spelling_of_hello lane.cert ++ rest)) (λ (x : Item × List ℕ). host_item here.key here.inlets x.0 >>= λ (seen : Seen). item_ok x) (items.Hello lane.cert, rest) (Ok (items.Hello lane.cert, rest)) (hello_item lane.cert rest is_hello)
      (bind_is (host_item here.key here.inlets (items.Hello lane.cert)) (λ (seen : Seen). item_ok (items.Hello lane.cert, rest)) (Hello lane.cert) (Ok (items.Hello lane.cert, rest)) hello_seen refl)

  is_frame : (f : Written) → CanBeWritten scheme has_spelling lane f → IsFrame lane.cert.key (frame_on f) (signature_on lane f)
  is_frame f can =
      let key = key_of lane.signing in
      let w = is_written here.key here.inlets lane f can in
      let part = part_of_frame f.number (bodies_of f.messages) in
      record {
        number = w.number;
        bodies = w.bodies;
        size = w.size;
        leaf = leaf_first key f.number part;
        good = subst (λ (k : List ℕ). IsGood k part (signature_on lane f)) (sym is.signs) (signature-good key.params key.seed key.id part f.number is.identifier (ltb-true f.number (leaves_of key) can.leaf));
      }

  frame_seen : (f : Written) → CanBeWritten scheme has_spelling lane f → host_item here.key here.inlets (items.Frame (frame_on f)) ≡ Ok (framed here.key here.inlets f)
  frame_seen f can = sees_again here.key here.inlets f.number f.messages (each_fits f.messages can.each)

  frame_is_read : (f : Written) (rest : List ℕ) → CanBeWritten scheme has_spelling lane f → host_reading here.key here.inlets (Some lane.cert) (scheme.frame lane.signing f.number f.messages ++ rest) ≡ Ok (items.Frame (frame_on f), rest)
  unfolding host_reading
  frame_is_read f rest can =
      bind_is (read_item (Some lane.cert) (scheme.frame lane.signing f.number f.messages ++ rest)) (λ (x : Item × List ℕ). host_item here.key here.inlets x.0 >>= λ (seen : Seen). item_ok x) (items.Frame (frame_on f), rest) (Ok (items.Frame (frame_on f), rest)) (frame_item lane.cert (frame_on f) (signature_on lane f) rest (is_frame f can))
      (bind_is (host_item here.key here.inlets (items.Frame (frame_on f))) (λ (seen : Seen). item_ok (items.Frame (frame_on f), rest)) (framed here.key here.inlets f) (Ok (items.Frame (frame_on f), rest)) (frame_seen f can) refl)

  abbrev reading : Option LaneCert → List ℕ → Result (Item × List ℕ) ReadFault
  reading = host_reading here.key here.inlets

  abbrev text : List Written → List ℕ
  text frames = frames_text here.key here.inlets lane frames

  frames_are_read : (passed : ℕ) (frames : List Written) → ((f : Written) → Contains frames f → CanBeWritten scheme has_spelling lane f)
      → read_on reading (suc (length (text frames))) (Some lane.cert) passed (text frames) ≡ record { items = map (λ f. items.Frame (frame_on f)) frames; ending = None }
  frames_are_read passed [] can = step_err reading (steady_host here.key here.inlets) (Some lane.cert) passed [] Open (nothing_yet here.key here.inlets lane.cert)
  frames_are_read passed (f ∷ frames) can =
      let rest = text frames in
      let whole = scheme.frame lane.signing f.number f.messages ++ rest in
      let read = frame_is_read f rest (can f (in_head f frames)) in
      ap (λ (bytes : List ℕ). read_on reading (suc (length bytes)) (Some lane.cert) passed bytes) (flat_map-cons (λ (g : Written). scheme.frame lane.signing g.number g.messages) f frames)
      ∙ step_ok reading (steady_host here.key here.inlets) (Some lane.cert) passed whole (items.Frame (frame_on f), rest) read
      ∙ ap (with_item (items.Frame (frame_on f))) (frames_are_read (passed + (length whole - length rest)) frames (λ g there. can g (in_tail f frames g there)))

  frames_are_seen : (frames : List Written) → ((f : Written) → Contains frames f → CanBeWritten scheme has_spelling lane f) → seen_of_items here.key here.inlets (map (λ f. items.Frame (frame_on f)) frames) ≡ map (framed here.key here.inlets) frames
  frames_are_seen [] can = refl
  frames_are_seen (f ∷ frames) can =
      ap (λ (r : Result Seen ReadFault). seen_or_none r ++ seen_of_items here.key here.inlets (map (λ g. items.Frame (frame_on g)) frames)) (frame_seen f (can f (in_head f frames)))
      ∙ ap (λ (seen : List Seen). framed here.key here.inlets f ∷ seen) (frames_are_seen frames (λ g there. can g (in_tail f frames g there)))

  whole_stream : (frames : List Written) → ((f : Written) → Contains frames f → CanBeWritten scheme has_spelling lane f)
      → stream_by reading (stream_with scheme lane frames) ≡ record { items = items.Hello lane.cert ∷ map (λ f. items.Frame (frame_on f)) frames; ending = None }
  whole_stream frames can =
      let rest = text frames in
      let whole = spelling_of_hello lane.cert ++ rest in
      step_ok reading (steady_host here.key here.inlets) None 0 whole (items.Hello lane.cert, rest) (hello_is_read rest)
      ∙ ap (with_item (items.Hello lane.cert)) (frames_are_read (0 + (length whole - length rest)) frames can)

  pub all_items : (frames : List Written) → ((f : Written) → Contains frames f → CanBeWritten scheme has_spelling lane f) → scheme.items here.key here.inlets (stream_with scheme lane frames) ≡ items_with lane frames
  all_items frames can =
      ap (λ (s : Stream). seen_of_items here.key here.inlets s.items) (whole_stream frames can)
      ∙ ap (λ (r : Result Seen ReadFault). seen_or_none r ++ seen_of_items here.key here.inlets (map (λ g. items.Frame (frame_on g)) frames)) hello_seen
      ∙ ap (λ (seen : List Seen). Hello lane.cert ∷ seen) (frames_are_seen frames can)

  pub no_ending : (frames : List Written) → ((f : Written) → Contains frames f → CanBeWritten scheme has_spelling lane f) → scheme.ending here.key here.inlets (stream_with scheme lane frames) ≡ None
  no_ending frames can = ap (λ (s : Stream). seen_failure s.ending) (whole_stream frames can)
