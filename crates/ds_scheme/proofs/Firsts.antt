-- What a host reads first of a stream, and one item after the other.
use Rattle.std.proofs.Common.{◌≡◌, ℕ, suc, ◌+◌, ◌-◌, Bool, true, false, cond, List, [], ◌∷◌, ◌++◌, length, Option, Some, None, refl, sym, ap, subst, ◌∙◌}
use Rattle.std.specs.Prelude.{Result, Ok, Err, slice_get}
use Rattle.ds_label.specs.declared.category.PubKey.{PubKey}
use Rattle.ds_cert.specs.declared.lane.LaneCert.{LaneCert}
use Rattle.ds_cert.specs.Fields.{◌>>=◌}
use Rattle.ds_cert.proofs.Steps.{bind_ok, ok_is}
use Rattle.ds_msg.specs.declared.message.Message.{Message}
use Rattle.ds_frame.specs.declared.cause.Cause.TheVariants as causes
use Rattle.ds_frame.specs.declared.item.Frame.{Frame}
use Rattle.ds_frame.specs.declared.item.Item.{Item}
use Rattle.ds_frame.specs.declared.item.Item.TheVariants as items
use Rattle.ds_frame.specs.Checks.{read_hello, read_frame, read_item}
use Rattle.ds_frame.specs.Fields.{ReadFault, Open, Broken}
use Rattle.ds_frame.specs.Reader.{lane_after}
use Rattle.ds_frame.specs.Streams.{Stream, read_on}
use Rattle.ds_frame.proofs.Pieces.{step_ok, step_err}
use Rattle.ds_model.specs.Keys.{same_key}
use Rattle.ds_model.specs.Scheme.{InletName, Item as Seen, Hello, Framed}
use Rattle.ds_model.specs.ConnectionStep.{hello_of}
use Rattle.ds_inlet.specs.Hosts.{inlet_at, declared_lane, messages_from, host_item, host_reading, seen_or_none, seen_of_items, items_of}
use Rattle.ds_inlet.proofs.Steady.{steady_host}

abbrev seen_ok : Seen → Result Seen ReadFault
seen_ok seen = Ok seen

abbrev item_ok : Item × List ℕ → Result (Item × List ℕ) ReadFault
item_ok x = Ok x

same_some : {A : Type 0} (x y : A) → Some x ≡ Some y → x ≡ y
same_some x y e = cc

-- the item behind a hello or a frame that was read
pub record HelloItem (bytes : List ℕ) (x : Item × List ℕ) : Type 0 where
  pub lane : LaneCert
  pub read : read_hello bytes ≡ Ok (lane, x.1)
  pub is : x.0 ≡ items.Hello lane

pub record FrameItem (key : PubKey) (bytes : List ℕ) (x : Item × List ℕ) : Type 0 where
  pub frame : Frame
  pub read : read_frame key bytes ≡ Ok (frame, x.1)
  pub is : x.0 ≡ items.Frame frame

pub hello_item : (bytes : List ℕ) (x : Item × List ℕ) → read_item None bytes ≡ Ok x → HelloItem bytes x
unfolding read_item
hello_item bytes x e =
    let a = bind_ok (read_hello bytes) (λ (found : LaneCert × List ℕ). item_ok (items.Hello found.0, found.1)) x e in
    subst (λ (y : Item × List ℕ). HelloItem bytes y) (ok_is {E = ReadFault} (items.Hello a.0.0, a.0.1) x a.2) (record { lane = a.0.0; read = a.1; is = refl })

pub frame_item : (lane : LaneCert) (bytes : List ℕ) (x : Item × List ℕ) → read_item (Some lane) bytes ≡ Ok x → FrameItem lane.key bytes x
unfolding read_item
frame_item lane bytes x e =
    let a = bind_ok (read_frame lane.key bytes) (λ (found : Frame × List ℕ). item_ok (items.Frame found.0, found.1)) x e in
    subst (λ (y : Item × List ℕ). FrameItem lane.key bytes y) (ok_is {E = ReadFault} (items.Frame a.0.0, a.0.1) x a.2) (record { frame = a.0.0; read = a.1; is = refl })

module _ (here : PubKey) (inlets : List InletName) where
  -- an item that was read, and what the host sees of it
  pub record HostRead (lane : Option LaneCert) (bytes : List ℕ) (x : Item × List ℕ) : Type 0 where
    pub item : read_item lane bytes ≡ Ok x
    pub seen : Seen
    pub sees : host_item here inlets x.0 ≡ Ok seen

  pub host_read : (lane : Option LaneCert) (bytes : List ℕ) (x : Item × List ℕ) → host_reading here inlets lane bytes ≡ Ok x → HostRead lane bytes x
  unfolding host_reading
  host_read lane bytes x e =
      let a = bind_ok (read_item lane bytes) (λ (y : Item × List ℕ). host_item here inlets y.0 >>= λ (seen : Seen). item_ok y) x e in
      let b = bind_ok (host_item here inlets a.0.0) (λ (seen : Seen). item_ok a.0) x a.2 in
      subst (λ (y : Item × List ℕ). HostRead lane bytes y) (ok_is {E = ReadFault} a.0 x b.2) (record { item = a.1; seen = b.0; sees = b.1 })

  -- a host sees of a hello its lane certificate
  pub sees_hello : (lane : LaneCert) (seen : Seen) → host_item here inlets (items.Hello lane) ≡ Ok seen → seen ≡ Hello lane
  unfolding host_item
  sees_hello lane seen e = go (same_key lane.receiver here) (inlet_at inlets lane) e
    where
      go : (b : Bool) (o : Option ℕ) → (cond b (declared_lane lane o) (Err (Broken causes.HelloReceiver 6)) >>= λ (l : LaneCert). seen_ok (Hello l)) ≡ Ok seen → seen ≡ Hello lane
      go true (Some i) f = sym (ok_is {E = ReadFault} (Hello lane) seen f)
      go true None f = absurd cc
      go false o f = absurd cc

  -- and of a frame its messages
  pub record SeenFrame (frame : Frame) (seen : Seen) : Type 0 where
    pub messages : List Message
    pub read : messages_from 11 frame.bodies ≡ Ok messages
    pub is : seen ≡ Framed frame.number messages

  pub sees_frame : (frame : Frame) (seen : Seen) → host_item here inlets (items.Frame frame) ≡ Ok seen → SeenFrame frame seen
  unfolding host_item
  sees_frame frame seen e =
      let a = bind_ok (messages_from 11 frame.bodies) (λ (ms : List Message). seen_ok (Framed frame.number ms)) seen e in
      record { messages = a.0; read = a.1; is = sym (ok_is {E = ReadFault} (Framed frame.number a.0) seen a.2) }

  -- all that the host sees from a place on
  abbrev pub seen_on : (most : ℕ) → Option LaneCert → (passed : ℕ) → List ℕ → List Seen
  seen_on most lane passed bytes = seen_of_items here inlets (read_on (host_reading here inlets) most lane passed bytes).items

  -- the first item of a stream
  pub record IsFirst (bytes : List ℕ) (x : Item × List ℕ) : Type 0 where
    pub hello : HelloItem bytes x
    pub behind : ℕ
    pub items : items_of here inlets bytes ≡ Hello hello.lane ∷ seen_on (suc (length x.1)) (Some hello.lane) behind x.1

  pub first_ok : (bytes : List ℕ) (x : Item × List ℕ) → host_reading here inlets None bytes ≡ Ok x → IsFirst bytes x
  first_ok bytes x e =
      let r = host_read None bytes x e in
      let h = hello_item bytes x r.item in
      let sees : host_item here inlets (items.Hello h.lane) ≡ Ok r.seen = subst (λ (item : Item). host_item here inlets item ≡ Ok r.seen) h.is r.sees in
      let seen : seen_or_none (host_item here inlets x.0) ≡ Hello h.lane ∷ [] = ap seen_or_none r.sees ∙ ap (λ (s : Seen). s ∷ []) (sees_hello h.lane r.seen sees) in
      let later = ap (λ (s : Stream). seen_of_items here inlets s.items) (step_ok (host_reading here inlets) (steady_host here inlets) None 0 bytes x e) in
      let behind = 0 + (length bytes - length x.1) in
      record {
        hello = h;
        behind = behind;
        items = later ∙ ap (λ (front : List Seen). front ++ seen_on (suc (length x.1)) (lane_after x.0 None) behind x.1) seen ∙ ap (λ (item : Item). Hello h.lane ∷ seen_on (suc (length x.1)) (lane_after item None) behind x.1) h.is;
      }

  pub first_err : (bytes : List ℕ) (stop : ReadFault) → host_reading here inlets None bytes ≡ Err stop → items_of here inlets bytes ≡ []
  first_err bytes Open e = ap (λ (s : Stream). seen_of_items here inlets s.items) (step_err (host_reading here inlets) (steady_host here inlets) None 0 bytes Open e)
  first_err bytes (Broken cause offset) e = ap (λ (s : Stream). seen_of_items here inlets s.items) (step_err (host_reading here inlets) (steady_host here inlets) None 0 bytes (Broken cause offset) e)

  -- the lane certificate that was read first

  abbrev pub first_lane : List ℕ → Option LaneCert
  first_lane bytes = hello_of (slice_get (items_of here inlets bytes) 0)

  pub lane_none : (bytes : List ℕ) (stop : ReadFault) → host_reading here inlets None bytes ≡ Err stop → first_lane bytes ≡ None
  lane_none bytes stop e = ap (λ (seen : List Seen). hello_of (slice_get seen 0)) (first_err bytes stop e)

  pub lane_some : (bytes : List ℕ) (x : Item × List ℕ) (e : host_reading here inlets None bytes ≡ Ok x) → first_lane bytes ≡ Some (first_ok bytes x e).hello.lane
  lane_some bytes x e = ap (λ (seen : List Seen). hello_of (slice_get seen 0)) (first_ok bytes x e).items

  pub lane_is : (bytes : List ℕ) (lane : LaneCert) (rest : List ℕ) → host_reading here inlets None bytes ≡ Ok (items.Hello lane, rest) → first_lane bytes ≡ Some lane
  lane_is bytes lane rest e =
      let f = first_ok bytes (items.Hello lane, rest) e in
      let same : f.hello.lane ≡ lane = let g : items.Hello lane ≡ items.Hello f.hello.lane = f.hello.is in cc in
      lane_some bytes (items.Hello lane, rest) e ∙ ap (λ (l : LaneCert). Some l) same

  -- a stream of which a lane certificate was read first
  pub record BeginsWith (bytes : List ℕ) (lane : LaneCert) : Type 0 where
    pub rest : List ℕ
    pub reads : host_reading here inlets None bytes ≡ Ok (items.Hello lane, rest)
    pub hello : read_hello bytes ≡ Ok (lane, rest)
    pub behind : ℕ
    pub items : items_of here inlets bytes ≡ Hello lane ∷ seen_on (suc (length rest)) (Some lane) behind rest

  pub begins_with : (bytes : List ℕ) (lane : LaneCert) → first_lane bytes ≡ Some lane → BeginsWith bytes lane
  begins_with bytes lane told = cases (host_reading here inlets None bytes) refl
    where
      cases : (r : Result (Item × List ℕ) ReadFault) → host_reading here inlets None bytes ≡ r → BeginsWith bytes lane
      cases (Ok x) e =
          let f = first_ok bytes x e in
          let same : f.hello.lane ≡ lane = same_some f.hello.lane lane (sym (lane_some bytes x e) ∙ told) in
          let whole : x ≡ (items.Hello f.hello.lane, x.1) = ap (λ (item : Item). (item, x.1)) f.hello.is in
          subst (λ (l : LaneCert). BeginsWith bytes l) same (record { rest = x.1; reads = e ∙ ap item_ok whole; hello = f.hello.read; behind = f.behind; items = f.items })
      cases (Err stop) e = let wrong : None ≡ Some lane = sym (lane_none bytes stop e) ∙ told in absurd cc
