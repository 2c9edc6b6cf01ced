-- What a lane wrote, cut anywhere: its hello and its frames are read as they were written, or nothing more is read.
use Rattle.std.proofs.Common.{◌≡◌, ℕ, zero, suc, ◌+◌, ◌-◌, ◌<◌, ◌≤◌, ◌^◌, Bool, true, false, cond, ltb, List, [], ◌∷◌, ◌++◌, length, take, drop, Option, Some, None, refl, sym, ap, subst, ◌∙◌, ◌⊎◌, inl, inr, arith}
use Rattle.std.specs.Prelude.{Result, Ok, Err}
use Rattle.std.proofs.lemmas.List.{take-append-drop, take-append-le, length-drop}
use Rattle.std.proofs.lemmas.Bool.{ltb-true, ltb-false}
use Rattle.ds_label.specs.declared.category.PubKey.{PubKey}
use Rattle.ds_cert.specs.declared.lane.LaneCert.{LaneCert}
use Rattle.ds_cert.specs.Fields.{◌>>=◌, placed}
use Rattle.ds_cert.specs.Laws.{IsSpelling}
use Rattle.ds_cert.specs.Ranges.{LaneCertFits}
use Rattle.ds_cert.specs.Reading.{lane_cert_at, read_lane_cert}
use Rattle.ds_cert.specs.Spelling.{spelling_of_lane_cert}
use Rattle.ds_cert.proofs.RecordLaws.{is_lane_cert}
use Rattle.ds_cert.proofs.Wholes.{alone_again}
use Rattle.ds_frame.specs.declared.cause.Cause.TheVariants as causes
use Rattle.ds_frame.specs.declared.item.Frame.{Frame}
use Rattle.ds_frame.specs.declared.item.Item.{Item}
use Rattle.ds_frame.specs.declared.item.Item.TheVariants as items
use Rattle.ds_frame.specs.Bodies.{split}
use Rattle.ds_frame.specs.Checks.{is_good_lane_cert, is_good, begins_with, checked_cert, checked_bodies, read_hello, read_frame, read_item}
use Rattle.ds_frame.specs.Fields.{ReadFault, Open, Broken}
use Rattle.ds_frame.specs.Outer.{read_outer_hello, read_outer_frame}
use Rattle.ds_frame.specs.Ranges.{HelloFits, OuterFrameFits, BodiesRange, FrameSignatureFits}
use Rattle.ds_frame.specs.Spelling.{outer_spelling_of_hello, OuterFrame, signed_fields, outer_spelling_of_frame, spelling_of_bodies, spelling_of_hello, spelling_of_frame}
use Rattle.ds_frame.proofs.BodyLaws.{split_again, all_counted, some_bytes}
use Rattle.ds_frame.proofs.Lengths.{hello_fits}
use Rattle.ds_frame.proofs.OuterLaws.{is_outer_hello, is_outer_frame}
use Rattle.ds_frame.proofs.Steady.{IsSteady}
use Rattle.ds_frame.proofs.SteadyItems.{steady_outer_hello, steady_outer_frame}
use Rattle.ds_frame.proofs.Written.{open_before}
use Rattle.ds_model.specs.Keys.{same_key}
use Rattle.ds_model.specs.Scheme.{InletName, Item as Seen, Hello}
use Rattle.ds_inlet.specs.Hosts.{inlet_at, declared_lane, host_item, host_reading}

-- ---- a list whose front is cut off

take_past : (n : ℕ) (front rest : List ℕ) → length front ≤ n → take n (front ++ rest) ≡ front ++ take (n - length front) rest
take_past n [] rest le = let same : n ≡ n - 0 = omega arith in ap (λ (m : ℕ). take m rest) same
take_past zero (x ∷ front) rest le = absurd (omega (arith, le))
take_past (suc n) (x ∷ front) rest le =
    let same : n - length front ≡ suc n - suc (length front) = omega arith in
    ap (λ (l : List ℕ). x ∷ l) (take_past n front rest (omega (arith, le))) ∙ ap (λ (m : ℕ). x ∷ (front ++ take m rest)) same

some_left : (n : ℕ) (whole : List ℕ) → n < length whole → drop n whole ≡ [] → ⊥
some_left n whole lt e = omega (arith, ap length e, length-drop n whole, lt)

-- what a reader makes of a spelling that is cut: nothing yet, or the whole of it stands in front
pub record IsCut (bytes text rest : List ℕ) : Type 0 where
  pub n : ℕ
  pub parts : bytes ≡ text ++ take n rest

module _ {A : Type 0} (Fits : A → Type 0) (spelling : A → List ℕ) (reading : List ℕ → Result (A × List ℕ) ReadFault) (is : IsSpelling Fits spelling reading) (least : ℕ) (steady : IsSteady least reading) where
  pub cut : (x : A) (rest : List ℕ) (n : ℕ) → Fits x → (reading (take n (spelling x ++ rest)) ≡ Err Open) ⊎ IsCut (take n (spelling x ++ rest)) (spelling x) rest
  cut x rest n fits = cases (ltb n (length (spelling x))) refl
    where
      within : n < length (spelling x) → (reading (take n (spelling x ++ rest)) ≡ Err Open) ⊎ IsCut (take n (spelling x ++ rest)) (spelling x) rest
      within lt =
          let part : take n (spelling x ++ rest) ≡ take n (spelling x) = take-append-le n (spelling x) rest (omega (arith, lt)) in
          inl (ap reading part ∙ open_before Fits spelling reading is least steady x (take n (spelling x)) (drop n (spelling x)) fits (sym (take-append-drop n (spelling x))) (some_left n (spelling x) lt))

      past : length (spelling x) ≤ n → (reading (take n (spelling x ++ rest)) ≡ Err Open) ⊎ IsCut (take n (spelling x ++ rest)) (spelling x) rest
      past le = inr (record { n = n - length (spelling x); parts = take_past n (spelling x) rest le })

      cases : (b : Bool) → ltb n (length (spelling x)) ≡ b → (reading (take n (spelling x ++ rest)) ≡ Err Open) ⊎ IsCut (take n (spelling x ++ rest)) (spelling x) rest
      cases true e = within (ltb-true n (length (spelling x)) e)
      cases false e = past (ltb-false n (length (spelling x)) e)

-- ---- hellos

abbrev hello_ok : LaneCert × List ℕ → Result (LaneCert × List ℕ) ReadFault
hello_ok x = Ok x

abbrev frame_ok : Frame × List ℕ → Result (Frame × List ℕ) ReadFault
frame_ok x = Ok x

abbrev item_ok : Item × List ℕ → Result (Item × List ℕ) ReadFault
item_ok x = Ok x

abbrev seen_ok : Seen → Result Seen ReadFault
seen_ok seen = Ok seen

cert_again : (lane : LaneCert) → LaneCertFits lane → read_lane_cert (spelling_of_lane_cert lane) ≡ Ok lane
unfolding read_lane_cert
cert_again lane fits = ap (placed (spelling_of_lane_cert lane)) (alone_again LaneCertFits spelling_of_lane_cert lane_cert_at is_lane_cert lane fits)

-- a value, or why there is none
abbrev pub OkOr : Item × List ℕ → Result (Item × List ℕ) ReadFault → Type 0
OkOr x r = (r ≡ Ok x) ⊎ ((stop : ReadFault) × (r ≡ Err stop))

module _ (here : PubKey) (inlets : List InletName) where
  -- an item that stands in front was read, or nothing was
  pub data ReadOrNot (lane : Option LaneCert) (bytes : List ℕ) (item : Item) (rest : List ℕ) : Type 0 where
    WasRead : (n : ℕ) → host_reading here inlets lane bytes ≡ Ok (item, take n rest) → ReadOrNot lane bytes item rest
    NotRead : (stop : ReadFault) → host_reading here inlets lane bytes ≡ Err stop → ReadOrNot lane bytes item rest

  either : (lane : Option LaneCert) (bytes : List ℕ) (item : Item) (rest : List ℕ) (n : ℕ) → OkOr (item, take n rest) (host_reading here inlets lane bytes) → ReadOrNot lane bytes item rest
  either lane bytes item rest n (inl e) = WasRead n e
  either lane bytes item rest n (inr e) = NotRead e.0 e.1

  -- what the host makes of an item
  abbrev with_seen : Item × List ℕ → Result (Item × List ℕ) ReadFault
  with_seen x = host_item here inlets x.0 >>= λ (seen : Seen). item_ok x

  -- and of a hello whose outer fields were read
  abbrev from_cert : (rest : List ℕ) → Result LaneCert ReadFault → Result (Item × List ℕ) ReadFault
  from_cert rest r = ((r >>= λ (lane : LaneCert). hello_ok (lane, rest)) >>= λ (found : LaneCert × List ℕ). item_ok (items.Hello found.0, found.1)) >>= with_seen

  abbrev from_outer_hello : Result (List ℕ × List ℕ) ReadFault → Result (Item × List ℕ) ReadFault
  from_outer_hello r = ((r >>= λ (cert : List ℕ × List ℕ). checked_cert (read_lane_cert cert.0) >>= λ (lane : LaneCert). hello_ok (lane, cert.1)) >>= λ (found : LaneCert × List ℕ). item_ok (items.Hello found.0, found.1)) >>= with_seen

  hello_by : (bytes : List ℕ) → host_reading here inlets None bytes ≡ from_outer_hello (read_outer_hello bytes)
  unfolding host_reading read_item read_hello
  hello_by bytes = refl

  seen_hello : (lane : LaneCert) (rest : List ℕ) → OkOr (items.Hello lane, rest) (with_seen (items.Hello lane, rest))
  unfolding host_item
  seen_hello lane rest = go (same_key lane.receiver here) (inlet_at inlets lane)
    where
      go : (b : Bool) (o : Option ℕ) → OkOr (items.Hello lane, rest) ((cond b (declared_lane lane o) (Err (Broken causes.HelloReceiver 6)) >>= λ (l : LaneCert). seen_ok (Hello l)) >>= λ (seen : Seen). item_ok (items.Hello lane, rest))
      go true (Some i) = inl refl
      go true None = inr (Broken causes.NoInlet 6, refl)
      go false o = inr (Broken causes.HelloReceiver 6, refl)

  good_hello : (lane : LaneCert) (rest : List ℕ) (b : Bool) → OkOr (items.Hello lane, rest) (from_cert rest (cond b (Ok lane) (Err (Broken causes.HelloSignature 6))))
  good_hello lane rest true = seen_hello lane rest
  good_hello lane rest false = inr (Broken causes.HelloSignature 6, refl)

  -- the hello of a lane, cut anywhere
  pub hello_cut : (lane : LaneCert) (rest : List ℕ) (n : ℕ) → LaneCertFits lane → ReadOrNot None (take n (spelling_of_hello lane ++ rest)) (items.Hello lane) rest
  hello_cut lane rest n fits = go (cut HelloFits (λ (cert : List ℕ). outer_spelling_of_hello cert) read_outer_hello is_outer_hello 1 steady_outer_hello (spelling_of_lane_cert lane) rest n (hello_fits lane fits))
    where
      go : (read_outer_hello (take n (spelling_of_hello lane ++ rest)) ≡ Err Open) ⊎ IsCut (take n (spelling_of_hello lane ++ rest)) (spelling_of_hello lane) rest → ReadOrNot None (take n (spelling_of_hello lane ++ rest)) (items.Hello lane) rest
      go (inl waits) = NotRead Open (hello_by (take n (spelling_of_hello lane ++ rest)) ∙ ap from_outer_hello waits)
      go (inr c) =
          let behind = take c.n rest in
          let outer : read_outer_hello (take n (spelling_of_hello lane ++ rest)) ≡ Ok (spelling_of_lane_cert lane, behind) = ap read_outer_hello c.parts ∙ is_outer_hello.read_again (spelling_of_lane_cert lane) behind (hello_fits lane fits) in
          let read = hello_by (take n (spelling_of_hello lane ++ rest)) ∙ ap from_outer_hello outer ∙ ap (λ (r : Result LaneCert ℕ). from_cert behind (checked_cert r)) (cert_again lane fits) in
          either None (take n (spelling_of_hello lane ++ rest)) (items.Hello lane) rest c.n (subst (λ (r : Result (Item × List ℕ) ReadFault). OkOr (items.Hello lane, behind) r) (sym read) (good_hello lane behind (is_good_lane_cert lane)))

  -- ---- frames

  abbrev from_frame : (rest : List ℕ) → Result Frame ReadFault → Result (Item × List ℕ) ReadFault
  from_frame rest r = ((r >>= λ (frame : Frame). frame_ok (frame, rest)) >>= λ (found : Frame × List ℕ). item_ok (items.Frame found.0, found.1)) >>= with_seen

  abbrev from_outer_frame : PubKey → Result (OuterFrame × List ℕ) ReadFault → Result (Item × List ℕ) ReadFault
  from_outer_frame key r = ((r >>= λ (o : OuterFrame × List ℕ). checked_bodies key o.0 (split o.0.messages o.0.body) >>= λ (frame : Frame). frame_ok (frame, o.1)) >>= λ (found : Frame × List ℕ). item_ok (items.Frame found.0, found.1)) >>= with_seen

  frame_by : (lane : LaneCert) (bytes : List ℕ) → host_reading here inlets (Some lane) bytes ≡ from_outer_frame lane.key (read_outer_frame bytes)
  unfolding host_reading read_item read_frame
  frame_by lane bytes = refl

  -- what its parts may be
  pub record IsWritten (frame : Frame) (signature : List ℕ) : Type 0 where
    pub number : frame.number < 2 ^ 32
    pub bodies : BodiesRange frame.bodies
    pub size : FrameSignatureFits signature
    pub seen : Seen
    pub sees : host_item here inlets (items.Frame frame) ≡ Ok seen

  abbrev outer_of : Frame → List ℕ → OuterFrame
  outer_of frame signature = record { number = frame.number; messages = length frame.bodies; body = spelling_of_bodies frame.bodies; signature = signature }

  good_frame : (frame : Frame) (rest : List ℕ) (seen : Seen) (b c : Bool) (leaf bad : ReadFault) → host_item here inlets (items.Frame frame) ≡ Ok seen → OkOr (items.Frame frame, rest) (from_frame rest (cond b (cond c (Ok frame) (Err bad)) (Err leaf)))
  good_frame frame rest seen false c leaf bad e = inr (leaf, refl)
  good_frame frame rest seen true false leaf bad e = inr (bad, refl)
  good_frame frame rest seen true true leaf bad e = inl (ap (λ (r : Result Seen ReadFault). r >>= λ (s : Seen). item_ok (items.Frame frame, rest)) e)

  -- a frame, cut anywhere
  pub frame_cut : (lane : LaneCert) (frame : Frame) (signature rest : List ℕ) (n : ℕ) → IsWritten frame signature
      → ReadOrNot (Some lane) (take n (spelling_of_frame frame.number frame.bodies signature ++ rest)) (items.Frame frame) rest
  unfolding outer_spelling_of_frame
  frame_cut lane frame signature rest n is = go (cut OuterFrameFits outer_spelling_of_frame read_outer_frame is_outer_frame 1 steady_outer_frame (outer_of frame signature) rest n fits)
    where
      fits : OuterFrameFits (outer_of frame signature)
      fits = record { number = is.number; first = is.bodies.first; last = is.bodies.last; some = some_bytes frame.bodies is.bodies.first; most = is.bodies.most; signature = is.size }

      whole : List ℕ
      whole = spelling_of_frame frame.number frame.bodies signature

      go : (read_outer_frame (take n (whole ++ rest)) ≡ Err Open) ⊎ IsCut (take n (whole ++ rest)) whole rest → ReadOrNot (Some lane) (take n (whole ++ rest)) (items.Frame frame) rest
      go (inl waits) = NotRead Open (frame_by lane (take n (whole ++ rest)) ∙ ap (from_outer_frame lane.key) waits)
      go (inr c) =
          let o = outer_of frame signature in
          let behind = take c.n rest in
          let outer : read_outer_frame (take n (whole ++ rest)) ≡ Ok (o, behind) = ap read_outer_frame c.parts ∙ is_outer_frame.read_again o behind fits in
          let splits : split o.messages o.body ≡ Some frame.bodies = split_again frame.bodies (all_counted frame.bodies (omega (arith, is.bodies.most))) in
          let read = frame_by lane (take n (whole ++ rest)) ∙ ap (from_outer_frame lane.key) outer ∙ ap (λ (r : Option (List (List ℕ))). from_frame behind (checked_bodies lane.key o r)) splits in
          either (Some lane) (take n (whole ++ rest)) (items.Frame frame) rest c.n (subst (λ (r : Result (Item × List ℕ) ReadFault). OkOr (items.Frame frame, behind) r) (sym read)
          (good_frame frame behind is.seen (begins_with o.number o.signature) (is_good lane.key.0 (signed_fields o.number o.messages o.body) o.signature) (Broken causes.Leaf (13 + length o.body)) (Broken causes.Signature (13 + length o.body)) is.sees))
