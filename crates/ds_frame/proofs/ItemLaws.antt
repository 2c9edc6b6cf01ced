-- An item that is read stands in front as it is spelled, and what is spelled so is read again.
use Rattle.std.proofs.Common.{◌≡◌, ℕ, ◌+◌, ◌≤◌, Bool, true, false, cond, List, ◌++◌, length, take, Option, Some, None, refl, sym, ap, subst, ◌∙◌, arith, drop, ◌-◌, length-append}
use Rattle.std.specs.Prelude.{Result, Ok, Err}
use Rattle.std.specs.Int.{w8, w16, w32, to_be_bytes}
use Rattle.std.proofs.lemmas.List.{drop_at}
use Rattle.std.proofs.lemmas.Slice.Eq.{bytes_eq-Decides}
use Rattle.lms_sig.specs.Good.{IsGood}
use Rattle.ds_wire.specs.Fields.{IsBytes}
use Rattle.ds_label.specs.declared.category.PubKey.{PubKey}
use Rattle.ds_cert.specs.declared.lane.LaneCert.{LaneCert}
use Rattle.ds_cert.specs.Fields.{placed}
use Rattle.ds_cert.specs.Ranges.{LaneCertFits}
use Rattle.ds_cert.specs.Reading.{lane_cert_at, read_lane_cert}
use Rattle.ds_cert.specs.Spelling.{spelling_of_lane_cert, spelling_of_signature, signed_part_of_lane_cert}
use Rattle.ds_cert.proofs.RecordLaws.{is_lane_cert}
use Rattle.ds_cert.proofs.Steps.{bind_ok, bind_is, ok_is, IsBytes-front, IsBytes-behind}
use Rattle.ds_cert.proofs.Wholes.{found_whole, alone_again}
use Rattle.ds_frame.specs.declared.cause.Cause.TheVariants as causes
use Rattle.ds_frame.specs.declared.item.Frame.{Frame}
use Rattle.ds_frame.specs.declared.item.Item.{Item}
use Rattle.ds_frame.specs.declared.item.Item.TheVariants as items
use Rattle.ds_frame.specs.Bodies.{split}
use Rattle.ds_frame.specs.Checks.{is_good, is_good_lane_cert, checked_cert, begins_with, checked_bodies, read_hello, read_frame, read_item}
use Rattle.ds_frame.specs.Fields.{ReadFault, Broken}
use Rattle.ds_frame.specs.Laws.{IsHello, IsFrame, StartsWithHello, StartsWithFrame, StartsWith}
use Rattle.ds_frame.specs.Outer.{read_outer_hello, read_outer_frame}
use Rattle.ds_frame.specs.Ranges.{OuterFrameFits, BodiesRange}
use Rattle.ds_frame.specs.Spelling.{outer_spelling_of_hello, OuterFrame, signed_fields, outer_spelling_of_frame, spelling_of_bodies, spelling_of_hello, spelling_of_frame, part_of_frame}
use Rattle.ds_frame.proofs.BodyLaws.{IsSplit, split_spelt, split_again, all_counted, some_bytes}
use Rattle.ds_frame.proofs.Goods.{good_from_test, test_from_good}
use Rattle.ds_frame.proofs.Lengths.{hello_fits}
use Rattle.ds_frame.proofs.OuterLaws.{is_outer_hello, is_outer_frame}

-- ---- hellos

cert_bytes : (cert : List ℕ) → IsBytes (outer_spelling_of_hello cert) → IsBytes cert
unfolding outer_spelling_of_hello
cert_bytes cert fits =
    IsBytes-behind (to_be_bytes w16 (length cert)) cert
    (IsBytes-behind (to_be_bytes w8 0x31) (to_be_bytes w16 (length cert) ++ cert)
    (IsBytes-behind (to_be_bytes w8 0x58) (to_be_bytes w8 0x31 ++ (to_be_bytes w16 (length cert) ++ cert))
    (IsBytes-behind (to_be_bytes w8 0x53) (to_be_bytes w8 0x58 ++ (to_be_bytes w8 0x31 ++ (to_be_bytes w16 (length cert) ++ cert)))
    (IsBytes-behind (to_be_bytes w8 0x44) (to_be_bytes w8 0x53 ++ (to_be_bytes w8 0x58 ++ (to_be_bytes w8 0x31 ++ (to_be_bytes w16 (length cert) ++ cert)))) fits))))

record IsCert (cert : List ℕ) (lane : LaneCert) : Type 0 where
  pub hello : IsHello lane
  pub spelled : cert ≡ spelling_of_lane_cert lane

cert_spelt : (cert : List ℕ) (lane : LaneCert) → IsBytes cert → checked_cert (read_lane_cert cert) ≡ Ok lane → IsCert cert lane
unfolding read_lane_cert
cert_spelt cert lane fits e = cases (read_lane_cert cert) refl e
  where
    good : (found : LaneCert) (b : Bool) → read_lane_cert cert ≡ Ok found → is_good_lane_cert found ≡ b → cond b (Ok found) (Err (Broken causes.HelloSignature 6)) ≡ Ok lane → IsCert cert lane
    good found true f g h =
        let spelt = found_whole LaneCertFits spelling_of_lane_cert lane_cert_at is_lane_cert LaneCertFits (λ x fits. fits) cert (Ok found) fits f in
        subst (λ (l : LaneCert). IsCert cert l) (ok_is {E = ReadFault} found lane h)
        (record { hello = record { fits = spelt.0; good = good_from_test found.exporter.0 (signed_part_of_lane_cert found) found.signature g }; spelled = spelt.1 })
    good found false f g h = absurd cc

    cases : (r : Result LaneCert ℕ) → read_lane_cert cert ≡ r → checked_cert r ≡ Ok lane → IsCert cert lane
    cases (Ok found) f g = good found (is_good_lane_cert found) f refl g
    cases (Err place) f g = absurd cc

pub hello_starts : (bytes : List ℕ) (x : LaneCert × List ℕ) → IsBytes bytes → read_hello bytes ≡ Ok x → StartsWithHello x.0 bytes x.1
unfolding read_hello
hello_starts bytes x fits e =
    let b = bind_ok (read_outer_hello bytes) _ x e in
    let t = is_outer_hello.spelled_so bytes b.0.0 b.0.1 fits b.1 in
    let c = bind_ok (checked_cert (read_lane_cert b.0.0)) (λ (lane : LaneCert). Ok (lane, b.0.1)) x b.2 in
    let cert = cert_spelt b.0.0 c.0 (cert_bytes b.0.0 (IsBytes-front (outer_spelling_of_hello b.0.0) b.0.1 (subst IsBytes t.0.parts fits))) c.1 in
    subst (λ (y : LaneCert × List ℕ). StartsWithHello y.0 bytes y.1) (ok_is {E = ReadFault} (c.0, b.0.1) x c.2)
    (record { hello = cert.hello; parts = t.0.parts ∙ ap (λ (spelled : List ℕ). outer_spelling_of_hello spelled ++ b.0.1) cert.spelled })

cert_again : (lane : LaneCert) → LaneCertFits lane → read_lane_cert (spelling_of_lane_cert lane) ≡ Ok lane
unfolding read_lane_cert
cert_again lane fits = ap (placed (spelling_of_lane_cert lane)) (alone_again LaneCertFits spelling_of_lane_cert lane_cert_at is_lane_cert lane fits)

pub hello_again : (lane : LaneCert) (rest : List ℕ) → IsHello lane → read_hello (spelling_of_hello lane ++ rest) ≡ Ok (lane, rest)
unfolding read_hello
hello_again lane rest hello =
    let cert = spelling_of_lane_cert lane in
    let good : is_good_lane_cert lane ≡ true = test_from_good lane.exporter.0 (signed_part_of_lane_cert lane) lane.signature hello.good in
    let checked : checked_cert (read_lane_cert cert) ≡ Ok lane = ap checked_cert (cert_again lane hello.fits) ∙ rw good refl in
    bind_is (read_outer_hello (outer_spelling_of_hello cert ++ rest)) _ (cert, rest) (Ok (lane, rest)) (is_outer_hello.read_again cert rest (hello_fits lane hello.fits))
    (bind_is (checked_cert (read_lane_cert cert)) (λ (found : LaneCert). Ok (found, rest)) lane (Ok (lane, rest)) checked refl)

-- ---- frames

body_bytes : (number messages : ℕ) (body : List ℕ) → IsBytes (signed_fields number messages body) → IsBytes body
unfolding signed_fields
body_bytes number messages body fits =
    IsBytes-behind (to_be_bytes w32 (length body)) body
    (IsBytes-behind (to_be_bytes w16 messages) (to_be_bytes w32 (length body) ++ body)
    (IsBytes-behind (to_be_bytes w32 number) (to_be_bytes w16 messages ++ (to_be_bytes w32 (length body) ++ body))
    (IsBytes-behind (to_be_bytes w8 4) (to_be_bytes w32 number ++ (to_be_bytes w16 messages ++ (to_be_bytes w32 (length body) ++ body))) fits)))

outer_body : (o : OuterFrame) (rest : List ℕ) → IsBytes (outer_spelling_of_frame o ++ rest) → IsBytes o.body
unfolding outer_spelling_of_frame
outer_body o rest fits = body_bytes o.number o.messages o.body (IsBytes-front (signed_fields o.number o.messages o.body) (spelling_of_signature o.signature) (IsBytes-front (outer_spelling_of_frame o) rest fits))

record IsChecked (key : PubKey) (o : OuterFrame) (frame : Frame) : Type 0 where
  pub signed : IsFrame key frame o.signature
  pub spelled : outer_spelling_of_frame o ≡ spelling_of_frame frame.number frame.bodies o.signature

fields_split : (o : OuterFrame) (bodies : List (List ℕ)) → IsSplit o.messages o.body bodies → signed_fields o.number o.messages o.body ≡ part_of_frame o.number bodies
fields_split o bodies is = ap (λ (messages : ℕ). signed_fields o.number messages o.body) (sym is.count) ∙ ap (λ (body : List ℕ). signed_fields o.number (length bodies) body) is.spelled

bodies_range : (o : OuterFrame) (bodies : List (List ℕ)) → OuterFrameFits o → IsSplit o.messages o.body bodies → BodiesRange bodies
bodies_range o bodies fits is = record {
  first = omega (arith, fits.first, is.count);
  last = omega (arith, fits.last, is.count);
  most = subst (λ (body : List ℕ). length body ≤ 1155728) is.spelled fits.most;
}

frame_checked : (key : PubKey) (o : OuterFrame) (frame : Frame) → OuterFrameFits o → IsBytes o.body → checked_bodies key o (split o.messages o.body) ≡ Ok frame → IsChecked key o frame
unfolding outer_spelling_of_frame
frame_checked key o frame fits bytes e = cases (split o.messages o.body) refl e
  where
    made : List (List ℕ) → Frame
    made bodies = record { number = o.number; bodies = bodies }

    signed : (bodies : List (List ℕ)) (b c : Bool) → IsSplit o.messages o.body bodies → begins_with o.number o.signature ≡ b → is_good key.0 (signed_fields o.number o.messages o.body) o.signature ≡ c
        → cond b (cond c (Ok (record { number = o.number; bodies = bodies })) (Err (Broken causes.Signature (13 + length o.body)))) (Err (Broken causes.Leaf (13 + length o.body))) ≡ Ok frame → IsChecked key o frame
    signed bodies false c is f g h = absurd cc
    signed bodies true false is f g h = absurd cc
    signed bodies true true is f g h =
        let good : IsGood key.0 (part_of_frame o.number bodies) o.signature = subst (λ (part : List ℕ). IsGood key.0 part o.signature) (fields_split o bodies is) (good_from_test key.0 (signed_fields o.number o.messages o.body) o.signature g) in
        let frame_is : Frame = record { number = o.number; bodies = bodies } in
        subst (λ (x : Frame). IsChecked key o x) (ok_is {E = ReadFault} frame_is frame h)
        (record {
          signed = record { number = fits.number; bodies = bodies_range o bodies fits is; size = fits.signature; leaf = (bytes_eq-Decides (take 4 o.signature) (to_be_bytes w32 o.number)).0 f; good = good };
          spelled = ap (λ (part : List ℕ). part ++ spelling_of_signature o.signature) (fields_split o bodies is);
        })

    cases : (r : Option (List (List ℕ))) → split o.messages o.body ≡ r → checked_bodies key o r ≡ Ok frame → IsChecked key o frame
    cases None f g = absurd cc
    cases (Some bodies) f g = signed bodies (begins_with o.number o.signature) (is_good key.0 (signed_fields o.number o.messages o.body) o.signature) (split_spelt o.messages o.body bodies bytes f) refl refl g

pub frame_starts : (key : PubKey) (bytes : List ℕ) (x : Frame × List ℕ) → IsBytes bytes → read_frame key bytes ≡ Ok x → StartsWithFrame key x.0 bytes x.1
unfolding read_frame
frame_starts key bytes x fits e =
    let b = bind_ok (read_outer_frame bytes) _ x e in
    let t = is_outer_frame.spelled_so bytes b.0.0 b.0.1 fits b.1 in
    let c = bind_ok (checked_bodies key b.0.0 (split b.0.0.messages b.0.0.body)) (λ (frame : Frame). Ok (frame, b.0.1)) x b.2 in
    let checked = frame_checked key b.0.0 c.0 t.1 (outer_body b.0.0 b.0.1 (subst IsBytes t.0.parts fits)) c.1 in
    subst (λ (y : Frame × List ℕ). StartsWithFrame key y.0 bytes y.1) (ok_is {E = ReadFault} (c.0, b.0.1) x c.2)
    (record { signature = b.0.0.signature; signed = checked.signed; parts = t.0.parts ∙ ap (λ (spelled : List ℕ). spelled ++ b.0.1) checked.spelled })

frame_fits : (key : PubKey) (frame : Frame) (signature : List ℕ) → IsFrame key frame signature → OuterFrameFits (record { number = frame.number; messages = length frame.bodies; body = spelling_of_bodies frame.bodies; signature = signature })
frame_fits key frame signature is = record { number = is.number; first = is.bodies.first; last = is.bodies.last; some = some_bytes frame.bodies is.bodies.first; most = is.bodies.most; signature = is.size }

pub frame_again : (key : PubKey) (frame : Frame) (signature rest : List ℕ) → IsFrame key frame signature → read_frame key (spelling_of_frame frame.number frame.bodies signature ++ rest) ≡ Ok (frame, rest)
unfolding read_frame outer_spelling_of_frame
frame_again key frame signature rest is =
    let o : OuterFrame = record { number = frame.number; messages = length frame.bodies; body = spelling_of_bodies frame.bodies; signature = signature } in
    let splits : split o.messages o.body ≡ Some frame.bodies = split_again frame.bodies (all_counted frame.bodies (omega (arith, is.bodies.most))) in
    let begins : begins_with frame.number signature ≡ true = (bytes_eq-Decides (take 4 signature) (to_be_bytes w32 frame.number)).1 is.leaf in
    let good : is_good key.0 (part_of_frame frame.number frame.bodies) signature ≡ true = test_from_good key.0 (part_of_frame frame.number frame.bodies) signature is.good in
    let checked : checked_bodies key o (split o.messages o.body) ≡ Ok frame = ap (checked_bodies key o) splits ∙ rw (begins, good) refl in
    bind_is (read_outer_frame (outer_spelling_of_frame o ++ rest)) _ (o, rest) (Ok (frame, rest)) (is_outer_frame.read_again o rest (frame_fits key frame signature is))
    (bind_is (checked_bodies key o (split o.messages o.body)) (λ (found : Frame). Ok (found, rest)) frame (Ok (frame, rest)) checked refl)

-- ---- items

pub item_starts : (lane : Option LaneCert) (bytes : List ℕ) (x : Item × List ℕ) → IsBytes bytes → read_item lane bytes ≡ Ok x → StartsWith lane x.0 bytes x.1
unfolding read_item
item_starts None bytes x fits e =
    let b = bind_ok (read_hello bytes) (λ (hello : LaneCert × List ℕ). Ok (items.Hello hello.0, hello.1)) x e in
    subst (λ (y : Item × List ℕ). StartsWith None y.0 bytes y.1) (ok_is {E = ReadFault} (items.Hello b.0.0, b.0.1) x b.2) (hello_starts bytes b.0 fits b.1)
item_starts (Some lane) bytes x fits e =
    let b = bind_ok (read_frame lane.key bytes) (λ (frame : Frame × List ℕ). Ok (items.Frame frame.0, frame.1)) x e in
    subst (λ (y : Item × List ℕ). StartsWith (Some lane) y.0 bytes y.1) (ok_is {E = ReadFault} (items.Frame b.0.0, b.0.1) x b.2) (frame_starts lane.key bytes b.0 fits b.1)

behind_text : (bytes text rest : List ℕ) → bytes ≡ text ++ rest → drop (length bytes - length rest) bytes ≡ rest
behind_text bytes text rest e =
    let size : length bytes - length rest ≡ length text = omega (arith, ap length e, length-append text rest) in
    ap (λ (n : ℕ). drop n bytes) size ∙ ap (drop (length text)) e ∙ drop_at text rest (length text) refl

-- what follows an item are the last of the bytes
pub starts_rest : (lane : Option LaneCert) (item : Item) (bytes rest : List ℕ) → StartsWith lane item bytes rest → drop (length bytes - length rest) bytes ≡ rest
starts_rest None (items.Hello hello) bytes rest starts = behind_text bytes (spelling_of_hello hello) rest starts.parts
starts_rest None (items.Frame frame) bytes rest starts = absurd starts
starts_rest (Some lane) (items.Hello hello) bytes rest starts = absurd starts
starts_rest (Some lane) (items.Frame frame) bytes rest starts = behind_text bytes (spelling_of_frame frame.number frame.bodies starts.signature) rest starts.parts
