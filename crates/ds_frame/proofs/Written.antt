-- What was written is read, and a part of it is open.
use Rattle.std.proofs.Common.{◌≡◌, ℕ, suc, ◌+◌, ◌-◌, List, [], ◌∷◌, ◌++◌, length, map, Some, None, refl, sym, ap, ◌∙◌}
use Rattle.std.specs.Prelude.{Result, Ok, Err}
use Rattle.std.specs.List.{AllByRecursion}
use Rattle.std.proofs.lemmas.List.{append-nil}
use Rattle.std.proofs.lemmas.List.Concat.{flat_map-cons}
use Rattle.ds_cert.specs.declared.lane.LaneCert.{LaneCert}
use Rattle.ds_cert.specs.Laws.{IsSpelling}
use Rattle.ds_cert.proofs.Steps.{bind_is, ok_is}
use Rattle.ds_frame.specs.declared.item.Frame.{Frame}
use Rattle.ds_frame.specs.declared.item.Item.TheVariants as items
use Rattle.ds_frame.specs.Checks.{read_hello, read_frame, read_item}
use Rattle.ds_frame.specs.Fields.{ReadFault, Open, Broken, number_from}
use Rattle.ds_frame.specs.Laws.{IsHello, IsFrame, IsOpenBefore, spelling_of_frames, IsStreamOf}
use Rattle.ds_frame.specs.Outer.{read_outer_frame}
use Rattle.ds_frame.specs.Spelling.{spelling_of_hello, spelling_of_frame}
use Rattle.ds_frame.specs.Streams.{with_item, read_on, stream_by}
use Rattle.ds_frame.proofs.ItemLaws.{hello_again, frame_again}
use Rattle.ds_frame.proofs.Pieces.{step_ok, step_err}
use Rattle.ds_frame.proofs.Steady.{IsSteady}
use Rattle.ds_frame.proofs.SteadyItems.{steady_item}

-- ---- proper prefixes

abbrev done : {A : Type 0} → A → Result A ReadFault
done x = Ok x

nothing_behind : (a b : List ℕ) → a ++ b ≡ [] → b ≡ []
nothing_behind [] b e = e
nothing_behind (x ∷ a) b e = absurd cc

module _ {A : Type 0} (Fits : A → Type 0) (spelling : A → List ℕ) (reading : List ℕ → Result (A × List ℕ) ReadFault) (is : IsSpelling Fits spelling reading) (least : ℕ) (steady : IsSteady least reading) where
  pub open_before : IsOpenBefore Fits spelling reading
  open_before x bytes missing fits parts some = cases (reading bytes) refl
    where
      whole : reading (bytes ++ missing) ≡ Ok (x, [])
      whole = ap reading (sym parts ∙ sym (append-nil (spelling x))) ∙ is.read_again x [] fits

      cases : (r : Result (A × List ℕ) ReadFault) → reading bytes ≡ r → r ≡ Err Open
      cases (Ok y) e =
          let longer : done {A = A × List ℕ} (y.0, y.1 ++ missing) ≡ Ok (x, []) = sym (steady.goes_on bytes missing y e) ∙ whole in
          let behind : y.1 ++ missing ≡ [] = ap (λ (p : A × List ℕ). p.1) (ok_is {E = ReadFault} (y.0, y.1 ++ missing) (x, []) longer) in
          absurd (some (nothing_behind y.1 missing behind))
      cases (Err Open) e = refl
      cases (Err (Broken cause offset)) e =
          let both : Err (Broken cause offset) ≡ done {A = A × List ℕ} (x, []) = sym (steady.breaks bytes missing cause offset e) ∙ whole in
          absurd cc

-- ---- items

pub hello_item : (lane : LaneCert) (rest : List ℕ) → IsHello lane → read_item None (spelling_of_hello lane ++ rest) ≡ Ok (items.Hello lane, rest)
unfolding read_item
hello_item lane rest hello = bind_is (read_hello (spelling_of_hello lane ++ rest)) (λ (found : LaneCert × List ℕ). Ok (items.Hello found.0, found.1)) (lane, rest) (Ok (items.Hello lane, rest)) (hello_again lane rest hello) refl

pub frame_item : (lane : LaneCert) (frame : Frame) (signature rest : List ℕ) → IsFrame lane.key frame signature → read_item (Some lane) (spelling_of_frame frame.number frame.bodies signature ++ rest) ≡ Ok (items.Frame frame, rest)
unfolding read_item
frame_item lane frame signature rest signed = bind_is (read_frame lane.key (spelling_of_frame frame.number frame.bodies signature ++ rest)) (λ (found : Frame × List ℕ). Ok (items.Frame found.0, found.1)) (frame, rest) (Ok (items.Frame frame, rest)) (frame_again lane.key frame signature rest signed) refl

-- ---- whole streams

nothing_yet : (lane : LaneCert) → read_item (Some lane) [] ≡ Err Open
unfolding read_item read_frame read_outer_frame number_from
nothing_yet lane = refl

frames_are_read : (lane : LaneCert) (passed : ℕ) (frames : List (Frame × List ℕ)) → AllByRecursion (λ f. IsFrame lane.key f.0 f.1) frames
    → read_on read_item (suc (length (spelling_of_frames frames))) (Some lane) passed (spelling_of_frames frames) ≡ record { items = map (λ f. items.Frame f.0) frames; ending = None }
frames_are_read lane passed [] signed = step_err read_item steady_item (Some lane) passed [] Open (nothing_yet lane)
frames_are_read lane passed (f ∷ frames) signed =
    let rest = spelling_of_frames frames in
    let text = spelling_of_frame f.0.number f.0.bodies f.1 in
    let read = frame_item lane f.0 f.1 rest signed.0 in
    ap (λ (bytes : List ℕ). read_on read_item (suc (length bytes)) (Some lane) passed bytes) (flat_map-cons (λ (g : Frame × List ℕ). spelling_of_frame g.0.number g.0.bodies g.1) f frames)
    ∙ step_ok read_item steady_item (Some lane) passed (text ++ rest) (items.Frame f.0, rest) read
    ∙ ap (with_item (items.Frame f.0)) (frames_are_read lane (passed + (length (text ++ rest) - length rest)) frames signed.1)

pub stream_of : IsStreamOf (stream_by read_item)
stream_of lane frames hello signed =
    let rest = spelling_of_frames frames in
    let text = spelling_of_hello lane in
    step_ok read_item steady_item None 0 (text ++ rest) (items.Hello lane, rest) (hello_item lane rest hello)
    ∙ ap (with_item (items.Hello lane)) (frames_are_read lane (0 + (length (text ++ rest) - length rest)) frames signed)
