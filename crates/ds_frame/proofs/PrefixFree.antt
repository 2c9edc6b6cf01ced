-- No two hellos and no two frames have one spelling, and none is a proper prefix of another.
use Rattle.std.proofs.Common.{◌≡◌, ℕ, List, [], ◌++◌, length, Option, Some, refl, sym, ap, ◌∙◌, arith}
use Rattle.std.specs.Prelude.{Result}
use Rattle.ds_cert.specs.declared.lane.LaneCert.{LaneCert}
use Rattle.ds_cert.specs.Laws.{IsPrefixFree}
use Rattle.ds_cert.specs.Ranges.{LaneCertFits}
use Rattle.ds_cert.specs.Reading.{lane_cert_at}
use Rattle.ds_cert.specs.Spelling.{spelling_of_lane_cert}
use Rattle.ds_cert.proofs.RecordLaws.{is_lane_cert}
use Rattle.ds_cert.proofs.Steps.{prefix_free}
use Rattle.ds_frame.specs.declared.item.Frame.{Frame}
use Rattle.ds_frame.specs.Bodies.{split}
use Rattle.ds_frame.specs.Laws.{SignedFrameFits, spelling_of_signed_frame}
use Rattle.ds_frame.specs.Outer.{read_outer_hello, read_outer_frame}
use Rattle.ds_frame.specs.Ranges.{HelloFits, OuterFrameFits}
use Rattle.ds_frame.specs.Spelling.{OuterFrame, outer_spelling_of_hello, outer_spelling_of_frame, spelling_of_hello, spelling_of_bodies}
use Rattle.ds_frame.proofs.BodyLaws.{split_again, all_counted, some_bytes}
use Rattle.ds_frame.proofs.Lengths.{hello_fits}
use Rattle.ds_frame.proofs.OuterLaws.{is_outer_hello, is_outer_frame}

pub hellos_prefix_free : IsPrefixFree LaneCertFits spelling_of_hello
hellos_prefix_free x y rest other first second e =
    let outer = prefix_free HelloFits outer_spelling_of_hello read_outer_hello is_outer_hello (spelling_of_lane_cert x) (spelling_of_lane_cert y) rest other (hello_fits x first) (hello_fits y second) e in
    let values = prefix_free LaneCertFits spelling_of_lane_cert lane_cert_at is_lane_cert x y [] [] first second (ap (λ (bytes : List ℕ). bytes ++ []) outer.0) in
    (values.0, outer.1)

-- a frame's fields
abbrev outer_of : Frame × List ℕ → OuterFrame
outer_of f = record { number = f.0.number; messages = length f.0.bodies; body = spelling_of_bodies f.0.bodies; signature = f.1 }

outer_fits : (f : Frame × List ℕ) → SignedFrameFits f → OuterFrameFits (outer_of f)
outer_fits f fits = record { number = fits.number; first = fits.bodies.first; last = fits.bodies.last; some = some_bytes f.0.bodies fits.bodies.first; most = fits.bodies.most; signature = fits.signature }

outer_spelling : (f : Frame × List ℕ) → spelling_of_signed_frame f ≡ outer_spelling_of_frame (outer_of f)
unfolding outer_spelling_of_frame
outer_spelling f = refl

splits : (f : Frame × List ℕ) → SignedFrameFits f → split (outer_of f).messages (outer_of f).body ≡ Some f.0.bodies
splits f fits = split_again f.0.bodies (all_counted f.0.bodies (omega (arith, fits.bodies.most)))

abbrev some : {A : Type 0} → A → Option A
some x = Some x

some_same : {A : Type 0} (x y : A) → some x ≡ some y → x ≡ y
some_same x y e = cc

pub frames_prefix_free : IsPrefixFree SignedFrameFits spelling_of_signed_frame
frames_prefix_free x y rest other first second e =
    let spelled : outer_spelling_of_frame (outer_of x) ++ rest ≡ outer_spelling_of_frame (outer_of y) ++ other =
    ap (λ (bytes : List ℕ). bytes ++ rest) (sym (outer_spelling x)) ∙ e ∙ ap (λ (bytes : List ℕ). bytes ++ other) (outer_spelling y) in
    let outer = prefix_free OuterFrameFits outer_spelling_of_frame read_outer_frame is_outer_frame (outer_of x) (outer_of y) rest other (outer_fits x first) (outer_fits y second) spelled in
    let bodies : x.0.bodies ≡ y.0.bodies = some_same x.0.bodies y.0.bodies (sym (splits x first) ∙ ap (λ (o : OuterFrame). split o.messages o.body) outer.0 ∙ splits y second) in
    (λ i. (record { number = (outer.0 i).number; bodies = bodies i }, (outer.0 i).signature), outer.1)
