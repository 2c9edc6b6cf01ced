-- How long hellos and bodies are.
use Rattle.std.proofs.Common.{◌≡◌, ℕ, ◌≤◌, List, [], length, sym, ap, subst, ◌∙◌, arith}
use Rattle.std.specs.Prelude.{Result, Ok}
use Rattle.std.specs.List.{All}
use Rattle.std.proofs.lemmas.List.{append-nil}
use Rattle.std.proofs.lemmas.List.Elements.{All-from_recursion, recursion_from_All}
use Rattle.ds_cert.specs.declared.lane.LaneCert.{LaneCert}
use Rattle.ds_cert.specs.Ranges.{LaneCertFits}
use Rattle.ds_cert.specs.Reading.{lane_cert_at}
use Rattle.ds_cert.specs.Spelling.{spelling_of_lane_cert, signed_part_of_lane_cert}
use Rattle.ds_cert.proofs.RecordLaws.{is_lane_cert}
use Rattle.ds_cert.proofs.Places.{Uses, left_of, uses_lane_cert}
use Rattle.ds_frame.specs.Ranges.{HelloFits, AreCounted, BodiesRange}
use Rattle.ds_frame.proofs.BodyLaws.{IsCounted, all_counted, small_bodies}

begins : (l : LaneCert) → 1 ≤ length (spelling_of_lane_cert l)
unfolding spelling_of_lane_cert signed_part_of_lane_cert
begins l = omega arith

pub hello_fits : (l : LaneCert) → LaneCertFits l → HelloFits (spelling_of_lane_cert l)
hello_fits l fits =
    let bytes = spelling_of_lane_cert l in
    let read : lane_cert_at bytes ≡ Ok (l, []) = ap lane_cert_at (sym (append-nil bytes)) ∙ is_lane_cert.read_again l [] fits in
    let used = subst (λ (r : Result (LaneCert × List ℕ) ℕ). Uses 6860 bytes (left_of r)) read (uses_lane_cert bytes) in
    record { some = begins l; most = omega (arith, used.near) }

pub are_counted : (bodies : List (List ℕ)) → BodiesRange bodies → AreCounted bodies
are_counted bodies range = All-from_recursion IsCounted bodies (all_counted bodies (omega (arith, range.most)))

-- from 1 to 16 messages in their own range
pub messages_in_range : (bodies : List (List ℕ)) → 1 ≤ length bodies → length bodies ≤ 16 → All (λ body. length body ≤ 72229) bodies → BodiesRange bodies
messages_in_range bodies first last each =
    let small = small_bodies bodies (recursion_from_All (λ (body : List ℕ). length body ≤ 72229) bodies each) in
    record { first = first; last = last; most = omega (arith, small, last) }
