-- How long bodies and signatures are.
use Rattle.std.proofs.Common.{◌≡◌, ℕ, suc, ◌≤◌, List, [], ◌∷◌, length, All, arith}
use Rattle.std.specs.List.{AllByRecursion}
use Rattle.ds_cert.specs.declared.lane.LaneCert.{LaneCert}
use Rattle.ds_frame.specs.Ranges.{BodiesRange}
use Rattle.ds_frame.proofs.BodyLaws.{small_bodies}
use Rattle.ds_lane.specs.declared.batch.Waiting.{Waiting}
use Rattle.ds_lane.specs.Lanes.{WaitsOn}
use Rattle.ds_lane.specs.Workers.{HasSpelling}

-- at most 72,229 bytes
abbrev pub IsSmall : List ℕ → Type 0
IsSmall body = length body ≤ 72229

each_small : (bodies : List (List ℕ)) → All IsSmall bodies → AllByRecursion IsSmall bodies
each_small [] all = tt
each_small (body ∷ bodies) all = (all 0 body (omega arith), each_small bodies (λ k d lt. all (suc k) d (omega (arith, lt))))

pub bodies_fit : (bodies : List (List ℕ)) → 1 ≤ length bodies → length bodies ≤ 16 → All IsSmall bodies → BodiesRange bodies
bodies_fit bodies some few small =
    record {
      first = some;
      last = few;
      most = omega (arith, few, small_bodies bodies (each_small bodies small));
    }

-- what a lane's messages keep
pub have_spelling : (cert : LaneCert) (hand : List Waiting) → All (WaitsOn cert) hand → All HasSpelling hand
have_spelling cert hand all = λ k d lt. (all k d lt).range
