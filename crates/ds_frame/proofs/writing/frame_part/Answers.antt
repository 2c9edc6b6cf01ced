use Rattle.std.proofs.Common.{List, ℕ, sym, subst}
use Rattle.ds_frame.specs.Ranges.{AreCounted}
use Rattle.ds_frame.proofs.Lengths.{are_counted}
use Rattle.ds_frame.proofs.writing.frame_part.Goals as goal

pub append_bodies-requires : goal.append_bodies-requires
append_bodies-requires c = subst (λ (bodies : List (List ℕ)). AreCounted bodies) (sym c.as_slice.ensures) (are_counted c.args.bodies.now c.requires)
