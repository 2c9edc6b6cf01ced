use Rattle.ds_scheme.proofs.FramesStand.{stands_somewhere, is_found}
use Rattle.ds_scheme.proofs.laws.signed_frames_stand.Goals as goal

pub returns-clause-stands : goal.returns-clause-stands
returns-clause-stands c = stands_somewhere

pub returns-clause-found : goal.returns-clause-found
returns-clause-found c = is_found
