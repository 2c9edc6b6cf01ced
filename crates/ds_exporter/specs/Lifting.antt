-- A lane, of which the worker lifts what waits.
use Rattle.std.specs.Prelude.{ℕ, List, [], ◌∷◌, nat_lt, if◌then◌else◌}
use Rattle.lms_state.specs.Signers.{leaves_of}
use Rattle.ds_model.specs.Lane.{front}
use Rattle.ds_lane.specs.declared.batch.Waiting.{Waiting}
use Rattle.ds_lane.specs.Lanes.{entered, lift_entry}
use Rattle.ds_lane.specs.Workers.{holding}
use Rattle.ds_exporter.specs.HostStates.{HostLane}

-- the first waiting messages go to the worker's hand
abbrev pub lifted_from : (stamp : ℕ) → HostLane → List Waiting → HostLane
lifted_from stamp l [] = l
lifted_from stamp l (w ∷ waiting) = record { lane = entered stamp l.worker.who (lift_entry (w ∷ waiting)) l.lane; worker = holding (front (w ∷ waiting)) l.worker }

-- where a leaf of the lane's key is left
abbrev pub lifted_lane : (stamp : ℕ) → HostLane → HostLane
lifted_lane stamp l = if nat_lt l.worker.signing.next (leaves_of l.worker.signing.key) then lifted_from stamp l l.lane.waiting else l
