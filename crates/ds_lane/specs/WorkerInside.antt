-- What the fields of a lane's worker are, and what they keep.
use Rattle.std.specs.Prelude.{◌-◌, vec_len, vec_capacity}
use Rattle.ds_lane.specs.declared.lane_end.LaneEnd.TheInside.{Inside}
use Rattle.ds_lane.specs.Workers.{Worker, WorkerWithCapacity, IsHolding}

abbrev pub worker_of : Inside → Worker
worker_of e = record { who = e.who; cert = e.cert; signing = e.signer; hand = e.hand; stream = e.stream.bytes; entries = e.entries.items }

abbrev pub roomy_of : Inside → WorkerWithCapacity
roomy_of e = record { worker = worker_of e; spare = vec_capacity e.entries - vec_len e.entries }

abbrev pub IsHeld : Inside → Type 0
IsHeld e = IsHolding (worker_of e)
