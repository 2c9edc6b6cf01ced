-- What the fields of a lane are, and what they keep.
use Rattle.std.specs.Prelude.{◌≡◌, ◌-◌, vec_len, vec_capacity, if◌then◌else◌}
use Rattle.ds_lane.specs.declared.state.LaneState.TheInside.{Inside}
use Rattle.ds_lane.specs.Lanes.{Lane, LaneWithCapacity, IsReplay, last_stamp}

abbrev pub lane_of : Inside → Lane
lane_of s = record { cert = s.cert; room = s.room; opening = s.opening.items; before = s.before; history = s.history.items; waiting = s.waiting.items }

-- as many calls as there may be entries, once there is memory for all messages that may wait
abbrev pub seen_of : Inside → LaneWithCapacity
seen_of s = record { lane = lane_of s; spare = if s.waiting.is_ready then vec_capacity s.history - vec_len s.history else 0 }

pub record IsSound (s : Inside) : Type 0 where
  pub replay : IsReplay (lane_of s)
  pub last : s.last ≡ last_stamp (lane_of s)
  pub room : s.waiting.room ≡ s.room
