-- What the fields of an inlet are, and what they keep.
use Rattle.std.specs.Prelude.{◌≡◌, ◌-◌, vec_len, vec_capacity}
use Rattle.ds_inlet.specs.declared.state.Inlet.TheInside.{Inside}
use Rattle.ds_inlet.specs.Inlets.{CountedLane, InletWithCapacity, IsReplay, last_stamp}

abbrev pub inlet_of : Inside → CountedLane
inlet_of s = record { exporter = s.exporter; lane = s.lane; opening = s.opening; before = s.before; history = s.history.items; number = s.number }

abbrev pub seen_of : Inside → InletWithCapacity
seen_of s = record { inlet = inlet_of s; spare = vec_capacity s.history - vec_len s.history }

pub record IsSound (s : Inside) : Type 0 where
  pub replay : IsReplay (inlet_of s)
  pub last : s.last_stamp ≡ last_stamp (inlet_of s)
