-- What the fields of a connection are, and what they keep.
use Rattle.std.specs.Prelude.{◌≤◌, ◌-◌, drop, length, vec_len, vec_capacity}
use Rattle.std.specs.List.{All}
use Rattle.ds_msg.specs.Ranges.{MessageRange}
use Rattle.ds_inlet.specs.Accepting.{IsReadSoFar}
use Rattle.ds_inlet.specs.declared.conn.Conn.TheInside.{Inside}
use Rattle.ds_inlet.specs.Connections.{Connection, ConnectionWithCapacity, HasInlet, IsForInlet, AreOfferedInRange, IsShortPassed, lane_inlet_of}

abbrev pub connection_of : Inside → Connection
connection_of s = record {
  who = s.who;
  here = s.here;
  inlets = s.inlets;
  arrived = s.bytes.items;
  reader = record { rest = drop s.at s.bytes.items; passed = s.at; lane = s.lane; failure = s.failure };
  offered = s.offered;
  hand = s.hand.items;
  passed = s.passed;
  entries = s.entries.items;
}

abbrev pub roomy_of : Inside → ConnectionWithCapacity
roomy_of s = record { conn = connection_of s; spare = vec_capacity s.entries - vec_len s.entries; space = vec_capacity s.bytes - vec_len s.bytes }

pub record IsKept (s : Inside) : Type 0 where
  pub read : s.at ≤ length s.bytes.items
  pub lane : HasInlet s.inlets s.lane
  pub offered : IsForInlet (lane_inlet_of s.inlets s.lane) s.offered
  pub offered_range : AreOfferedInRange s.offered
  pub hand : All MessageRange s.hand.items
  pub passed : IsShortPassed s.passed
  pub so_far : IsReadSoFar (connection_of s)
