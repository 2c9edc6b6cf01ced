-- Stamps of an exporter's entries.
use Rattle.std.specs.Prelude.{ℕ, ◌+◌, ◌<◌, All}
use Rattle.ds_script.specs.Replay.{last_of}
use Rattle.ds_desk.specs.Desks.{DeskView, stamp_of}
use Rattle.ds_box.specs.Boxes.{last_stamp as last_of_box}
use Rattle.ds_lane.specs.Lanes.{last_stamp as last_of_lane}
use Rattle.ds_inlet.specs.Inlets.{CountedLane, last_stamp as last_of_inlet}
use Rattle.ds_exporter.specs.HostStates.{HostBox, HostLane, HostState}

-- the stamp of the desk's last entry
abbrev pub last_of_desk : DeskView → ℕ
last_of_desk k = last_of stamp_of k.opening.before k.history

abbrev pub IsBoxBefore : ℕ → HostBox → Type 0
IsBoxBefore n b = last_of_box b.mailbox < n

-- a lane's entries of both kinds
pub record IsLaneBefore (n : ℕ) (l : HostLane) : Type 0 where
  pub last : last_of_lane l.lane < n
  pub senders : All (λ entry. entry.stamp < n) l.lane.history
  pub worker : All (λ entry. entry.stamp < n) l.worker.entries

abbrev pub IsInletBefore : ℕ → CountedLane → Type 0
IsInletBefore n i = last_of_inlet i < n

-- each entry's stamp is below this one
pub record IsBefore (n : ℕ) (e : HostState) : Type 0 where
  pub desk : last_of_desk e.desk < n
  pub boxes : All (IsBoxBefore n) e.boxes
  pub lanes : All (IsLaneBefore n) e.lanes
  pub inlets : All (IsInletBefore n) e.inlets

-- or at most this one
abbrev pub IsUpTo : ℕ → HostState → Type 0
IsUpTo n e = IsBefore (n + 1) e
